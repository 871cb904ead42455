use Rattle.ember_width.specs.Laws.{narrow_is_broad}
use Rattle.mesh_sources.proofs.facet.is_proper.Goals as goal

pub faces_front-requires : goal.faces_front-requires
faces_front-requires c = narrow_is_broad _ c.requires
