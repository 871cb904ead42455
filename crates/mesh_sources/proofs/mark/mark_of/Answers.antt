use Rattle.ember_width.specs.Laws.{narrow_is_broad}
use Rattle.mesh_sources.proofs.mark.mark_of.Goals as goal

pub plane_key-requires : goal.plane_key-requires
plane_key-requires c = narrow_is_broad _ c.requires

pub mixed-requires : goal.mixed-requires
mixed-requires c = c.plane_key.ensures.valid c.requires
