use Rattle.std.proofs.Common.{All, subst, sym}
use Rattle.ember_model.specs.Meshes.{HasMesh}
use Rattle.ember_visit.proofs.IndexLists.{numbered_less}
use Rattle.ember_visit.proofs.value.box_value.Goals as goal

pub box_value_among-requires-clause-numbered : goal.box_value_among-requires-clause-numbered
box_value_among-requires-clause-numbered c =
    let kept = c.args.s.now.kept in
    subst (All (HasMesh 64)) (sym c.items.ensures) (numbered_less c.args.s.now.meshes c.args.s.now.tris kept.few_meshes kept.numbered)
