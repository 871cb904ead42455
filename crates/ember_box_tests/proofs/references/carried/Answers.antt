use Rattle.std.proofs.Common.{pos, All, subst, sym, arith}
use Rattle.std.proofs.lemmas.List.Elements.{All-replicate}
use Rattle.ember_algebra.specs.Size.{Small}
use Rattle.ember_model.specs.Meshes.{HasMesh}
use Rattle.ember_visit.proofs.IndexLists.{numbered_less}
use Rattle.ember_box_tests.proofs.references.carried.Goals as goal

pub shift-requires-clause-numbered : goal.shift-requires-clause-numbered
shift-requires-clause-numbered c =
    let kept = c.args.s.now.kept in
    subst (All (HasMesh 64)) (sym c.items.ensures) (numbered_less c.args.s.now.meshes c.args.s.now.tris kept.few_meshes kept.numbered)

pub shift-requires-clause-room : goal.shift-requires-clause-room
shift-requires-clause-room c = All-replicate (Small 16515072) 64 (pos 0) (record { small = omega arith })
