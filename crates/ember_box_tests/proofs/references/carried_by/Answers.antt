use Rattle.std.proofs.Common.{pos, All, subst, sym, arith}
use Rattle.std.proofs.lemmas.List.Elements.{All-replicate}
use Rattle.ember_algebra.specs.Size.{Small}
use Rattle.ember_model.specs.Meshes.{HasMesh}
use Rattle.ember_visit.proofs.IndexLists.{numbered_less}
use Rattle.ember_box_tests.proofs.references.carried_by.Goals as goal

pub shift_listed_on-requires-clause-numbered : goal.shift_listed_on-requires-clause-numbered
shift_listed_on-requires-clause-numbered c =
    let kept = c.args.s.now.kept in
    subst (All (HasMesh 64)) (sym c.items.ensures) (numbered_less c.args.s.now.meshes c.args.s.now.tris kept.few_meshes kept.numbered)

pub shift_listed_on-requires-clause-room : goal.shift_listed_on-requires-clause-room
shift_listed_on-requires-clause-room c = All-replicate (Small 16515072) 64 (pos 0) (record { small = omega arith })
