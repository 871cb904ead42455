use Rattle.std.proofs.Common.{◌≡◌, ◌||◌, ℕ, drop}
use Rattle.ember_expr.specs.Formula.{IsMeshNumber}
use Rattle.ember_known.specs.Masks.{is_in}
use Rattle.ember_box.specs.Near.{listed}
use Rattle.ember_visit.specs.Values.{has_mesh}
use Rattle.ember_visit.proofs.value.meshes_of.Given as goal

abbrev pub invariant-loop-i : goal.invariant-loop-i
invariant-loop-i l = (n : ℕ) → IsMeshNumber 64 n →
    (is_in l.meshes.0 n || has_mesh (listed l.tris (drop l.i-index l.list)) n) ≡ has_mesh (listed l.tris l.list) n
