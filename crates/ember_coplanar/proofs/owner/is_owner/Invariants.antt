use Rattle.std.proofs.Common.{◌≡◌, ◌<◌, ℕ, true, Some, slice_get}
use Rattle.ember_model.specs.declared.tri.Tri.{Tri}
use Rattle.ember_model.specs.Faces.{face_of, Contains}
use Rattle.ember_model.specs.Owners.{is_coplanar}
use Rattle.ember_coplanar.proofs.owner.is_owner.Given as goal

abbrev pub invariant-loop-t : goal.invariant-loop-t
invariant-loop-t g l =
    (j : ℕ) (t u : Tri) → j < l.t-index → slice_get l.near j ≡ Some t → slice_get l.near l.i ≡ Some u → is_coplanar t u ≡ true → Contains (face_of t) l.r → ⊥
