-- Bounds on counts: each triangle changes one of them by 1 at most.
use Rattle.std.proofs.Common.{ℕ, ◌≤◌, Bool, true, false, cond, List, All, ℤ, pos, arith}
use Rattle.ember_algebra.specs.Size.{Small}
use Rattle.ember_algebra.specs.Sign.{sign}
use Rattle.ember_algebra.proofs.Size.{small_within}
use Rattle.ember_model.specs.declared.point.Spot.{Spot}
use Rattle.ember_model.specs.declared.point.Axis.{Axis}
use Rattle.ember_model.specs.declared.face.Face.{Face}
use Rattle.ember_model.specs.Planes.{along}
use Rattle.ember_model.specs.Faces.{crossing}
use Rattle.ember_model.proofs.PlaneSizes.{sign_small}

-- a bound of all numbers of a list may be replaced by a greater one
pub all_within : {m n : ℕ} (xs : List ℤ) → m ≤ n → All (Small m) xs → All (Small n) xs
all_within xs l h = λ k d i. small_within l (h k d i)

-- ---- one crossing
small_or_none : (m : ℕ) (b : Bool) (z : ℤ) → Small m z → Small m (cond b z (pos 0))
small_or_none m true z s = s
small_or_none m false z s = record { small = omega arith }

-- a crossing is at most 1 in size
pub crossing_small : (f : Face) (a : Axis) (p : Spot) → Small 1 (crossing f a p)
unfolding crossing
crossing_small f a p = small_or_none 1 _ (sign (along f.support a)) (sign_small (along f.support a))
