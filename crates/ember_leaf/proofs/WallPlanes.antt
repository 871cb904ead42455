-- The walls of a box on a grid are planes of the grid.
use Rattle.std.proofs.Common.{◌≡◌, ℕ, zero, suc, ◌+◌, ◌*◌, ◌^◌, ◌≤◌, arith, sym, subst, List, [], ◌∷◌, All, ℤ, pos}
use Rattle.std.proofs.lemmas.List.Elements.{All-cons, All-nil}
use Rattle.ember_algebra.specs.Size.{Small}
use Rattle.ember_algebra.proofs.Size.{small_within}
use Rattle.ember_model.specs.declared.point.Axis.{Axis}
use Rattle.ember_model.specs.declared.point.Axis.TheVariants.{X, Y, Z}
use Rattle.ember_model.specs.declared.plane.Plane.{Plane}
use Rattle.ember_model.specs.Planes.{opposite}
use Rattle.ember_model.specs.Within.{IsPlaneWithin, normal_limit}
use Rattle.ember_box.specs.Regions.{level}
use Rattle.ember_trace.proofs.Roots.{corner_above}

-- a plane across an axis one step past the corners at most
level_within : (m : ℕ) → 1 ≤ m → (k : Axis) (h : ℤ) → Small (m + 1) h → IsPlaneWithin m (level k h)
level_within zero l k h s = absurd (omega (arith, l))
level_within (suc m) l k h s = by k
  where
    one : Small (normal_limit (suc m)) (pos 1)
    one = record { small = omega arith }

    nil : Small (normal_limit (suc m)) (pos 0)
    nil = record { small = omega arith }

    rest : Small (20 * (suc m * (suc m * suc m)) + 8 * (suc m * suc m)) h
    rest = small_within (omega arith) s

    by : (k : Axis) → IsPlaneWithin (suc m) (level k h)
    by X = record { a = one; b = nil; c = nil; d = rest }
    by Y = record { a = nil; b = one; c = nil; d = rest }
    by Z = record { a = nil; b = nil; c = one; d = rest }

-- of a grid whose root ends one step past the corners at most
module _ {IsPlane : Plane → Type 0} {m : ℕ} (n : ℕ) (takes : (p : Plane) → IsPlaneWithin m p → IsPlane p)
    (turns : (p : Plane) → IsPlane p → IsPlane (opposite p)) (ends : 2 ^ n * 2048 ≤ m + 1) where
  -- a high wall is a plane of the grid
  pub high_taken : (k : Axis) (h : ℤ) → Small (2 ^ n * 2048) h → IsPlane (level k h)
  high_taken k h s = takes _ (level_within m (corner_above n ends) k h (small_within ends s))

  -- and so is a low wall
  pub low_taken : (k : Axis) (h : ℤ) → Small (2 ^ n * 2048) h → IsPlane (opposite (level k h))
  low_taken k h s = turns _ (high_taken k h s)

-- what holds of six members holds of all
pub all_six : {X : Type 0} (P : X → Type 0) {a b c d e f : X} → P a → P b → P c → P d → P e → P f → All P (a ∷ b ∷ c ∷ d ∷ e ∷ f ∷ [])
all_six P {a} {b} {c} {d} {e} {f} p q r s t u =
    All-cons P a (b ∷ c ∷ d ∷ e ∷ f ∷ []) p (All-cons P b (c ∷ d ∷ e ∷ f ∷ []) q (All-cons P c (d ∷ e ∷ f ∷ []) r
    (All-cons P d (e ∷ f ∷ []) s (All-cons P e (f ∷ []) t (All-cons P f [] u (All-nil P))))))
