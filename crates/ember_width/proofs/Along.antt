-- The value of a plane along an axis.
use Rattle.std.proofs.Common.{◌≡◌, sym, ◌∙◌, ℕ, List, [], ◌∷◌, ℤ, pos, ◌+ℤ◌, ◌-ℤ◌, ◌*ℤ◌}
use Rattle.ember_algebra.specs.Size.{Small}
use Rattle.ember_algebra.proofs.Exact.{narrow, kept, run, ◌⊠◌, ◌⊟◌, Inputs, ◌&◌, done, exact}
use Rattle.ember_algebra.proofs.Ring.{◌⊕◌, ◌⊖◌, ◌⊗◌, ◌≈◌, num, solve, cancels}
use Rattle.ember_model.specs.declared.point.Axis.TheVariants.{X, Y, Z}
use Rattle.ember_model.specs.declared.point.Spot.{Spot}
use Rattle.ember_model.specs.declared.plane.Plane.{Plane}
use Rattle.ember_model.specs.Planes.{value_at}
use Rattle.ember_width.specs.Levels.{IsAlong}

-- ---- its inputs_are_small, for a coordinate and the weight of a point
abbrev pub bounds : List ℕ
bounds =
    33554431 ∷ 4951760157141521099596496895 ∷ 549755813887 ∷ 302231454903657293676543 ∷ []

-- the inputs_are_small for which the code's value along a line loses no bits
pub inputs_are_small : {a x d w : ℤ} → Small 33554431 a → Small 4951760157141521099596496895 x → Small 549755813887 d →
    Small 302231454903657293676543 w → Inputs bounds (a ∷ x ∷ d ∷ w ∷ [])
inputs_are_small a x d w = a & x & d & w & done

-- the value, from numbers that are passed on
pub passed_on : {a x d w : ℤ} → Inputs bounds (a ∷ x ∷ d ∷ w ∷ []) → run (a ∷ x ∷ d ∷ w ∷ []) (narrow 0 ⊠ kept 1 ⊟ narrow 2 ⊠ kept 3) ≡ a *ℤ x -ℤ d *ℤ w
passed_on h = exact h (narrow 0 ⊠ kept 1 ⊟ narrow 2 ⊠ kept 3) tt

-- ---- its value
-- the value of a plane across the x axis, from its two numbers that aren't 0
pub along_x : (p : Plane) (v : Spot) → IsAlong X p → p.a *ℤ v.x -ℤ p.d *ℤ v.w ≡ value_at p v
along_x p v h =
    solve 6 (λ a d x y z w. a ⊗ x ⊖ d ⊗ w ≈ a ⊗ x ⊕ num (pos 0) ⊗ y ⊕ num (pos 0) ⊗ z ⊖ d ⊗ w) cancels p.a p.d v.x v.y
    v.z v.w ∙ (λ i. p.a *ℤ v.x +ℤ sym h.0 i *ℤ v.y +ℤ sym h.1 i *ℤ v.z -ℤ p.d *ℤ v.w)

-- the value of a plane along y by two products
pub along_y : (p : Plane) (v : Spot) → IsAlong Y p → p.b *ℤ v.y -ℤ p.d *ℤ v.w ≡ value_at p v
along_y p v h =
    solve 6 (λ b d x y z w. b ⊗ y ⊖ d ⊗ w ≈ num (pos 0) ⊗ x ⊕ b ⊗ y ⊕ num (pos 0) ⊗ z ⊖ d ⊗ w) cancels p.b p.d v.x v.y
    v.z v.w ∙ (λ i. sym h.0 i *ℤ v.x +ℤ p.b *ℤ v.y +ℤ sym h.1 i *ℤ v.z -ℤ p.d *ℤ v.w)

-- the value of a plane along z by two products
pub along_z : (p : Plane) (v : Spot) → IsAlong Z p → p.c *ℤ v.z -ℤ p.d *ℤ v.w ≡ value_at p v
along_z p v h =
    solve 6 (λ c d x y z w. c ⊗ z ⊖ d ⊗ w ≈ num (pos 0) ⊗ x ⊕ num (pos 0) ⊗ y ⊕ c ⊗ z ⊖ d ⊗ w) cancels p.c p.d v.x v.y
    v.z v.w ∙ (λ i. sym h.0 i *ℤ v.x +ℤ sym h.1 i *ℤ v.y +ℤ p.c *ℤ v.z -ℤ p.d *ℤ v.w)
