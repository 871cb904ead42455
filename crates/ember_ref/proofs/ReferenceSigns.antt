-- The sign of a plane at a reference point: that of the first of its value at the corner and its
-- normal's entries that isn't 0.
use Rattle.std.proofs.Common.{◌≡◌, ℕ, ◌<◌, refl, sym, ap, ◌∙◌, arith, ℤ, pos, ◌+ℤ◌, ◌*ℤ◌}
use Rattle.ember_algebra.specs.Vector.{Vector}
use Rattle.ember_algebra.specs.Size.{Small}
use Rattle.ember_algebra.specs.declared.Sign.{Sign}
use Rattle.ember_algebra.specs.declared.Sign.TheVariants.{Neg, Zero, Pos}
use Rattle.ember_algebra.specs.Sign.{sgn, is_nil}
use Rattle.ember_algebra.proofs.Laws.{linear}
use Rattle.ember_algebra.proofs.Order.{by_sign, large_pos, large_neg}
use Rattle.ember_algebra.proofs.Signs.{sgn_pos, sgn_neg}
use Rattle.ember_model.specs.declared.plane.Plane.{Plane}
use Rattle.ember_model.specs.Planes.{value_at, HasNoNormal}
use Rattle.ember_model.proofs.SignTests.{zero_times, zero_out}
use Rattle.ember_law.proofs.Shifted.{value_shifted}
use Rattle.ember_model.specs.Points.{offset_by}
use Rattle.ember_box.specs.Near.{spot_of_vector}
use Rattle.ember_box.specs.Reference.{reference_beside}
use Rattle.ember_ref.specs.References.{or_sign, HasNormalWithin}

-- the sign of three numbers, from either side
pub or_sign_assoc : (s t r : Sign) → or_sign (or_sign s t) r ≡ or_sign s (or_sign t r)
or_sign_assoc Neg t r = refl
or_sign_assoc Zero t r = refl
or_sign_assoc Pos t r = refl

-- the sign of a number with a small one behind it
pub next_sign : {m : ℕ} (n : ℕ) (v a : ℤ) → Small m a → m < n → sgn (v *ℤ pos n +ℤ a) ≡ or_sign (sgn v) (sgn a)
next_sign n v a s l =
    by_sign v
    (λ p. sgn_pos (large_pos s l p) ∙ sym (ap (λ (s : Sign). or_sign s (sgn a)) (sgn_pos p)))
    (λ z. let e = zero_times v (pos n) z in let f : v *ℤ pos n +ℤ a ≡ a = omega (arith, linear, e) in
    ap sgn f ∙ sym (ap (λ (v : ℤ). or_sign (sgn v) (sgn a)) z))
    (λ p. sgn_neg (large_neg s l p) ∙ sym (ap (λ (s : Sign). or_sign s (sgn a)) (sgn_neg p)))

abbrev pub sign_beside : Plane → Vector → Sign
sign_beside p v = or_sign (sgn (value_at p (spot_of_vector v))) (or_sign (sgn p.a) (or_sign (sgn p.b) (sgn p.c)))

-- with any number above the entries' sizes in the place of 2^27
pub sign_near : {m : ℕ} (n : ℕ) (p : Plane) (v : Vector) → m < n → Small m p.a → Small m p.b → Small m p.c →
    sgn (value_at p (offset_by (spot_of_vector v) (pos n))) ≡ sign_beside p v
sign_near n p v l a b c =
    let x = value_at p (spot_of_vector v) in let y = x *ℤ pos n +ℤ p.a in let z = y *ℤ pos n +ℤ p.b in
    let e = next_sign n x p.a a l in let f = next_sign n y p.b b l in let g = next_sign n z p.c c l in
    ap sgn (value_shifted p (spot_of_vector v) (pos n)) ∙ g
    ∙ ap (λ (s : Sign). or_sign s (sgn p.c)) (f ∙ ap (λ (s : Sign). or_sign s (sgn p.b)) e)
    ∙ ap (λ (s : Sign). or_sign s (sgn p.c)) (or_sign_assoc (sgn x) (sgn p.a) (sgn p.b))
    ∙ or_sign_assoc (sgn x) (or_sign (sgn p.a) (sgn p.b)) (sgn p.c)
    ∙ ap (λ (s : Sign). or_sign (sgn x) s) (or_sign_assoc (sgn p.a) (sgn p.b) (sgn p.c))

-- the same with shifts by 1/f, 1/f^2 and 1/f^3
pub sign_beside_is : {m : ℕ} (f : ℕ) (p : Plane) (v : Vector) → HasNormalWithin m p → m < f → sgn (value_at p (reference_beside f v)) ≡ sign_beside p v
sign_beside_is f p v s l = sign_near f p v l s.a s.b s.c

-- ---- it is zero only if the normal is
-- if no sign is found, both are Zero
pub both_zero : (s t : Sign) → or_sign s t ≡ Zero → (s ≡ Zero) × (t ≡ Zero)
both_zero Neg t e = absurd (clash e)
  where
    clash : Neg ≡ Zero → ⊥
    clash e = cc
both_zero Zero t e = (refl, e)
both_zero Pos t e = absurd (clash e)
  where
    clash : Pos ≡ Zero → ⊥
    clash e = cc

-- a plane with the sign Zero at a reference point has no normal
pub level_from : (p : Plane) (v : Vector) → sign_beside p v ≡ Zero → HasNoNormal p
level_from p v e =
    let x = both_zero (sgn (value_at p (spot_of_vector v))) (or_sign (sgn p.a) (or_sign (sgn p.b) (sgn p.c))) e in
    let y = both_zero (sgn p.a) (or_sign (sgn p.b) (sgn p.c)) x.1 in let z = both_zero (sgn p.b) (sgn p.c) y.1 in
    (zero_out p.a (ap is_nil y.0), zero_out p.b (ap is_nil z.0), zero_out p.c (ap is_nil z.1))
