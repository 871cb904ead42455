-- Two faces with one key on a line are hit at one place.
use Rattle.std.proofs.Common.{◌≡◌, suc, ap, ◌∙◌, sym, true, false, not, ◌&&◌, ℤ, pos, negsuc, ◌-ℤ◌, ◌*ℤ◌, neg_ℤ, arith}
use borrow.Author.Differences.{ints}
use Rattle.std.specs.Prelude.{int_lt}
use Rattle.ember_algebra.specs.Sign.{sign, is_zero}
use Rattle.ember_algebra.proofs.Laws.{from_one, from_two}
use Rattle.ember_algebra.proofs.Ring.{◌⊕◌, ◌⊖◌, ◌⊗◌, ◌≈◌, neg, num, solve, cancels}
use Rattle.ember_model.specs.declared.plane.Plane.{Plane}
use Rattle.ember_model.specs.declared.point.Spot.{Spot}
use Rattle.ember_model.specs.declared.point.Axis.{Axis}
use Rattle.ember_model.specs.declared.face.Face.{Face}
use Rattle.ember_model.specs.Planes.{value_at, along}
use Rattle.ember_model.specs.Points.{scaled}
use Rattle.ember_model.specs.Faces.{size, is_inside, hit}
use Rattle.ember_model.proofs.SignTests.{size_positive, nonzero_out, zero_out}
use Rattle.ember_model.proofs.PlaneValues.{value_hit, value_scaled, size-is}
use Rattle.ember_model.proofs.Hits.{Scales, scaled_point_scales, inside_scaled}
use Rattle.ember_meaning.proofs.Lines.{is_below, key, is_same_place}
use Rattle.ember_meaning.proofs.OnLine.{size_up}
use Rattle.ember_meaning.proofs.FaceParts.{on_support}

-- not below and not above: equal, by cross multiplication
same_fraction : (a b : ℤ) → (not (int_lt a b) && not (int_lt b a)) ≡ true → a ≡ b
same_fraction a b h = grind (arith, ints)

-- the two hits are one place
same_hits : (a : Axis) (p : Spot) (n m : Plane) →
    sign (along n a) *ℤ value_at n p *ℤ size (along m a) ≡ sign (along m a) *ℤ value_at m p *ℤ size (along n a) →
    Scales (size (along n a)) (hit m a p) (scaled (size (along m a)) (hit n a p))
same_hits a p n m e q =
    value_scaled (size (along m a)) q (hit n a p) ∙ ap (λ (z : ℤ). size (along m a) *ℤ z) (value_hit q n a p)
    ∙ from_one (neg_ℤ (along q a)) e (solve 6 (λ x y u v vq qa. (y ⊗ (x ⊗ vq ⊖ u ⊗ qa)) ⊖ (x ⊗ (y ⊗ vq ⊖ v ⊗ qa)) ≈
    neg qa ⊗ (u ⊗ y ⊖ v ⊗ x)) cancels (size (along n a)) (size (along m a)) (sign (along n a) *ℤ value_at n p)
    (sign (along m a) *ℤ value_at m p) (value_at q p) (along q a))
    ∙ ap (λ (z : ℤ). size (along n a) *ℤ z) (sym (value_hit q m a p))

-- so a third face has both hits inside or neither
pub same_inside : (a : Axis) (p : Spot) (f g r : Face) → is_zero (along f.support a) ≡ false →
    is_zero (along g.support a) ≡ false → is_same_place is_below (key a p f) (key a p g) ≡ true →
    is_inside r (hit f.support a p) ≡ is_inside r (hit g.support a p)
same_inside a p f g r u v h =
    let n = f.support in let m = g.support in
    let c = same_fraction ((key a p f).num *ℤ pos (suc (key a p g).den)) ((key a p g).num *ℤ pos (suc (key a p f).den)) h in
    let e = ap (λ (z : ℤ). (key a p f).num *ℤ z) (sym (size_up (along m a) v)) ∙ c ∙ ap (λ (z : ℤ). (key a p g).num *ℤ z) (size_up (along n a) u) in
    sym (inside_scaled (size (along m a)) (hit n a p) (scaled (size (along m a)) (hit n a p)) r
    (size_positive (along m a) (nonzero_out (along m a) v)) (scaled_point_scales (size (along m a)) (hit n a p)))
    ∙ inside_scaled (size (along n a)) (hit m a p) (scaled (size (along m a)) (hit n a p)) r
    (size_positive (along n a) (nonzero_out (along n a) u))
    (same_hits a p n m (crossed (sign (along n a) *ℤ value_at n p) (sign (along m a) *ℤ value_at m p)
    (size (along n a)) (size (along m a)) e))
  where
    crossed : (x y s t : ℤ) → neg_ℤ x *ℤ t ≡ neg_ℤ y *ℤ s → x *ℤ t ≡ y *ℤ s
    crossed x y s t e =
        from_one (negsuc 0) e (solve 4 (λ x y s t. x ⊗ t ⊖ y ⊗ s ≈ num (negsuc 0) ⊗ (neg x ⊗ t ⊖ neg y ⊗ s)) cancels x y s t)

-- where the hit of f is inside g, that is where g is hit
pub inside_place : (a : Axis) (p : Spot) (f g : Face) → is_zero (along f.support a) ≡ false →
    is_zero (along g.support a) ≡ false → is_inside g (hit f.support a p) ≡ true →
    is_same_place is_below (key a p f) (key a p g) ≡ true
inside_place a p f g u v h =
    let n = f.support in let m = g.support in
    no_lt ((key a p f).num *ℤ pos (suc (key a p g).den)) ((key a p g).num *ℤ pos (suc (key a p f).den))
    (ap (λ (z : ℤ). (key a p f).num *ℤ z) (size_up (along m a) v)
    ∙ cross (size (along n a)) (size (along m a)) (sign (along n a)) (sign (along m a)) (along m a) (value_at n p)
    (value_at m p) (size-is (along m a)) (sym (value_hit m n a p)
    ∙ zero_out (value_at m (hit n a p)) (on_support g (hit n a p) h))
    ∙ ap (λ (z : ℤ). (key a p g).num *ℤ z) (sym (size_up (along n a) u)))
  where
    -- x and y are the sizes of the two entries, y = r m, and x w - g v m = 0
    cross : (x y g r m v w : ℤ) → y ≡ r *ℤ m → x *ℤ w -ℤ g *ℤ v *ℤ m ≡ pos 0 → neg_ℤ (g *ℤ v) *ℤ y ≡ neg_ℤ (r *ℤ w) *ℤ x
    cross x y g r m v w e z =
        from_two (neg_ℤ (g *ℤ v)) r e z (solve 7
        (λ x y g r m v w. neg (g ⊗ v) ⊗ y ⊖ neg (r ⊗ w) ⊗ x ≈ neg (g ⊗ v) ⊗ (y ⊖ r ⊗ m) ⊕ r ⊗
        ((x ⊗ w ⊖ g ⊗ v ⊗ m) ⊖ num (pos 0))) cancels x y g r m v w)

    no_lt : (a b : ℤ) → a ≡ b → (not (int_lt a b) && not (int_lt b a)) ≡ true
    no_lt a b e = grind (arith, ints)
