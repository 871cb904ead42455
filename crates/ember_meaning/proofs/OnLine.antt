-- Along a line a face is crossed from just the points before its key.
use Rattle.std.proofs.Common.{◌≡◌, ℕ, zero, suc, pred, refl, ap, ◌∙◌, sym, Bool, true, false, not, ◌&&◌, cond, ℤ, pos}
use Rattle.std.proofs.Common.{negsuc, ◌+ℤ◌, ◌-ℤ◌, ◌*ℤ◌, neg_ℤ, ◌<ℤ◌, ◌≤ℤ◌, unsigned_abs, ◌⊎◌, inl, inr, arith}
use borrow.Author.Differences.{ints}
use Rattle.std.specs.Prelude.{int_lt}
use Rattle.std.proofs.lemmas.Int.{by_lt_z}
use Rattle.std.proofs.lemmas.Bool.{cases_Bool, false≢true}
use lib.IntN.{*ℤ_comm}
use Rattle.ember_algebra.specs.Sign.{sign, is_zero, is_negative}
use Rattle.ember_algebra.proofs.Laws.{linear, from_one}
use Rattle.ember_algebra.proofs.Order.{sign-mul}
use Rattle.ember_algebra.proofs.Ring.{◌⊕◌, ◌⊖◌, ◌⊗◌, ◌≈◌, neg, solve, cancels}
use Rattle.ember_algebra.proofs.Numbers.{suc_positive}
use Rattle.ember_model.specs.declared.plane.Plane.{Plane}
use Rattle.ember_model.specs.declared.point.Spot.{Spot}
use Rattle.ember_model.specs.declared.point.Axis.{Axis}
use Rattle.ember_model.specs.declared.face.Face.{Face}
use Rattle.ember_model.specs.Planes.{value_at, along}
use Rattle.ember_model.specs.Points.{scaled, moved}
use Rattle.ember_model.specs.Faces.{size, is_inside, hit, crossing}
use Rattle.ember_model.proofs.SignTests.{negative_in, negative_not}
use Rattle.ember_model.proofs.PlaneValues.{value_hit, size-is}
use Rattle.ember_model.proofs.Hits.{Scales, inside_scaled, value_ray}
use Rattle.ember_meaning.proofs.Lines.{Fraction, is_below, on_line, key, is_hit, amount}

-- from all points of a line a plane is hit at one place
hit_ahead : (n : Plane) (a : Axis) (p : Spot) (m s : ℤ) → Scales m (hit n a p) (hit n a (moved (scaled m p) a s))
hit_ahead n a p m s q =
    let e = value_ray q a p m s in let d = value_ray n a p m s in
    value_hit q n a (moved (scaled m p) a s) ∙ (λ i. size (along n a) *ℤ e i -ℤ sign (along n a) *ℤ d i *ℤ along q a)
    ∙ from_one (s *ℤ along q a) (size-is (along n a))
    (solve 8 (λ z g na qa m s vq vn. (z ⊗ (m ⊗ vq ⊕ s ⊗ qa) ⊖ g ⊗ (m ⊗ vn ⊕ s ⊗ na) ⊗ qa) ⊖ m ⊗ (z ⊗ vq ⊖ g ⊗ vn ⊗ qa)
    ≈ s ⊗ qa ⊗ (z ⊖ g ⊗ na)) cancels (size (along n a)) (sign (along n a)) (along n a) (along q a) m s (value_at q p)
    (value_at n p)) ∙ ap (λ (z : ℤ). m *ℤ z) (sym (value_hit q n a p))

-- ---- ahead or not
negative-sign : (z : ℤ) → is_negative (sign z) ≡ is_negative z
negative-sign (pos zero) = refl
negative-sign (pos (suc n)) = refl
negative-sign (negsuc n) = refl

sign-sign : (z : ℤ) → sign (sign z) ≡ sign z
sign-sign (pos zero) = refl
sign-sign (pos (suc n)) = refl
sign-sign (negsuc n) = refl

lt_test : (v x h : ℤ) → v ≡ x -ℤ h → is_negative v ≡ int_lt x h
lt_test v x h e =
    by_lt_z x h (λ l. negative_in (let d = e in omega (arith, linear, d, l)) ∙ sym (yes x h l))
    (λ l. negative_not v (let d = e in omega (arith, linear, d, l)) ∙ sym (no x h l))
  where
    yes : (x h : ℤ) → x <ℤ h → int_lt x h ≡ true
    yes x h l = grind (arith, ints)

    no : (x h : ℤ) → h ≤ℤ x → int_lt x h ≡ false
    no x h l = grind (arith, ints)

negative_times : (z n : ℤ) → is_negative (z *ℤ n) ≡ is_negative (sign n *ℤ z)
negative_times z n =
    sym (negative-sign (z *ℤ n)) ∙ ap is_negative
    (sign-mul z n ∙ *ℤ_comm (sign z) (sign n) ∙ cc (sign-mul (sign n) z, sign-sign n)) ∙ negative-sign (sign n *ℤ z)

-- the size of a number other than 0, as the successor of a natural number
pub size_up : (n : ℤ) → is_zero n ≡ false → pos (suc (pred (unsigned_abs n))) ≡ size n
size_up (pos zero) e = absurd (false≢true (sym e))
size_up (pos (suc n)) e = refl
size_up (negsuc n) e = refl

ahead_plain : (n v w s : ℤ) (m : ℕ) → w ≡ pos (suc m) *ℤ v +ℤ s *ℤ n → is_zero n ≡ false →
    is_negative (w *ℤ n) ≡ int_lt (s *ℤ pos (suc (pred (unsigned_abs n)))) (neg_ℤ (sign n *ℤ v) *ℤ pos (suc m))
ahead_plain n v w s m e z =
    negative_times w n ∙ lt_test (sign n *ℤ w) (s *ℤ pos (suc (pred (unsigned_abs n))))
    (neg_ℤ (sign n *ℤ v) *ℤ pos (suc m)) (at (pos (suc (pred (unsigned_abs n)))) (sign n) (pos (suc m))
    (size_up n z ∙ size-is n) e)
  where
    at : (a g c : ℤ) → a ≡ g *ℤ n → w ≡ c *ℤ v +ℤ s *ℤ n → g *ℤ w ≡ s *ℤ a -ℤ neg_ℤ (g *ℤ v) *ℤ c
    at a g c h e =
        ap (λ (z : ℤ). g *ℤ z) e ∙ from_one (neg_ℤ s) h
        (solve 6 (λ a g c v s n. g ⊗ (c ⊗ v ⊕ s ⊗ n) ⊖ (s ⊗ a ⊖ neg (g ⊗ v) ⊗ c) ≈ neg s ⊗ (a ⊖ g ⊗ n)) cancels a g c
        v s n)

ahead_test : (f : Face) (a : Axis) (p : Spot) (y : Fraction) → is_zero (along f.support a) ≡ false →
    is_negative (value_at f.support (on_line a p y) *ℤ along f.support a) ≡ is_below y (key a p f)
ahead_test f a p y e =
    ahead_plain (along f.support a) (value_at f.support p) (value_at f.support (on_line a p y)) y.num y.den (value_ray f.support a p (pos (suc y.den)) y.num) e

-- ---- the crossing from a point of the line
same_cond : (b : Bool) (z : ℤ) → z ≡ pos 0 → cond b z (pos 0) ≡ pos 0
same_cond true z e = e
same_cond false z e = refl

-- along a line a face is crossed from just the points before its key
pub crossing-on_line : (f : Face) (a : Axis) (p : Spot) (y : Fraction) →
    crossing f a (on_line a p y) ≡ cond (is_below y (key a p f)) (cond (is_hit a p f) (amount a f) (pos 0)) (pos 0)
unfolding crossing
crossing-on_line f a p y = by (cases_Bool (is_zero (along f.support a)))
  where
    nested : (b i : Bool) (z : ℤ) → cond (b && i) z (pos 0) ≡ cond b (cond (true && i) z (pos 0)) (pos 0)
    nested true i z = refl
    nested false i z = refl

    no_hit : (b c i : Bool) (z : ℤ) → c ≡ true → cond b (cond (not c && i) z (pos 0)) (pos 0) ≡ pos 0
    no_hit true true i z e = refl
    no_hit false true i z e = refl
    no_hit b false i z e = absurd (false≢true e)

    is_null : (z : ℤ) → is_zero z ≡ true → sign z ≡ pos 0
    is_null (pos zero) e = refl
    is_null (pos (suc n)) e = absurd (false≢true e)
    is_null (negsuc n) e = absurd (false≢true e)

    by : (is_zero (along f.support a) ≡ true) ⊎ (is_zero (along f.support a) ≡ false) →
        cond (is_negative (value_at f.support (on_line a p y) *ℤ along f.support a)
        && is_inside f (hit f.support a (on_line a p y))) (sign (along f.support a)) (pos 0) ≡ cond
        (is_below y (key a p f)) (cond (is_hit a p f) (amount a f) (pos 0)) (pos 0)
    by (inl e) =
        same_cond (is_negative (value_at f.support (on_line a p y) *ℤ along f.support a)
        && is_inside f (hit f.support a (on_line a p y))) (sign (along f.support a)) (is_null (along f.support a) e)
        ∙ sym (no_hit (is_below y (key a p f)) (is_zero (along f.support a)) (is_inside f (hit f.support a p))
        (amount a f) e)
    by (inr e) =
        ap (λ b. cond (b && is_inside f (hit f.support a (on_line a p y))) (sign (along f.support a)) (pos 0))
        (ahead_test f a p y e) ∙ ap (λ b. cond (is_below y (key a p f) && b) (sign (along f.support a)) (pos 0))
        (inside_scaled (pos (suc y.den)) (hit f.support a p) (hit f.support a (on_line a p y)) f (suc_positive y.den)
        (hit_ahead f.support a p (pos (suc y.den)) y.num))
        ∙ nested (is_below y (key a p f)) (is_inside f (hit f.support a p)) (sign (along f.support a))
        ∙ ap (λ b. cond (is_below y (key a p f))
        (cond (not b && is_inside f (hit f.support a p)) (amount a f) (pos 0)) (pos 0)) (sym e)
