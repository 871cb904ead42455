-- Directly before and directly after a hit the winding numbers are those of the hits from it on,
-- and of the hits beyond it.
use Rattle.std.proofs.Common.{◌≡◌, ℕ, zero, suc, pred, refl, ap, ◌∙◌, sym, List, [], ◌∷◌, Bool, false, not, cond}
use Rattle.std.proofs.Common.{ℤ, pos, negsuc, ◌+ℤ◌, ◌-ℤ◌, ◌*ℤ◌, ◌<ℤ◌, ◌≤ℤ◌, unsigned_abs, arith}
use borrow.Author.Differences.{ints}
use Rattle.std.specs.Prelude.{int_lt}
use Rattle.std.specs.List.{filter}
use Rattle.std.proofs.lemmas.Int.{by_lt_z}
use Rattle.ember_algebra.specs.Large.{Eventually}
use Rattle.ember_algebra.specs.Sign.{is_zero}
use Rattle.ember_algebra.proofs.Laws.{linear}
use Rattle.ember_algebra.proofs.Large.{eventually_both, eventually_map}
use Rattle.ember_algebra.proofs.Order.{mul_le, pos_mul}
use Rattle.ember_algebra.proofs.Ring.{◌⊕◌, ◌⊖◌, ◌⊗◌, ◌≈◌, num, solve, cancels}
use Rattle.ember_algebra.proofs.Numbers.{int_lt_in, int_lt_not, suc_positive}
use Rattle.ember_model.specs.declared.tri.Tri.{Tri}
use Rattle.ember_model.specs.declared.point.Spot.{Spot}
use Rattle.ember_model.specs.declared.point.Axis.{Axis}
use Rattle.ember_model.specs.declared.point.Axis.TheVariants.{X, Y, Z}
use Rattle.ember_model.specs.declared.face.Face.{Face}
use Rattle.ember_model.specs.Planes.{along}
use Rattle.ember_model.specs.Points.{scaled, moved}
use Rattle.ember_model.specs.Faces.{size, hit}
use Rattle.ember_model.specs.Meshes.{vector}
use Rattle.ember_model.proofs.Tuples.{same_spot}
use Rattle.ember_meaning.proofs.Lines.{Fraction, is_below, on_line, key, beyond, onward, tri_key, tri_hits, seen}
use Rattle.ember_meaning.proofs.AlongLine.{vector-on_line}
use Rattle.ember_meaning.proofs.OnLine.{size_up}

-- ---- one hit: c / d is the place, a / b its key, and m is larger than b
-- m (a d - c b) is at least m, or it is at most 0, or at most - m
product : (m : ℕ) (x y : ℤ) → x <ℤ y → pos m ≤ℤ (pos m *ℤ (y -ℤ x))
product m x y h =
    let z : pos 0 ≤ℤ pos m = omega (arith, ints) in let o : pos 1 ≤ℤ (y -ℤ x) = omega (arith, linear, h) in
    let p = mul_le z o in let e : pos m *ℤ pos 1 ≡ pos m = omega (arith, ints) in omega (arith, linear, p, e)

beyond_one : (a b c d : ℤ) (m : ℕ) → pos 0 <ℤ b → b <ℤ pos m → int_lt ((pos m *ℤ c +ℤ pos 1) *ℤ b) (a *ℤ (pos m *ℤ d)) ≡ int_lt (c *ℤ b) (a *ℤ d)
beyond_one a b c d m pb l =
    let e = solve 5 (λ m a b c d. a ⊗ (m ⊗ d) ⊖ (m ⊗ c ⊕ num (pos 1)) ⊗ b ≈ m ⊗ (a ⊗ d ⊖ c ⊗ b) ⊖ b) cancels (pos m) a b c d in
    by_lt_z (c *ℤ b) (a *ℤ d) (λ h. let p = product m (c *ℤ b) (a *ℤ d) h in
    int_lt_in ((pos m *ℤ c +ℤ pos 1) *ℤ b) (a *ℤ (pos m *ℤ d))
    (above (a *ℤ (pos m *ℤ d)) ((pos m *ℤ c +ℤ pos 1) *ℤ b) (pos m *ℤ (a *ℤ d -ℤ c *ℤ b)) b e p l)
    ∙ sym (int_lt_in (c *ℤ b) (a *ℤ d) h)) (λ h. int_lt_not ((pos m *ℤ c +ℤ pos 1) *ℤ b) (a *ℤ (pos m *ℤ d))
    (under (a *ℤ (pos m *ℤ d)) ((pos m *ℤ c +ℤ pos 1) *ℤ b) (pos m *ℤ (a *ℤ d -ℤ c *ℤ b)) b e
    (at_most m (a *ℤ d) (c *ℤ b) h) pb) ∙ sym (int_lt_not (c *ℤ b) (a *ℤ d) h))
  where
    above : (x y z b : ℤ) → x -ℤ y ≡ z -ℤ b → pos m ≤ℤ z → b <ℤ pos m → y <ℤ x
    above x y z b e p l = omega (arith, linear, e, p, l)

    under : (x y z b : ℤ) → x -ℤ y ≡ z -ℤ b → z ≤ℤ pos 0 → pos 0 <ℤ b → x ≤ℤ y
    under x y z b e p l = omega (arith, linear, e, p, l)

    at_most : (m : ℕ) (x y : ℤ) → x ≤ℤ y → (pos m *ℤ (x -ℤ y)) ≤ℤ pos 0
    at_most m x y h =
        let z : pos 0 ≤ℤ pos m = omega (arith, ints) in let o : (x -ℤ y) ≤ℤ pos 0 = omega (arith, linear, h) in
        let p = mul_le z o in let e : pos m *ℤ pos 0 ≡ pos 0 = omega (arith, ints) in omega (arith, linear, p, e)

onward_one : (a b c d : ℤ) (m : ℕ) → pos 0 <ℤ b → b <ℤ pos m → int_lt ((pos m *ℤ c +ℤ negsuc 0) *ℤ b) (a *ℤ (pos m *ℤ d)) ≡ not (int_lt (a *ℤ d) (c *ℤ b))
onward_one a b c d m pb l =
    let e = solve 5 (λ m a b c d. a ⊗ (m ⊗ d) ⊖ (m ⊗ c ⊕ num (negsuc 0)) ⊗ b ≈ b ⊖ m ⊗ (c ⊗ b ⊖ a ⊗ d)) cancels (pos m) a b c d in
    by_lt_z (a *ℤ d) (c *ℤ b) (λ h. let p = product m (a *ℤ d) (c *ℤ b) h in
    int_lt_not ((pos m *ℤ c +ℤ negsuc 0) *ℤ b) (a *ℤ (pos m *ℤ d))
    (under (a *ℤ (pos m *ℤ d)) ((pos m *ℤ c +ℤ negsuc 0) *ℤ b) (pos m *ℤ (c *ℤ b -ℤ a *ℤ d)) b e p l)
    ∙ sym (ap not (int_lt_in (a *ℤ d) (c *ℤ b) h)))
    (λ h. int_lt_in ((pos m *ℤ c +ℤ negsuc 0) *ℤ b) (a *ℤ (pos m *ℤ d))
    (above (a *ℤ (pos m *ℤ d)) ((pos m *ℤ c +ℤ negsuc 0) *ℤ b) (pos m *ℤ (c *ℤ b -ℤ a *ℤ d)) b e
    (at_most m (c *ℤ b) (a *ℤ d) h) pb) ∙ sym (ap not (int_lt_not (a *ℤ d) (c *ℤ b) h)))
  where
    under : (x y z b : ℤ) → x -ℤ y ≡ b -ℤ z → pos m ≤ℤ z → b <ℤ pos m → x ≤ℤ y
    under x y z b e p l = omega (arith, linear, e, p, l)

    above : (x y z b : ℤ) → x -ℤ y ≡ b -ℤ z → z ≤ℤ pos 0 → pos 0 <ℤ b → y <ℤ x
    above x y z b e p l = omega (arith, linear, e, p, l)

    at_most : (m : ℕ) (x y : ℤ) → x ≤ℤ y → (pos m *ℤ (x -ℤ y)) ≤ℤ pos 0
    at_most m x y h =
        let z : pos 0 ≤ℤ pos m = omega (arith, ints) in let o : (x -ℤ y) ≤ℤ pos 0 = omega (arith, linear, h) in
        let p = mul_le z o in let e : pos m *ℤ pos 0 ≡ pos 0 = omega (arith, ints) in omega (arith, linear, p, e)

-- ---- a small step from the place of a key
abbrev pub step : ℕ → ℤ → Fraction → Fraction
step m e f =
    record { num = pos m *ℤ f.num +ℤ e; den = pred (unsigned_abs (pos m *ℤ pos (suc f.den))) }

up_pred : (z : ℤ) → pos 0 <ℤ z → pos (suc (pred (unsigned_abs z))) ≡ z
up_pred (pos zero) h = absurd (omega (arith, ints))
up_pred (pos (suc n)) h = refl
up_pred (negsuc n) h = absurd (omega (arith, ints))

large : (b m : ℕ) → pos (suc b) <ℤ pos m → pos 0 <ℤ pos m
large b m l = let o = suc_positive b in omega (arith, linear, l, o)

den_is : (m : ℕ) (f : Fraction) (b : ℕ) → pos (suc b) <ℤ pos m → pos (suc (pred (unsigned_abs (pos m *ℤ pos (suc f.den))))) ≡ pos m *ℤ pos (suc f.den)
den_is m f b l = up_pred (pos m *ℤ pos (suc f.den)) (pos_mul (large b m l) (suc_positive f.den))

step_beyond : (m : ℕ) (f g : Fraction) → pos (suc g.den) <ℤ pos m → is_below (step m (pos 1) f) g ≡ is_below f g
step_beyond m f g l =
    ap (λ (z : ℤ). int_lt ((pos m *ℤ f.num +ℤ pos 1) *ℤ pos (suc g.den)) (g.num *ℤ z)) (den_is m f g.den l)
    ∙ beyond_one g.num (pos (suc g.den)) f.num (pos (suc f.den)) m (suc_positive g.den) l

step_onward : (m : ℕ) (f g : Fraction) → pos (suc g.den) <ℤ pos m → is_below (step m (negsuc 0) f) g ≡ not (is_below g f)
step_onward m f g l =
    ap (λ (z : ℤ). int_lt ((pos m *ℤ f.num +ℤ negsuc 0) *ℤ pos (suc g.den)) (g.num *ℤ z)) (den_is m f g.den l)
    ∙ onward_one g.num (pos (suc g.den)) f.num (pos (suc f.den)) m (suc_positive g.den) l

far : (b : ℕ) → Eventually (λ m. pos (suc b) <ℤ pos m)
far b = record { from = suc (suc b); holds = λ m l. omega (arith, ints, l) }

filters : {H : Type 0} (p : ℕ → H → Bool) (q : H → Bool) → ((h : H) → Eventually (λ m. p m h ≡ q h)) → (hs : List H) →
    Eventually (λ m. filter (p m) hs ≡ filter q hs)
filters p q f [] = record { from = 0; holds = λ m l. refl }
filters p q f (h ∷ hs) =
    eventually_map (λ m e. let b = e.0 in let l = e.1 in λ i. cond (b i) (h ∷ l i) (l i)) (eventually_both (f h) (filters p q f hs))

-- ---- the points
across : (q m s d : ℤ) → d ≡ m *ℤ s → m *ℤ (s *ℤ q) ≡ d *ℤ q
across q m s d h =
    solve 3 (λ q m s. m ⊗ (s ⊗ q) ≈ (m ⊗ s) ⊗ q) cancels q m s ∙ ap (λ (n : ℤ). n *ℤ q) (sym h)

along_it : (q m s c e d : ℤ) → d ≡ m *ℤ s → m *ℤ (s *ℤ q +ℤ c) +ℤ e ≡ d *ℤ q +ℤ (m *ℤ c +ℤ e)
along_it q m s c e d h =
    solve 5 (λ q m s c e. m ⊗ (s ⊗ q ⊕ c) ⊕ e ≈ (m ⊗ s) ⊗ q ⊕ (m ⊗ c ⊕ e)) cancels q m s c e ∙ ap (λ (n : ℤ). n *ℤ q +ℤ (m *ℤ c +ℤ e)) (sym h)

stepped : (a : Axis) (p : Spot) (m s c e d : ℤ) → d ≡ m *ℤ s → moved (scaled m (moved (scaled s p) a c)) a e ≡ moved (scaled d p) a (m *ℤ c +ℤ e)
stepped X p m s c e d h =
    same_spot (along_it p.x m s c e d h) (across p.y m s d h) (across p.z m s d h) (across p.w m s d h)
stepped Y p m s c e d h =
    same_spot (across p.x m s d h) (along_it p.y m s c e d h) (across p.z m s d h) (across p.w m s d h)
stepped Z p m s c e d h =
    same_spot (across p.x m s d h) (across p.y m s d h) (along_it p.z m s c e d h) (across p.w m s d h)

module _ (scene : List Tri) (k : Axis) (p : Spot) (f : Face) (crosses : is_zero (along f.support k) ≡ false) where
  abbrev z : Fraction
  z = key k p f

  abbrev at : ℕ → ℤ → Spot
  at m e = moved (scaled (pos m) (hit f.support k p)) k e

  at_is : (m : ℕ) (e : ℤ) → pos 0 <ℤ pos m → at m e ≡ on_line k p (step m e z)
  at_is m e l =
      stepped k p (pos m) (size (along f.support k)) z.num e
      (pos (suc (pred (unsigned_abs (pos m *ℤ pos (suc z.den))))))
      (up_pred (pos m *ℤ pos (suc z.den)) (pos_mul l (suc_positive z.den))
      ∙ ap (λ (n : ℤ). pos m *ℤ n) (size_up (along f.support k) crosses))

  vector_at : (m : ℕ) (e : ℤ) → pos 0 <ℤ pos m → vector k scene (at m e) ≡ seen k (beyond is_below (tri_key k p) (step m e z) (tri_hits k p scene))
  vector_at m e l = ap (vector k scene) (at_is m e l) ∙ vector-on_line k p (step m e z) scene

  -- all points directly after the place see the hits beyond it, all directly before it those from
  -- it on
  pub after_place : Eventually (λ m. vector k scene (at m (pos 1)) ≡ seen k (beyond is_below (tri_key k p) z (tri_hits k p scene)))
  after_place =
      eventually_map (λ m e. vector_at m (pos 1) (large 0 m e.0) ∙ ap (seen k) e.1)
      (eventually_both (far 0) (filters (λ m t. is_below (step m (pos 1) z) (tri_key k p t))
      (λ t. is_below z (tri_key k p t)) (λ t. eventually_map (λ m l. step_beyond m z (tri_key k p t) l)
      (far (tri_key k p t).den)) (tri_hits k p scene)))

  pub before_place : Eventually (λ m. vector k scene (at m (negsuc 0)) ≡ seen k (onward is_below (tri_key k p) z (tri_hits k p scene)))
  before_place =
      eventually_map (λ m e. vector_at m (negsuc 0) (large 0 m e.0) ∙ ap (seen k) e.1)
      (eventually_both (far 0) (filters (λ m t. is_below (step m (negsuc 0) z) (tri_key k p t))
      (λ t. not (is_below (tri_key k p t) z)) (λ t. eventually_map (λ m l. step_onward m z (tri_key k p t) l)
      (far (tri_key k p t).den)) (tri_hits k p scene)))
