-- Points in lowest terms are equal if they are one place.
use Rattle.std.proofs.Common.{◌≡◌, sym, ap, subst, ◌∙◌, arith, ℕ, zero, suc, ◌+◌, ◌&&◌, ℤ, pos, ◌+ℤ◌, ◌-ℤ◌, ◌*ℤ◌, ◌<ℤ◌, ◌≤ℤ◌, unsigned_abs}
use Rattle.std.specs.Int.{◌∣◌}
use Rattle.std.specs.Bool.{Decides}
use Rattle.std.specs.Ordering.{int_eq}
use Rattle.std.proofs.lemmas.Bool.Decides.{Decides-like, Decides-and, Decides-int_eq}
use Rattle.std.proofs.lemmas.Int.{ints, unsigned_abs-mul}
use Rattle.std.proofs.Math.Nat.{dvd-mul_right, eq-one_of_dvd-one}
use Rattle.ember_algebra.proofs.Laws.{from_one}
use Rattle.ember_algebra.proofs.Ring.{num, ◌⊖◌, ◌⊗◌, ◌≈◌, solve, cancels}
use Rattle.ember_algebra.proofs.Order.{by_sign, cancel_eq}
use Rattle.ember_model.specs.declared.point.Spot.{Spot}
use Rattle.ember_model.specs.Edges.{SamePoint}
use Rattle.ember_model.specs.FaceFiles.{IsLowest}
use Rattle.ember_model.proofs.Tuples.{same_spot}

-- u is a times t
record IsMultiple (a : ℕ) (t u : Spot) : Type 0 where
  x : u.x ≡ pos a *ℤ t.x
  y : u.y ≡ pos a *ℤ t.y
  z : u.z ≡ pos a *ℤ t.z
  w : u.w ≡ pos a *ℤ t.w

-- u and v are multiples of one tuple
record HaveUnit (u v : Spot) : Type 0 where
  unit : Spot
  a : ℕ
  b : ℕ
  first : IsMultiple a unit u
  second : IsMultiple b unit v

abbrev less : Spot → Spot → Spot
less v u = record { x = v.x -ℤ u.x; y = v.y -ℤ u.y; z = v.z -ℤ u.z; w = v.w -ℤ u.w }

-- ---- one step of Euclid's algorithm
less_entry : (a b x y : ℤ) → b *ℤ x ≡ a *ℤ y → (b -ℤ a) *ℤ x ≡ a *ℤ (y -ℤ x)
less_entry a b x y e =
    from_one (pos 1) e (solve 4 (λ a b x y. (b ⊖ a) ⊗ x ⊖ a ⊗ (y ⊖ x) ≈ num (pos 1) ⊗ (b ⊗ x ⊖ a ⊗ y)) cancels a b x y)

same_less : (u v : Spot) → SamePoint u v → SamePoint u (less v u)
same_less u v s =
    record { x = less_entry u.w v.w u.x v.x s.x; y = less_entry u.w v.w u.y v.y s.y; z = less_entry u.w v.w u.z v.z s.z }

turned : {u v : Spot} → SamePoint u v → SamePoint v u
turned s = record { x = sym s.x; y = sym s.y; z = sym s.z }

add_entry : (a b : ℕ) (t x y : ℤ) → x ≡ pos a *ℤ t → y -ℤ x ≡ pos b *ℤ t → y ≡ pos (b + a) *ℤ t
add_entry a b t x y e f = omega (arith, ints, e, f)

add_multiple : (a b : ℕ) (t u v : Spot) → IsMultiple a t u → IsMultiple b t (less v u) → IsMultiple (b + a) t v
add_multiple a b t u v h k =
    record {
      x = add_entry a b t.x u.x v.x h.x k.x;
      y = add_entry a b t.y u.y v.y h.y k.y;
      z =
          add_entry a b t.z u.z v.z h.z k.z;
      w = add_entry a b t.w u.w v.w h.w k.w;
    }

equal_entry : (a b x y : ℤ) → pos 0 <ℤ a → b -ℤ a ≡ pos 0 → b *ℤ x ≡ a *ℤ y → y ≡ pos 1 *ℤ x
equal_entry a b x y p e s =
    let q : b ≡ a = omega (arith, ints, e) in
    let r : x ≡ y = cancel_eq {c = a} (λ z. omega (arith, ints, p, z)) (ap (λ c. c *ℤ x) (sym q) ∙ s) in
    omega (arith, ints, r)

once : (u : Spot) → IsMultiple 1 u u
once u = record { x = omega (arith, ints); y = omega (arith, ints); z = omega (arith, ints); w = omega (arith, ints) }

unit_of : (n : ℕ) (u v : Spot) → pos 0 <ℤ u.w → pos 0 <ℤ v.w → (u.w +ℤ v.w) ≤ℤ pos n → SamePoint u v → HaveUnit u v
unit_of zero u v p q l s = absurd (omega (arith, ints, p, q, l))
unit_of (suc n) u v p q l s =
    by_sign (v.w -ℤ u.w)
    (λ h. let k = unit_of n u (less v u) p h (omega (arith, ints, p, q, l)) (same_less u v s) in
    record { unit = k.unit; a = k.a; b = k.b + k.a; first = k.first; second = add_multiple k.a k.b k.unit u v k.first k.second })
    (λ e. record {
      unit = u;
      a = 1;
      b = 1;
      first = once u;
      second =
          record {
            x = equal_entry u.w v.w u.x v.x p e s.x;
            y = equal_entry u.w v.w u.y v.y p e s.y;
            z =
                equal_entry u.w v.w u.z v.z p e s.z;
            w = omega (arith, ints, e);
          };
    })
    (λ h. let k = unit_of n v (less u v) q (omega (arith, ints, h)) (omega (arith, ints, p, q, l)) (same_less v u (turned s)) in
    record { unit = k.unit; a = k.b + k.a; b = k.a; first = add_multiple k.a k.b k.unit v u k.first k.second; second = k.first })

-- ---- a multiple in lowest terms is the unit
divides : (a : ℕ) (t x : ℤ) → x ≡ pos a *ℤ t → a ∣ unsigned_abs x
divides a t x e =
    subst (λ n. a ∣ n) (sym (ap unsigned_abs e ∙ unsigned_abs-mul (pos a) t)) (dvd-mul_right a (unsigned_abs t))

only_once : {a : ℕ} {t u : Spot} → IsMultiple a t u → IsLowest u → a ≡ 1
only_once {a} {t} {u} h l =
    l.lowest a (divides a t.x u.x h.x) (divides a t.y u.y h.y) (divides a t.z u.z h.z) (divides a t.w u.w h.w)

same_entry : (a b : ℕ) (t x y : ℤ) → a ≡ 1 → b ≡ 1 → x ≡ pos a *ℤ t → y ≡ pos b *ℤ t → x ≡ y
same_entry a b t x y p q e f = e ∙ ap (λ n. pos n *ℤ t) (p ∙ sym q) ∙ sym f

-- one point has one form in lowest terms
pub same_lowest : (u v : Spot) → pos 0 <ℤ u.w → pos 0 <ℤ v.w → SamePoint u v → IsLowest u → IsLowest v → u ≡ v
same_lowest u v p q s l m =
    let k = unit_of (unsigned_abs (u.w +ℤ v.w)) u v p q (omega (arith, ints, p, q)) s in
    let a = only_once k.first l in let b = only_once k.second m in
    same_spot (same_entry k.a k.b k.unit.x u.x v.x a b k.first.x k.second.x)
    (same_entry k.a k.b k.unit.y u.y v.y a b k.first.y k.second.y)
    (same_entry k.a k.b k.unit.z u.z v.z a b k.first.z k.second.z)
    (same_entry k.a k.b k.unit.w u.w v.w a b k.first.w k.second.w)

-- a point of weight 1 is in lowest terms
pub whole_lowest : (v : Spot) → v.w ≡ pos 1 → IsLowest v
whole_lowest v e = record { lowest = λ k a b c d. eq-one_of_dvd-one (subst (λ z. k ∣ unsigned_abs z) e d) }

-- ---- the test of two points
-- the test of the four numbers decides whether two points have the same numbers
pub spots_are_equal : (u v : Spot) → Decides (int_eq u.x v.x && (int_eq u.y v.y && (int_eq u.z v.z && int_eq u.w v.w))) (u ≡ v)
spots_are_equal u v =
    Decides-like _
    (λ t. same_spot t.0 t.1.0 t.1.1.0 t.1.1.1)
    (λ e. (ap (λ (s : Spot). s.x) e, (ap (λ (s : Spot). s.y) e, (ap (λ (s : Spot). s.z) e, ap (λ (s : Spot). s.w) e))))
    (Decides-and _ _ (Decides-int_eq u.x v.x) (Decides-and _ _ (Decides-int_eq u.y v.y) (Decides-and _ _ (Decides-int_eq u.z v.z) (Decides-int_eq u.w v.w))))
