-- A point shifted a little along all axes: signs stay, and no plane is met.
use Rattle.std.proofs.Common.{◌≡◌, sym, ap, ◌∙◌, arith, [], ◌∷◌, ℕ, ◌+◌, ◌<◌, ℤ, pos, ◌+ℤ◌, ◌*ℤ◌, ◌<ℤ◌, unsigned_abs}
use borrow.Author.Differences.{ints}
use Rattle.ember_algebra.specs.Large.{Eventually, horner, EachSmall}
use Rattle.ember_algebra.proofs.Laws.{linear}
use Rattle.ember_algebra.proofs.Order.{by_sign, pos_mul}
use Rattle.ember_algebra.proofs.Large.{horner_pos, horner_neg}
use Rattle.ember_algebra.proofs.Ring.{◌⊕◌, ◌⊖◌, ◌⊗◌, ◌≈◌, num, solve, cancels}
use Rattle.ember_model.specs.declared.plane.Plane.{Plane}
use Rattle.ember_model.specs.declared.point.Spot.{Spot}
use Rattle.ember_model.specs.Planes.{value_at, HasNoNormal}
use Rattle.ember_model.specs.Points.{offset_by}
use Rattle.ember_model.proofs.NearClearPoints.{Follows}

-- a plane's value at a shifted point, as a polynomial
pub value_shifted : (h : Plane) (p : Spot) (m : ℤ) → value_at h (offset_by p m) ≡ horner m (value_at h p) (h.a ∷ h.b ∷ h.c ∷ [])
value_shifted h p m =
    solve 9 (λ a b c d x y z w m. a ⊗ (m ⊗ m ⊗ m ⊗ x ⊕ m ⊗ m) ⊕ b ⊗ (m ⊗ m ⊗ m ⊗ y ⊕ m) ⊕ c ⊗
    (m ⊗ m ⊗ m ⊗ z ⊕ num (pos 1)) ⊖ d ⊗ (m ⊗ m ⊗ m ⊗ w) ≈ (((a ⊗ x ⊕ b ⊗ y ⊕ c ⊗ z ⊖ d ⊗ w) ⊗ m ⊕ a) ⊗ m ⊕ b) ⊗ m ⊕ c)
    cancels h.a h.b h.c h.d p.x p.y p.z p.w m

abbrev reach : Plane → ℕ
reach h = unsigned_abs h.a + unsigned_abs h.b + unsigned_abs h.c

sizes : (h : Plane) → EachSmall (reach h) (h.a ∷ h.b ∷ h.c ∷ [])
sizes h = (record { small = omega arith }, (record { small = omega arith }, (record { small = omega arith }, tt)))

-- a point that is shifted by little enough stays on its side of a plane
pub follows_shifted : (p : Spot) (h : Plane) → Eventually (λ n. Follows p (offset_by p (pos n)) h)
follows_shifted p h =
    record {
      from = reach h + 1;
      holds = λ n l. record {
        up = λ s. rw (value_shifted h p (pos n)) (horner_pos (h.a ∷ h.b ∷ h.c ∷ []) (value_at h p) (omega arith) (sizes h) s);
        down = λ s. rw (value_shifted h p (pos n)) (horner_neg (h.a ∷ h.b ∷ h.c ∷ []) (value_at h p) (omega arith) (sizes h) s);
      };
    }

-- no plane with a normal is met
pub off_horner : {m : ℕ} (n : ℕ) (v a b c : ℤ) → m < n → EachSmall m (a ∷ b ∷ c ∷ []) →
    horner (pos n) v (a ∷ b ∷ c ∷ []) ≡ pos 0 → (a ≡ pos 0) × (b ≡ pos 0) × (c ≡ pos 0)
off_horner n v a b c l s e =
    by_sign v
    (λ p. let q = horner_pos (a ∷ b ∷ c ∷ []) v l s p in absurd (omega (arith, linear, q, e)))
    (λ z. let za : v *ℤ pos n +ℤ a ≡ a = rw z (omega (arith, ints)) in
    let ea : horner (pos n) a (b ∷ c ∷ []) ≡ pos 0 = sym (ap (λ (x : ℤ). horner (pos n) x (b ∷ c ∷ [])) za) ∙ e in
    by_sign a
    (λ p. let q = horner_pos (b ∷ c ∷ []) a l s.1 p in absurd (omega (arith, linear, q, ea)))
    (λ za. let zb : a *ℤ pos n +ℤ b ≡ b = rw za (omega (arith, ints)) in
    let eb : horner (pos n) b (c ∷ []) ≡ pos 0 = sym (ap (λ (x : ℤ). horner (pos n) x (c ∷ [])) zb) ∙ ea in
    by_sign b
    (λ p. let q = horner_pos (c ∷ []) b l s.1.1 p in absurd (omega (arith, linear, q, eb)))
    (λ zb. (za, zb, sym (let h : b *ℤ pos n +ℤ c ≡ c = rw zb (omega (arith, ints)) in h) ∙ eb))
    (λ p. let q = horner_neg (c ∷ []) b l s.1.1 p in absurd (omega (arith, linear, q, eb))))
    (λ p. let q = horner_neg (b ∷ c ∷ []) a l s.1 p in absurd (omega (arith, linear, q, ea))))
    (λ p. let q = horner_neg (a ∷ b ∷ c ∷ []) v l s p in absurd (omega (arith, linear, q, e)))

-- a point that is shifted by little enough is on no plane with a normal
pub off_shifted : (p : Spot) (h : Plane) → Eventually (λ n. value_at h (offset_by p (pos n)) ≡ pos 0 → HasNoNormal h)
off_shifted p h =
    record { from = reach h + 1; holds = λ n l e. off_horner n (value_at h p) h.a h.b h.c (omega arith) (sizes h) (sym (value_shifted h p (pos n)) ∙ e) }

-- the weight of a point that is shifted by little enough is positive
pub weight_shifted : (p : Spot) → pos 0 <ℤ p.w → Eventually (λ n. pos 0 <ℤ (offset_by p (pos n)).w)
weight_shifted p w =
    record { from = 1; holds = λ n l. let m : pos 0 <ℤ pos n = omega (arith, ints) in pos_mul (pos_mul (pos_mul m m) m) w }

-- what holds of all numbers holds of all large ones
pub eventually_true : {P : ℕ → Type 0} → ((n : ℕ) → P n) → Eventually P
eventually_true f = record { from = 0; holds = λ n l. f n }
