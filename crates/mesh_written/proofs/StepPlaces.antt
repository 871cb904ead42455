-- The decimal places of a step, one more at a time.
use Rattle.std.proofs.Common.{◌≡◌, ℕ, zero, suc, ◌+◌, ◌-◌, ◌*◌, ◌%◌, ◌<◌, refl, ap, subst, ◌∙◌, arith}
use Rattle.mesh_written.specs.Digits.{places_of_rest}

none_left : (d most : ℕ) → places_of_rest d most 0 ≡ 0
none_left d zero = refl
none_left d (suc most) = refl

-- where nothing is left, the places are found
pub places_found : (d p rest n : ℕ) → rest ≡ 0 → p + places_of_rest d (11 - p) rest ≡ n → p ≡ n
places_found d p rest n e h =
    let none : places_of_rest d (11 - p) rest ≡ 0 = ap (places_of_rest d (11 - p)) e ∙ none_left d (11 - p) in
    omega (arith, none, h)

-- otherwise there is one more
pub one_place_more : (d p rest n : ℕ) → p < 11 → (rest ≡ 0 → ⊥) → p + places_of_rest d (11 - p) rest ≡ n →
    (p + 1) + places_of_rest d (11 - (p + 1)) (rest * 10 % d) ≡ n
one_place_more d p zero n l some h = absurd (some refl)
one_place_more d p (suc k) n l some h =
    let next : 11 - p ≡ suc (11 - (p + 1)) = omega (arith, l) in
    let more : places_of_rest d (11 - p) (suc k) ≡ 1 + places_of_rest d (11 - (p + 1)) (suc k * 10 % d) =
    ap (λ (most : ℕ). places_of_rest d most (suc k)) next in
    omega (arith, more, h)

-- after the last one no more are counted
pub last_place : (d p rest n : ℕ) → p ≡ 11 → p + places_of_rest d (11 - p) rest ≡ n → 11 ≡ n
last_place d p rest n e h = subst (λ (q : ℕ). q + places_of_rest d (11 - q) rest ≡ n) e h
