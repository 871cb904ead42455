-- Digits behind a point.
use Rattle.std.proofs.Common.{◌≡◌, ℕ, zero, suc, ◌+◌, ◌-◌, ◌^◌, ◌/◌, ◌%◌, ◌<◌, List, [], ◌∷◌, ◌++◌, append_assoc, append-nil, refl, sym, ap, ◌∙◌, arith}
use Rattle.std.proofs.Math.Nat.{one-le-pow}
use Rattle.mesh_number.specs.Round.Decimals.{fraction_digits}

-- a power of ten is positive
pub power_of_10_positive : (k : ℕ) → 0 < 10 ^ k
power_of_10_positive k = one-le-pow k 10 (omega arith)

-- one digit more
digit_more : (xs : List ℕ) (k r : ℕ) → (r ≡ 0 → ⊥) → (xs ++ ((48 + r / 10 ^ k) ∷ [])) ++ fraction_digits k (r % 10 ^ k) ≡ xs ++ fraction_digits (suc k) r
digit_more xs k zero n = absurd (n refl)
digit_more xs k (suc r) n = append_assoc xs ((48 + suc r / 10 ^ k) ∷ []) (fraction_digits k (suc r % 10 ^ k))

-- nothing is left
pub no_digits : (k : ℕ) → fraction_digits k 0 ≡ []
no_digits zero = refl
no_digits (suc k) = refl

-- if something is left, a place is
pub places_left : (left r : ℕ) → r < 10 ^ left → (r ≡ 0 → ⊥) → 0 < left
places_left zero r l n = absurd (n (omega arith))
places_left (suc k) r l n = omega arith

-- a text grows by a digit
pub text_more : (xs ys zs : List ℕ) (left unit r : ℕ) → (r ≡ 0 → ⊥) → 0 < left → unit ≡ 10 ^ (left - 1) →
    ys ≡ xs ++ ((48 + r / unit) ∷ []) → xs ++ fraction_digits left r ≡ zs →
    ys ++ fraction_digits (left - 1) (r % unit) ≡ zs
text_more xs ys zs zero unit r n l eu ey t = absurd (omega arith)
text_more xs ys zs (suc k) unit r n l eu ey t =
    let e : suc k - 1 ≡ k = omega arith in
    let f : unit ≡ 10 ^ k = eu ∙ ap (λ (i : ℕ). 10 ^ i) e in
    rw (ey, f, e) (digit_more xs k r n ∙ t)

-- and is whole
pub text_whole : (xs zs : List ℕ) (left r : ℕ) → r ≡ 0 → xs ++ fraction_digits left r ≡ zs → xs ≡ zs
text_whole xs zs left r e t =
    sym (append-nil xs) ∙ ap (λ (ys : List ℕ). xs ++ ys) (sym (no_digits left)) ∙ ap (λ (k : ℕ). xs ++ fraction_digits left k) (sym e) ∙ t
