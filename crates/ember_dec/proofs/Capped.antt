-- Decimal digits read with a limit.
use Rattle.std.specs.List.{list_all}
use Rattle.std.proofs.Common.{Bool, true, false, ◌&&◌, take, ◌≡◌, ◌<◌, ℕ, zero, suc, length, drop, get_or, ◌+◌, ◌-◌}
use Rattle.std.proofs.Common.{◌*◌, min, List, [], ◌∷◌, ◌++◌, replicate, refl, ◌∙◌, sym, ap, arith}
use Rattle.ember_dec.specs.Digits.{number_from}
use Rattle.ember_dec.proofs.Numbers.{number_from-append, number_from-drop}

-- two numbers that are equal up to the limit stay so as digits are appended
pub same_capped : (limit v w : ℕ) (ds : List ℕ) → min limit v ≡ min limit w → min limit (number_from v ds) ≡ min limit (number_from w ds)
same_capped limit v w [] e = e
same_capped limit v w (d ∷ ds) e = same_capped limit (v * 10 + (d - 48)) (w * 10 + (d - 48)) ds (omega arith)

-- digits read after a number that was cut at the limit give the same, up to the limit
pub number_from_capped : (limit v : ℕ) (ds : List ℕ) → min limit (number_from (min v limit) ds) ≡ min limit (number_from v ds)
number_from_capped limit v ds = same_capped limit (min v limit) v ds (omega arith)

-- one digit more
pub digit_more : (limit v i : ℕ) (text : List ℕ) → i < length text →
    min limit (number_from v (drop i text)) ≡ min limit
    (number_from (min (v * 10 + (get_or text i 0 - 48)) limit) (drop (suc i) text))
digit_more limit v i text h = ap (λ n. min limit n) (number_from-drop v i text h)
    ∙ sym (number_from_capped limit (v * 10 + (get_or text i 0 - 48)) (drop (suc i) text))

-- one zero more
pub zero_more : (limit v n : ℕ) → min limit (number_from v (replicate (suc n) 48)) ≡ min limit (number_from (min (v * 10) limit) (replicate n 48))
zero_more limit v n = same_capped limit (v * 10 + (48 - 48)) (min (v * 10) limit) (replicate n 48) (omega arith)

-- three parts read one after another, each with the limit
pub capped_parts : (limit : ℕ) (w f z : List ℕ) →
    min limit (number_from (min limit (number_from (min limit (number_from 0 w)) f)) z) ≡ min limit
    (number_from 0 (w ++ (f ++ z)))
capped_parts limit w f z =
    let front : min limit (number_from (min limit (number_from 0 w)) f) ≡ min limit (number_from (number_from 0 w) f) =
    same_capped limit (min limit (number_from 0 w)) (number_from 0 w) f (omega arith) in
    same_capped limit (min limit (number_from (min limit (number_from 0 w)) f)) (number_from (number_from 0 w) f) z (omega arith)
    ∙ ap (λ x. min limit x) (sym (number_from-append (number_from 0 w) f z) ∙ sym (number_from-append 0 w (f ++ z)))

-- what all members pass the first n pass
pub list_all-take : (p : ℕ → Bool) (n : ℕ) (xs : List ℕ) → list_all p xs ≡ true → list_all p (take n xs) ≡ true
list_all-take p zero xs h = refl
list_all-take p (suc n) [] h = refl
list_all-take p (suc n) (x ∷ xs) h =
    elim (p x) as (λ b. b && list_all p xs ≡ true → b && list_all p (take n xs) ≡ true) [ true ↦ list_all-take p n xs | false ↦ λ k. k ] h
