-- A path moved to the front of 64 digits fits them.
use Rattle.std.proofs.Common.{◌≡◌, ℕ, suc, ◌+◌, ◌*◌, ◌^◌, ◌%◌, ◌<◌, List, [], ◌∷◌, ◌++◌, length, sym, ap, ◌∙◌, subst, arith}
use Rattle.std.specs.Int.{leading_zeros, w64}
use Rattle.std.proofs.lemmas.Nat.{leading_top, pow_pos, pow_below, pow-add}
use Rattle.std.proofs.Math.Nat.{mul-lt-mul_of_pos_right}

few_zeros : (p : ℕ) → 0 < p → p < 2 ^ 64 → leading_zeros w64 p < 64
few_zeros p above fits = omega (arith, (leading_top 64 p above fits).1)

-- the sort key of a path above 0 fits into 64 bits
pub sort_key_fits : (p : ℕ) → 0 < p → p < 2 ^ 64 → p * (1 * 2 ^ leading_zeros w64 p % 2 ^ 64) < 2 ^ 64
sort_key_fits p above fits =
    let t = leading_top 64 p above (omega (arith, fits)) in
    let same : 1 * 2 ^ leading_zeros w64 p % 2 ^ 64 ≡ 2 ^ leading_zeros w64 p =
    omega (arith, pow_below (leading_zeros w64 p) 64 (few_zeros p above (omega (arith, fits)))) in
    let sum : suc t.0 + leading_zeros w64 p ≡ 64 = omega (arith, t.1) in
    let all : 2 ^ suc t.0 * 2 ^ leading_zeros w64 p ≡ 2 ^ 64 = sym (pow-add 2 (suc t.0) (leading_zeros w64 p)) ∙ ap (λ n. 2 ^ n) sum in
    rw same (subst (λ n. p * 2 ^ leading_zeros w64 p < n) all (mul-lt-mul_of_pos_right t.3 (pow_pos (leading_zeros w64 p))))

-- a list from which nothing more is taken
pub nothing_left : {X : Type 0} (xs ys : List X) → xs ≡ ys ++ [] → length ys ≡ 0 → xs ≡ []
nothing_left xs [] e none = e
nothing_left xs (y ∷ ys) e none = absurd (omega arith)
