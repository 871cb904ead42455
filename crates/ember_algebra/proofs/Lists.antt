-- Lists of the first numbers, and pairs of lists
use Rattle.std.specs.List.{range_with_len, AllZip}
use Rattle.std.proofs.Common.{◌≡◌, ap, ◌∙◌, arith, ℕ, zero, suc, ◌+◌, [], ◌∷◌, ◌++◌, List, All, slice_get, Some, subst}
use Rattle.std.proofs.lemmas.Option.{get_or_from_slice_get, slice_get_within}

-- the first n + 1 numbers are the first n, and n
pub range_more : (n : ℕ) → range_with_len 0 (n + 1) ≡ range_with_len 0 n ++ n ∷ []
range_more n =
    let e : n + 1 ≡ suc n = omega arith in ap (range_with_len 0) e ∙ from 0 n n (omega arith)
  where
    from : (a k m : ℕ) → a + k ≡ m → range_with_len a (suc k) ≡ range_with_len a k ++ m ∷ []
    from a zero m e = ap (λ b. b ∷ []) (let f : a ≡ m = omega (arith, e) in f)
    from a (suc k) m e = ap (λ xs. a ∷ xs) (from (a + 1) k m (omega (arith, e)))

-- one pair more
pub AllZip-push : {A B : Type 0} (R : A → B → Type 0) (xs : List A) (ys : List B) (x : A) (y : B) → AllZip R xs ys →
    R x y → AllZip R (xs ++ x ∷ []) (ys ++ y ∷ [])
AllZip-push R [] [] x y h r = (r, tt)
AllZip-push R [] (b ∷ ys) x y h r = absurd h
AllZip-push R (a ∷ xs) [] x y h r = absurd h
AllZip-push R (a ∷ xs) (b ∷ ys) x y h r = (h.0, AllZip-push R xs ys x y h.1 r)

-- what holds of all elements holds of the one at a place
pub all_at : {X : Type 0} (P : X → Type 0) (xs : List X) (i : ℕ) (x : X) → All P xs → slice_get xs i ≡ Some x → P x
all_at P xs i x a e = subst P (get_or_from_slice_get xs i x x e) (a i x (slice_get_within xs i x e))
