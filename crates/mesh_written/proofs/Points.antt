-- A list of rounded corners that grows.
use Rattle.std.proofs.Common.{◌≡◌, ℕ, ◌+◌, ◌<◌, List, [], ◌∷◌, ◌++◌, length, get_or, subst, sym, arith}
use Rattle.std.proofs.lemmas.List.{get_or_read, get_or_push, get_or_append_left}
use Rattle.mesh_number.proofs.Rounding.{by_lt}

-- the relation holds of each of the first elements of two lists, and of one element more
module _ {X Y : Type 0} (R : X → Y → Type 0) (xs : List X) (ys : List Y) (i : ℕ) (x : X) (y : Y) (n : length ys ≡ i)
    (l : i < length xs) (at : x ≡ get_or xs i x) (here : R x y) where
  old : (k : ℕ) (d : X) (e : Y) → k < i → R (get_or xs k d) (get_or ys k e) → R (get_or xs k d) (get_or (ys ++ y ∷ []) k e)
  old k d e b h =
      let same : get_or (ys ++ y ∷ []) k e ≡ get_or ys k e = get_or_append_left ys (y ∷ []) e k (omega (arith, n, b)) in
      subst (λ (z : Y). R (get_or xs k d) z) (sym same) h

  new : (d : X) (e : Y) → R (get_or xs i d) (get_or (ys ++ y ∷ []) i e)
  new d e =
      subst (λ (z : Y). R (get_or xs i d) z) (sym (get_or_push ys y e i n))
      (subst (λ (w : X). R w y) (get_or_read xs i x l at d) here)

  pub each_more : ((k : ℕ) (d : X) (e : Y) → k < i → R (get_or xs k d) (get_or ys k e)) → (k : ℕ) (d : X) (e : Y) →
      k < i + 1 → R (get_or xs k d) (get_or (ys ++ y ∷ []) k e)
  each_more before k d e b =
      by_lt k i (λ h. old k d e h (before k d e h))
      (λ h. let last : i ≡ k = omega (arith, b, h) in subst (λ (j : ℕ). R (get_or xs j d) (get_or (ys ++ y ∷ []) j e)) last (new d e))
