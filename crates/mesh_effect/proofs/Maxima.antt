-- The greatest: one item more.
use Rattle.std.proofs.Common.{◌≡◌, ◌≤◌, ◌<◌, ℕ, zero, suc, ◌+◌, max, List, [], ◌∷◌, length, drop, get_or, drop-cons, sym, ap, ◌∙◌, arith}
use Rattle.std.specs.List.{All}
use Rattle.std.proofs.lemmas.List.{drop_all}
use Rattle.std.proofs.lemmas.List.Elements.{All-nil, All-cons, All-weaker}
use Rattle.std.proofs.Math.Nat.{le-max_left, le-max_right, max-zero, zero-max}
use Rattle.ember_algebra.proofs.Numbers.{max_assoc}
use Rattle.mesh_effect.specs.Rounding.Maximum.{greatest_of}

module _ {A : Type 0} (f : A → ℕ) where
  pub greatest_none : (xs : List A) → max 0 (greatest_of f xs) ≡ greatest_of f xs
  greatest_none xs = zero-max (greatest_of f xs)

  -- the greatest of those before and those to come, one item later
  pub greatest_more : (xs : List A) (i old new : ℕ) (x d : A) → max old (greatest_of f (drop i xs)) ≡ greatest_of f xs →
      new ≡ max old (f x) → i < length xs → x ≡ get_or xs i d →
      max new (greatest_of f (drop (i + 1) xs)) ≡ greatest_of f xs
  greatest_more xs i old new x d before e less is =
      let next : suc i ≡ i + 1 = omega arith in
      let rest = greatest_of f (drop (i + 1) xs) in
      let here : drop i xs ≡ x ∷ drop (i + 1) xs =
      drop-cons xs i d less ∙ ap (λ (y : A). y ∷ drop (suc i) xs) (sym is) ∙ ap (λ (k : ℕ). x ∷ drop k xs) next in
      ap (λ (m : ℕ). max m rest) e
      ∙ max_assoc old (f x) rest
      ∙ ap (λ (ys : List A). max old (greatest_of f ys)) (sym here)
      ∙ before

  pub greatest_all : (xs : List A) (i found : ℕ) → max found (greatest_of f (drop i xs)) ≡ greatest_of f xs → length xs ≤ i → found ≡ greatest_of f xs
  greatest_all xs i found before h =
      sym (max-zero found) ∙ ap (λ (ys : List A). max found (greatest_of f ys)) (sym (drop_all i xs h)) ∙ before

  -- the item at an index gives no more
  pub greatest_least : (xs : List A) (i : ℕ) (x : A) → i < length xs → f (get_or xs i x) ≤ greatest_of f xs
  greatest_least [] i x less = absurd (omega (arith, less))
  greatest_least (y ∷ ys) zero x less = le-max_left (f y) (greatest_of f ys)
  greatest_least (y ∷ ys) (suc i) x less =
      let rest = greatest_least ys i x (omega (arith, less)) in
      omega (arith, rest, le-max_right (f y) (greatest_of f ys))

  -- none gives more
  pub none_is_greater : (xs : List A) → All (λ x. f x ≤ greatest_of f xs) xs
  none_is_greater [] = All-nil (λ x. f x ≤ 0)
  none_is_greater (x ∷ xs) =
      let rest = greatest_of f xs in
      let all = max (f x) rest in
      let more = le-max_right (f x) rest in
      All-cons (λ y. f y ≤ all) x xs (le-max_left (f x) rest)
      (All-weaker (λ y. f y ≤ rest) (λ y. f y ≤ all) (λ y h. omega (arith, h, more)) xs (none_is_greater xs))
