-- Sums over lists: of what a map gives, and of larger weights. The weight of one number.
use Rattle.std.proofs.Common.{◌≡◌, ◌≢◌, ℕ, ◌≤◌, List, [], ◌∷◌, map, refl, inl, inr, arith}
use Rattle.std.proofs.lemmas.Bool.Decides.{eqb_tells}
use Rattle.ember_job.specs.Weights.{weigh, one}

-- the weight of a mapped list is that by the composed function
pub weigh_map : {A C : Type 0} (f : A → C) (h : C → ℕ) (xs : List A) → weigh h (map f xs) ≡ weigh (λ x. h (f x)) xs
weigh_map f h [] = refl
weigh_map f h (x ∷ xs) = omega (arith, weigh_map f h xs)

-- weights that are larger for each member have a larger sum
pub more_weight : {X : Type 0} (h k : X → ℕ) → ((x : X) → h x ≤ k x) → (xs : List X) → weigh h xs ≤ weigh k xs
more_weight h k less [] = omega arith
more_weight h k less (x ∷ xs) = omega (arith, less x, more_weight h k less xs)

-- `one` is 1 at its own number
pub one_same : (x y : ℕ) → y ≡ x → one x y ≡ 1
one_same x y e = elim (eqb_tells y x) [ inl h ↦ rw h.0 refl | inr h ↦ absurd (h.1 e) ]

-- `one` is 0 at every other number
pub one_other : (x y : ℕ) → y ≢ x → one x y ≡ 0
one_other x y n = elim (eqb_tells y x) [ inl h ↦ absurd (n h.1) | inr h ↦ rw h.0 refl ]
