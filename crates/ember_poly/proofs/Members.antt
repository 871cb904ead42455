-- Some member of a list.
use Rattle.std.proofs.Common.{◌≡◌, ◌⊎◌, ⊎_elim, inl, inr, subst, ℕ, zero, suc, refl, Some, None, slice_get, List, [], ◌∷◌, ◌++◌}
use Rattle.std.specs.List.{AllByRecursion}
use Rattle.ember_poly.specs.Rings.{Side}
use Rattle.ember_poly.specs.Sides.{HasPlaneIndex}
use Rattle.ember_poly.specs.Passages.{HasMember}

-- a list has what is pushed to it
pub has-push : {X : Type 0} (P : X → Type 0) (xs : List X) (y : X) → P y → HasMember P (xs ++ y ∷ [])
has-push P [] y p = inl p
has-push P (x ∷ xs) y p = inr (has-push P xs y p)

-- two lists together have what the first has
pub has-front : {X : Type 0} (P : X → Type 0) (xs ys : List X) → HasMember P xs → HasMember P (xs ++ ys)
has-front P [] ys h = absurd h
has-front P (x ∷ xs) ys (inl p) = inl p
has-front P (x ∷ xs) ys (inr h) = inr (has-front P xs ys h)

-- two lists together have what the second has
pub has-back : {X : Type 0} (P : X → Type 0) (xs ys : List X) → HasMember P ys → HasMember P (xs ++ ys)
has-back P [] ys h = h
has-back P (x ∷ xs) ys h = inr (has-back P xs ys h)

-- some member of two lists together is a member of one of them
pub has-split : {X : Type 0} (P : X → Type 0) (xs ys : List X) → HasMember P (xs ++ ys) → HasMember P xs ⊎ HasMember P ys
has-split P [] ys h = inr h
has-split P (x ∷ xs) ys (inl p) = inl (inl p)
has-split P (x ∷ xs) ys (inr h) = ⊎_elim (λ a. inl (inr a)) (λ b. inr b) (has-split P xs ys h)

-- some member of two lists in one order is some member in the other order
pub has-turned : {X : Type 0} (P : X → Type 0) (xs ys : List X) → HasMember P (xs ++ ys) → HasMember P (ys ++ xs)
has-turned P xs ys h = ⊎_elim (λ a. has-back P ys xs a) (λ b. has-front P ys xs b) (has-split P xs ys h)

-- some member has each property that follows
pub has_map : {X : Type 0} (P Q : X → Type 0) (xs : List X) → ((x : X) → P x → Q x) → HasMember P xs → HasMember Q xs
has_map P Q [] f h = absurd h
has_map P Q (x ∷ xs) f (inl p) = inl (f x p)
has_map P Q (x ∷ xs) f (inr h) = inr (has_map P Q xs f h)

-- a member that has the one property, and the other, which all have
pub record Found {X : Type 0} (P Q : X → Type 0) : Type 0 where
  pub member : X
  pub holds : P member
  pub also : Q member

-- a member with one property also has the property of all members
pub has_pick : {X : Type 0} (P Q : X → Type 0) (xs : List X) → HasMember P xs → AllByRecursion Q xs → Found P Q
has_pick P Q [] h a = absurd h
has_pick P Q (x ∷ xs) (inl p) a = record { member = x; holds = p; also = a.0 }
has_pick P Q (x ∷ xs) (inr h) a = has_pick P Q xs h a.1

-- ---- sides by the places of their planes
get_has : {X : Type 0} (P : X → Type 0) (xs : List X) (k : ℕ) (x : X) → slice_get xs k ≡ Some x → P x → HasMember P xs
get_has P [] k x e p = absurd (by e)
  where
    by : {X : Type 0} {x : X} → None ≡ Some x → ⊥
    by e = cc
get_has P (y ∷ xs) zero x e p = inl (subst P (by e) p)
  where
    by : Some y ≡ Some x → x ≡ y
    by e = cc
get_has P (y ∷ xs) (suc k) x e p = inr (get_has P xs k x e p)

-- a plane index that a ring has is that of a side
pub born_has : (i : ℕ) (xs : List Side) → HasPlaneIndex i xs → HasMember (λ s. s.plane_index ≡ i) xs
born_has i xs b = get_has (λ s. s.plane_index ≡ i) xs b.at b.side b.here b.plane_index

-- the plane index of a side is one that the ring has
pub has_born : (i : ℕ) (xs : List Side) → HasMember (λ s. s.plane_index ≡ i) xs → HasPlaneIndex i xs
has_born i [] h = absurd h
has_born i (x ∷ xs) (inl e) = record { at = 0; side = x; here = refl; plane_index = e }
has_born i (x ∷ xs) (inr h) =
    let b = has_born i xs h in record { at = suc b.at; side = b.side; here = b.here; plane_index = b.plane_index }
