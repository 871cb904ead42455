-- Entries of lists, and lists in pairs
use Rattle.std.proofs.Common.{◌≡◌, inl, inr, ℕ, zero, suc, ◌+◌, ◌≤◌, List, [], ◌∷◌, ◌++◌, length, map, Some, slice_get}
use Rattle.std.proofs.Common.{refl, sym, ap, subst, ◌∙◌, arith, length-append}
use Rattle.std.proofs.lemmas.List.{map-append, append-nil}
use Rattle.std.specs.List.{AllZip, All}
use Rattle.std.proofs.lemmas.Option.{none-some, same_Some}
use Rattle.std.proofs.lemmas.List.Elements.{All-push}
use Rattle.mesh_solid.specs.Tables.Numberings.{HasEntry, IsKeptOrPut}

slice_get-append : {X : Type 0} (xs ys : List X) (n : ℕ) (x : X) → slice_get xs n ≡ Some x → slice_get (xs ++ ys) n ≡ Some x
slice_get-append [] ys n x e = absurd (none-some x e)
slice_get-append (y ∷ xs) ys zero x e = e
slice_get-append (y ∷ xs) ys (suc n) x e = slice_get-append xs ys n x e

-- ys begins with xs
abbrev pub Extends : {X : Type 0} → List X → List X → Type 0
Extends {X} xs ys = (zs : List X) × (ys ≡ xs ++ zs)

pub extends_same : {X : Type 0} (xs ys : List X) → ys ≡ xs → Extends xs ys
extends_same xs ys e = ([], e ∙ sym (append-nil xs))

pub extends_put : {X : Type 0} (x : X) (xs ys : List X) → IsKeptOrPut x xs ys → Extends xs ys
extends_put x xs ys (inl e) = extends_same xs ys e
extends_put x xs ys (inr e) = (x ∷ [], e)

-- an entry keeps its number
pub entry_stays : {X : Type 0} (xs ys : List X) (n : ℕ) (P : X → Type 0) → Extends xs ys → HasEntry xs n P → HasEntry ys n P
entry_stays xs ys n P e h =
    record { entry = h.entry; here = subst (λ zs. slice_get zs n ≡ Some h.entry) (sym e.1) (slice_get-append xs e.0 n h.entry h.here); holds = h.holds }

-- what holds of an entry
pub entry_with : {X : Type 0} (xs : List X) (n : ℕ) (P Q : X → Type 0) → ((x : X) → P x → Q x) → HasEntry xs n P → HasEntry xs n Q
entry_with xs n P Q f h = record { entry = h.entry; here = h.here; holds = f h.entry h.holds }

-- what holds of all members and of one that was put in holds of all
pub all_put : {X : Type 0} (P : X → Type 0) (x : X) (xs ys : List X) → IsKeptOrPut x xs ys → All P xs → P x → All P ys
all_put P x xs ys (inl e) h p = subst (All P) (sym e) h
all_put P x xs ys (inr e) h p = subst (All P) (sym e) (All-push P xs x h p)

-- what is put into a list is put into the mapped one
pub mapped_put : {X Y : Type 0} (f : X → Y) (x : X) (xs ys : List X) → IsKeptOrPut x xs ys → IsKeptOrPut (f x) (map f xs) (map f ys)
mapped_put f x xs ys (inl e) = inl (ap (map f) e)
mapped_put f x xs ys (inr e) = inr (ap (map f) e ∙ map-append f xs (x ∷ []))

-- at most one more
pub put_length : {X : Type 0} (x : X) (xs ys : List X) → IsKeptOrPut x xs ys → length ys ≤ length xs + 1
put_length x xs ys (inl e) = omega (arith, ap length e)
put_length x xs ys (inr e) = omega (arith, ap length e ∙ length-append xs (x ∷ []))

-- the entry of a mapped list
pub entry_of_map : {X Y : Type 0} (f : X → Y) (xs : List X) (n : ℕ) (y : Y) → slice_get (map f xs) n ≡ Some y → (x : X) × (slice_get xs n ≡ Some x) × (f x ≡ y)
entry_of_map f [] n y e = absurd (none-some y e)
entry_of_map f (x ∷ xs) zero y e = (x, refl, same_Some (f x) y e)
entry_of_map f (x ∷ xs) (suc n) y e = entry_of_map f xs n y e

-- the entry of a mapped list is the image of the entry
pub mapped_entry : {X Y : Type 0} (f : X → Y) (xs : List X) (n : ℕ) (x : X) → slice_get xs n ≡ Some x → slice_get (map f xs) n ≡ Some (f x)
mapped_entry f [] n x e = absurd (none-some x e)
mapped_entry f (y ∷ xs) zero x e = ap (λ z. Some (f z)) (same_Some y x e)
mapped_entry f (y ∷ xs) (suc n) x e = mapped_entry f xs n x e

-- ---- lists in pairs
-- a relation that follows from another one holds in pairs where that one does
pub pairs_with : {A B : Type 0} (R S : A → B → Type 0) → ((a : A) (b : B) → R a b → S a b) → (xs : List A) (ys : List B) → AllZip R xs ys → AllZip S xs ys
pairs_with R S f [] [] h = tt
pairs_with R S f [] (y ∷ ys) h = absurd h
pairs_with R S f (x ∷ xs) [] h = absurd h
pairs_with R S f (x ∷ xs) (y ∷ ys) h = (f x y h.0, pairs_with R S f xs ys h.1)

-- ---- images
-- an entry's image has its number
pub mapped_has : {X Y : Type 0} (f : X → Y) (xs : List X) (n : ℕ) (P : X → Type 0) (Q : Y → Type 0) →
    ((x : X) → P x → Q (f x)) → HasEntry xs n P → HasEntry (map f xs) n Q
mapped_has f xs n P Q g h = record { entry = f h.entry; here = mapped_entry f xs n h.entry h.here; holds = g h.entry h.holds }
