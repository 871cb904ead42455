-- Members of lists.
use Rattle.std.proofs.Common.{◌≡◌, inl, inr, ℕ, zero, suc, ◌<◌, refl, sym, ap, ◌∙◌, arith, Bool, true, false, cond}
use Rattle.std.proofs.Common.{List, [], ◌∷◌, map, filter, length, get_or, Contains}
use Rattle.ember_model.proofs.SignTests.{In}

-- the image of a member is a member of the images
pub in_map : {X Y : Type 0} (f : X → Y) (x : X) (xs : List X) → In x xs → In (f x) (map f xs)
in_map f x [] m = absurd m
in_map f x (y ∷ xs) (inl e) = inl (ap f e)
in_map f x (y ∷ xs) (inr m) = inr (in_map f x xs m)

-- a member of a list of images
pub record Image {X Y : Type 0} (f : X → Y) (xs : List X) (y : Y) : Type 0 where
  pub of : X
  pub member : In of xs
  pub is : y ≡ f of

-- a member of a mapped list is the image of a member
pub in_map_out : {X Y : Type 0} (f : X → Y) (y : Y) (xs : List X) → In y (map f xs) → Image f xs y
in_map_out f y [] m = absurd m
in_map_out f y (x ∷ xs) (inl e) = record { of = x; member = inl refl; is = e }
in_map_out f y (x ∷ xs) (inr m) =
    let r = in_map_out f y xs m in record { of = r.of; member = inr r.member; is = r.is }

-- a member that passes the test stays
pub in_filter : {X : Type 0} (p : X → Bool) (x : X) (xs : List X) → In x xs → p x ≡ true → In x (filter p xs)
in_filter p x [] m e = absurd m
in_filter {X} p x (y ∷ xs) (inl s) e = by (p y) (ap p (sym s) ∙ e)
  where
    by : (t : Bool) → t ≡ true → In x (cond t (y ∷ filter p xs) (filter p xs))
    by true q = inl s
    by false q = cc
in_filter {X} p x (y ∷ xs) (inr m) e = by (p y) (in_filter p x xs m e)
  where
    by : (t : Bool) → In x (filter p xs) → In x (cond t (y ∷ filter p xs) (filter p xs))
    by true r = inr r
    by false r = r

-- a member of a filtered list is a member of the list
pub in_filter_out : {X : Type 0} (p : X → Bool) (x : X) (xs : List X) → In x (filter p xs) → In x xs
in_filter_out p x [] m = absurd m
in_filter_out {X} p x (y ∷ xs) m = by (p y) m (in_filter_out p x xs)
  where
    by : (t : Bool) → In x (cond t (y ∷ filter p xs) (filter p xs)) → (In x (filter p xs) → In x xs) → In x (y ∷ xs)
    by true (inl e) f = inl e
    by true (inr r) f = inr (f r)
    by false r f = inr (f r)

-- the library's word for a member
in_from : {X : Type 0} (xs : List X) (x : X) (k : ℕ) → k < length xs → get_or xs k x ≡ x → In x xs
in_from [] x k l e = absurd (omega arith)
in_from (y ∷ xs) x zero l e = inl (sym e)
in_from (y ∷ xs) x (suc k) l e = inr (in_from xs x k (omega arith) e)

-- from `Contains` to `In`
pub in_from_contains : {X : Type 0} (xs : List X) (x : X) → Contains xs x → In x xs
in_from_contains xs x c = in_from xs x c.0 c.1 c.2

-- and back
pub contains_from_in : {X : Type 0} (xs : List X) (x : X) → In x xs → Contains xs x
contains_from_in [] x m = absurd m
contains_from_in (y ∷ xs) x (inl e) = (0, omega arith, sym e)
contains_from_in (y ∷ xs) x (inr m) = let r = contains_from_in xs x m in (suc r.0, omega (arith, r.1), r.2)
