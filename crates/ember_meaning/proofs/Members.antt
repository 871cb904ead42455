-- Members of lists, and where they come from.
use Rattle.std.proofs.Common.{◌≡◌, ℕ, zero, suc, ◌+◌, ◌<◌, ◌≤◌, refl, ap, ◌∙◌, sym, List, [], ◌∷◌, ◌++◌, map, length}
use Rattle.std.proofs.Common.{Bool, true, false, cond, Some, slice_get, ◌||◌, ◌⊎◌, inl, inr, ⊎_elim, arith}
use Rattle.std.specs.List.{filter, list_any, count_by, range_with_len}
use Rattle.std.proofs.lemmas.List.Sums.{sum_by-cons}
use Rattle.std.proofs.lemmas.Bool.{cases_Bool, false≢true, or_right}
use Rattle.ember_algebra.specs.Relations.{Each, none, more, Every}
use Rattle.ember_box.specs.Sums.{number}
use Rattle.ember_meaning.proofs.Lines.{In, here, there}
use Rattle.ember_meaning.proofs.OneOwner.{count_in}

-- ---- members of a map and of a filter
pub in_map : {S T : Type 0} (h : S → T) (xs : List S) (x : S) → In x xs → In (h x) (map h xs)
in_map h xs x here = here
in_map h xs x (there {xs = ys} i) = there (in_map h ys x i)

pub record Source {S T : Type 0} (h : S → T) (xs : List S) (y : T) : Type 0 where
  pub at : S
  pub member : In at xs
  pub is : y ≡ h at

-- a member of a mapped list is the image of a member
pub map_member_has_source : {S T : Type 0} (h : S → T) (xs : List S) (y : T) → In y (map h xs) → Source h xs y
map_member_has_source h [] y i = elim i [ ]
map_member_has_source h (x ∷ xs) y here = record { at = x; member = here; is = refl }
map_member_has_source h (x ∷ xs) y (there i) =
    let s = map_member_has_source h xs y i in record { at = s.at; member = there s.member; is = s.is }

of_cons : {T : Type 0} (q : T → Bool) (b : Bool) (a : T) (l : List T) (x : T) → b ≡ q a → In x (cond b (a ∷ l) l) → (In x l → q x ≡ true) → q x ≡ true
of_cons q true a l x e here f = sym e
of_cons q true a l x e (there i) f = f i
of_cons q false a l x e i f = f i

-- a member of a filtered list passes the test
pub in_filter : {T : Type 0} (q : T → Bool) (xs : List T) (x : T) → In x (filter q xs) → q x ≡ true
in_filter q [] x i = elim i [ ]
in_filter q (a ∷ xs) x i = of_cons q (q a) a (filter q xs) x refl i (λ j. in_filter q xs x j)

of_part : {X : Type 0} (b : Bool) (a : X) (l xs : List X) (x : X) → In x (cond b (a ∷ l) l) → (In x l → In x xs) → In x (a ∷ xs)
of_part true a l xs x here f = here
of_part true a l xs x (there j) f = there (f j)
of_part false a l xs x j f = there (f j)

-- a member of a filtered list is a member of the list
pub of_filter : {X : Type 0} (q : X → Bool) (xs : List X) (x : X) → In x (filter q xs) → In x xs
of_filter q [] x i = elim i [ ]
of_filter q (a ∷ xs) x i = of_part (q a) a (filter q xs) xs x i (λ j. of_filter q xs x j)

-- what holds of all members holds of each
pub every_in : {X : Type 0} (P : X → Type 0) (xs : List X) (x : X) → Every P xs → In x xs → P x
every_in P [] x h i = elim i [ ]
every_in P (a ∷ xs) x h here = h.0
every_in P (a ∷ xs) x h (there i) = every_in P xs x h.1 i

-- ---- members of a sum of lists
in_append : {X : Type 0} (xs ys : List X) (x : X) → In x (xs ++ ys) → In x xs ⊎ In x ys
in_append [] ys x i = inr i
in_append (a ∷ xs) ys x here = inl here
in_append (a ∷ xs) ys x (there i) =
    ⊎_elim (λ j. inl (there j)) (λ j. inr j) (in_append xs ys x i)

-- the member that gives y
pub record Giver {X Y : Type 0} (R : X → List Y → Type 0) (xs : List X) (y : Y) : Type 0 where
  pub from : X
  pub member : In from xs
  pub given : List Y
  pub gives : R from given
  pub among : In y given

-- what is listed was given by a member
pub giver : {X Y : Type 0} {R : X → List Y → Type 0} {xs : List X} {ys : List Y} (y : Y) → Each R xs ys → In y ys → Giver R xs y
giver y none i = elim i [ ]
giver {R = R} y (more {x = x} {xs = xs} {ys = us} {zs = vs} r e) i =
    ⊎_elim (λ j. record { from = x; member = here; given = us; gives = r; among = j }) (λ j. later (giver y e j)) (in_append us vs y i)
  where
    later : Giver R xs y → Giver R (x ∷ xs) y
    later g = record { from = g.from; member = there g.member; given = g.given; gives = g.gives; among = g.among }

-- ---- places
pub record Stands {X : Type 0} (xs : List X) (x : X) : Type 0 where
  pub index : ℕ
  pub is : slice_get xs index ≡ Some x
  pub below : index < length xs

-- a member with what is before and behind it
pub member_splits_list : {X : Type 0} (xs : List X) (x : X) → In x xs → Stands xs x
member_splits_list [] x i = elim i [ ]
member_splits_list (a ∷ xs) x here = record { index = 0; is = refl; below = omega arith }
member_splits_list (a ∷ xs) x (there i) =
    let s = member_splits_list xs x i in record { index = suc s.index; is = s.is; below = (let l = s.below in omega (arith, l)) }

in_from : (a n i : ℕ) → In i (range_with_len a n) → i < a + n
in_from a zero i h = elim h [ ]
in_from a (suc n) i here = omega arith
in_from a (suc n) i (there h) = let l = in_from (a + 1) n i h in omega (arith, l)

-- the numbers below n are below n
pub in_range : (n i : ℕ) → In i (range_with_len 0 n) → i < n
in_range n i h = let l = in_from 0 n i h in omega (arith, l)

-- ---- some member passes a test
pub any_in : {X : Type 0} (p : X → Bool) (xs : List X) (x : X) → In x xs → p x ≡ true → list_any p xs ≡ true
any_in p [] x i h = elim i [ ]
any_in p (a ∷ xs) x here h = rw h refl
any_in p (a ∷ xs) x (there i) h = or_right (p a) (list_any p xs) (any_in p xs x i h)

pub record Passes {X : Type 0} (p : X → Bool) (xs : List X) : Type 0 where
  pub at : X
  pub member : In at xs
  pub holds : p at ≡ true

-- if the test of any member answers true, a member passes
pub any_has_member : {X : Type 0} (p : X → Bool) (xs : List X) → list_any p xs ≡ true → Passes p xs
any_has_member p [] h = absurd (false≢true h)
any_has_member p (x ∷ xs) h = by (cases_Bool (p x)) (λ g. any_has_member p xs g)
  where
    by : (p x ≡ true) ⊎ (p x ≡ false) → (list_any p xs ≡ true → Passes p xs) → Passes p (x ∷ xs)
    by (inl e) f = record { at = x; member = here; holds = e }
    by (inr e) f =
        let q = f (sym (ap (λ b. b || list_any p xs) e) ∙ h) in
        record { at = q.at; member = there q.member; holds = q.holds }

-- if at most one passes, two that do are one
pub only_one : {X : Type 0} (p : X → Bool) (xs : List X) (x y : X) → count_by p xs ≤ 1 → In x xs → In y xs → p x ≡ true → p y ≡ true → x ≡ y
only_one p [] x y l i j h k = elim i [ ]
only_one p (a ∷ xs) x y l here here h k = refl
only_one p (a ∷ xs) x y l here (there j) h k =
    absurd (two (sum_by-cons (λ z. cond (p z) 1 0) x xs) (count_in p xs y j k) (ap number h) l)
  where
    two : {m n q : ℕ} → m ≡ q + n → 0 < n → q ≡ 1 → m ≤ 1 → ⊥
    two e s q l = omega arith
only_one p (a ∷ xs) x y l (there i) here h k =
    absurd (two (sum_by-cons (λ z. cond (p z) 1 0) y xs) (count_in p xs x i h) (ap number k) l)
  where
    two : {m n q : ℕ} → m ≡ q + n → 0 < n → q ≡ 1 → m ≤ 1 → ⊥
    two e s q l = omega arith
only_one p (a ∷ xs) x y l (there i) (there j) h k =
    only_one p xs x y (less (number (p a)) (sum_by-cons (λ z. cond (p z) 1 0) a xs) l) i j h k
  where
    less : {m n : ℕ} (q : ℕ) → m ≡ q + n → m ≤ 1 → n ≤ 1
    less q e l = omega arith
