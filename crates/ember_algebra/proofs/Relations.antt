-- Laws of lists that are made member by member, or step by step: one result, built from the front, counts.
use Rattle.std.proofs.Common.{◌≡◌, ℕ, refl, ◌∙◌, sym, subst, List, [], ◌∷◌, ◌++◌, Bool, cond, append_assoc, slice_get, Some, suc}
use Rattle.std.specs.List.{sum_by, count_by}
use Rattle.std.proofs.lemmas.List.Sums.{sum_by-append, sum_by-cons}
use Rattle.std.proofs.lemmas.List.{append-nil}
use Rattle.ember_algebra.specs.Relations.{Each, none, more, Chain, done, step, Every}

-- ---- one result
-- if R gives each member only one list, Each gives a list only one result
pub each_unique : {X Y : Type 0} {R : X → List Y → Type 0} → ((x : X) (ys zs : List Y) → R x ys → R x zs → ys ≡ zs) →
    {xs : List X} {ys zs : List Y} → Each R xs ys → Each R xs zs → ys ≡ zs
each_unique f none none = refl
each_unique f (more {x = x} r e) (more q d) =
    let p = f x _ _ r q in let t = each_unique f e d in cc

-- the same if R gives only one list to each member with a property that all members have
pub each_unique_where : {X Y : Type 0} {R : X → List Y → Type 0} (Q : X → Type 0) →
    ((x : X) (ys zs : List Y) → Q x → R x ys → R x zs → ys ≡ zs) → {xs : List X} {ys zs : List Y} → Every Q xs →
    Each R xs ys → Each R xs zs → ys ≡ zs
each_unique_where Q f h none none = refl
each_unique_where Q f h (more {x = x} r e) (more q d) =
    let p = f x _ _ h.0 r q in let t = each_unique_where Q f h.1 e d in cc

-- if each step has one result, a chain has one
pub chain_unique : {X A : Type 0} {R : X → A → A → Type 0} → ((x : X) (a b c : A) → R x a b → R x a c → b ≡ c) →
    {xs : List X} {a b c : A} → Chain R xs a b → Chain R xs a c → b ≡ c
chain_unique f done done = refl
chain_unique {R = R} f (step {x = x} {xs = xs} {b = b} {c = c} r e) (step q d) =
    chain_unique f (subst (λ z. Chain R xs z c) (f x _ _ _ r q) e) d

-- ---- built from the front to the back, as a loop does
-- the result for two lists together is that for the first, and then that for the second
pub each_append : {X Y : Type 0} {R : X → List Y → Type 0} {xs us : List X} {ys vs : List Y} → Each R xs ys → Each R us vs → Each R (xs ++ us) (ys ++ vs)
each_append none d = d
each_append {R = R} {us = us} {vs = vs} (more {x = x} {xs = xs} {ys = ys} {zs = zs} r e) d =
    subst (λ l. Each R (x ∷ xs ++ us) l) (sym (append_assoc ys zs vs)) (more r (each_append e d))

-- one more member at the end, with what it gives
pub each_push : {X Y : Type 0} {R : X → List Y → Type 0} {xs : List X} {ys : List Y} {u : X} {vs : List Y} →
    Each R xs ys → R u vs → Each R (xs ++ u ∷ []) (ys ++ vs)
each_push {R = R} {xs = xs} {ys = ys} {u = u} {vs = vs} e r =
    subst (λ l. Each R (xs ++ u ∷ []) (ys ++ l)) (append-nil vs) (each_append e (more r none))

-- a chain behind a chain is a chain
pub chain_append : {X A : Type 0} {R : X → A → A → Type 0} {xs us : List X} {a b c : A} → Chain R xs a b → Chain R us b c → Chain R (xs ++ us) a c
chain_append done d = d
chain_append (step r e) d = step r (chain_append e d)

-- one more step at the end of a chain
pub chain_push : {X A : Type 0} {R : X → A → A → Type 0} {xs : List X} {u : X} {a b c : A} → Chain R xs a b → R u b c → Chain R (xs ++ u ∷ []) a c
chain_push e r = chain_append e (step r done)

-- ---- what holds of all members
-- what holds of all members of two lists holds of all members of both together
pub every_append : {X : Type 0} (P : X → Type 0) (xs ys : List X) → Every P xs → Every P ys → Every P (xs ++ ys)
every_append P [] ys h k = k
every_append P (x ∷ xs) ys h k = (h.0, every_append P xs ys h.1 k)

-- what follows for each member follows for all
pub every_map : {X : Type 0} (P Q : X → Type 0) → ((x : X) → P x → Q x) → (xs : List X) → Every P xs → Every Q xs
every_map P Q f [] h = tt
every_map P Q f (x ∷ xs) h = (f x h.0, every_map P Q f xs h.1)

-- nothing is asked of any member
pub every_unit : {X : Type 0} (xs : List X) → Every (λ x. Unit {0}) xs
every_unit [] = tt
every_unit (x ∷ xs) = (tt, every_unit xs)

-- what each member gives by one relation, it gives by another
pub each_map : {X Y : Type 0} {R S : X → List Y → Type 0} → ((x : X) (ys : List Y) → R x ys → S x ys) →
    {xs : List X} {ys : List Y} → Each R xs ys → Each S xs ys
each_map f none = none
each_map f (more {x = x} {ys = ys} r e) = more (f x ys r) (each_map f e)

-- ---- sums
-- if each member of xs gives g of it to the count, the list made has the sum
pub each_count : {X Y : Type 0} {R : X → List Y → Type 0} (p : Y → Bool) (g : X → ℕ) (Q : X → Type 0) (P : Y → Type 0) →
    ((x : X) (ys : List Y) → Q x → R x ys → Every P ys × (count_by p ys ≡ g x)) → {xs : List X} {ys : List Y} →
    Each R xs ys → Every Q xs → Every P ys × (count_by p ys ≡ sum_by g xs)
each_count p g Q P f none q = (tt, refl)
each_count p g Q P f (more {x = x} {xs = xs} {ys = ys} {zs = zs} r e) q =
    let h = f x ys q.0 r in let k = each_count p g Q P f e q.1 in
    (every_append P ys zs h.0 k.0, sum_by-append (λ y. cond (p y) 1 0) ys zs ∙ cc (sum_by-cons g x xs, h.1, k.1))

-- what each step keeps, the chain keeps; a is a state before it
pub chain_keeps : {X A : Type 0} {R : X → A → A → Type 0} (B : X → Type 0) (Q : A → A →
    Type 0) (a : A) {xs : List X} {b c : A} → Every B xs → Q a b → ((x : X) (b c : A) → B x → Q a b → R x b c → Q a c) →
    Chain R xs b c → Q a c
chain_keeps B Q a h q f done = q
chain_keeps B Q a h q f (step {x = x} {a = s} {b = t} r e) = chain_keeps B Q a h.1 (f x s t h.0 q r) f e

-- what holds at each place holds of each member
pub every_from : {X : Type 0} (P : X → Type 0) (xs : List X) → ((j : ℕ) (x : X) → slice_get xs j ≡ Some x → P x) → Every P xs
every_from P [] h = tt
every_from P (x ∷ xs) h = (h 0 x refl, every_from P xs (λ j y e. h (suc j) y e))
