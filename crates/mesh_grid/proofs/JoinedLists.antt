-- What holds of all entries of joined lists
use Rattle.std.proofs.Common.{List, [], ◌∷◌, ◌++◌, Option, Some, None, map}
use Rattle.std.specs.List.{All, flat_map}
use Rattle.std.specs.Option.{option_to_list, IfSome}
use Rattle.std.proofs.lemmas.List.Elements.{All-nil, All-cons, All-head, All-tail, All-append}

all_left : {U : Type 0} (P : U → Type 0) (xs ys : List U) → All P (xs ++ ys) → All P xs
all_left P [] ys h = All-nil P
all_left P (x ∷ xs) ys h =
    All-cons P x xs (All-head P x (xs ++ ys) h) (all_left P xs ys (All-tail P x (xs ++ ys) h))

all_right : {U : Type 0} (P : U → Type 0) (xs ys : List U) → All P (xs ++ ys) → All P ys
all_right P [] ys h = h
all_right P (x ∷ xs) ys h = all_right P xs ys (All-tail P x (xs ++ ys) h)

pub all_out : {U V : Type 0} (P : V → Type 0) (f : U → List V) (us : List U) → All P (flat_map f us) → All (λ u. All P (f u)) us
all_out P f [] h = All-nil (λ u. All P (f u))
all_out P f (u ∷ us) h =
    All-cons (λ u. All P (f u)) u us (all_left P (f u) (flat_map f us) h) (all_out P f us (all_right P (f u) (flat_map f us) h))

pub all_in : {U V : Type 0} (P : V → Type 0) (f : U → List V) (us : List U) → All (λ u. All P (f u)) us → All P (flat_map f us)
all_in P f [] h = All-nil P
all_in P f (u ∷ us) h =
    All-append P (f u) (flat_map f us) (All-head (λ u. All P (f u)) u us h) (all_in P f us (All-tail (λ u. All P (f u)) u us h))

pub all_mapped : {U V : Type 0} (P : V → Type 0) (f : U → V) (us : List U) → All P (map f us) → All (λ u. P (f u)) us
all_mapped P f [] h = All-nil (λ u. P (f u))
all_mapped P f (u ∷ us) h =
    All-cons (λ u. P (f u)) u us (All-head P (f u) (map f us) h) (all_mapped P f us (All-tail P (f u) (map f us) h))

pub one_out : {V : Type 0} (P : V → Type 0) (o : Option V) → All P (option_to_list o) → IfSome o P
one_out P None h = tt
one_out P (Some v) h = All-head P v [] h

pub one_in : {V : Type 0} (P : V → Type 0) (o : Option V) → IfSome o P → All P (option_to_list o)
one_in P None h = All-nil P
one_in P (Some v) h = All-cons P v [] h (All-nil P)
