-- Members of two lists that are put into one.
use Rattle.std.proofs.Common.{◌⊎◌, ⊎_elim, inl, inr, List, [], ◌∷◌, ◌++◌}
use Rattle.ember_model.proofs.SignTests.{In}

-- a member of the first list is one of both together
pub in_append_left : {X : Type 0} (x : X) (xs ys : List X) → In x xs → In x (xs ++ ys)
in_append_left x [] ys m = absurd m
in_append_left x (y ∷ xs) ys (inl e) = inl e
in_append_left x (y ∷ xs) ys (inr m) = inr (in_append_left x xs ys m)

-- a member of the second list is one of both together
pub in_append_right : {X : Type 0} (x : X) (xs ys : List X) → In x ys → In x (xs ++ ys)
in_append_right x [] ys m = m
in_append_right x (y ∷ xs) ys m = inr (in_append_right x xs ys m)

-- a member of two lists together is in one of them
pub in_append_out : {X : Type 0} (x : X) (xs ys : List X) → In x (xs ++ ys) → In x xs ⊎ In x ys
in_append_out x [] ys m = inr m
in_append_out x (y ∷ xs) ys (inl e) = inl (inl e)
in_append_out x (y ∷ xs) ys (inr m) = ⊎_elim (λ l. inl (inr l)) (λ r. inr r) (in_append_out x xs ys m)
