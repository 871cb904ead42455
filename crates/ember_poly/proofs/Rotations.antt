-- A ring ring_turned_by_one by any number of sides, and begun at any corner.
use Rattle.std.proofs.Common.{List, [], ◌∷◌, ◌++◌}
use Rattle.std.proofs.lemmas.List.{append-nil, append_assoc}
use Rattle.std.specs.List.{AllByRecursion}
use Rattle.ember_model.specs.declared.plane.Plane.{Plane}
use Rattle.ember_poly.specs.Rings.{Side, IsConvexRing}
use Rattle.ember_poly.proofs.Chains.{ring_turned_by_one, each-front, each-back}

-- a convex ring stays one if it starts at another side
pub turned_by : (n : Plane) (xs ys : List Side) → IsConvexRing n (xs ++ ys) → IsConvexRing n (ys ++ xs)
turned_by n [] ys h = rw (append-nil ys) h
turned_by n (x ∷ xs) ys h =
    let a : IsConvexRing n ((xs ++ ys) ++ x ∷ []) = ring_turned_by_one n x (xs ++ ys) h in
    let b : IsConvexRing n (xs ++ (ys ++ x ∷ [])) = rw (← append_assoc xs ys (x ∷ [])) a in
    let c : IsConvexRing n ((ys ++ x ∷ []) ++ xs) = turned_by n xs (ys ++ x ∷ []) b in
    rw (append_assoc ys (x ∷ []) xs) at c

-- what holds of both lists holds of them together
pub each-join : {X : Type 0} (P : X → Type 0) (xs ys : List X) → AllByRecursion P xs → AllByRecursion P ys → AllByRecursion P (xs ++ ys)
each-join P [] ys h k = k
each-join P (x ∷ xs) ys h k = (h.0, each-join P xs ys h.1 k)

-- what holds of two lists together holds in the other order
pub each-turned : {X : Type 0} (P : X → Type 0) (xs ys : List X) → AllByRecursion P (xs ++ ys) → AllByRecursion P (ys ++ xs)
each-turned P xs ys h = each-join P ys xs (each-back P xs ys h) (each-front P xs ys h)
