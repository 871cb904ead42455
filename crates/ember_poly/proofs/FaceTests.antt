-- The tests of a face's points, and the same as facts on each plane.
use Rattle.std.proofs.Common.{◌≡◌, refl, Bool, true, not, ◌&&◌, List, [], ◌∷◌, pos}
use Rattle.std.specs.List.{list_all, AllByRecursion}
use Rattle.std.proofs.lemmas.Bool.{and_parts}
use Rattle.ember_algebra.specs.Sign.{is_negative, is_zero, is_positive}
use Rattle.ember_model.specs.declared.plane.Plane.{Plane}
use Rattle.ember_model.specs.declared.point.Spot.{Spot}
use Rattle.ember_model.specs.declared.face.Face.{Face}
use Rattle.ember_model.specs.Planes.{value_at}
use Rattle.ember_model.specs.Faces.{is_inside, is_in_closed}
use Rattle.ember_model.specs.Edges.{is_on_edge}
use Rattle.ember_model.proofs.SignTests.{negative_in, negative_out, positive_in, positive_out, not_positive_in, not_positive_out, zero_out}
use Rattle.ember_model.proofs.SignTests.{zero_in}
use Rattle.ember_poly.specs.Rings.{IsBelow, IsNotAbove, InFace, InClosedFace}

and_in : {a b : Bool} → a ≡ true → b ≡ true → (a && b) ≡ true
and_in p q = rw (p, q) refl

-- the test answers true of a point that is above none of the planes
pub all_in : (gs : List Plane) (v : Spot) → AllByRecursion (λ g. IsNotAbove g v) gs → list_all (λ g. not (is_positive (value_at g v))) gs ≡ true
all_in [] v h = refl
all_in (g ∷ gs) v h = and_in (not_positive_in (value_at g v) h.0.at_most) (all_in gs v h.1)

-- a point that passes the test is above none of the planes
pub all_out : (gs : List Plane) (v : Spot) → list_all (λ g. not (is_positive (value_at g v))) gs ≡ true → AllByRecursion (λ g. IsNotAbove g v) gs
all_out [] v e = tt
all_out (g ∷ gs) v e =
    let p = and_parts (not (is_positive (value_at g v))) (list_all (λ g. not (is_positive (value_at g v))) gs) e in
    (record { at_most = not_positive_out (value_at g v) p.0 }, all_out gs v p.1)

-- the test answers true of a point of the closed face
pub closed_in : (f : Face) (v : Spot) → InClosedFace f.support f.edges v → is_in_closed f v ≡ true
closed_in f v h = and_in (positive_in h.weight) (and_in (zero_in h.flat) (all_in f.edges v h.within))

-- a point that passes the test is in the closed face
pub closed_out : (f : Face) (v : Spot) → is_in_closed f v ≡ true → InClosedFace f.support f.edges v
closed_out f v e =
    let p = and_parts (is_positive v.w) (is_zero (value_at f.support v) && list_all (λ g. not (is_positive (value_at g v))) f.edges) e in
    let q = and_parts (is_zero (value_at f.support v)) (list_all (λ g. not (is_positive (value_at g v))) f.edges) p.1 in
    record { flat = zero_out (value_at f.support v) q.0; weight = positive_out v.w p.0; within = all_out f.edges v q.1 }

-- ---- inside points
all_under_in : (gs : List Plane) (v : Spot) → AllByRecursion (λ g. IsBelow g v) gs → list_all (λ g. is_negative (value_at g v)) gs ≡ true
all_under_in [] v h = refl
all_under_in (g ∷ gs) v h = and_in (negative_in h.0.under) (all_under_in gs v h.1)

all_under_out : (gs : List Plane) (v : Spot) → list_all (λ g. is_negative (value_at g v)) gs ≡ true → AllByRecursion (λ g. IsBelow g v) gs
all_under_out [] v e = tt
all_under_out (g ∷ gs) v e =
    let p = and_parts (is_negative (value_at g v)) (list_all (λ g. is_negative (value_at g v)) gs) e in
    (record { under = negative_out (value_at g v) p.0 }, all_under_out gs v p.1)

-- the test answers true of an inside point
pub inside_in : (f : Face) (v : Spot) → InFace f.support f.edges v → is_inside f v ≡ true
inside_in f v h = and_in (positive_in h.weight) (and_in (zero_in h.flat) (all_under_in f.edges v h.within))

-- a point that passes the test is inside the face
pub inside_out : (f : Face) (v : Spot) → is_inside f v ≡ true → InFace f.support f.edges v
inside_out f v e =
    let p = and_parts (is_positive v.w) (is_zero (value_at f.support v) && list_all (λ g. is_negative (value_at g v)) f.edges) e in
    let q = and_parts (is_zero (value_at f.support v)) (list_all (λ g. is_negative (value_at g v)) f.edges) p.1 in
    record { flat = zero_out (value_at f.support v) q.0; weight = positive_out v.w p.0; within = all_under_out f.edges v q.1 }

-- ---- edges
-- a point of the closed face at which an edge plane is 0 is on the edge
pub edge_in : (f : Face) (g : Plane) (v : Spot) → InClosedFace f.support f.edges v → value_at g v ≡ pos 0 → is_on_edge f g v ≡ true
edge_in f g v h e = and_in (closed_in f v h) (zero_in e)

pub record OnEdge (f : Face) (g : Plane) (v : Spot) : Type 0 where
  pub closed : InClosedFace f.support f.edges v
  pub zero : value_at g v ≡ pos 0

-- a point that passes the test is on the edge
pub edge_out : (f : Face) (g : Plane) (v : Spot) → is_on_edge f g v ≡ true → OnEdge f g v
edge_out f g v e =
    let p = and_parts (is_in_closed f v) (is_zero (value_at g v)) e in
    record { closed = closed_out f v p.0; zero = zero_out (value_at g v) p.1 }
