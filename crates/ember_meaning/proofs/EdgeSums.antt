-- The turns of a face's edges at a point, added up.
use Rattle.std.proofs.Common.{◌≡◌, inl, inr, refl, ap, ◌∙◌, arith, Bool, true, false, cond, ◌&&◌, List, [], ◌∷◌, ℤ, pos, ◌<ℤ◌}
use Rattle.std.specs.List.{AllByRecursion}
use Rattle.ember_algebra.specs.Vector.{Vector, dot, cross}
use Rattle.ember_algebra.specs.Sign.{sign, is_zero, is_nil}
use Rattle.ember_algebra.specs.Sums.{total}
use Rattle.ember_algebra.proofs.Laws.{linear}
use Rattle.ember_algebra.proofs.Signs.{sgn_neg}
use Rattle.ember_algebra.proofs.Sums.{total_zero}
use Rattle.ember_model.specs.declared.plane.Plane.{Plane}
use Rattle.ember_model.specs.declared.point.Spot.{Spot}
use Rattle.ember_model.specs.declared.face.Face.{Face}
use Rattle.ember_model.specs.Planes.{value_at}
use Rattle.ember_model.specs.Faces.{is_in_closed}
use Rattle.ember_model.specs.Edges.{RingEdge, normal, is_on_edge}
use Rattle.ember_model.proofs.SignTests.{and_false}
use Rattle.ember_poly.specs.Rings.{IsBelow}
use Rattle.ember_meaning.proofs.RectangleRound.{edge_turn}
use Rattle.ember_meaning.proofs.OneEdge.{IsOnlyMet}

turn_off : (d : Vector) (t : Spot) (f : Face) (e : RingEdge) → is_on_edge f e.plane t ≡ false → edge_turn d t f e ≡ pos 0
turn_off d t f e h = ap (λ (b : Bool). cond b (sign (dot (cross (normal f.support) (normal e.plane)) d)) (pos 0)) h

-- off the closed face there are none
pub turns_off_face : (d : Vector) (t : Spot) (f : Face) (es : List RingEdge) → is_in_closed f t ≡ false → total (edge_turn d t f) es ≡ pos 0
turns_off_face d t f es h =
    total_zero (edge_turn d t f) (λ e. turn_off d t f e (ap (λ (b : Bool). b && is_zero (value_at e.plane t)) h)) es

-- nor below the edges
turn_under : (d : Vector) (t : Spot) (f : Face) (e : RingEdge) → IsBelow e.plane t → edge_turn d t f e ≡ pos 0
turn_under d t f e u = turn_off d t f e (and_false (is_in_closed f t) (is_zero (value_at e.plane t)) (nonzero u.under))
  where
    nonzero : {a : ℤ} → a <ℤ pos 0 → is_zero a ≡ false
    nonzero {a} l = ap is_nil (sgn_neg l)

-- the turns of a face's edges at a point below all their planes add up to 0
pub turns_under : (d : Vector) (t : Spot) (f : Face) (es : List RingEdge) → AllByRecursion (λ e. IsBelow e.plane t) es → total (edge_turn d t f) es ≡ pos 0
turns_under d t f [] us = refl
turns_under d t f (e ∷ es) us =
    let x = turn_under d t f e us.0 in let y = turns_under d t f es us.1 in omega (arith, linear, x, y)

-- where one edge is met its turn is their sum
pub turns_only_met : (d : Vector) (t : Spot) (f : Face) (g : Plane) (es : List RingEdge) → is_in_closed f t ≡ true →
    IsOnlyMet t g es → total (edge_turn d t f) es ≡ sign (dot (cross (normal f.support) (normal g)) d)
turns_only_met d t f g [] c o = absurd o
turns_only_met d t f g (e ∷ es) c (inl o) =
    let turn = sign (dot (cross (normal f.support) (normal g)) d) in
    let x : edge_turn d t f e ≡ turn = ap (λ (h : Plane). cond (is_on_edge f h t)
    (sign (dot (cross (normal f.support) (normal h)) d)) (pos 0)) o.0
    ∙ (λ i. cond (c i && is_zero (o.1 i)) turn (pos 0)) in
    let y = turns_under d t f es o.2 in omega (arith, linear, x, y)
turns_only_met d t f g (e ∷ es) c (inr o) =
    let x = turn_under d t f e o.0 in let y = turns_only_met d t f g es c o.1 in omega (arith, linear, x, y)
