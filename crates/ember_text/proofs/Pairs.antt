-- Edge planes with their start corners, place by place.
use Rattle.std.proofs.Common.{◌≡◌, refl, sym, ap, ◌∙◌, arith, ℕ, zero, suc, ◌<◌, List, [], ◌∷◌, length}
use lib.ListN.{get_or}
use Rattle.ember_model.specs.declared.plane.Plane.{Plane}
use Rattle.ember_model.specs.Edges.{RingEdge}
use Rattle.ember_model.specs.Planes.{zero_plane}
use Rattle.ember_point.specs.declared.meet_point.Meet.{Meet}
use Rattle.ember_point.specs.Points.{spot_of}
use Rattle.ember_poly.specs.Sides.{ring_edges}
use Rattle.ember_text.specs.Texts.{edge_with}

-- there are as many edges with corners as edges
pub length-ring_edges : (es : List Plane) (ms : List Meet) → length ms ≡ length es → length (ring_edges spot_of es ms) ≡ length es
length-ring_edges [] ms p = refl
length-ring_edges (e ∷ es) [] p = absurd (omega (arith, p))
length-ring_edges (e ∷ es) (m ∷ ms) p = ap (λ n. suc n) (length-ring_edges es ms (omega (arith, p)))

ring_get : (es : List Plane) (ms : List Meet) (i : ℕ) (d : RingEdge) (e : Plane) (m : Meet) → length ms ≡ length es →
    i < length es → get_or (ring_edges spot_of es ms) i d ≡ record { plane = get_or es i e; start = spot_of (get_or ms i m) }
ring_get [] ms i d e m p l = absurd (omega (arith, l))
ring_get (f ∷ es) [] i d e m p l = absurd (omega (arith, p))
ring_get (f ∷ es) (u ∷ ms) zero d e m p l = refl
ring_get (f ∷ es) (u ∷ ms) (suc i) d e m p l = ring_get es ms i d e m (omega (arith, p)) (omega (arith, l))

-- the edge with index i has the plane and the corner with index i
pub ring_at : (es : List Plane) (ms : List Meet) (i : ℕ) (d : RingEdge) (m : Meet) → length ms ≡ length es →
    i < length es → m ≡ get_or ms i m → edge_with (get_or es i zero_plane) m ≡ get_or (ring_edges spot_of es ms) i d
ring_at es ms i d m p l h =
    ap (λ (u : Meet). edge_with (get_or es i zero_plane) u) h ∙ sym (ring_get es ms i d zero_plane m p l)
