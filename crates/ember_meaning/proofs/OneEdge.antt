-- At a point whose planes contain a line at most one edge of a face is met.
use Rattle.std.proofs.Common.{◌≡◌, ◌≢◌, ◌⊎◌, inl, inr, ⊎_elim, refl, arith, true, List, [], ◌∷◌, pos}
use Rattle.std.specs.List.{AllByRecursion}
use Rattle.ember_algebra.specs.Vector.{Vector, zero_v}
use Rattle.ember_algebra.proofs.Laws.{linear}
use Rattle.ember_algebra.proofs.Order.{by_sign}
use Rattle.ember_algebra.proofs.Booleans.{same_test}
use Rattle.ember_model.specs.declared.plane.Plane.{Plane}
use Rattle.ember_model.specs.declared.point.Spot.{Spot}
use Rattle.ember_model.specs.declared.face.Face.{Face}
use Rattle.ember_model.specs.Planes.{value_at}
use Rattle.ember_model.specs.Edges.{RingEdge, SameEdge, HaveDistinctEdges, normal, is_on_edge}
use Rattle.ember_model.specs.Points.{displacement}
use Rattle.ember_poly.specs.Rings.{IsBelow, IsNotAbove, InClosedFace}
use Rattle.ember_poly.proofs.Chains.{each_both}
use Rattle.ember_poly.proofs.FaceTests.{edge_in, edge_out}
use Rattle.ember_poly.proofs.OutlinePoints.{Ended}
use Rattle.ember_meaning.proofs.RectangleRound.{IsGeneral}
use Rattle.ember_meaning.proofs.Displacements.{zero_carried, parallel_orthogonal}
use Rattle.ember_meaning.proofs.EdgeForm.{on_line}

-- ---- two edges that are met at t are one
module _ (f : Face) (d : Vector) (t : Spot) (nd : d ≢ zero_v) (support : IsGeneral d t f.support) (closed : InClosedFace f.support f.edges t) where
  -- the points of e's edge are on a plane that contains the line
  carried : (e : RingEdge) → Ended f e → IsGeneral d t e.plane → value_at e.plane t ≡ pos 0 → (h : Plane) →
      IsGeneral d t h → value_at h t ≡ pos 0 → (v : Spot) → is_on_edge f e.plane v ≡ true → is_on_edge f h v ≡ true
  carried e p ge ze h gh zh v on =
      let o = edge_out f e.plane v on in
      let l = on_line f e p.end p.is d t closed.weight nd (support.contains closed.flat) (ge.contains ze) t
      (record { closed = closed; zero = ze }) v o.closed.flat o.zero in
      edge_in f h v o.closed (zero_carried h t v closed.weight zh (parallel_orthogonal (normal h) (displacement t v) d nd l (gh.contains zh)))

  -- edges that are met at t are one
  met_edges_are_one : (e b : RingEdge) → Ended f e → Ended f b → IsGeneral d t e.plane → IsGeneral d t b.plane →
      value_at e.plane t ≡ pos 0 → value_at b.plane t ≡ pos 0 → SameEdge f e.plane b.plane
  met_edges_are_one e b p q ge gb ze zb v =
      same_test (is_on_edge f e.plane v) (is_on_edge f b.plane v) (carried e p ge ze b.plane gb zb v) (carried b q gb zb e.plane ge ze v)

-- an edge of f that t isn't beyond, whose plane contains the line where it is met
pub record EdgeAt (f : Face) (d : Vector) (t : Spot) (e : RingEdge) : Type 0 where
  pub end : Ended f e
  pub general : IsGeneral d t e.plane
  pub at_most : IsNotAbove e.plane t

-- t is on the plane g, which is that of one edge, and below those of all others
abbrev pub IsOnlyMet : Spot → Plane → List RingEdge → Type 0
IsOnlyMet t g [] = ⊥
IsOnlyMet t g (e ∷ es) =
    ((e.plane ≡ g) × (value_at g t ≡ pos 0) × AllByRecursion (λ b. IsBelow b.plane t) es) ⊎ (IsBelow e.plane t × IsOnlyMet t g es)

pub record OneMet (t : Spot) (es : List RingEdge) : Type 0 where
  pub plane : Plane
  pub only : IsOnlyMet t plane es

-- in the closed face t is below all edge planes, or on one
pub edges_met : (f : Face) (d : Vector) (t : Spot) → d ≢ zero_v → IsGeneral d t f.support →
    InClosedFace f.support f.edges t → (es : List RingEdge) → AllByRecursion (λ e. EdgeAt f d t e) es →
    HaveDistinctEdges f es → AllByRecursion (λ e. IsBelow e.plane t) es ⊎ OneMet t es
edges_met f d t nd support closed [] known apart = inl tt
edges_met f d t nd support closed (e ∷ es) known apart =
    by_sign (value_at e.plane t)
    (λ l. absurd (let m = known.0.at_most.at_most in omega (arith, linear, l, m)))
    (λ z. inr (record {
      plane = e.plane;
      only = inl (
        refl,
        z,
        each_both (λ b. EdgeAt f d t b) (λ b. SameEdge f e.plane b.plane →
            ⊥) (λ b. IsBelow b.plane t) es (other z) known.1 apart.0,
      );
    }))
    (λ l. ⊎_elim (λ us. inl (record { under = l }, us))
    (λ o. inr (record { plane = o.plane; only = inr (record { under = l }, o.only) }))
    (edges_met f d t nd support closed es known.1 apart.1))
  where
    other : value_at e.plane t ≡ pos 0 → (b : RingEdge) → EdgeAt f d t b → (SameEdge f e.plane b.plane → ⊥) → IsBelow b.plane t
    other z b k different =
        by_sign (value_at b.plane t)
        (λ l. absurd (let m = k.at_most.at_most in omega (arith, linear, l, m)))
        (λ zb. absurd (different (met_edges_are_one f d t nd support closed e b known.0.end k.end known.0.general k.general z zb)))
        (λ l. record { under = l })
