-- Written triangles are closed if the triangles before rounding are
use Rattle.std.proofs.Common.{◌≡◌, Bool, true, false, cond, not, List, [], ◌∷◌, map, filter, get_or, refl, sym, ap, subst, ◌∙◌}
use Rattle.std.proofs.lemmas.Bool.{and_parts, eqb-true}
use Rattle.ember_model.specs.declared.plane.Plane.{Plane}
use Rattle.mesh_grid.specs.declared.snap.steps.GridStep.{GridStep}
use Rattle.mesh_grid.specs.declared.snap.offsets.Offset.{Offset}
use Rattle.mesh_write.specs.declared.stl.triangle.FloatPoint.{FloatPoint}
use Rattle.mesh_write.specs.declared.stl.triangle.FloatTriangle.{FloatTriangle}
use Rattle.mesh_certificate.specs.declared.key.lines.LineKey.{LineKey}
use Rattle.mesh_certificate.specs.declared.certificate.segment.Segment.{Segment}
use Rattle.mesh_point.specs.declared.space_point.SpacePoint.{SpacePoint}
use Rattle.mesh_certificate.specs.declared.certificate.triangle.Triangle.{Triangle}
use Rattle.mesh_certificate.specs.Certificate.Certificate.{leads_round, is_in_one_plane, IsProper, IsCertified}
use Rattle.mesh_written.specs.Triangles.{point_at, triangle_at, same_point, vanishes, kept, AreWritten}
use Rattle.mesh_written.specs.Closed.{AreRoundAndClosed, Positions, AreTrianglesClosed, positions_of, AreWrittenClosed}
use Rattle.mesh_written.proofs.Closings.{at_positions, map_keeps_closed}

-- ---- certified triangles
leads_on : (ps : List Plane) (cs : List SpacePoint) (t : Triangle) → IsProper ps cs t → leads_round t ≡ true
leads_on ps cs t h = (and_parts (leads_round t) (is_in_one_plane t) h.round).0

-- certified triangles are closed
pub certified_are_closed : (ps : List Plane) (ls : List LineKey) (cs : List SpacePoint) (faces : List Segment)
    (ts : List Triangle) → IsCertified ps ls cs faces ts → AreRoundAndClosed ts
certified_are_closed ps ls cs faces ts h = record {
  round = λ k d l. leads_on ps cs (get_or ts k d) (h.proper k d l);
  closed = h.closed;
}

-- ---- written triangles
pub one_point : (p q : FloatPoint) → same_point p q ≡ true → p ≡ q
one_point p q h =
    let s = and_parts _ _ h in
    let r = and_parts _ _ s.1 in
    let x = eqb-true p.x q.x s.0 in
    let y = eqb-true p.y q.y r.0 in
    let z = eqb-true p.z q.z r.1 in
    λ i. record { x = x i; y = y i; z = z i }

module _ (planes : List Plane) (points : List FloatPoint) where
  abbrev gone : Triangle → Bool
  gone t = vanishes (triangle_at planes points t)

  abbrev others : List Triangle → List Triangle
  others ts = filter (λ t. not (gone t)) ts

  -- the positions of the triangles that are kept
  kept_positions : (ts : List Triangle) → map positions_of (kept (map (triangle_at planes points) ts)) ≡ map (at_positions (point_at points)) (others ts)
  kept_positions [] = refl
  kept_positions (t ∷ ts) = by (gone t) (kept_positions ts)
    where
      by : (b : Bool) → map positions_of (kept (map (triangle_at planes points) ts)) ≡ map
          (at_positions (point_at points)) (others ts) →
          map positions_of (cond (not b) (triangle_at planes points t ∷ kept (map (triangle_at planes points) ts))
          (kept (map (triangle_at planes points) ts))) ≡ map (at_positions (point_at points))
          (cond (not b) (t ∷ others ts) (others ts))
      by true r = r
      by false r = ap (λ (us : List (Positions FloatPoint)). at_positions (point_at points) t ∷ us) r

  -- what is kept of closed triangles is closed
  pub kept_are_closed : (ts : List Triangle) (ws : List FloatTriangle) →
      ws ≡ kept (map (triangle_at planes points) ts) → AreRoundAndClosed ts → AreWrittenClosed ws
  kept_are_closed ts ws e h =
      subst (λ (us : List (Positions FloatPoint)). AreTrianglesClosed same_point us)
      (sym (ap (map positions_of) e ∙ kept_positions ts))
      (map_keeps_closed same_point (point_at points) one_point gone (λ t v. v) ts h)

-- the same, by the definition of written triangles
pub written_are_closed : (s : GridStep) (o : Offset) (planes : List Plane) (cs : List SpacePoint) (ts : List Triangle)
    (ws : List FloatTriangle) → AreWritten s o planes cs ts ws → AreRoundAndClosed ts → AreWrittenClosed ws
written_are_closed s o planes cs ts ws h closed = kept_are_closed planes h.points ts ws h.written closed
