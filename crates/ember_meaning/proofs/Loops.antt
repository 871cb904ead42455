-- Round the rectangle the legs over its sides add up to 0, so just after each point edges run on as often as back.
use Rattle.std.proofs.Common.{◌≡◌, ◌≢◌, ⊎_elim, refl, sym, ap, ◌∙◌, arith, false, List, [], ◌∷◌, map, ℤ, pos, negsuc, ◌+ℤ◌, ◌*ℤ◌, ◌<ℤ◌, le_refl}
use borrow.Author.Differences.{ints}
use Rattle.std.specs.List.{AllByRecursion, flat_map}
use Rattle.ember_algebra.specs.Vector.{Vector}
use Rattle.ember_algebra.specs.Large.{Eventually}
use Rattle.ember_algebra.specs.Sign.{sign}
use Rattle.ember_algebra.specs.Sums.{total}
use Rattle.ember_algebra.proofs.Laws.{linear}
use Rattle.ember_algebra.proofs.Order.{zero_product, zero_from_sign}
use Rattle.ember_algebra.proofs.Large.{eventually_both, eventually_map}
use Rattle.ember_algebra.proofs.Sums.{total-flat_map, total-scale}
use Rattle.ember_model.specs.declared.point.Spot.{Spot}
use Rattle.ember_model.specs.declared.point.Axis.{Axis}
use Rattle.ember_model.specs.declared.point.Axis.TheVariants.{X, Y, Z}
use Rattle.ember_model.specs.declared.tri.Tri.{Tri}
use Rattle.ember_model.specs.declared.face.Face.{Face}
use Rattle.ember_model.specs.Points.{DifferAlong}
use Rattle.ember_model.specs.FaceFiles.{WrittenFace}
use Rattle.ember_law.specs.Counts.{leg_wind}
use Rattle.ember_law.proofs.Paths.{along_itself}
use Rattle.ember_meaning.specs.Closed.Chains.{DirectedEdge, is_zero_vector, coverage, IsEvenlyCovered, directed_edges, face_from, IsOutlined, AxesAgreeOffScene}
use Rattle.ember_meaning.proofs.RectangleRound.{ahead, IsOffEnds, component, next, corner, loop}
use Rattle.ember_meaning.proofs.PointAhead.{has_component}
use Rattle.ember_meaning.proofs.ClearRectangle.{IsReadyFace, IsReady, ready_ahead, IsClearCorner, clear_corner}
use Rattle.ember_meaning.proofs.EdgeForm.{outline_form}
use Rattle.ember_meaning.proofs.FaceLoop.{face_loop}

-- ---- the corners of a side
side_second : (c : Axis) (t : Spot) (m sa sb sc : ℤ) → DifferAlong (next (next c)) (corner c t m sa sb) (corner c t m sa sc)
side_second X t m sa sb sc = (refl, refl)
side_second Y t m sa sb sc = (refl, refl)
side_second Z t m sa sb sc = (refl, refl)

side_first : (c : Axis) (t : Spot) (m sa sb sc : ℤ) → DifferAlong (next c) (corner c t m sa sb) (corner c t m sc sb)
side_first X t m sa sb sc = (refl, refl)
side_first Y t m sa sb sc = (refl, refl)
side_first Z t m sa sb sc = (refl, refl)

-- ---- all faces
-- the sums over the faces of their legs over the four sides
loops_are_legs : (c : Axis) (t : Spot) (m : ℤ) (fs : List Face) →
    total (loop c t m) fs ≡ leg_wind fs (corner c t m (pos 1) (negsuc 0)) (corner c t m (pos 1) (pos 1)) +ℤ leg_wind fs
    (corner c t m (pos 1) (pos 1)) (corner c t m (negsuc 0) (pos 1)) +ℤ leg_wind fs (corner c t m (negsuc 0) (pos 1))
    (corner c t m (negsuc 0) (negsuc 0)) +ℤ leg_wind fs (corner c t m (negsuc 0) (negsuc 0))
    (corner c t m (pos 1) (negsuc 0))
loops_are_legs c t m [] = refl
loops_are_legs c t m (f ∷ fs) = let r = loops_are_legs c t m fs in omega (arith, linear, r)

-- if all axes count alike at the corners, they cancel
loops_cancel : (ts : List Tri) (ws : List WrittenFace) (c : Axis) (t : Spot) (m : ℤ) →
    AxesAgreeOffScene ts (map face_from ws) → IsClearCorner ts ws (corner c t m (pos 1) (negsuc 0)) →
    IsClearCorner ts ws (corner c t m (pos 1) (pos 1)) → IsClearCorner ts ws (corner c t m (negsuc 0) (pos 1)) →
    IsClearCorner ts ws (corner c t m (negsuc 0) (negsuc 0)) → total (loop c t m) (map face_from ws) ≡ pos 0
loops_cancel ts ws c t m agree k1 k2 k3 k4 =
    let fs = map face_from ws in let a = next c in let b = next (next c) in
    let p1 = corner c t m (pos 1) (negsuc 0) in let p2 = corner c t m (pos 1) (pos 1) in let p3 =
    corner c t m (negsuc 0) (pos 1) in let p4 = corner c t m (negsuc 0) (negsuc 0) in
    let s1 = along_itself b p1 p2 fs k1.weight k2.weight (side_second c t m (pos 1) (negsuc 0) (pos 1)) k1.faces k2.faces in
    let s2 = along_itself a p2 p3 fs k2.weight k3.weight (side_first c t m (pos 1) (pos 1) (negsuc 0)) k2.faces k3.faces in
    let s3 = along_itself b p3 p4 fs k3.weight k4.weight (side_second c t m (negsuc 0) (pos 1) (negsuc 0)) k3.faces k4.faces in
    let s4 = along_itself a p4 p1 fs k4.weight k1.weight (side_first c t m (negsuc 0) (negsuc 0) (pos 1)) k4.faces k1.faces in
    let e1 = agree a b p1 k1.weight k1.scene k1.faces in let e2 = agree a b p2 k2.weight k2.scene k2.faces in
    let e3 = agree a b p3 k3.weight k3.scene k3.faces in let e4 = agree a b p4 k4.weight k4.scene k4.faces in
    loops_are_legs c t m fs ∙ omega (arith, linear, s1, s2, s3, s4, e1, e2, e3, e4)

-- ---- one number for all
-- the coverage of x by the edges of a face
abbrev covered : Spot → Vector → WrittenFace → ℤ
covered x d w = total (coverage x d) (directed_edges w.edges)

module _ (x : Spot) (d : Vector) (ts : List Tri) (t : Spot) (c : Axis) (direction : is_zero_vector d ≡ false)
    (nc : component d c ≢ pos 0) (heavy : pos 0 <ℤ t.w) where
  same_covers : (es : List DirectedEdge) → AllByRecursion (λ e. (coverage x d e ≡ coverage t d e) × IsOffEnds d t e) es
      → total (coverage t d) es ≡ total (coverage x d) es
  same_covers [] h = refl
  same_covers (e ∷ es) h = let p = h.0.0 in let r = same_covers es h.1 in omega (arith, linear, p, r)

  off_ends : (es : List DirectedEdge) → AllByRecursion (λ e. (coverage x d e ≡ coverage t d e) × IsOffEnds d t e) es → AllByRecursion (λ e. IsOffEnds d t e) es
  off_ends [] h = tt
  off_ends (e ∷ es) h = (h.0.1, off_ends es h.1)

  -- the loop of a face is its coverage, with the sign of d along c
  loop_covers : (w : WrittenFace) → IsOutlined w → IsReadyFace x d t w →
      Eventually (λ m. loop c t (pos m) (face_from w) ≡ sign (component d c) *ℤ covered x d w)
  loop_covers w line r =
      let form = sym (outline_form d t w heavy direction r.planes line (off_ends (directed_edges w.edges) r.edges))
      ∙ same_covers (directed_edges w.edges) r.edges in
      eventually_map (λ m e. e ∙ ap (λ (z : ℤ). sign (component d c) *ℤ z) form) (face_loop c d t w heavy nc r.planes line)

  loops_cover : (ws : List WrittenFace) → AllByRecursion IsOutlined ws → AllByRecursion (λ w. IsReadyFace x d t w) ws →
      Eventually (λ m. total (loop c t (pos m)) (map face_from ws) ≡ total (λ w. sign (component d c) *ℤ covered x d w)
      ws)
  loops_cover [] lines r = record { from = 0; holds = λ m l. refl }
  loops_cover (w ∷ ws) lines r =
      eventually_map (λ m h. λ i. h.0 i +ℤ h.1 i) (eventually_both (loop_covers w lines.0 r.0) (loops_cover ws lines.1 r.1))

  -- beside t, which is ready, the coverage adds up to 0
  covers_cancel : (ws : List WrittenFace) → AllByRecursion IsOutlined ws → IsReady x d ts ws t →
      AxesAgreeOffScene ts (map face_from ws) → total (covered x d) ws ≡ pos 0
  covers_cancel ws lines ready agree =
      let at = λ (sa sb : ℤ). λ (na : sa ≢ pos 0). λ (nb : sb ≢ pos 0). clear_corner x d t c sa sb heavy nc na nb ts ws lines ready in
      let one : pos 1 ≢ pos 0 = λ e. omega (arith, ints, e) in let minus : negsuc 0 ≢ pos 0 = λ e. omega (arith, ints, e) in
      let all = eventually_both (at (pos 1) (negsuc 0) one minus)
      (eventually_both (at (pos 1) (pos 1) one one)
      (eventually_both (at (negsuc 0) (pos 1) minus one)
      (eventually_both (at (negsuc 0) (negsuc 0) minus minus) (loops_cover ws lines ready.faces)))) in
      let h = all.holds all.from (le_refl all.from) in
      let zero = sym (total-scale (sign (component d c)) (covered x d) ws) ∙ sym h.1.1.1.1
      ∙ loops_cancel ts ws c t (pos all.from) agree h.0 h.1.0 h.1.1.0 h.1.1.1.0 in
      ⊎_elim (λ z. absurd (nc (zero_from_sign (component d c) z))) (λ z. z) (zero_product zero)

-- faces that wind alike along all axes cover each place evenly
pub agreeing_faces_cover_evenly : (ts : List Tri) (ws : List WrittenFace) → AllByRecursion IsOutlined ws →
    AxesAgreeOffScene ts (map face_from ws) → IsEvenlyCovered (flat_map (λ w. directed_edges w.edges) ws)
agreeing_faces_cover_evenly ts ws lines agree x d weight direction =
    let c = has_component d direction in let e = ready_ahead x d weight direction ts ws lines in let r = e.holds e.from (le_refl e.from) in
    total-flat_map (coverage x d) (λ w. directed_edges w.edges) ws
    ∙ covers_cancel x d ts (ahead x d (pos e.from)) c.axis direction c.nonzero r.weight ws lines r agree
