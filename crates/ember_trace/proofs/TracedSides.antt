-- The counts that the paths to a region give are the winding numbers directly before and after it.
use Rattle.std.proofs.Common.{◌≡◌, refl, sym, ap, subst, ◌∙◌, arith, ℕ, ◌+◌, ◌<◌, ◌≤◌, true, List, All, map, get_or, Some, slice_get, ℤ, pos, ◌+ℤ◌, ◌-ℤ◌, ◌*ℤ◌, neg_ℤ, ◌≤ℤ◌, ◌<ℤ◌}
use Rattle.ember_algebra.specs.Vector.{Vector}
use Rattle.ember_algebra.specs.Size.{Small}
use Rattle.ember_algebra.specs.declared.Sign.{Sign}
use Rattle.ember_algebra.specs.Sign.{sgn, flip}
use Rattle.ember_algebra.proofs.Laws.{linear}
use Rattle.ember_algebra.proofs.Ring.{◌⊕◌, ◌⊖◌, ◌⊗◌, ◌≈◌, num, solve, cancels}
use Rattle.ember_model.specs.declared.point.Spot.{Spot}
use Rattle.ember_model.specs.declared.point.Axis.{Axis}
use Rattle.ember_model.specs.declared.point.Axis.TheVariants.{X, Y, Z}
use Rattle.ember_model.specs.declared.plane.Plane.{Plane}
use Rattle.ember_model.specs.declared.tri.Tri.{Tri}
use Rattle.ember_model.specs.declared.face.Face.{Face}
use Rattle.ember_model.specs.Planes.{value_at, along, main_axis, opposite}
use Rattle.ember_model.specs.Points.{DifferAlong}
use Rattle.ember_model.specs.Faces.{face_of, is_inside, leg}
use Rattle.ember_model.specs.Clear.{AreClear}
use Rattle.ember_model.specs.Meshes.{faces_of, vector}
use Rattle.ember_model.specs.Within.{IsTriWithin, normal_limit}
use Rattle.ember_model.specs.Sides.{IsSides}
use Rattle.ember_model.proofs.Hits.{inside_parts}
use Rattle.ember_model.proofs.PlaneValues.{value-opposite}
use Rattle.ember_law.specs.Counts.{added, leg_vector}
use Rattle.ember_law.proofs.FlatTriangles.{flat_leg}
use Rattle.ember_law.proofs.Tallies.{tally}
use Rattle.ember_law.proofs.Vectors.{balanced_axes, balanced_legs}
use Rattle.ember_width.specs.declared.width.Width.{Ghosts}
use Rattle.ember_width.specs.Scenes.{IsSceneWithin}
use Rattle.ember_box.specs.Boxes.{Cell, low, high}
use Rattle.ember_box.specs.Aabbs.{interval_between}
use Rattle.ember_box.specs.Near.{is_near}
use Rattle.ember_box.specs.Reference.{reference_beside, FitsWithin}
use Rattle.ember_box.specs.Regions.{walls, level}
use Rattle.ember_ref.specs.References.{or_sign}
use Rattle.ember_ref.specs.ClosedBoxes.{HasPoint, IsAcross}
use Rattle.ember_ref.proofs.NearPoints.{coordinate as along_point}
use Rattle.ember_ref.proofs.ReferenceLegs.{weight_beside}
use Rattle.ember_ref.proofs.FarTriangles.{legs_near}
use Rattle.ember_trace.specs.declared.near_triangle.NearTriangle.{NearTriangle}
use Rattle.ember_trace.specs.declared.region_sides.Sides.{Sides}
use Rattle.ember_trace.specs.NearTriangles.{AreNearTrianglesBeside, HasReferenceBeside}
use Rattle.ember_trace.specs.Paths.{Path, coordinate, first_of, second_of, side_at_end, IsPathTo}
use Rattle.ember_trace.specs.Crossings.{taken, segments_above_wall, last_segment, crossing_before, crossing_after, AreTracedBeside}
use Rattle.ember_trace.specs.Boxed.{LiesIn, AreSidesWithin}
use Rattle.ember_trace.proofs.Coordinates.{coordinate_small}
use Rattle.ember_trace.proofs.PathVertices.{entries, differ_with, differ_last}
use Rattle.ember_trace.proofs.VertexSides.{AreStops, stop_at_start, stop_after_first, stop_after_second, start_sign}
use Rattle.ember_trace.proofs.Corners.{AreFirst, first_corners, none_at}
use Rattle.ember_trace.proofs.SegmentCrossings.{IsEnd, differ_back, start_weight, first_legs, final_leg}
use Rattle.ember_trace.proofs.RegionEnds.{first_corners_found, far_out, stops_from, before_end, after_end}
use Rattle.ember_trace.proofs.ClearVertices.{generic_clear, has_with, has_start, start_generic, first_generic, second_generic, end_generic}
use Rattle.ember_trace.proofs.FarSegments.{last_far}
use Rattle.ember_trace.proofs.SomeSides.{vector_on_one_side}
use Rattle.ember_trace.proofs.MeshSums.{LeavesFlat, tally_kept, tally_both, taken_legs}

-- ---- in the box
-- a plane across an axis
level_value : (k : Axis) (h : ℤ) (v : Spot) → value_at (level k h) v ≡ along_point k v -ℤ h *ℤ v.w
level_value X h v = solve 5 (λ h x y z w. num (pos 1) ⊗ x ⊕ num (pos 0) ⊗ y ⊕ num (pos 0) ⊗ z ⊖ h ⊗ w ≈ x ⊖ h ⊗ w) cancels h v.x v.y v.z v.w
level_value Y h v = solve 5 (λ h x y z w. num (pos 0) ⊗ x ⊕ num (pos 1) ⊗ y ⊕ num (pos 0) ⊗ z ⊖ h ⊗ w ≈ y ⊖ h ⊗ w) cancels h v.x v.y v.z v.w
level_value Z h v = solve 5 (λ h x y z w. num (pos 0) ⊗ x ⊕ num (pos 0) ⊗ y ⊕ num (pos 1) ⊗ z ⊖ h ⊗ w ≈ z ⊖ h ⊗ w) cancels h v.x v.y v.z v.w

-- an inside point of a face that lies in a box is in the box
pub in_box : (c : Cell) (f : Face) (q : Spot) → LiesIn c f → is_inside f q ≡ true → HasPoint c q
in_box c f q l i =
    record {
      weight = (inside_parts f q i).0;
      on_x = across X (wall 0 _ refl) (wall 1 _ refl);
      on_y =
          across Y (wall 2 _ refl) (wall 3 _ refl);
      on_z = across Z (wall 4 _ refl) (wall 5 _ refl);
    }
  where
    wall : (j : ℕ) (p : Plane) → slice_get (map (λ w. w.plane) (walls c)) j ≡ Some p → value_at p q ≤ℤ pos 0
    wall j p e = none_at (map (λ w. w.plane) (walls c)) q (l.holds q i) j p e

    across : (k : Axis) → value_at (opposite (level k (low c k))) q ≤ℤ pos 0 →
        value_at (level k (high c k)) q ≤ℤ pos 0 → IsAcross (interval_between (low c k) (high c k)) (along_point k q) q.w
    across k a b =
        let x = value-opposite (level k (low c k)) q in let y = level_value k (low c k) q in let z = level_value k (high c k) q in
        record { from = omega (arith, linear, a, x, y); to = omega (arith, linear, b, z) }

-- ---- the vector at the start
-- is the same at all points that are close enough to the corner
module _ (m f : ℕ) (k : Axis) (lo : Vector) (a b d : Spot) (q : Spot) (n : ℕ) (s : AreStops m f k lo a b d q n) where
  shifted : 0 < f
  shifted = omega (arith, s.tells)

  start_vector : (ts : List Tri) → IsSceneWithin m ts 64 → vector k ts (stop_at_start lo n) ≡ vector X ts (reference_beside f lo)
  start_vector ts i =
      let p = stop_at_start lo n in let r = reference_beside f lo in
      balanced_axes ts i.balanced p k X (start_weight lo n s.two)
      (generic_clear p ts (start_weight lo n s.two) (start_generic m f k lo a b d q n s) i.within)
      ∙ vector_on_one_side X p r (start_weight lo n s.two) (weight_beside f lo shifted)
      (λ h j. start_sign m f k lo a b d q n s h j) ts i.within

-- ---- the vector at the end
module _ {W M : Type 0} {G : Ghosts W M} (m fine : ℕ) (one : 1 ≤ m) (ts ns : List Tri) (c : Cell) (counts : List ℤ)
    (fits : FitsWithin m fine ts ns c counts) (k : Axis) (v : Path) (e : v.lo ≡ entries c.lo) (vw : pos 0 <ℤ v.first_corner.w)
    (q : Spot) (n : ℕ) (s : AreStops m fine k c.lo v.first_corner v.second_corner v.third_corner q n) (has : HasPoint c q)
    (fs : List (NearTriangle W M G)) (within : All (λ (f : NearTriangle W M G). IsTriWithin m f.tri) fs)
    (near_triangles : AreNearTrianglesBeside fine ns c fs) (turn : Sign → Sign) (p3 : Spot)
    (end : IsEnd m k v.first_corner v.second_corner v.third_corner turn p3)
    (line : DifferAlong k (stop_after_second k c.lo q n) p3) where
  abbrev w : Path
  w = record v { fine = fine; first_axis = first_of k; second_axis = second_of k; main = k }

  abbrev p0 : Spot
  p0 = stop_at_start c.lo n

  abbrev p1 : Spot
  p1 = stop_after_first k c.lo q n

  abbrev p2 : Spot
  p2 = stop_after_second k c.lo q n

  h0 : HasPoint c p0
  h0 = has_start c n s.two

  h1 : HasPoint c p1
  h1 = has_with c (first_of k) p0 q h0 has

  h2 : HasPoint c p2
  h2 = has_with c (second_of k) p1 q h1 has

  c0 : AreClear (faces_of ts) p0
  c0 = generic_clear p0 ts h0.weight (start_generic m fine k c.lo v.first_corner v.second_corner v.third_corner q n s) fits.scene.within

  c1 : AreClear (faces_of ts) p1
  c1 = generic_clear p1 ts h1.weight (first_generic m fine k c.lo v.first_corner v.second_corner v.third_corner q n s) fits.scene.within

  c2 : AreClear (faces_of ts) p2
  c2 = generic_clear p2 ts h2.weight (second_generic m fine k c.lo v.first_corner v.second_corner v.third_corner q n s) fits.scene.within

  clear_end : AreClear (faces_of ts) p3
  clear_end = generic_clear p3 ts end.weight (end_generic k v.first_corner v.second_corner v.third_corner q s.close turn p3 end) fits.scene.within

  legs_one : leg_vector ts p1 p0 ≡ leg_vector ns p1 p0
  legs_one = sym (legs_near ts c p1 p0 h1 h0) ∙ ap (λ (us : List Tri). leg_vector us p1 p0) fits.near

  legs_two : leg_vector ts p2 p1 ≡ leg_vector ns p2 p1
  legs_two = sym (legs_near ts c p2 p1 h2 h1) ∙ ap (λ (us : List Tri). leg_vector us p2 p1) fits.near

  legs_three : leg_vector ts p3 p2 ≡ leg_vector ns p3 p2
  legs_three =
      sym (tally_kept (λ h. leg h p3 p2) (flat_leg p3 p2) (λ t. is_near c t) ts
      (λ i d l far. last_far m fine c k v.first_corner v.second_corner v.third_corner q n s has turn p3 end line
      (get_or ts i d) (fits.scene.within i d l) far)) ∙ ap (λ (us : List Tri). leg_vector us p3 p2) fits.near

  -- what a triangle adds on the three segments together
  abbrev legs : Face → ℤ
  legs h = leg h p1 p0 +ℤ leg h p2 p1 +ℤ leg h p3 p2

  legs_flat : LeavesFlat legs
  legs_flat t f = let x = flat_leg p1 p0 t f in let y = flat_leg p2 p1 t f in let z = flat_leg p3 p2 t f in omega (arith, linear, x, y, z)

  abbrev less : NearTriangle W M G → ℤ
  less f = segments_above_wall w f +ℤ last_segment w f (or_sign (side_at_end w f.support) (turn (sgn (along f.support k))))

  end_vector : vector k ts p3 ≡ taken less fs counts
  end_vector =
      let a = balanced_legs ts fits.scene.balanced k k p3 p2 end.weight h2.weight (differ_back k p2 p3 line) clear_end c2 in
      let b = balanced_legs ts fits.scene.balanced (second_of k) k p2 p1 h2.weight h1.weight (differ_back (second_of k) p1 p2 (differ_with (second_of k) p1 q)) c2 c1 in
      let d = balanced_legs ts fits.scene.balanced (first_of k) k p1 p0 h1.weight h0.weight (differ_back (first_of k) p0 p1 (differ_with (first_of k) p0 q)) c1 c0 in
      let start = start_vector m fine k c.lo v.first_corner v.second_corner v.third_corner q n s ts fits.scene ∙ fits.at in
      let one : vector k ts p1 ≡ added counts (leg_vector ns p1 p0) = d ∙ (λ i. added (start i) (legs_one i)) in
      let two : vector k ts p2 ≡ added counts (tally (λ h. leg h p1 p0 +ℤ leg h p2 p1) ns) =
      b ∙ (λ i. added (one i) (legs_two i)) ∙ tally_both (λ h. leg h p1 p0) (λ h. leg h p2 p1) ns counts in
      let three : vector k ts p3 ≡ added counts (tally legs ns) =
      a ∙ (λ i. added (two i) (legs_three i)) ∙ tally_both (λ h. leg h p1 p0 +ℤ leg h p2 p1) (λ h. leg h p3 p2) ns
      counts in
      three ∙ ap (λ (us : List Tri). added counts (tally legs us)) (sym near_triangles.tris)
      ∙ sym (taken_legs legs legs_flat less fs (λ i d l. each (get_or fs i d) (within i d l) (near_triangles.reference_sides i d l))
      counts)
    where
      each : (f : NearTriangle W M G) → IsTriWithin m f.tri → HasReferenceBeside fine c f → legs (face_of f.tri) ≡ neg_ℤ (less f)
      each f fv from =
          let x = first_legs m fine one c k v e vw q n s f fv from in
          let y = final_leg m fine one c k v e vw q n s f fv from turn p3 end line in omega (arith, linear, x, y)

-- ---- the region
module _ (m fine : ℕ) (one : 1 ≤ m) (tells : normal_limit m < fine) (ns : List Tri) (c : Cell)
    (counts : List ℤ) (f : Face) (v : Path) (is : IsPathTo fine c f v) (small : All (Small (m + 1)) v.lo) where
  abbrev k : Axis
  k = main_axis f.support

  small_at : (k : Axis) → Small (m + 1) (coordinate (entries c.lo) k)
  small_at k = subst (λ (lo : List ℤ). Small (m + 1) (coordinate lo k)) is.lo (coordinate_small (m + 1) v.lo k small)

  first : AreFirst f v.first_corner v.second_corner v.third_corner
  first = first_corners f is.corners v.first_corner v.second_corner v.third_corner is.are_corners is.first_corner is.second_corner is.third_corner

  -- the path with its axes told by the last
  told : v ≡ record v { fine = fine; first_axis = first_of k; second_axis = second_of k; main = k }
  told = λ i. record v { fine = is.fine i; first_axis = is.first i; second_axis = is.second i; main = is.main i }

  -- the traced counts are the sides in each scene that fits
  traced_sides : {W M : Type 0} {G : Ghosts W M} (fs : List (NearTriangle W M G)) → All (λ (t : NearTriangle W M G). IsTriWithin m t.tri) fs →
      AreNearTrianglesBeside fine ns c fs → (before after : List ℤ) → before ≡ taken (crossing_before v) fs counts →
      after ≡ taken (crossing_after v) fs counts → LiesIn c f → (ts : List Tri) → FitsWithin m fine ts ns c counts →
      IsSides ts f before after
  unfolding crossing_before crossing_after
  traced_sides fs within near_triangles before after eb ea l ts fits =
      let u = first_corners_found m f v.first_corner v.second_corner v.third_corner first in let has = in_box c f u.q l u.inside in
      let n = far_out m fine u.q in
      let stops = stops_from m fine tells k c.lo v.first_corner v.second_corner v.third_corner u.q u.close small_at in
      let line = λ (m s : ℤ). differ_last k (stop_at_start c.lo n) u.q m s in
      record {
        at = u.q;
        inside = u.inside;
        bound = normal_limit m;
        sees_before = λ s n' ls lm.
            let e = before_end k v.first_corner v.second_corner v.third_corner u.q u.close s n' ls lm in
            record {
              clear = clear_end m fine one ts ns c counts fits k v is.lo is.weight u.q n stops has fs within near_triangles flip _ e
                  (line (pos n') (neg_ℤ (pos s)));
              counts_are =
                  end_vector m fine one ts ns c counts fits k v is.lo is.weight u.q n stops has fs within near_triangles flip _ e
                  (line (pos n') (neg_ℤ (pos s))) ∙ sym (eb ∙ ap (λ (w : Path). taken (crossing_before w) fs counts) told);
            };
        sees_after = λ s n' ls lm.
            let e = after_end k v.first_corner v.second_corner v.third_corner u.q u.close s n' ls lm in
            record {
              clear = clear_end m fine one ts ns c counts fits k v is.lo is.weight u.q n stops has fs within near_triangles
                  (λ t. t) _ e (line (pos n') (pos s));
              counts_are =
                  end_vector m fine one ts ns c counts fits k v is.lo is.weight u.q n stops has fs within near_triangles
                  (λ t. t) _ e (line (pos n') (pos s)) ∙ sym (ea ∙ ap (λ (w : Path). taken (crossing_after w) fs counts) told);
            };
      }

-- the traced counts are the region's sides, in each scene that fits
pub are_sides : {W M : Type 0} {G : Ghosts W M} (m fine : ℕ) → 1 ≤ m → normal_limit m < fine → (ns : List Tri) (c : Cell)
    (counts : List ℤ) (f : Face) (s : Sides) (fs : List (NearTriangle W M G)) →
    All (λ (t : NearTriangle W M G). IsTriWithin m t.tri) fs → AreNearTrianglesBeside fine ns c fs →
    (t : AreTracedBeside fine c fs counts f s) → All (Small (m + 1)) t.way.lo → AreSidesWithin m fine ns c counts f s
are_sides m fine one tells ns c counts f s fs within near_triangles t small =
    traced_sides m fine one tells ns c counts f t.way t.is_way small fs within near_triangles s.before.counts s.after.counts t.before t.after
