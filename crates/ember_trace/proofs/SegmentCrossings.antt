-- The crossings of the segments of a path with a triangle, as the code counts them: by the sides of its
-- planes on which the vertices lie, and only if the bounding box lets a segment cross it.
use Rattle.std.proofs.Common.{◌≡◌, ◌⊎◌, inl, inr, refl, sym, ap, ◌∙◌, arith, ℕ, ◌≤◌, Bool, false, ◌&&◌, cond}
use Rattle.std.proofs.Common.{List, ℤ, pos, ◌+ℤ◌, neg_ℤ, ◌<ℤ◌, ◌≤ℤ◌, slice_index_or}
use Rattle.std.specs.Int.{int_div_euclid, int_max}
use Rattle.std.proofs.lemmas.Int.{clamps}
use borrow.Author.Differences.{ints}
use Rattle.ember_algebra.specs.Vector.{Vector}
use Rattle.ember_algebra.specs.declared.Sign.{Sign}
use Rattle.ember_algebra.specs.declared.Sign.TheVariants.{Neg, Zero, Pos}
use Rattle.ember_algebra.specs.Sign.{sgn}
use Rattle.ember_algebra.proofs.Laws.{linear}
use Rattle.ember_algebra.proofs.Order.{mul_le, mul_pos_neg}
use Rattle.ember_algebra.proofs.Ring.{◌⊕◌, ◌⊗◌, ◌≈◌, num, solve, cancels}
use Rattle.ember_algebra.proofs.Signs.{sgn_neg}
use Rattle.ember_model.specs.declared.point.Spot.{Spot}
use Rattle.ember_model.specs.declared.point.Axis.{Axis}
use Rattle.ember_model.specs.declared.point.Axis.TheVariants.{X, Y, Z}
use Rattle.ember_model.specs.declared.plane.Plane.{Plane}
use Rattle.ember_model.specs.declared.tri.Tri.{Tri}
use Rattle.ember_model.specs.Planes.{value_at, along, support_of, edge_planes}
use Rattle.ember_model.specs.Points.{DifferAlong}
use Rattle.ember_model.specs.Within.{IsTriWithin, IsSupportWithin}
use Rattle.ember_model.specs.Faces.{face_of, leg}
use Rattle.ember_model.proofs.PlaneSizes.{support_within}
use Rattle.ember_model.proofs.ScaledPoints.{leg_back}
use Rattle.ember_algebra.proofs.Numbers.{int_le_not_out}
use Rattle.ember_point.specs.Points.{slid}
use Rattle.ember_width.specs.declared.width.Width.{Ghosts}
use Rattle.ember_width.proofs.Slides.{support_within_planes}
use Rattle.ember_box.specs.Boxes.{Cell, axis_index}
use Rattle.ember_box.specs.Aabbs.{interval_along, aabb_of_tri}
use Rattle.ember_box.specs.Reference.{reference_beside}
use Rattle.ember_ref.specs.References.{or_sign, vector_of_list, reference_of_list}
use Rattle.ember_ref.proofs.NearPoints.{coordinate as along_point}
use Rattle.ember_ref.proofs.ReferenceLegs.{beside_is}
use Rattle.ember_trace.specs.declared.near_triangle.NearTriangle.{NearTriangle}
use Rattle.ember_trace.specs.NearTriangles.{HasReferenceBeside}
use Rattle.ember_trace.specs.Paths.{Path, coordinate, inside_side, first_of, second_of, side_at_start, side_at_end, side_after_first, side_after_second, floor_at_end}
use Rattle.ember_trace.specs.Lines.{all_behind, contains_above, line_runs_through, first_lines_of}
use Rattle.ember_trace.specs.Crossings.{signed_crossing, may_contain, begins_by, farthest, may_end, first_runs_through}
use Rattle.ember_trace.specs.Crossings.{first_segment, second_segment, segments_above_wall, last_segment}
use Rattle.ember_trace.proofs.PathVertices.{with_along, entries, weight_with, level_with, differ_with}
use Rattle.ember_trace.proofs.VertexSides.{AreStops, stop_at_start, stop_after_first, stop_after_second, start_sign, first_sign, second_sign}
use Rattle.ember_trace.proofs.SegmentsPast.{leg_behind, across, value_across, across_with, across_within, IsPast}
use Rattle.ember_trace.proofs.SegmentsPast.{past_above, past_floor, above_low, below_floor, low_small}
use Rattle.ember_trace.proofs.SegmentSigns.{powers, start_above, across_first, across_second, second_first}
use Rattle.ember_trace.proofs.SegmentSigns.{first_second, edges_behind, told, told_back, tested, both, either_test}
use Rattle.ember_trace.proofs.SegmentSigns.{negative_sign}

-- ---- the end of a path
-- a point directly beside q along k, on the side that the turn of a plane's slope tells
pub record IsEnd (m : ℕ) (k : Axis) (a b c : Spot) (turn : Sign → Sign) (e : Spot) : Type 0 where
  pub weight : pos 0 <ℤ e.w
  pub side : (h : Plane) → IsSupportWithin m h → sgn (value_at h e) ≡ or_sign (inside_side h a b c) (turn (sgn (along h k)))
  pub level : turn Zero ≡ Zero
  pub level_out : (s : Sign) → turn s ≡ Zero → s ≡ Zero

-- the first sign stays if the second is Zero
pub or_zero : (s t : Sign) → t ≡ Zero → or_sign s t ≡ s
or_zero Neg t e = refl
or_zero Zero t e = e
or_zero Pos t e = refl

-- the start of a path has a positive weight
pub start_weight : (lo : Vector) (n : ℕ) → 2 ≤ n → pos 0 <ℤ (stop_at_start lo n).w
start_weight lo n l =
    let p = powers (pos n) (omega (arith, ints, l)) in let h = p.one_below in omega (arith, linear, h)

-- two points that differ along one axis alone do so in either order
pub differ_back : (k : Axis) (p q : Spot) → DifferAlong k p q → DifferAlong k q p
differ_back X p q d = (sym d.0, sym d.1)
differ_back Y p q d = (sym d.0, sym d.1)
differ_back Z p q d = (sym d.0, sym d.1)

-- the floor at the end is that of the first corner's coordinate
pub floor_is : (w : Path) (k : Axis) → floor_at_end w k ≡ int_div_euclid (along_point k w.first_corner) w.first_corner.w
floor_is w X = refl
floor_is w Y = refl
floor_is w Z = refl

-- what it means that a line runs through a triangle
lines_are : (fine : ℕ) (lo : List ℤ) (t : Tri) (a : Axis) →
    line_runs_through fine lo t a ≡ contains_above (interval_along (aabb_of_tri t) (first_of a)) (coordinate lo (first_of a))
    && (contains_above (interval_along (aabb_of_tri t) (second_of a)) (coordinate lo (second_of a))
    && all_behind (λ p. sgn (value_at p (reference_of_list fine lo))) (edge_planes t a))
lines_are fine lo t a = refl

greatest_below : (a b d : ℤ) → int_max a b <ℤ d → (a <ℤ d) × (b <ℤ d)
greatest_below a b d l = (omega (arith, ints, clamps), omega (arith, ints, clamps))

module _ {W M : Type 0} {G : Ghosts W M} (m fine : ℕ) (some : 1 ≤ m) (c : Cell) (k : Axis) (v : Path)
    (e : v.lo ≡ entries c.lo) (vw : pos 0 <ℤ v.first_corner.w) (q : Spot) (n : ℕ)
    (s : AreStops m fine k c.lo v.first_corner v.second_corner v.third_corner q n) (f : NearTriangle W M G)
    (fv : IsTriWithin m f.tri) (from : HasReferenceBeside fine c f)
  where
    -- the path, with its axes told by the last
    abbrev w : Path
    w = record v { fine = fine; first_axis = first_of k; second_axis = second_of k; main = k }

    abbrev t : Tri
    t = f.tri

    abbrev p0 : Spot
    p0 = stop_at_start c.lo n

    abbrev p1 : Spot
    p1 = stop_after_first k c.lo q n

    abbrev p2 : Spot
    p2 = stop_after_second k c.lo q n

    w0 : pos 0 <ℤ p0.w
    w0 = start_weight c.lo n s.two

    w1 : pos 0 <ℤ p1.w
    w1 = weight_with (first_of k) p0 q w0 s.close.weight

    w2 : pos 0 <ℤ p2.w
    w2 = weight_with (second_of k) p1 q w1 s.close.weight

    -- ---- sides, as the code has them
    side_start : (h : Plane) → side_at_start w h ≡ sgn (value_at h (reference_beside fine c.lo))
    side_start h = ap (λ (p : Spot). sgn (value_at h p)) (beside_is fine v.lo c.lo (ap vector_of_list e))

    side_first : (h : Plane) → IsSupportWithin m h → sgn (value_at h p1) ≡ side_after_first w h
    side_first h i =
        first_sign m fine k c.lo v.first_corner v.second_corner v.third_corner q n s h i
        ∙ sym (λ j. or_sign (inside_side (slid (slid h (second_of k) (coordinate (e j) (second_of k))) k
        (coordinate (e j) k)) v.first_corner v.second_corner v.third_corner) (side_start h j))

    side_second : (h : Plane) → IsSupportWithin m h → sgn (value_at h p2) ≡ side_after_second w h
    side_second h i =
        second_sign m fine k c.lo v.first_corner v.second_corner v.third_corner q n s h i
        ∙ sym (λ j. or_sign (inside_side (slid h k (coordinate (e j) k)) v.first_corner v.second_corner v.third_corner)
        (side_start h j))

    sized : IsSupportWithin m (support_of t)
    sized = support_within m t fv

    at_start : sgn (value_at (support_of t) p0) ≡ f.reference_side
    at_start =
        start_sign m fine k c.lo v.first_corner v.second_corner v.third_corner q n s (support_of t) sized
        ∙ sym (from.side ∙ ap (λ (p : Plane). sgn (value_at p (reference_of_list fine (entries c.lo)))) f.plane
        ∙ ap (λ (r : Spot). sgn (value_at (support_of t) r)) (beside_is fine (entries c.lo) c.lo refl))

    after_first : sgn (value_at (support_of t) p1) ≡ side_after_first w f.support
    after_first = side_first (support_of t) sized ∙ ap (λ (p : Plane). side_after_first w p) (sym f.plane)

    after_second : sgn (value_at (support_of t) p2) ≡ side_after_second w f.support
    after_second = side_second (support_of t) sized ∙ ap (λ (p : Plane). side_after_second w p) (sym f.plane)

    -- ---- past the bounding box
    -- the triangle begins above the whole number at or below the coordinates of both ends
    abbrev begins_above : (a : Axis) → floor_at_end w a <ℤ (interval_along (aabb_of_tri t) a).low →
        IsPast m t a (along_point a v.first_corner) v.first_corner.w
    begins_above a l =
        let d = (interval_along (aabb_of_tri t) a).low in let u = v.first_corner in
        record {
          s = pos 1;
          d = d;
          small_s = record { small = omega arith };
          small_d = low_small t a fv;
          before =
              above_low t a fv;
          past = (let y = along_point a u in let b =
              below_floor y u.w d vw (let e = floor_is w a in omega (arith, linear, l, e)) in
              omega (arith, linear, b));
        }

    -- so does one that begins above the greater of both
    both_below : (a : Axis) → begins_by (interval_along f.aabb a) (farthest w a) ≡ false →
        (floor_at_end w a <ℤ (interval_along (aabb_of_tri t) a).low) ×
        (coordinate v.lo a <ℤ (interval_along (aabb_of_tri t) a).low)
    both_below a h = greatest_below (floor_at_end w a) (coordinate v.lo a) _
        (int_le_not_out _ _ (sym (λ j. begins_by (interval_along (f.bounds j) a) (farthest w a)) ∙ h))

    beyond_start : (a : Axis) → coordinate v.lo a <ℤ (interval_along (aabb_of_tri t) a).low →
        value_at (across a (pos 1) (interval_along (aabb_of_tri t) a).low) p0 <ℤ pos 0
    beyond_start a l =
        let d = (interval_along (aabb_of_tri t) a).low in let at = coordinate (entries c.lo) a in let i = start_above c.lo n a s.two in
        let x = value_across a (pos 1) d p0 in let h = i.to in
        let g : coordinate v.lo a ≡ at = (λ j. coordinate (e j) a) in
        let z : pos 0 ≤ℤ p0.w = omega (arith, linear, w0) in
        let next : (at +ℤ pos 1) ≤ℤ d = omega (arith, linear, l, g) in
        let m = mul_le z next in
        let a1 = solve 2 (λ w b. (b ⊕ num (pos 1)) ⊗ w ≈ w ⊗ (b ⊕ num (pos 1))) cancels p0.w at in
        let a2 = solve 2 (λ w d. d ⊗ w ≈ w ⊗ d) cancels p0.w d in
        omega (arith, linear, x, h, m, a1, a2)

    -- the coordinate of the start isn't within
    past_start : (a : Axis) → contains_above (interval_along f.aabb a) (coordinate v.lo a) ≡ false → IsPast m t a (along_point a p0) p0.w
    past_start a h =
        let i = start_above c.lo n a s.two in
        past_above t a fv (along_point a p0) p0.w (coordinate (entries c.lo) a) w0 i.from i.to
        (sym (λ j. contains_above (interval_along (f.bounds j) a) (coordinate (e j) a)) ∙ h)

    behind_start : (a : Axis) (i : IsPast m t a (along_point a p0) p0.w) → value_at (across a i.s i.d) p0 <ℤ pos 0
    behind_start a i = let x = value_across a i.s i.d p0 in let l = i.past in omega (arith, linear, x, l)

    -- nor is the end's
    past_end : (a : Axis) → may_contain (interval_along f.aabb a) (floor_at_end w a) ≡ false →
        IsPast m t a (along_point a v.first_corner) v.first_corner.w
    past_end a h =
        past_floor t a fv (along_point a v.first_corner) v.first_corner.w vw
        (sym (λ j. may_contain (interval_along (f.bounds j) a) (floor_is w a j)) ∙ h)

    behind_end : (a : Axis) (i : IsPast m t a (along_point a v.first_corner) v.first_corner.w) →
        inside_side (across a i.s i.d) v.first_corner v.second_corner v.third_corner ≡ Neg
    behind_end a i =
        let g = across a i.s i.d in let x = value_across a i.s i.d v.first_corner in let l = i.past in
        ap (λ (s : Sign). or_sign s (or_sign (sgn (value_at g v.second_corner))
        (sgn (value_at g v.third_corner))))
        (sgn_neg {a = value_at g v.first_corner} (omega (arith, linear, x, l)))

    behind_q : (a : Axis) (i : IsPast m t a (along_point a v.first_corner) v.first_corner.w) → value_at (across a i.s i.d) q <ℤ pos 0
    behind_q a i =
        negative_sign (value_at (across a i.s i.d) q)
        (s.close.at_end (across a i.s i.d) (support_within_planes m _ (across_within m a i.s i.d some i.small_s i.small_d))
        ∙ behind_end a i)

    -- a plane stays behind along an axis at which it has no entry
    stays : (g : Plane) (a : Axis) (u : Spot) → along g a ≡ pos 0 → value_at g u <ℤ pos 0 → value_at g (with_along a u q) <ℤ pos 0
    stays g a u z l = let x = level_with g a u q z in let m = mul_pos_neg s.close.weight l in omega (arith, linear, x, m)

    comes : (a : Axis) (b d : ℤ) (u : Spot) → pos 0 <ℤ u.w → value_at (across a b d) q <ℤ pos 0 → value_at (across a b d) (with_along a u q) <ℤ pos 0
    comes a b d u pw l = let x = across_with a b d u q in let m = mul_pos_neg pw l in omega (arith, linear, x, m)

    -- ---- the segments
    pub first_legs : leg (face_of t) p1 p0 +ℤ leg (face_of t) p2 p1 ≡ neg_ℤ (segments_above_wall w f)
    first_legs =
        both (contains_above (interval_along f.aabb k) (coordinate v.lo k)) (first_segment w f) (second_segment w f)
        (leg (face_of t) p1 p0) (leg (face_of t) p2 p1) first second (λ h. first_out k (across_first k) h) second_out
      where
        first_out : (a : Axis) → ((b d : ℤ) → along (across a b d) (first_of k) ≡ pos 0) →
            contains_above (interval_along f.aabb a) (coordinate v.lo a) ≡ false → leg (face_of t) p1 p0 ≡ pos 0
        first_out a z h =
            let i = past_start a h in let g = across a i.s i.d in let l = behind_start a i in
            leg_behind t g p1 p0 i.before w1 w0 (stays g (first_of k) p0 (z i.s i.d) l) l

        second_out : contains_above (interval_along f.aabb k) (coordinate v.lo k) ≡ false → leg (face_of t) p2 p1 ≡ pos 0
        second_out h =
            let i = past_start k h in let g = across k i.s i.d in let l = stays g (first_of k) p0 (across_first k i.s i.d) (behind_start k i) in
            leg_behind t g p2 p1 i.before w2 w1 (stays g (second_of k) p1 (across_second k i.s i.d) l) l

        end_out : may_contain (interval_along f.aabb (first_of k)) (floor_at_end w (first_of k)) ≡ false → leg (face_of t) p2 p1 ≡ pos 0
        end_out h =
            let i = past_end (first_of k) h in let g = across (first_of k) i.s i.d in let l = comes (first_of k) i.s i.d p0 w0 (behind_q (first_of k) i) in
            leg_behind t g p2 p1 i.before w2 w1 (stays g (second_of k) p1 (first_second k i.s i.d) l) l

        -- the line of the first segment runs through the reference point, so the near triangle has it
        first : leg (face_of t) p1 p0 ≡ neg_ℤ (first_segment w f)
        first = crossed ∙ sym (ap (λ (b : Bool). neg_ℤ
            (cond b (signed_crossing f.reference_side (side_after_first w f.support)) (pos 0)))
            (runs ∙ lines_are fine lo t (first_of k)))
          where
            lo : List ℤ
            lo = entries c.lo

            runs : first_runs_through w f ≡ line_runs_through fine lo t (first_of k)
            runs = ap (λ (bs : List Bool). slice_index_or bs (axis_index k) false) from.lines ∙ by_axis k
              where
                by_axis : (a : Axis) → slice_index_or (first_lines_of fine lo t) (axis_index a) false ≡ line_runs_through fine lo t (first_of a)
                by_axis X = refl
                by_axis Y = refl
                by_axis Z = refl

            -- the two other axes are the second one of the path and its main axis, in either order
            past : (a : Axis) → (a ≡ second_of k) ⊎ (a ≡ k) →
                contains_above (interval_along (aabb_of_tri t) a) (coordinate lo a) ≡ false → leg (face_of t) p1 p0 ≡ pos 0
            past a o h = first_out a (level_first o) (h')
              where
                level_first : (a ≡ second_of k) ⊎ (a ≡ k) → (b d : ℤ) → along (across a b d) (first_of k) ≡ pos 0
                level_first (inl x) b d = ap (λ (m : Axis). along (across m b d) (first_of k)) x ∙ second_first k b d
                level_first (inr x) b d = ap (λ (m : Axis). along (across m b d) (first_of k)) x ∙ across_first k b d

                h' : contains_above (interval_along f.aabb a) (coordinate v.lo a) ≡ false
                h' = (λ j. contains_above (interval_along (f.bounds j) a) (coordinate (e j) a)) ∙ h

            one : (m : Axis) → (first_of (first_of m) ≡ second_of m) ⊎ (first_of (first_of m) ≡ m)
            one X = inr refl
            one Y = inr refl
            one Z = inl refl

            other : (m : Axis) → (second_of (first_of m) ≡ second_of m) ⊎ (second_of (first_of m) ≡ m)
            other X = inl refl
            other Y = inl refl
            other Z = inr refl

            crossed : leg (face_of t) p1 p0 ≡ neg_ℤ
                (cond (contains_above (interval_along (aabb_of_tri t) (first_of (first_of k)))
                (coordinate lo (first_of (first_of k)))
                && (contains_above (interval_along (aabb_of_tri t) (second_of (first_of k)))
                (coordinate lo (second_of (first_of k)))
                && all_behind (λ p. sgn (value_at p (reference_of_list fine lo))) (edge_planes t (first_of k))))
                (signed_crossing f.reference_side (side_after_first w f.support)) (pos 0))
            crossed =
                let side = λ (p : Plane). sgn (value_at p (reference_of_list fine lo)) in
                let b = all_behind side (edge_planes t (first_of k)) in let u = first_of (first_of k) in let z = second_of (first_of k) in
                let crossing = signed_crossing f.reference_side (side_after_first w f.support) in
                tested (contains_above (interval_along (aabb_of_tri t) u) (coordinate lo u))
                (contains_above (interval_along (aabb_of_tri t) z) (coordinate lo z) && b) crossing
                (leg (face_of t) p1 p0)
                (tested (contains_above (interval_along (aabb_of_tri t) z) (coordinate lo z)) b crossing (leg (face_of t) p1 p0)
                (leg_back (face_of t) p0 p1 w0 w1 ∙ ap neg_ℤ
                (told (first_of k) p0 p1 t b f.reference_side (side_after_first w f.support) w0 w1
                (differ_with (first_of k) p0 q) at_start after_first
                (edges_behind side t (first_of k) p0 fv
                (λ h i z. start_sign m fine k c.lo v.first_corner v.second_corner v.third_corner q n s h i
                ∙ sym (ap (λ (p : Spot). sgn (value_at h p)) (beside_is fine lo c.lo refl))))))
                (past z (other k)))
                (past u (one k))

        -- both ends lie below the whole triangle along the second axis
        below_out : begins_by (interval_along f.aabb (second_of k)) (farthest w (second_of k)) ≡ false → leg (face_of t) p2 p1 ≡ pos 0
        below_out h =
            let a = second_of k in let l = both_below a h in let i = begins_above a l.0 in let g = across a i.s i.d in
            leg_behind t g p2 p1 i.before w2 w1 (comes a i.s i.d p1 w1 (behind_q a i)) (stays g (first_of k) p0 (second_first k i.s i.d) (beyond_start a l.1))

        second : leg (face_of t) p2 p1 ≡ neg_ℤ (second_segment w f)
        second =
            let b = all_behind (λ p. side_after_first w p) (edge_planes t (second_of k)) in
            let d = begins_by (interval_along f.aabb (second_of k)) (farthest w (second_of k)) in
            let crossing = signed_crossing (side_after_first w f.support) (side_after_second w f.support) in
            tested (may_contain (interval_along f.aabb (first_of k)) (floor_at_end w (first_of k))) (d && b) crossing (leg (face_of t) p2 p1)
            (tested d b crossing (leg (face_of t) p2 p1)
            (leg_back (face_of t) p1 p2 w1 w2 ∙ ap neg_ℤ
            (told (second_of k) p1 p2 t b (side_after_first w f.support) (side_after_second w f.support) w1 w2
            (differ_with (second_of k) p1 q) after_first after_second
            (edges_behind (λ p. side_after_first w p) t (second_of k) p1 fv (λ h i z. side_first h i))))
            below_out)
            end_out

    module _ (turn : Sign → Sign) (p3 : Spot) (end : IsEnd m k v.first_corner v.second_corner v.third_corner turn p3) (line : DifferAlong k p2 p3) where
      abbrev side_end : Sign
      side_end = or_sign (side_at_end w f.support) (turn (sgn (along f.support k)))

      pub final_leg : leg (face_of t) p3 p2 ≡ neg_ℤ (last_segment w f side_end)
      final_leg =
          let b = all_behind (λ p. side_at_end w p) (edge_planes t k) in
          let crossing = signed_crossing (side_after_second w f.support) side_end in
          tested (begins_by (interval_along f.aabb k) (farthest w k)) (may_end w f && b) crossing (leg (face_of t) p3 p2)
          (tested (may_end w f) b crossing (leg (face_of t) p3 p2)
          (told_back b (side_after_second w f.support) side_end (leg (face_of t) p3 p2)
          (told k p3 p2 t b side_end (side_after_second w f.support) end.weight w2 (differ_back k p2 p3 line)
          (end.side (support_of t) sized ∙ ap (λ (p : Plane). or_sign (side_at_end w p) (turn (sgn (along p k))))
          (sym f.plane)) after_second (edges_behind (λ p. side_at_end w p) t k p3 fv
          (λ h i z. end.side h i ∙ or_zero (inside_side h v.first_corner v.second_corner v.third_corner)
          (turn (sgn (along h k))) (ap turn (ap sgn z) ∙ end.level)))))
          (λ h. either_test (may_contain (interval_along f.aabb (first_of k)) (floor_at_end w (first_of k)))
          (may_contain (interval_along f.aabb (second_of k)) (floor_at_end w (second_of k))) first_out second_out h))
          below_out
        where
          at_p3 : (a : Axis) (i : IsPast m t a (along_point a v.first_corner) v.first_corner.w) → value_at (across a i.s i.d) p3 <ℤ pos 0
          at_p3 a i =
              let g = across a i.s i.d in
              negative_sign (value_at g p3) (end.side g (across_within m a i.s i.d some i.small_s i.small_d)
              ∙ ap (λ (s : Sign). or_sign s (turn (sgn (along g k)))) (behind_end a i))

          first_out : may_contain (interval_along f.aabb (first_of k)) (floor_at_end w (first_of k)) ≡ false → leg (face_of t) p3 p2 ≡ pos 0
          first_out h =
              let i = past_end (first_of k) h in let g = across (first_of k) i.s i.d in
              leg_behind t g p3 p2 i.before end.weight w2 (at_p3 (first_of k) i)
              (stays g (second_of k) p1 (first_second k i.s i.d)
              (comes (first_of k) i.s i.d p0 w0 (behind_q (first_of k) i)))

          second_out : may_contain (interval_along f.aabb (second_of k)) (floor_at_end w (second_of k)) ≡ false → leg (face_of t) p3 p2 ≡ pos 0
          second_out h =
              let i = past_end (second_of k) h in let g = across (second_of k) i.s i.d in
              leg_behind t g p3 p2 i.before end.weight w2 (at_p3 (second_of k) i) (comes (second_of k) i.s i.d p1 w1 (behind_q (second_of k) i))

          -- both ends lie below the whole triangle along the main axis
          below_out : begins_by (interval_along f.aabb k) (farthest w k) ≡ false → leg (face_of t) p3 p2 ≡ pos 0
          below_out h =
              let l = both_below k h in let i = begins_above k l.0 in let g = across k i.s i.d in
              leg_behind t g p3 p2 i.before end.weight w2 (at_p3 k i)
              (stays g (second_of k) p1 (across_second k i.s i.d)
              (stays g (first_of k) p0 (across_first k i.s i.d) (beyond_start k l.1)))
