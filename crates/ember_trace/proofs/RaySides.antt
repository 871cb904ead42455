-- The counts of whole rays that begin directly before and after a region are its sides.
use Rattle.std.proofs.Common.{◌≡◌, sym, ap, ◌∙◌, ℕ, cond, ◌&&◌, List, All, get_or, replicate, ℤ, pos}
use Rattle.ember_algebra.specs.declared.Sign.{Sign}
use Rattle.ember_algebra.specs.Sign.{sgn, flip, times, number, is_neg}
use Rattle.ember_algebra.proofs.Signs.{sgn-mul}
use Rattle.ember_algebra.proofs.Booleans.{cond_and_nested}
use Rattle.ember_model.specs.declared.point.Spot.{Spot}
use Rattle.ember_model.specs.declared.point.Axis.{Axis}
use Rattle.ember_model.specs.declared.tri.Tri.{Tri}
use Rattle.ember_model.specs.declared.face.Face.{Face}
use Rattle.ember_model.specs.Planes.{value_at, along, main_axis, support_of}
use Rattle.ember_model.specs.Within.{IsTriWithin, normal_limit}
use Rattle.ember_model.specs.Faces.{face_of, crossing}
use Rattle.ember_model.specs.Meshes.{HasMesh}
use Rattle.ember_model.specs.Sides.{HasWindings, IsSides}
use Rattle.ember_model.proofs.FourSigns.{crossing_is}
use Rattle.ember_model.proofs.PlaneValues.{sign-number}
use Rattle.ember_model.proofs.PlaneSizes.{support_within}
use Rattle.ember_law.proofs.FlatTriangles.{flat_crossing}
use Rattle.ember_ref.specs.References.{or_sign}
use Rattle.ember_trace.specs.declared.region_sides.Sides.{Sides}
use Rattle.ember_trace.specs.Paths.{inside_side}
use Rattle.ember_trace.specs.Crossings.{signed_crossing, is_pierced, ray_counts, AreRayCounts}
use Rattle.ember_trace.proofs.VertexSides.{IsClose}
use Rattle.ember_trace.proofs.Corners.{first_corners}
use Rattle.ember_trace.proofs.SegmentSigns.{edges_behind}
use Rattle.ember_trace.proofs.SegmentCrossings.{IsEnd, or_zero}
use Rattle.ember_trace.proofs.ClearVertices.{generic_clear, end_generic}
use Rattle.ember_trace.proofs.RegionEnds.{first_corners_found, before_end, after_end}
use Rattle.ember_trace.proofs.MeshSums.{ray_counts_rays, added_none}

module _ {m : ℕ} (k : Axis) (a b d : Spot) (q : Spot) (close : IsClose m k a b d q) (turn : Sign → Sign) (e : Spot) (end : IsEnd m k a b d turn e) where
  -- the crossing of the ray from the end, as the code counts it
  abbrev pub ray : Tri → ℤ
  ray t =
      cond (is_pierced t k a b d) (signed_crossing
      (or_sign (inside_side (support_of t) a b d) (turn (sgn (along (support_of t) k))))
      (sgn (along (support_of t) k))) (pos 0)

  ray_crossing : (t : Tri) → IsTriWithin m t → crossing (face_of t) k e ≡ ray t
  ray_crossing t v =
      let n = support_of t in let s = sgn (along n k) in
      let side = end.side n (support_within m t v) in
      let x = ap is_neg (sgn-mul (value_at n e) (along n k)) ∙ (λ i. is_neg (times (side i) s)) in
      let g = edges_behind (λ h. inside_side h a b d) t k e v
      (λ h i z. end.side h i ∙ or_zero (inside_side h a b d) (turn (sgn (along h k)))
      (ap turn (ap sgn z) ∙ end.level)) in
      crossing_is k e t end.weight ∙ (λ i. cond (x i && g i) (sign-number (along n k) i) (pos 0))
      ∙ cond_and_nested (is_neg (times (or_sign (inside_side n a b d) (turn s)) s)) (is_pierced t k a b d)
      (number s)

  end_sees : (ts : List Tri) → All (IsTriWithin m) ts → All (HasMesh 64) ts → HasWindings ts k e (ray_counts ray ts (replicate 64 (pos 0)))
  end_sees ts valid numbered =
      record {
        clear = generic_clear e ts end.weight (end_generic k a b d q close turn e end) valid;
        counts_are = sym (ray_counts_rays (λ f. crossing f k e) (flat_crossing k e) ray ts
            (λ i t l. ray_crossing (get_or ts i t) (valid i t l)) numbered (replicate 64 (pos 0)) ∙ added_none _);
      }

-- the counts of the rays directly before and after a region are its sides
pub ray_sides : (m : ℕ) (ts : List Tri) (f : Face) (s : Sides) → All (IsTriWithin m) ts → All (HasMesh 64) ts →
    AreRayCounts ts f s → IsSides ts f s.before.counts s.after.counts
ray_sides m ts f s valid numbered r =
    let k = main_axis f.support in
    let u = first_corners_found m f r.first r.second r.third
    (first_corners f r.corners r.first r.second r.third r.are_corners r.is_first r.is_second r.is_third) in
    record {
      at = u.q;
      inside = u.inside;
      bound = normal_limit m;
      sees_before = λ s' n ls lm. same (end_sees k r.first r.second r.third u.q u.close flip _
          (before_end k r.first r.second r.third u.q u.close s' n ls lm) ts valid numbered) (sym r.before);
      sees_after = λ s' n ls lm. same (end_sees k r.first r.second r.third u.q u.close (λ t. t) _
          (after_end k r.first r.second r.third u.q u.close s' n ls lm) ts valid numbered) (sym r.after);
    }
  where
    same : {k : Axis} {v : Spot} {x y : List ℤ} → HasWindings ts k v x → x ≡ y → HasWindings ts k v y
    same h e = record { clear = h.clear; counts_are = h.counts_are ∙ e }
