-- A sample point of a triangle is an inside point, so triangles of one plane meet if that of one is within the other.
use Rattle.std.proofs.Common.{◌≡◌, ⊎_elim, inl, inr, ◌∙◌, true, false, not, List, [], ◌∷◌}
use Rattle.std.specs.List.{AllByRecursion}
use Rattle.std.proofs.lemmas.Bool.{or_cases, and_parts}
use Rattle.ember_algebra.specs.Sign.{is_zero, is_positive}
use Rattle.ember_algebra.proofs.Booleans.{and_three}
use Rattle.ember_model.specs.declared.plane.Plane.{Plane}
use Rattle.ember_model.specs.declared.tri.Tri.{Tri}
use Rattle.ember_model.specs.Planes.{support_of}
use Rattle.ember_model.specs.Faces.{is_flat, face_of, edges_of, is_inside, Meets}
use Rattle.ember_model.specs.Owners.{lies_in_plane_of}
use Rattle.ember_model.proofs.SignTests.{zero_out, not_positive_out}
use Rattle.ember_poly.specs.Rings.{IsNotAbove}
use Rattle.ember_poly.proofs.FaceTests.{closed_in}
use Rattle.ember_pairs.specs.declared.samples.Weights.{Weights}
use Rattle.ember_width.specs.Heights.{heights_of}
use Rattle.ember_pairs.specs.Heights.{heights_over}
use Rattle.ember_pairs.specs.Samples.{AreWeights, sample_point, sample_height, is_sample_within, HasSampleWithin}
use Rattle.ember_pairs.specs.ByEdges.{HasInPlane}
use Rattle.ember_pairs.specs.Pairs.{AreMeeting}
use Rattle.ember_pairs.proofs.CornerSums.{ArePositive, positive_weights_are_not_negative, value_at_sum, sum_of_zeros}
use Rattle.ember_pairs.proofs.CornerSums.{face_has_triangle_corners, sum_is_inside, sum_has_positive_weight}

-- ---- one triangle
-- the weights of a sample point are positive
weights_positive : {w : Weights} → AreWeights w → ArePositive w
weights_positive k = record { a = k.a.positive; b = k.b.positive; c = k.c.positive }

-- a sample point is an inside point
pub sample_inside : (t : Tri) → is_flat t ≡ false → (w : Weights) → AreWeights w → is_inside (face_of t) (sample_point t w) ≡ true
sample_inside t full w k = sum_is_inside (face_of t) t (face_has_triangle_corners t full) w (weights_positive k)

-- ---- two triangles
-- by its heights over several planes, a sample point is above none of them
sample_not_above : (planes : List Plane) (t : Tri) (w : Weights) → is_sample_within (heights_over planes t) w ≡ true →
    AllByRecursion (λ p. IsNotAbove p (sample_point t w)) planes
sample_not_above [] t w e = tt
sample_not_above (p ∷ planes) t w e =
    let q = and_parts (not (is_positive (sample_height (heights_of p t) w))) (is_sample_within (heights_over planes t) w) e in
    (record { at_most = rw (value_at_sum p t w) (not_positive_out (sample_height (heights_of p t) w) q.0) }, sample_not_above planes t w q.1)

-- a sample point of u that is within the edges of t, in whose plane u lies, is in the closed face of t
sample_meets : (t u : Tri) → is_flat u ≡ false → lies_in_plane_of t u ≡ true → (w : Weights) → AreWeights w →
    is_sample_within (heights_over (edges_of t) u) w ≡ true → Meets (face_of u) (face_of t)
unfolding face_of
sample_meets t u full on w k e =
    let h = heights_of (support_of t) u in let z = and_three (is_zero h.a) (is_zero h.b) (is_zero h.c) on in
    let flat = value_at_sum (support_of t) u w ∙ sum_of_zeros w h (zero_out h.a z.a) (zero_out h.b z.b) (zero_out h.c z.c) in
    record {
      at = sample_point u w;
      inside = sample_inside u full w k;
      holds =
          closed_in (face_of t) (sample_point u w) (record {
            flat = flat;
            weight =
                sum_has_positive_weight u w (positive_weights_are_not_negative (weights_positive k));
            within =
                sample_not_above (edges_of t) u w e;
          });
    }

-- triangles of one plane meet if a sample point of one is within the edges of the other
pub met_by_sample : (t u : Tri) → HasInPlane t u → HasInPlane u t → HasSampleWithin (heights_over (edges_of t) u) (heights_over (edges_of u) t) → AreMeeting t u
met_by_sample t u a b s =
    record {
      one = a.full;
      other = b.full;
      meet =
          ⊎_elim (λ e. inr (sample_meets t u b.full a.holds s.weights s.valid e))
          (λ e. inl (sample_meets u t a.full b.holds s.weights s.valid e)) (or_cases _ _ s.within);
    }
