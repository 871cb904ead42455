-- The points at which the paths to a region end: directly beside an inside point that is close
-- enough to the first corner.
use Rattle.std.proofs.Common.{◌≡◌, refl, ap, ◌∙◌, arith, ℕ, ◌+◌, ◌*◌, ◌<◌, ◌≤◌, true, ℤ, pos, neg_ℤ, ◌<ℤ◌, unsigned_abs}
use borrow.Author.Differences.{ints}
use Rattle.ember_algebra.specs.Vector.{Vector}
use Rattle.ember_algebra.specs.Size.{Small}
use Rattle.ember_algebra.specs.declared.Sign.{Sign}
use Rattle.ember_algebra.specs.declared.Sign.TheVariants.{Zero}
use Rattle.ember_algebra.specs.Sign.{sgn, flip, is_nil}
use Rattle.ember_algebra.proofs.Laws.{linear}
use Rattle.ember_algebra.proofs.Order.{pos_mul}
use Rattle.ember_algebra.proofs.Signs.{flip_zero}
use Rattle.ember_model.specs.declared.point.Spot.{Spot}
use Rattle.ember_model.specs.declared.point.Axis.{Axis}
use Rattle.ember_model.specs.declared.point.Axis.TheVariants.{X, Y, Z}
use Rattle.ember_model.specs.declared.plane.Plane.{Plane}
use Rattle.ember_model.specs.declared.face.Face.{Face}
use Rattle.ember_model.specs.Planes.{value_at, along, main_axis, HasNoNormal}
use Rattle.ember_model.specs.Points.{scaled, moved}
use Rattle.ember_model.specs.Within.{IsSupportWithin, normal_limit}
use Rattle.ember_model.specs.Faces.{is_inside}
use Rattle.ember_model.proofs.SignTests.{zero_out}
use Rattle.ember_model.proofs.Hits.{inside_parts, moved_weight}
use Rattle.ember_width.proofs.Slides.{support_within_planes, slid_within_planes, slid_twice_within_planes}
use Rattle.ember_ref.specs.References.{or_sign}
use Rattle.ember_ref.proofs.ReferenceSigns.{both_zero}
use Rattle.ember_trace.specs.Paths.{coordinate, inside_side, second_of}
use Rattle.ember_trace.proofs.PathVertices.{close_to, entries}
use Rattle.ember_trace.proofs.VertexSides.{IsClose, AreStops, value_bound, close_sign, after_sign, before_sign}
use Rattle.ember_trace.proofs.Corners.{AreFirst}
use Rattle.ember_trace.proofs.SegmentCrossings.{IsEnd}

-- ---- an inside point, close enough to the first corner
pub record Found (m : ℕ) (f : Face) (a b d : Spot) : Type 0 where
  pub q : Spot
  pub inside : is_inside f q ≡ true
  pub close : IsClose m (main_axis f.support) a b d q

-- the first three corners are found as the code takes them
pub first_corners_found : (m : ℕ) (f : Face) (a b d : Spot) → AreFirst f a b d → Found m f a b d
first_corners_found m f a b d first =
    record {
      q = q;
      inside = inside;
      close = record {
        weight = (inside_parts f q inside).0;
        at_end =
            λ h i. close_sign n h a b d i (omega arith) (omega arith);
        apart = apart;
      };
    }
  where
    n : ℕ
    n = value_bound m b + value_bound m d + 1

    q : Spot
    q = close_to (pos n) a b d

    inside : is_inside f q ≡ true
    inside = first.inside (pos n) (omega (arith, ints))

    apart : (h : Plane) → inside_side h a b d ≡ Zero → along h (main_axis f.support) ≡ pos 0 → HasNoNormal h
    apart h z e =
        let u = value_at h a in let v = value_at h b in let w = value_at h d in
        let x = both_zero (sgn u) (or_sign (sgn v) (sgn w)) z in let y = both_zero (sgn v) (sgn w) x.1 in
        first.apart h (zero_out u (ap is_nil x.0)) (zero_out v (ap is_nil y.0)) (zero_out w (ap is_nil y.1)) e

-- ---- a path to it, from close enough to the corner of the box
abbrev pub far_out : ℕ → ℕ → Spot → ℕ
far_out m f q = f + unsigned_abs q.w * normal_limit m + unsigned_abs q.w * (unsigned_abs q.w * normal_limit m) + 1

pub stops_from : (m f : ℕ) → normal_limit m < f → (k : Axis) (lo : Vector) (a b d : Spot) (q : Spot) → IsClose m k a b d q →
    ((k : Axis) → Small (m + 1) (coordinate (entries lo) k)) → AreStops m f k lo a b d q (far_out m f q)
stops_from m f tells k lo a b d q close small =
    record {
      close = close;
      tells = tells;
      large = omega arith;
      two = omega (arith, tells);
      once = omega arith;
      twice = omega arith;
      within_once = λ h i. slid_within_planes m h k _ i (small k);
      within_twice = λ h i. slid_twice_within_planes m h (second_of k) k _ _ i (small (second_of k)) (small k);
    }

-- ---- directly beside it
-- the entries of a support plane's normal are as small as normals are
pub along_small : {m : ℕ} (h : Plane) (k : Axis) → IsSupportWithin m h → Small (normal_limit m) (along h k)
along_small h X i = i.a
along_small h Y i = i.b
along_small h Z i = i.c

module _ {m : ℕ} (k : Axis) (a b d : Spot) (q : Spot) (close : IsClose m k a b d q) (s n : ℕ) (ls : 1 ≤ s)
    (lm : normal_limit m * s < n) where
  weight : (by : ℤ) → pos 0 <ℤ (moved (scaled (pos n) q) k by).w
  weight by =
      let e = moved_weight (scaled (pos n) q) k by in let l : pos 0 <ℤ pos n = omega (arith, ints, lm) in let p =
      pos_mul l close.weight in omega (arith, linear, e, p)

  -- a small step ahead is an end after the region
  pub after_end : IsEnd m k a b d (λ t. t) (moved (scaled (pos n) q) k (pos s))
  after_end =
      record {
        weight = weight (pos s);
        side = λ h i. after_sign k q h (along_small h k i) n s ls lm
            ∙ ap (λ (t : Sign). or_sign t (sgn (along h k))) (close.at_end h (support_within_planes m h i));
        level = refl;
        level_out =
            λ t e. e;
      }

  -- a small step back is an end before the region
  pub before_end : IsEnd m k a b d flip (moved (scaled (pos n) q) k (neg_ℤ (pos s)))
  before_end =
      record {
        weight = weight (neg_ℤ (pos s));
        side =
            λ h i. before_sign k q h (along_small h k i) n s ls lm
            ∙ ap (λ (t : Sign). or_sign t (flip (sgn (along h k)))) (close.at_end h (support_within_planes m h i));
        level =
            refl;
        level_out = flip_zero;
      }
