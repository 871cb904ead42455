-- Sample points of a triangle: its corners, each with a weight
use Rattle.std.specs.Prelude.{◌≡◌, Bool, true, not, ◌||◌, ℤ, pos, ◌+ℤ◌, ◌*ℤ◌, ◌<ℤ◌, List}
use Rattle.std.specs.List.{list_all}
use Rattle.ember_algebra.specs.Size.{Small}
use Rattle.ember_algebra.specs.Sign.{is_positive}
use Rattle.ember_model.specs.declared.point.Spot.{Spot}
use Rattle.ember_model.specs.declared.tri.Tri.{Tri}
use Rattle.ember_model.specs.Points.{scaled, plus_s}
use Rattle.ember_model.specs.Owners.{spot_of_corner}
use Rattle.ember_width.specs.declared.heights.Heights.{Heights}
use Rattle.ember_pairs.specs.declared.samples.Weights.{Weights}

-- the weight of a corner: from 1 to 256
pub record IsWeight (k : ℤ) : Type 0 where
  pub positive : pos 0 <ℤ k
  pub small : Small 256 k

-- of each corner. So a sample point is an inside point
pub record AreWeights (w : Weights) : Type 0 where
  pub a : IsWeight w.a
  pub b : IsWeight w.b
  pub c : IsWeight w.c

-- the sample point of a triangle with these weights
abbrev pub sample_point : Tri → Weights → Spot
sample_point t w =
    plus_s
    (plus_s (scaled w.a (spot_of_corner t.a)) (scaled w.b (spot_of_corner t.b)))
    (scaled w.c (spot_of_corner t.c))

-- its height over a plane, by those of the corners
abbrev pub sample_height : Heights → Weights → ℤ
sample_height h w = w.a *ℤ h.a +ℤ w.b *ℤ h.b +ℤ w.c *ℤ h.c

-- it is above none of several planes, by the triangle's heights over them
abbrev pub is_sample_within : List Heights → Weights → Bool
is_sample_within heights w = list_all (λ h. not (is_positive (sample_height h w))) heights

-- some sample point of one of two triangles is above none of the edge planes of the other
pub record HasSampleWithin (theirs own : List Heights) : Type 0 where
  pub weights : Weights
  pub valid : AreWeights weights
  pub within : is_sample_within theirs weights || is_sample_within own weights ≡ true
