-- The values of a plane at the corners of a triangle, and on which sides of it the corners lie
use Rattle.std.specs.Prelude.{ℕ, Bool, not, ◌&&◌}
use Rattle.ember_algebra.specs.Size.{Small}
use Rattle.ember_algebra.specs.Sign.{is_negative, is_zero, is_positive}
use Rattle.ember_model.specs.declared.plane.Plane.{Plane}
use Rattle.ember_model.specs.declared.tri.Tri.{Tri}
use Rattle.ember_model.specs.Planes.{value_at}
use Rattle.ember_model.specs.Owners.{spot_of_corner}
use Rattle.ember_width.specs.declared.heights.Heights.{Heights}

-- the values of a plane at the corners of a triangle
abbrev pub heights_of : Plane → Tri → Heights
heights_of p t =
    record {
      a = value_at p (spot_of_corner t.a);
      b = value_at p (spot_of_corner t.b);
      c = value_at p (spot_of_corner t.c);
    }

-- no corner is behind the plane; none is in front of it; all are behind it, all in front of it, all on it
abbrev pub none_behind : Heights → Bool
none_behind h = not (is_negative h.a) && (not (is_negative h.b) && not (is_negative h.c))

abbrev pub none_in_front : Heights → Bool
none_in_front h = not (is_positive h.a) && (not (is_positive h.b) && not (is_positive h.c))

abbrev pub all_behind : Heights → Bool
all_behind h = is_negative h.a && (is_negative h.b && is_negative h.c)

abbrev pub all_in_front : Heights → Bool
all_in_front h = is_positive h.a && (is_positive h.b && is_positive h.c)

abbrev pub all_on : Heights → Bool
all_on h = is_zero h.a && (is_zero h.b && is_zero h.c)

-- no corner is behind the plane, and not all are on it
abbrev pub lie_in_front : Heights → Bool
lie_in_front h = none_behind h && not (all_on h)

-- no corner is in front of it, and not all are on it
abbrev pub lie_behind : Heights → Bool
lie_behind h = none_in_front h && not (all_on h)

-- they are at most m in size
pub record AreWithin (m : ℕ) (h : Heights) : Type 0 where
  pub a : Small m h.a
  pub b : Small m h.b
  pub c : Small m h.c
