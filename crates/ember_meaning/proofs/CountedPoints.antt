-- Which points are counted: those off the cutting planes, and those of a half-open box
use Rattle.std.specs.Prelude.{◌≡◌, ℕ, ℤ, ◌*ℤ◌, Bool, true, false, not, ◌&&◌, ◌||◌, ◌⊎◌, List, int_le, int_lt}
use Rattle.std.specs.List.{count_by}
use Rattle.ember_algebra.specs.Relations.{Every}
use Rattle.ember_algebra.specs.Sign.{is_zero, is_negative}
use Rattle.ember_model.specs.declared.tri.Tri.{Tri}
use Rattle.ember_model.specs.declared.plane.Plane.{Plane}
use Rattle.ember_model.specs.declared.point.Spot.{Spot}
use Rattle.ember_model.specs.declared.point.Axis.TheVariants.{X, Y, Z}
use Rattle.ember_model.specs.declared.face.Face.{Face}
use Rattle.ember_model.specs.Planes.{value_at, support_of}
use Rattle.ember_model.specs.Faces.{is_inside, is_flat}
use Rattle.ember_box.specs.Boxes.{Cell, low, high}
use Rattle.ember_box.specs.Near.{tri_at, near}
use Rattle.ember_box.specs.Regions.{Wall, walls, cutting_planes}

-- p is 0 wherever s is
pub record Follows (s p : Plane) : Type 0 where
  pub zero : (v : Spot) → is_zero (value_at s v) ≡ true → is_zero (value_at p v) ≡ true

-- s and p aren't both 0 at x, unless p is 0 wherever s is
abbrev pub IsOff : Spot → Plane → Plane → Type 0
IsOff x s p =
    (is_zero (value_at s x) ≡ true → is_zero (value_at p x) ≡ true → ⊥) ⊎ Follows s p

-- how many of the faces have x inside
abbrev pub hits : Spot → List Face → ℕ
hits x fs = count_by (λ f. is_inside f x) fs

-- x is on the wall's side of the half-open box
abbrev pub passes : Spot → Wall → Bool
passes x w =
    is_negative (value_at w.plane x) || (not w.is_high && is_zero (value_at w.plane x))

-- x / w is at least l, and below h
abbrev pub is_between : ℤ → ℤ → ℤ → ℤ → Bool
is_between l h x w = int_le (l *ℤ w) x && int_lt x (h *ℤ w)

-- v is in the half-open box
abbrev pub is_in_box : Cell → Spot → Bool
is_in_box c v =
    is_between (low c X) (high c X) v.x v.w && (is_between (low c Y) (high c Y) v.y v.w && is_between (low c Z) (high c Z) v.z v.w)

-- x is off the walls of the box, and off the planes that cut triangle i there
pub record IsFair (c : Cell) (ts : List Tri) (i : ℕ) (x : Spot) : Type 0 where
  pub walls : Every (λ w. IsOff x (support_of (tri_at ts i)) w.plane) (walls c)
  pub cutting_planes : Every (λ b. IsOff x (support_of (tri_at ts i)) b.plane) (cutting_planes ts i)

-- x is off all planes that cut a triangle in a box
abbrev pub IsFairAt : List Tri → Spot → Cell → Type 0
IsFairAt scene x c =
    (i : ℕ) → is_flat (tri_at (near scene c) i) ≡ false → IsFair c (near scene c) i x

-- x is off all planes that cut a triangle in one of the boxes
abbrev pub IsFairInAll : List Tri → List Cell → Spot → Type 0
IsFairInAll scene cs x = Every (λ c. IsFairAt scene x c) cs
