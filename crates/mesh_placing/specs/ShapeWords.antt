-- Shapes as words: box:X,Y,Z,X,Y,Z  cylinder:X,Y,Z,RADIUS,HEIGHT,SIDES
use Rattle.std.specs.Prelude.{ℕ, ◌^◌, Bool, false, ◌&&◌, ◌||◌, not, nat_le, nat_lt, codes, if◌then◌else◌, ℤ, pos, int_lt}
use Rattle.std.specs.Prelude.{List, [], ◌∷◌, Option, None, Some, Result, Ok, Err}
use Rattle.std.specs.Option.{option_or}
use Rattle.std.specs.Ordering.{int_eq}
use Rattle.mesh_number.specs.Number.Fractions.{Fraction, is_below_limit, floor_times}
use Rattle.mesh_number.specs.Number.Naturals.{number_of, below}
use Rattle.mesh_number.specs.Number.Texts.{value_of_text}
use Rattle.mesh_number.specs.Number.Values.{value_of}
use Rattle.mesh_read.specs.Surface.Surfaces.{Point, point_of}
use Rattle.mesh_placing.specs.declared.shapes.Shape.{Shape}
use Rattle.mesh_placing.specs.declared.shapes.Shape.TheVariants as shape
use Rattle.mesh_placing.specs.declared.shapes.Parts as code
use Rattle.mesh_placing.specs.declared.shapes.ShapeWordFault.{ShapeWordFault}
use Rattle.mesh_placing.specs.declared.shapes.ShapeWordFault.TheVariants.{NoBox, NoCylinder, Flat, Radius, Height, Sides}
use Rattle.mesh_placing.specs.Words.{then_some, behind, part_before, behind_head}

-- a shape as a word says it
pub data SaidShape : Type 0 where
  box : Point → Point → SaidShape
  cylinder : Point → Fraction → Fraction → ℕ → SaidShape

-- a shape as definitions see it
abbrev pub said_shape : Shape → SaidShape
said_shape (shape.Box from to) = box (point_of from) (point_of to)
said_shape (shape.Cylinder c) = cylinder (point_of c.centre) (value_of c.radius) (value_of c.height) c.sides

-- ---- numbers
-- at most twelve decimal places, and below 10^15 in size
abbrev pub is_plain : Fraction → Bool
is_plain v = nat_le v.denominator (10 ^ 12) && is_below_limit v

abbrev pub plain_or_none : Fraction → Option Fraction
plain_or_none v = if is_plain v then Some v else None

-- the number that a text says
abbrev pub plain_said : List ℕ → Option Fraction
plain_said text = then_some (value_of_text text) plain_or_none

-- the trillionths of such a number
abbrev pub trillionths : Fraction → Option ℤ
trillionths v = floor_times (10 ^ 12) v

abbrev pub are_equal : Option ℤ → Option ℤ → Bool
are_equal None b = false
are_equal (Some a) None = false
are_equal (Some a) (Some b) = int_eq a b

abbrev pub is_above_nought : Option ℤ → Bool
is_above_nought None = false
is_above_nought (Some a) = int_lt (pos 0) a

-- two points have a coordinate in common
abbrev pub is_flat_between : Point → Point → Bool
is_flat_between a b =
    are_equal (trillionths a.x) (trillionths b.x)
    || (are_equal (trillionths a.y) (trillionths b.y) || are_equal (trillionths a.z) (trillionths b.z))

-- ---- parts of a text
-- a number, and what is behind the comma after it
abbrev pub first_number : List ℕ → Option (Fraction × List ℕ)
first_number text =
    then_some (plain_said (part_before 44 text)) (λ v. then_some (behind 44 text) (λ rest. Some (v, rest)))

-- a point with a comma after it, and what is behind that
abbrev pub first_point : List ℕ → Option (Point × List ℕ)
first_point text =
    then_some (first_number text) (λ x.
    then_some (first_number x.1) (λ y.
    then_some (first_number y.1) (λ z.
    Some (record { x = x.0; y = y.0; z = z.0 }, z.1))))

-- a point with nothing behind it
abbrev pub last_point : List ℕ → Option Point
last_point text =
    then_some (first_number text) (λ x.
    then_some (first_number x.1) (λ y.
    then_some (plain_said y.1) (λ z.
    Some (record { x = x.0; y = y.0; z = z }))))

-- ---- boxes
-- two corners
abbrev pub corners_said : List ℕ → Option (Point × Point)
corners_said text = then_some (first_point text) (λ a. then_some (last_point a.1) (λ b. Some (a.0, b)))

abbrev pub box_of : Option (Point × Point) → Result (Option SaidShape) ShapeWordFault
box_of None = Err NoBox
box_of (Some corners) =
    if is_flat_between corners.0 corners.1 then Err Flat else Ok (Some (box corners.0 corners.1))

-- ---- cylinders
-- the centre of the bottom, the radius, the height, and the text of the number of sides
pub record Parts : Type 0 where
  pub centre : Point
  pub radius : Fraction
  pub height : Fraction
  pub sides : List ℕ

abbrev pub parts_of : code.Parts → Parts
parts_of p = record {
  centre = point_of p.centre;
  radius = value_of p.radius;
  height = value_of p.height;
  sides = p.sides.now;
}

abbrev pub parts_said : List ℕ → Option Parts
parts_said text =
    then_some (first_point text) (λ centre.
    then_some (first_number centre.1) (λ radius.
    then_some (first_number radius.1) (λ height.
    Some (record { centre = centre.0; radius = radius.0; height = height.0; sides = height.1 }))))

abbrev pub from_three : Option ℕ → Option ℕ
from_three None = None
from_three (Some n) = if nat_lt n 3 then None else Some n

-- a number from 3 to 4096
abbrev pub sides_said : List ℕ → Option ℕ
sides_said text = from_three (below 4097 (number_of text))

abbrev pub with_sides : Parts → Option ℕ → Result (Option SaidShape) ShapeWordFault
with_sides parts None = Err Sides
with_sides parts (Some sides) = Ok (Some (cylinder parts.centre parts.radius parts.height sides))

abbrev pub cylinder_of : Option Parts → Result (Option SaidShape) ShapeWordFault
cylinder_of None = Err NoCylinder
cylinder_of (Some parts) =
    if not (is_above_nought (trillionths parts.radius)) then Err Radius
    else (if are_equal (trillionths parts.height) (Some (pos 0)) then Err Height
    else with_sides parts (sides_said parts.sides))

-- ---- words
abbrev pub shape_by : Option (List ℕ) → Option (List ℕ) → Result (Option SaidShape) ShapeWordFault
shape_by (Some corners) parts = box_of (corners_said corners)
shape_by None (Some parts) = cylinder_of (parts_said parts)
shape_by None None = Ok None

-- the shape that a word says; none if it begins as no shape; or why it says none though it begins as one
unfoldable pub shape_said : List ℕ → Result (Option SaidShape) ShapeWordFault
shape_said word = shape_by (behind_head (codes "box:") word) (behind_head (codes "cylinder:") word)

abbrev pub shape_fault : Result (Option SaidShape) ShapeWordFault → Option ShapeWordFault
shape_fault (Ok said) = None
shape_fault (Err fault) = Some fault

-- why the first of the words that begins as a shape and says none doesn't
abbrev pub first_shape_fault : List (List ℕ) → Option ShapeWordFault
first_shape_fault [] = None
first_shape_fault (word ∷ words) = option_or (shape_fault (shape_said word)) (first_shape_fault words)
