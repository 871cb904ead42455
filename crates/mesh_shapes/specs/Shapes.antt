-- Shapes as files
use Rattle.std.specs.Prelude.{◌≡◌, ◌≢◌, ◌⊎◌, ℕ, pos, ◌*ℤ◌, false, List, map, All, Option, None, Some, Ok}
use Rattle.std.specs.List.{AllZip}
use Rattle.std.specs.Option.{option_or}
use Rattle.ember_io.specs.Files.{first_of}
use Rattle.ember_io.specs.Shelves.{Told}
use Rattle.mesh_number.specs.Number.Fractions.{Fraction}
use Rattle.mesh_read.specs.Surface.Surfaces.{Point, Content, point_of}
use Rattle.mesh_place.specs.declared.shapes.fault.ShapeFault.{ShapeFault}
use Rattle.mesh_place.specs.declared.shapes.fault.ShapeFault.TheVariants.{OutOfMemory}
use Rattle.mesh_place.specs.Shapes.{IsBox, IsBoxFault, IsCylinder, IsCylinderFault}
use Rattle.mesh_placing.specs.declared.shapes.Shape.{Shape}
use Rattle.mesh_placing.specs.declared.shapes.Shape.TheVariants.{Box, Cylinder}
use Rattle.mesh_placing.specs.ShapeWords.{SaidShape, said_shape, shape_said}
use Rattle.mesh_shapes.specs.Texts.{is_readable, IsTextOf}

-- ---- shapes as surfaces
-- the surface of a shape
abbrev pub IsDrawn : Shape → Content → Type 0
IsDrawn (Box from to) c = IsBox (point_of from) (point_of to) c
IsDrawn (Cylinder k) c = IsCylinder k.centre k.radius k.height k.sides c

-- when it has none
abbrev pub IsDrawFault : Shape → ShapeFault → Type 0
IsDrawFault (Box from to) fault = IsBoxFault from to fault
IsDrawFault (Cylinder k) fault = IsCylinderFault k.centre k.radius k.height k.sides fault

-- ---- shapes as texts
-- the text of its surface
pub record IsShapeText (shape : Shape) (text : List ℕ) : Type 0 where
  pub drawn : Content
  pub right : IsDrawn shape drawn
  pub written : IsTextOf drawn text

-- it has no surface
pub record IsNotDrawn (shape : Shape) : Type 0 where
  pub fault : ShapeFault
  pub is : IsDrawFault shape fault
  pub not_memory : fault ≢ OutOfMemory

-- its surface is one that readers refuse: a coordinate is 10^15 or more in size
pub record IsUnreadable (shape : Shape) : Type 0 where
  pub drawn : Content
  pub right : IsDrawn shape drawn
  pub refused : is_readable drawn ≡ false

abbrev pub HasNoText : Shape → Type 0
HasNoText shape = IsNotDrawn shape ⊎ IsUnreadable shape

-- ---- what readers find in them
abbrev pub IsSameNumber : Fraction → Fraction → Type 0
IsSameNumber v w = v.numerator *ℤ pos w.denominator ≡ w.numerator *ℤ pos v.denominator

pub record IsSamePlace (p q : Point) : Type 0 where
  pub x : IsSameNumber p.x q.x
  pub y : IsSameNumber p.y q.y
  pub z : IsSameNumber p.z q.z

-- the surface of a shape, where coordinates are the same in value, and triangles have places of their own
pub record IsShape (shape : Shape) (c : Content) : Type 0 where
  pub drawn : Content
  pub right : IsDrawn shape drawn
  pub points : AllZip IsSamePlace drawn.points c.points
  pub triangles : map (λ f. f.corners) c.facets ≡ map (λ f. f.corners) drawn.facets

-- ---- shapes as files
-- the name of a file says a shape, and its bytes are the text of the shape
pub record IsShapeFile (file : List ℕ × List ℕ) : Type 0 where
  pub shape : Shape
  pub said : shape_said file.0 ≡ Ok (Some (said_shape shape))
  pub text : IsShapeText shape file.1

-- a shape has no text
pub record IsSaidInVain (said : SaidShape) : Type 0 where
  pub shape : Shape
  pub is : said_shape shape ≡ said
  pub none : HasNoText shape

-- the word says no shape that has a text
abbrev pub IsNoFile : List ℕ → Type 0
IsNoFile word = (said : SaidShape) → shape_said word ≡ Ok (Some said) → IsSaidInVain said

-- files with that of one more word, if it has one
pub record IsNext (old new : List (List ℕ × List ℕ)) (word : List ℕ) : Type 0 where
  pub each : All IsShapeFile old → All IsShapeFile new
  pub kept : (name : List ℕ) → first_of new name ≡ None → first_of old name ≡ None
  pub served : first_of new word ≡ None → IsNoFile word

-- each file is one of a shape, and each of the words that says a shape with a text is the name of one
pub record AreShapeFiles (words : List (List ℕ)) (files : List (List ℕ × List ℕ)) : Type 0 where
  pub each : All IsShapeFile files
  pub all : All (λ word. first_of files word ≡ None → IsNoFile word) words

-- ---- shelves
-- what is told of each name is the file of the shape that it says, or else what is told below
pub record HasShapes (words : List (List ℕ)) (below told : Told) : Type 0 where
  pub files : List (List ℕ × List ℕ)
  pub are : AreShapeFiles words files
  pub shows : (name : List ℕ) → told name ≡ option_or (first_of files name) (below name)

-- what is unread, which file was begun, and how many faults there were
pub record IsAsBelow (unread : Option (List ℕ)) (begun faults : ℕ) (now : Option (List ℕ)) (last count : ℕ) :
    Type 0 where
  pub unread_as_below : now ≡ unread
  pub begun_as_below : last ≡ begun
  pub faults_as_below : count ≡ faults
