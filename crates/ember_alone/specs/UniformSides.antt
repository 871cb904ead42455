-- The winding numbers on the two sides of a whole face
use Rattle.std.specs.Prelude.{◌≡◌, ℕ, ℤ, List, Some, slice_get}
use Rattle.ember_model.specs.declared.tri.Tri.{Tri}
use Rattle.ember_model.specs.declared.face.Face.{Face}
use Rattle.ember_model.specs.Faces.{Contains, face_of}
use Rattle.ember_model.specs.Meshes.{IsBalanced, of_mesh}
use Rattle.ember_model.specs.Sides.{IsSides}
use Rattle.ember_alone.specs.Touch.{IsAlone}

-- each mesh is closed
abbrev pub AreBalanced : List Tri → Type 0
AreBalanced ts = (m : ℕ) → IsBalanced (of_mesh m ts)

-- g is a part of f: it has the same support plane, and its inside points are inside f
pub record IsPart (f g : Face) : Type 0 where
  pub support : g.support ≡ f.support
  pub inside : Contains f g

-- whatever part of f one looks at, and wherever, these are the winding numbers before and after it
pub record HasUniformSides (ts : List Tri) (f : Face) (before after : List ℤ) : Type 0 where
  pub same : (g : Face) (b a : List ℤ) → IsPart f g → IsSides ts g b a → (b ≡ before) × (a ≡ after)

-- a triangle that is alone has one value on each of its sides: that of any part of its face
abbrev pub AloneHaveUniformSides : List Tri → Type 0
AloneHaveUniformSides ts =
    (i : ℕ) (t : Tri) (g : Face) (before after : List ℤ) → IsAlone ts i → slice_get ts i ≡ Some t → IsPart
    (face_of t) g → IsSides ts g before after → HasUniformSides ts (face_of t) before after
