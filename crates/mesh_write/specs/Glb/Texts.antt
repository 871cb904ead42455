-- The texts of floats
use Rattle.std.specs.Prelude.{◌≡◌, ℕ, List, ◌++◌, Some, IsTrue, codes}
use Rattle.std.specs.Float.{Float, binary64, float_is_finite}
use Rattle.ryu.specs.Parse.{parse_float}
use Rattle.ryu.specs.Plain.{IsPlainNumber}
use Rattle.mesh_write.specs.declared.glb.bounds.FloatCoordinates.{FloatCoordinates}

-- read as a binary64, the text is exactly this float; if that is finite, the text is a number of JSON
pub record IsFloatText (x : Float) (text : List ℕ) : Type 0 where
  pub reads : parse_float binary64 text ≡ Some x
  pub number : IsTrue (float_is_finite x) → IsPlainNumber text

-- the texts of the coordinates with commas between them, in brackets
pub record IsVectorText (p : FloatCoordinates) (text : List ℕ) : Type 0 where
  pub x : List ℕ
  pub y : List ℕ
  pub z : List ℕ
  pub x_is : IsFloatText p.x x
  pub y_is : IsFloatText p.y y
  pub z_is : IsFloatText p.z z
  pub is : text ≡ codes "[" ++ (x ++ (codes "," ++ (y ++ (codes "," ++ (z ++ codes "]")))))
