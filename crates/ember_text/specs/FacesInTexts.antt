-- The faces that texts hold
use Rattle.std.specs.Prelude.{◌≡◌, ℕ, List}
use Rattle.std.specs.List.{AllZip}
use Rattle.ember_model.specs.declared.face.Face.{Face}
use Rattle.ember_poly.specs.Outlines.{face_of_edges}
use Rattle.ember_text.specs.Texts.{IsTextInRange}

-- g is the face that the text of f holds: its support plane, and the planes of its outline in order
pub record IsFaceInText (f g : Face) : Type 0 where
  pub text : List ℕ
  pub is_text : IsTextInRange f text
  pub is : g ≡ face_of_edges f.support is_text.text_is.outline

-- the faces that the texts of these faces hold, in order
abbrev pub AreFacesInTexts : List Face → List Face → Type 0
AreFacesInTexts fs gs = AllZip IsFaceInText fs gs
