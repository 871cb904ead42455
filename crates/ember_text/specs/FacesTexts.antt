-- Texts of faces with their number
use Rattle.std.specs.Prelude.{ℕ, List}

-- the texts of some faces, one after another, and the number of these faces
pub record FacesText : Type 0 where
  pub bytes : List ℕ
  pub count : ℕ
