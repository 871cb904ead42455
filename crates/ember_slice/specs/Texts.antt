-- The text of a slice while it grows, face by face
use Rattle.std.specs.Prelude.{◌≡◌, ℕ, ℤ, List, [], ◌∷◌, ◌++◌, flat_map, length, codes}
use Rattle.ember_algebra.specs.Relations.{Each}
use Rattle.ember_model.specs.declared.face.Face.{Face}
use Rattle.ember_model.specs.FaceFiles.{line_of}
use Rattle.ember_slice.specs.Segments.{Directed, GivesSegments, segment_line}

-- the line of the face's segment was added, if it gives one, and their number is that
pub record AddsSegment (f : Face) (at : ℤ) (count : ℕ) (old new : List ℕ) : Type 0 where
  pub segments : List Directed
  pub gives : GivesSegments at f segments
  pub is : new ≡ old ++ flat_map segment_line segments
  pub count_is : length segments ≡ count

-- the line with the level, and those of the segments of these faces, and their number
pub record HasSegments (fs : List Face) (at : ℤ) (count : ℕ) (text : List ℕ) : Type 0 where
  pub segments : List Directed
  pub are : Each (GivesSegments at) fs segments
  pub is : text ≡ line_of (codes "slice") (at ∷ []) ++ flat_map segment_line segments
  pub count_is : length segments ≡ count
