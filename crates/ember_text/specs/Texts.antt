-- Texts of faces, and lists of bytes that have grown by them
use Rattle.std.specs.Prelude.{◌≡◌, ℕ, Bool, if◌then◌else◌, List, [], ◌∷◌, ◌++◌, ⊤}
use Rattle.ember_leaf.specs.Written.{HasGrown}
use Rattle.ember_model.specs.declared.face.Face.{Face}
use Rattle.ember_model.specs.declared.plane.Plane.{Plane}
use Rattle.ember_model.specs.declared.point.Spot.{Spot}
use Rattle.ember_model.specs.Faces.{flipped_face}
use Rattle.ember_model.specs.Edges.{RingEdge}
use Rattle.ember_model.specs.FaceFiles.{edge_line, IsFaceText, IsWrittenEdge, IsWrittenFace}
use Rattle.ember_point.specs.declared.meet_point.Meet.{Meet}
use Rattle.ember_point.specs.Points.{spot_of}
use Rattle.ember_poly.proofs.MovedOutline.{SameWithWeights}
use Rattle.ember_poly.proofs.TurnedOutline.{turned_outline}

-- the new bytes are the old ones and some more
abbrev pub Extends : List ℕ → List ℕ → Type 0
Extends old new = HasGrown (λ more. ⊤) old new

-- ---- edges
-- an edge by its plane and its start corner
abbrev pub edge_with : Plane → Meet → RingEdge
edge_with p m = record { plane = p; start = spot_of m }

-- the edges in the order in which they lead around the face seen from behind: the first edge, then the others
-- from the last to the second, each from its end to its start
abbrev pub turned : List RingEdge → List RingEdge
turned [] = []
turned (e ∷ []) = e ∷ []
turned (e ∷ d ∷ es) = turned_outline e d es

-- the line of an edge, with its start corner in lowest terms: `start` is the same point as the corner, and both
-- weights are positive
pub record IsEdgeText (e : RingEdge) (text : List ℕ) : Type 0 where
  pub start : Spot
  pub same : SameWithWeights e.start start
  pub written : IsWrittenEdge (record { plane = e.plane; start = start })
  pub is : text ≡ edge_line (record { plane = e.plane; start = start })

-- ---- faces
-- the face, or the same with the opposite front
abbrev pub oriented_face : Face → Bool → Face
oriented_face f flipped = if flipped then flipped_face f else f

-- the text of a face whose numbers are in their ranges
pub record IsTextInRange (f : Face) (text : List ℕ) : Type 0 where
  pub text_is : IsFaceText f text
  pub written : IsWrittenFace (record { support = f.support; edges = text_is.outline })

-- the new bytes are the old ones and the text of f
pub record Writes (f : Face) (old new : List ℕ) : Type 0 where
  pub text : List ℕ
  pub good : IsTextInRange f text
  pub is : new ≡ old ++ text
