-- Lines that are read one after another.
use Rattle.std.proofs.Common.{◌≡◌, ◌≢◌, ℕ, ◌+◌, List, [], ◌∷◌, length, map, refl, Ok, Err}
use Rattle.mesh_read.specs.declared.surface.surface.Vertex.{Vertex}
use Rattle.mesh_read.specs.Surface.Surfaces.{point_of}
use Rattle.mesh_read.specs.declared.stl.fault.StlFault.{StlFault}
use Rattle.mesh_read.specs.declared.stl.fault.StlFault.TheVariants.{NotThreeVertices}
use Rattle.mesh_read.specs.Scan.Parts.{Piece, is_space, words_by}
use Rattle.mesh_read.specs.Stl.Ascii.{State, with_corners, after_words, Line, numbered, after_lines}

-- a facet of fewer or more corners than three is refused
pub not_three_corners : (line : ℕ) (state : State) (place : ℕ) (corners : List Vertex) → length corners ≢ 3 →
    with_corners line state place (map point_of corners) ≡ Err (NotThreeVertices line)
not_three_corners line state place [] other = refl
not_three_corners line state place (a ∷ []) other = refl
not_three_corners line state place (a ∷ b ∷ []) other = refl
not_three_corners line state place (a ∷ b ∷ c ∷ []) other = absurd (other refl)
not_three_corners line state place (a ∷ b ∷ c ∷ d ∷ more) other = refl

-- a fault stays the fault after further lines
pub after_fault : (fault : StlFault) (lines : List Line) → after_lines (Err fault) lines ≡ Err fault
after_fault fault [] = refl
after_fault fault (line ∷ lines) = refl

-- the first line is read, and those behind it are left
pub line_read : (number : ℕ) (lines more : List Piece) (line : Piece) (state : State) → lines ≡ line ∷ more →
    after_lines (Ok state) (numbered number lines) ≡ after_lines
    (after_words number state (words_by is_space line.start line.text [])) (numbered (number + 1) more)
line_read number lines more line state is = rw is refl
