-- The properties of the rows of a PLY text
use Rattle.std.proofs.Common.{◌≡◌, ℕ, List, [], ◌∷◌, length, Some, None, Ok, refl, codes}
use Rattle.mesh_number.specs.Number.Fractions.{Fraction}
use Rattle.mesh_number.specs.Number.Naturals.{number_of, below}
use Rattle.mesh_number.specs.Number.Texts.{value_of_text}
use Rattle.mesh_ply.specs.Cursors.{Words}
use Rattle.mesh_ply.specs.Header.{Header, kind_named, nothing_declared}
use Rattle.mesh_ply.specs.ReadPly.{place_of}
use Rattle.mesh_ply.specs.Rows.{properties, empty_row}
use Rattle.mesh_read.specs.declared.scan.part.Span.{Span}
use Rattle.mesh_read.specs.Scan.Parts.{Piece}
use Rattle.mesh_read.specs.Surface.Surfaces.{Content}
use Rattle.mesh_write.proofs.Lines.{piece}
use Rattle.mesh_write.proofs.PlyHeaders.{with_element, with_axes, with_corners, behind_element}

abbrev pub behind_vertices : ℕ → ℕ → Header
behind_vertices s f = with_corners (with_element (with_axes (behind_element (codes "vertex") nothing_declared)) (piece s (codes "face")) f)

abbrev pub behind_faces : Header
behind_faces = with_corners (behind_element (codes "face") nothing_declared)

pub vertex_properties : (s f : ℕ) (name : Span) (count number : ℕ) (content : Content) (p q r : Piece) (rows : List (List Piece)) (x y z : Fraction)
    → value_of_text p.text ≡ Some x → value_of_text q.text ≡ Some y → value_of_text r.text ≡ Some z
    → properties (place_of (record { kind = kind_named (codes "vertex"); name = name; count = count }) number content)
    (behind_vertices s f).declarations empty_row (Words (p ∷ q ∷ r ∷ []) rows)
    ≡ Ok (record { x = Some x; y = Some y; z = Some z; corners = None }, Words [] rows)
vertex_properties s f name count number content p q r rows x y z h k l = rw (h, k, l) refl

pub face_properties : (name : Span) (count number : ℕ) (content : Content) (size p q r : Piece) (rows : List (List Piece)) (a b c : ℕ)
    → number_of size.text ≡ Some 3 → below (length content.points) (number_of p.text) ≡ Some a →
    below (length content.points) (number_of q.text) ≡ Some b →
    below (length content.points) (number_of r.text) ≡ Some c
    → properties (place_of (record { kind = kind_named (codes "face"); name = name; count = count }) number content)
    behind_faces.declarations empty_row (Words (size ∷ p ∷ q ∷ r ∷ []) rows)
    ≡ Ok (record { x = None; y = None; z = None; corners = Some (a ∷ b ∷ c ∷ []) }, Words [] rows)
face_properties name count number content size p q r rows a b c three h k l = rw (three, h, k, l) refl
