-- An OBJ text, read again
use Rattle.std.proofs.Common.{◌≡◌, ℕ, ◌+◌, List, [], length, map, Ok, sym, ap, subst, ◌∙◌, arith}
use Rattle.std.specs.Prelude.{All, flat_map}
use Rattle.std.proofs.lemmas.List.{length-map}
use Rattle.mesh_write.specs.Text.Texts.{obj_face, obj_lines, obj_text}
use Rattle.mesh_read.specs.Scan.Parts.{lines_from}
use Rattle.mesh_read.specs.Surface.Flaws.{as_mesh}
use Rattle.mesh_read.specs.Surface.Surfaces.{Content, no_content}
use Rattle.mesh_write.specs.declared.vertices.point.DecimalPoint.{DecimalPoint}
use Rattle.mesh_write.specs.declared.vertices.point.IndexedTriangle.{IndexedTriangle}
use Rattle.mesh_read.specs.Wavefront.ReadWavefront.{after_rows, content_in, read_wavefront_of}
use Rattle.mesh_read.specs.Wavefront.Faults.{of_flaw}
use Rattle.mesh_read.specs.Wavefront.Rows.{rows_from, rows_of}
use Rattle.mesh_write.specs.Reading.Readings.{IsWithin, AreReadable, IsReadAs}
use Rattle.mesh_write.proofs.Contents.{read_point, content_from, content_is_read, mesh_ok}
use Rattle.mesh_write.proofs.ObjRows.{comment_row}
use Rattle.mesh_write.proofs.ObjPoints.{vertices}
use Rattle.mesh_write.proofs.ObjFacets.{faces}

-- the triangles behind all points
triangles_read : (n s places : ℕ) (ps : List DecimalPoint) (ts : List IndexedTriangle) → AreReadable places ps ts
    → after_rows (Ok (record { points = map (read_point places) ps; facets = [] }))
    (rows_from n (lines_from s (flat_map obj_face ts))) ≡ Ok (content_from n places ps ts)
triangles_read n s places ps ts h =
    let count : length ps ≡ length (map (read_point places) ps) = sym (length-map ps (read_point places)) in
    faces n s ts (record { points = map (read_point places) ps; facets = [] }) (omega (arith, count, h.few_points))
    (subst (λ (v : ℕ). All (IsWithin v) ts) count h.within)

obj_content : (places : ℕ) (ps : List DecimalPoint) (ts : List IndexedTriangle) → AreReadable places ps ts →
    content_in (rows_of (obj_text places ps ts)) ≡ Ok (content_from (2 + length ps) places ps ts)
obj_content places ps ts h =
    let front = vertices places 2 43 ps (flat_map obj_face ts) no_content h.below in
    ap content_in (comment_row (obj_lines places ps ts)) ∙ front.is ∙ triangles_read (2 + length ps) front.next places ps ts h

pub obj_is_read : (places : ℕ) (ps : List DecimalPoint) (ts : List IndexedTriangle) → AreReadable places ps ts
    → (content : Content) × (read_wavefront_of (obj_text places ps ts) ≡ Ok content) × IsReadAs places ps ts content
obj_is_read places ps ts h = (
  content_from (2 + length ps) places ps ts,
  ap (as_mesh of_flaw) (obj_content places ps ts h)
      ∙ mesh_ok of_flaw (2 + length ps) places ps ts h.triangles h.below,
  content_is_read (2 + length ps) places ps ts h.below,
)
