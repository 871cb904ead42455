-- The file of a mesh, and the output for mesh files
use Rattle.std.specs.Prelude.{◌≡◌, ◌≤◌, ◌<◌, ⊤, ℕ, Bool, true, false, ◌+◌, List, length, map, IfSome}
use Rattle.std.specs.Global.{Vec}
use Rattle.std.specs.declared.option.Option.{Option}
use Rattle.ember_expr.specs.Formula.{Formula}
use Rattle.mesh_write.specs.Glb.ReadBack as glb
use Rattle.mesh_write.specs.Glb.Written.{IsGlb}
use Rattle.mesh_grid.specs.declared.grid.grid.Grid.{Grid}
use Rattle.mesh_manifold.specs.declared.split.SplitMesh.{SplitMesh}
use Rattle.mesh_manifold.specs.Splits.{AreSplitOf}
use Rattle.mesh_manifold.specs.Cuts.{AreCutOf}
use Rattle.mesh_manifold.specs.Paired.{IsManifold}
use Rattle.ember_model.specs.declared.tri.Tri.{Tri}
use Rattle.mesh_grid.specs.Moves.Shown.{AreMoves}
use Rattle.mesh_write.specs.declared.text.format.TextFormat.{TextFormat}
use Rattle.mesh_write.specs.Text.Texts.{text_of}
use Rattle.ember_meaning.specs.Regions.Solids.{IsSolidReport}
use Rattle.mesh_scene.specs.Scene.Images.{images_of, counts_on}
use Rattle.mesh_solid.specs.declared.mesh.mesh.SolidMesh.{SolidMesh}
use Rattle.mesh_solid.specs.Mesh.Asked.{IsThereIf}
use Rattle.mesh_solid.specs.Mesh.Meshes.{IsSolidMesh}
use Rattle.mesh_write.specs.declared.stl.triangle.FloatTriangle.{FloatTriangle}
use Rattle.mesh_write.specs.Stl.ReadBack as stl
use Rattle.mesh_write.specs.Stl.Written.{stl_bytes_of}
use Rattle.mesh_read.specs.declared.surface.surface.Surface.{Surface}
use Rattle.mesh_write.specs.declared.vertices.point.DecimalTriangle.{DecimalTriangle}
use Rattle.mesh_write.specs.Vertices.Vertices.{vertices_of, point_at}
use Rattle.mesh_written.specs.Digits.{written_places}
use Rattle.mesh_written.specs.Triangles.{AreWritten}
use Rattle.mesh_written.specs.Closed.{AreWrittenClosed, AreDecimalsClosed, AreIndicesClosed}
use Rattle.mesh_written.specs.Shared.{IsSharedCount, IsSharedIndexCount}
use Rattle.mesh_boolean.specs.declared.effect.RoundingEffect.{RoundingEffect}
use Rattle.mesh_boolean.specs.declared.files.InputFile.{InputFile}
use Rattle.mesh_boolean.specs.declared.wanted.FloatFormat.{FloatFormat}
use Rattle.mesh_boolean.specs.declared.wanted.FloatFormat.TheVariants.{Stl, Glb}
use Rattle.mesh_boolean.specs.declared.wanted.MeshFormat.{MeshFormat}
use Rattle.mesh_boolean.specs.declared.wanted.MeshFormat.TheVariants.{Floats, Text}
use Rattle.mesh_boolean.specs.declared.wanted.WantedFile.{WantedFile}
use Rattle.mesh_boolean.specs.declared.output.KeptDocument.{KeptDocument}
use Rattle.mesh_boolean.specs.declared.output.SolidFile.{SolidFile}
use Rattle.mesh_boolean.specs.declared.writing.OutputMesh.{OutputMesh}
use Rattle.mesh_boolean.specs.Effects.{IsDecimalEffect, IsFloatEffect, decimals_of, over_vertices}
use Rattle.mesh_boolean.specs.Files.{ArePlaced}
use Rattle.mesh_boolean.specs.Lying.{AreLyingCounts}
use Rattle.mesh_boolean.specs.ShownFiles.{AreShownFiles}
use Rattle.mesh_boolean.specs.Volumes.{sixfold_volumes_of_meshes}

-- ---- formats
-- at most 17 decimal places are asked for
abbrev pub HasFewDigits : MeshFormat → Type 0
HasFewDigits (Floats format) = ⊤
HasFewDigits (Text format digits) = IfSome digits (λ n. n ≤ 17)

-- ---- STL and GLB
-- the bytes are the STL of the triangles, which reading them gives again
pub record IsStlFile (written : List FloatTriangle) (bytes : List ℕ) : Type 0 where
  pub is : bytes ≡ stl_bytes_of written
  pub read_back : stl.IsReadBack written bytes

-- or the GLB; without triangles it has no mesh that could be read
pub record IsGlbFile (written : List FloatTriangle) (bytes : List ℕ) : Type 0 where
  pub is : IsGlb written bytes
  pub read_back : 0 < length written → glb.IsReadBack written bytes

abbrev pub IsFloatFile : FloatFormat → List FloatTriangle → List ℕ → Type 0
IsFloatFile Stl written bytes = IsStlFile written bytes
IsFloatFile Glb written bytes = IsGlbFile written bytes

-- the triangles of a mesh on the grid, in the user's unit and rounded
abbrev pub AreRounded : Grid → SolidMesh → List FloatTriangle → Type 0
AreRounded grid mesh written =
    AreWritten grid.step grid.offset mesh.planes.items mesh.corners.items mesh.triangles.items written

-- they are there exactly if they are asked for
abbrev pub AreShownIf : Bool → Grid → SolidMesh → Option (Vec FloatTriangle) → Type 0
AreShownIf shows grid mesh shown = IsThereIf shows (λ written. AreRounded grid mesh written.items) shown

-- the triangles of the mesh, rounded, and what rounding did to it
pub record AreRoundedWith (grid : Grid) (mesh : SolidMesh) (written : List FloatTriangle) (effect : RoundingEffect) :
    Type 0 where
  pub rounded : AreRounded grid mesh written
  pub is_effect : IsFloatEffect grid mesh rounded.points effect

-- the bytes are the file of the mesh's rounded triangles, which are also those that are shown, if any are; there are
-- none only if the mesh has none. The numbers are those of the mesh, of what rounding did to it, of its triangles
-- that aren't written, and of the edges of more than two written triangles, if these are closed
pub record IsOfFloats (format : FloatFormat) (grid : Grid) (mesh : SolidMesh) (file : OutputMesh) : Type 0 where
  pub written : List FloatTriangle
  pub rounded : AreRoundedWith grid mesh written file.effect
  pub bytes : IsFloatFile format written file.bytes.items
  pub shown : IfSome file.shown (λ shown. shown.items ≡ written)
  pub not_known : file.is_manifold ≡ false
  pub faces : file.faces ≡ mesh.faces
  pub planes : file.planes ≡ length mesh.planes.items
  pub triangles : file.triangles ≡ length mesh.triangles.items
  pub vanished : file.vanished + length written ≡ file.triangles
  pub some : file.written ≡ 0 → file.triangles ≡ 0
  pub count : file.written ≡ length written
  pub shared : AreWrittenClosed written → IsSharedCount written file.shared

-- ---- text
-- the bytes are a text of triangles, some of them cut at the middles of their edges: each of their points is a vertex,
-- some of them more than once, and each corner of a triangle is a vertex at its point. There are so many triangles. If
-- it is called manifold, each edge between its vertices has two triangles; otherwise none is cut
pub record IsTextOver (format : TextFormat) (places : ℕ) (ts : List DecimalTriangle) (bytes : List ℕ) (count : ℕ)
    (is_manifold : Bool) : Type 0 where
  pub cut : List DecimalTriangle
  pub are_cut : AreCutOf ts cut
  pub split : SplitMesh
  pub are_split : AreSplitOf split (over_vertices cut)
  pub is : bytes ≡ text_of format places (map (point_at (vertices_of cut)) split.origins.items) split.triangles.items
  pub count_is : count ≡ length split.triangles.items
  pub manifold : is_manifold ≡ true → IsManifold split.triangles.items
  pub whole : is_manifold ≡ false → cut ≡ ts

-- the bytes are the text of the mesh's rounded triangles; the numbers are those of the mesh, of what rounding did to
-- it, of its triangles that aren't written, and, if the others are closed, of their edges of more than two, where
-- each point is one vertex
pub record IsText (format : TextFormat) (digits : Option ℕ) (grid : Grid) (mesh : SolidMesh) (file : OutputMesh) :
    Type 0 where
  pub bytes : IsTextOver format (written_places digits grid.step) (decimals_of digits grid mesh) file.bytes.items
      file.written file.is_manifold
  pub effect : IsDecimalEffect digits grid mesh file.effect
  pub faces : file.faces ≡ mesh.faces
  pub planes : file.planes ≡ length mesh.planes.items
  pub triangles : file.triangles ≡ length mesh.triangles.items
  pub vanished : file.vanished + length (decimals_of digits grid mesh) ≡ file.triangles
  pub shared : AreIndicesClosed (over_vertices (decimals_of digits grid mesh)) →
      IsSharedIndexCount (over_vertices (decimals_of digits grid mesh)) file.shared

-- ---- any format
abbrev pub IsWritten : MeshFormat → Grid → SolidMesh → OutputMesh → Type 0
IsWritten (Floats format) grid mesh file = IsOfFloats format grid mesh file
IsWritten (Text format digits) grid mesh file = IsText format digits grid mesh file

-- ---- closed
-- the triangles of the STL or the GLB are closed, and so many edges belong to more than two of them
pub record IsClosedOfFloats (format : FloatFormat) (grid : Grid) (mesh : SolidMesh) (file : OutputMesh) : Type 0 where
  pub floats : IsOfFloats format grid mesh file
  pub closed : AreWrittenClosed floats.written
  pub shared : IsSharedCount floats.written file.shared

-- the same of a text, before any of its triangles are cut and as they are written
pub record IsClosedText (format : TextFormat) (digits : Option ℕ) (grid : Grid) (mesh : SolidMesh) (file : OutputMesh) :
    Type 0 where
  pub text : IsText format digits grid mesh file
  pub closed : AreDecimalsClosed (decimals_of digits grid mesh)
  pub written : AreDecimalsClosed text.bytes.cut
  pub shared : IsSharedIndexCount (over_vertices (decimals_of digits grid mesh)) file.shared

-- the file has this format, and its triangles are closed
abbrev pub IsClosedAs : MeshFormat → Grid → SolidMesh → OutputMesh → Type 0
IsClosedAs (Floats format) grid mesh file = IsClosedOfFloats format grid mesh file
IsClosedAs (Text format digits) grid mesh file = IsClosedText format digits grid mesh file

-- ---- outputs
-- the scene has these triangles, and the document these bytes
pub record AreKept (images : List Tri) (bytes : List ℕ) (kept : KeptDocument) : Type 0 where
  pub scene : kept.scene.tris ≡ images
  pub document : kept.document.items ≡ bytes

-- the surfaces of the files, where they are placed, are a scene on the wanted grid, with these counts, moves and volumes;
-- there is a mesh of the solid of their triangles, with this report of the run; the file is this mesh in the wanted
-- format, closed; and the triangles that are shown, with their files, the numbers of those that lie on each file, and
-- the scene and the document of the solid, are there if they are wanted
pub record IsOutput (files : List InputFile) (formula : Formula) (wanted : WantedFile) (out : SolidFile) : Type 0 where
  pub surfaces : List Surface
  pub are_placed : ArePlaced files wanted.placings.now wanted.grid surfaces out.grid
  pub counts : out.counts.items ≡ map (counts_on out.grid) surfaces
  pub moves : AreMoves out.grid surfaces out.moves.items
  pub sixfold_volumes : out.sixfold_volumes.items
      ≡ sixfold_volumes_of_meshes (images_of out.grid surfaces) (length surfaces)
  pub mesh : SolidMesh
  pub solid : IsSolidMesh (images_of out.grid surfaces) formula mesh
  pub report : IsSolidReport (images_of out.grid surfaces) formula out.report
  pub written : IsClosedAs wanted.format out.grid mesh out.written
  pub shown : AreShownIf wanted.shows out.grid mesh out.written.shown
  pub lying : IsThereIf wanted.counts
      (λ counts. AreLyingCounts (images_of out.grid surfaces) (length surfaces) mesh counts.items) out.lying
  pub shown_files : IsThereIf wanted.shows (AreShownFiles (images_of out.grid surfaces) out.grid mesh) out.shown_files
  pub kept : IsThereIf wanted.keeps (AreKept (images_of out.grid surfaces) solid.bytes) out.kept
