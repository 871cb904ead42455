-- The file of a mesh, and the output that it belongs to
use Rattle.std.proofs.Common.{◌≡◌, ◌≤◌, ℕ, Bool, true, false, not, List, map, length, Option, Some, None, IfSome, ℤ, refl, sym, subst, ap, ◌∙◌, arith}
use Rattle.std.specs.Bool.{then_some}
use Rattle.std.specs.Global.{Vec}
use Rattle.std.specs.List.{All, list_all}
use Rattle.std.specs.Option.{option_map}
use Rattle.std.proofs.lemmas.List.{length-map}
use Rattle.std.proofs.lemmas.List.Filters.{length-filter_both}
use Rattle.mesh_point.specs.declared.space_point.SpacePoint.{SpacePoint}
use Rattle.mesh_certificate.specs.declared.certificate.triangle.Triangle.{Triangle}
use Rattle.mesh_certificate.specs.Certificate.Certificate.{IsProper}
use Rattle.ember_expr.specs.Formula.{Formula}
use Rattle.mesh_grid.specs.declared.grid.grid.Grid.{Grid}
use Rattle.ember_model.specs.declared.plane.Plane.{Plane}
use Rattle.ember_model.specs.Valid.{IsValidPlane}
use Rattle.ember_model.specs.declared.scene.Scene.{Scene}
use Rattle.ember_model.specs.declared.tri.Tri.{Tri}
use Rattle.mesh_scene.specs.declared.scene.scene.PlacedScene.{PlacedScene}
use Rattle.mesh_scene.specs.Scene.Images.{images_of}
use Rattle.mesh_grid.specs.declared.snap.offsets.Offset.{Offset}
use Rattle.mesh_grid.specs.declared.snap.steps.GridStep.{GridStep}
use Rattle.mesh_solid.proofs.ValidTables.{tables_in_are_valid}
use Rattle.mesh_solid.specs.declared.mesh.mesh.SolidMesh.{SolidMesh}
use Rattle.mesh_solid.specs.declared.mesh.solid.SolidRun.{SolidRun}
use Rattle.mesh_solid.specs.Mesh.Asked.{IsThereIf}
use Rattle.mesh_solid.specs.Mesh.Meshes.{IsDocumentMesh, IsSolidRun}
use Rattle.mesh_write.specs.declared.stl.triangle.FloatTriangle.{FloatTriangle}
use Rattle.mesh_write.specs.declared.text.format.TextFormat.{TextFormat}
use Rattle.mesh_write.specs.Text.Texts.{text_of}
use Rattle.mesh_write.specs.declared.vertices.point.DecimalPoint.{DecimalPoint}
use Rattle.mesh_write.specs.declared.vertices.point.DecimalTriangle.{DecimalTriangle}
use Rattle.mesh_write.specs.declared.vertices.point.IndexedTriangle.{IndexedTriangle}
use Rattle.mesh_write.specs.Vertices.Vertices.{vertices_of, indexed}
use Rattle.mesh_written.specs.Decimals.{decimal_point}
use Rattle.mesh_written.specs.DecimalTriangles as decimal
use Rattle.mesh_written.specs.Triangles.{has_corners, vanishes, kept, triangle_at, AreWritten}
use Rattle.mesh_written.specs.Closed.{AreDecimalsClosed, AreRoundAndClosed}
use Rattle.mesh_written.specs.Digits.{written_places}
use Rattle.mesh_written.proofs.Proper.{proper_corners}
use Rattle.mesh_written.proofs.WrittenClosed.{certified_are_closed, written_are_closed}
use Rattle.mesh_written.proofs.DecimalsClosed.{decimals_are_closed, indices_are_closed}
use Rattle.mesh_boolean.specs.declared.files.InputFile.{InputFile}
use Rattle.mesh_boolean.specs.declared.output.KeptDocument.{KeptDocument}
use Rattle.mesh_boolean.specs.declared.wanted.MeshFormat.{MeshFormat}
use Rattle.mesh_boolean.specs.declared.wanted.FloatFormat.{FloatFormat}
use Rattle.mesh_boolean.specs.declared.wanted.MeshFormat.TheVariants.{Floats, Text}
use Rattle.mesh_boolean.specs.declared.wanted.WantedFile.{WantedFile}
use Rattle.mesh_boolean.specs.declared.split.SplitDecimals.{SplitDecimals}
use Rattle.mesh_boolean.specs.declared.writing.OutputMesh.{OutputMesh}
use Rattle.mesh_boolean.specs.Files.{IsPlaced}
use Rattle.mesh_boolean.specs.Lying.{AreLyingCounts}
use Rattle.mesh_boolean.specs.ShownFiles.{AreShownFiles}
use Rattle.mesh_boolean.specs.Volumes.{sixfold_volumes_of_meshes}
use Rattle.mesh_boolean.specs.Effects.{decimals_of}
use Rattle.mesh_boolean.specs.Splits.{AreDecimalsOver}
use Rattle.mesh_boolean.specs.Outputs.{AreKept, AreRounded, AreShownIf, IsTextOver, IsOfFloats, IsText, IsWritten}
use Rattle.mesh_boolean.specs.Outputs.{IsClosedOfFloats, IsClosedText, IsClosedAs, IsOutput}
use Rattle.mesh_boolean.proofs.CutClosed.{split_is_closed}

twice : (b : Bool) → b ≡ not (not b)
twice true = refl
twice false = refl

kept_are_fewer : (ws : List FloatTriangle) → length (kept ws) ≤ length ws
kept_are_fewer ws =
    let e = length-filter_both (λ t. not (vanishes t)) vanishes (λ t. twice (vanishes t)) ws in omega (arith, e)

-- no more triangles are written than there are
pub written_are_fewer : (s : GridStep) (o : Offset) (planes : List Plane) (corners : List SpacePoint) (ts : List Triangle)
    (ws : List FloatTriangle) → AreWritten s o planes corners ts ws → length ws ≤ length ts
written_are_fewer s o planes corners ts ws h =
    let all = map (triangle_at planes h.points) ts in
    let e = ap length h.written in
    let n = length-map ts (triangle_at planes h.points) in
    let k = kept_are_fewer all in
    omega (arith, e, n, k)

-- the corners of proper triangles are in the table, by lists that equal theirs
pub corners_are_there : (planes : List Plane) {corners cs : List SpacePoint} {triangles ts : List Triangle} →
    cs ≡ corners → ts ≡ triangles → All (IsProper planes corners) triangles → list_all (has_corners (length cs)) ts ≡ true
corners_are_there planes {corners} {cs} {triangles} {ts} a b proper =
    let by_corners : list_all (has_corners (length cs)) triangles ≡ true =
    subst (λ (us : List SpacePoint). list_all (has_corners (length us)) triangles ≡ true) (sym a)
    (proper_corners planes corners triangles proper) in
    subst (λ (us : List Triangle). list_all (has_corners (length cs)) us ≡ true) (sym b) by_corners

-- triangles are those of the mesh, rounded, by lists that equal those of the mesh
pub mesh_is_rounded : (grid : Grid) (mesh : SolidMesh) (written : List FloatTriangle) {planes : List Plane}
    {corners : List SpacePoint} {triangles : List Triangle} → planes ≡ mesh.planes.items → corners ≡ mesh.corners.items →
    triangles ≡ mesh.triangles.items → AreWritten grid.step grid.offset planes corners triangles written →
    AreRounded grid mesh written
mesh_is_rounded grid mesh written {planes} {corners} {triangles} a b d h =
    let on_planes : AreWritten grid.step grid.offset mesh.planes.items corners triangles written =
    subst (λ (ps : List Plane). AreWritten grid.step grid.offset ps corners triangles written) a h in
    let on_corners : AreWritten grid.step grid.offset mesh.planes.items mesh.corners.items triangles written =
    subst (λ (cs : List SpacePoint). AreWritten grid.step grid.offset mesh.planes.items cs triangles written) b
    on_planes in
    subst (λ (ts : List Triangle). AreWritten grid.step grid.offset mesh.planes.items mesh.corners.items ts written) d on_corners

-- ---- texts
decimals_are_fewer : (ps : List DecimalPoint) (ts : List Triangle) → length (decimal.kept ps ts) ≤ length ts
decimals_are_fewer ps ts =
    let gone = λ (t : Triangle). decimal.vanishes (decimal.triangle_at ps t) in
    let e = length-filter_both (λ t. not (gone t)) gone (λ t. twice (gone t)) ts in omega (arith, e)

-- no more triangles of decimals are written than there are
pub fewer_decimals : (digits : Option ℕ) (grid : Grid) (mesh : SolidMesh) → length (decimals_of digits grid mesh) ≤ length mesh.triangles.items
fewer_decimals digits grid mesh =
    let ps = map (decimal_point (written_places digits grid.step) grid.step grid.offset) mesh.corners.items in
    let ts = mesh.triangles.items in
    let n = length-map (decimal.kept ps ts) (decimal.triangle_at ps) in
    let k = decimals_are_fewer ps ts in
    omega (arith, n, k)

-- as many are shown as are written
pub shown_are_written : (ts : List DecimalTriangle) (shown : List IndexedTriangle) → shown ≡ map (indexed (vertices_of ts)) ts → length shown ≡ length ts
shown_are_written ts shown e = ap length e ∙ length-map ts (indexed (vertices_of ts))

-- the text of triangles over points, by lists that equal its own
pub over_is_text : (format : TextFormat) (places : ℕ) (ts : List DecimalTriangle) (over : SplitDecimals)
    (points : List DecimalPoint) (triangles : List IndexedTriangle) (bytes : List ℕ) (count : ℕ) → AreDecimalsOver ts over →
    points ≡ over.points.items → triangles ≡ over.triangles.items → bytes ≡ text_of format places points triangles →
    count ≡ length over.triangles.items → IsTextOver format places ts bytes count over.is_manifold
over_is_text format places ts over points triangles bytes count are f g h k = record {
  cut = are.cut;
  are_cut = are.are_cut;
  split = are.split;
  are_split = are.are_split;
  is = h ∙ (λ i. text_of format places ((f ∙ are.points) i) ((g ∙ are.triangles) i));
  count_is = k ∙ ap length are.triangles;
  manifold = are.manifold;
  whole = are.whole;
}

-- ---- planes
-- the planes of a document's mesh are valid
pub planes_are_valid : (bytes : List ℕ) (mesh : SolidMesh) → IsDocumentMesh bytes mesh → All IsValidPlane mesh.planes.items
planes_are_valid bytes mesh is = subst (λ (ps : List Plane). All IsValidPlane ps) (sym is.cut.planes) (tables_in_are_valid bytes is.tables is.tables_are)

-- ---- closed files
-- the triangles of a document's mesh are closed before they are rounded
mesh_is_closed : (bytes : List ℕ) (mesh : SolidMesh) → IsDocumentMesh bytes mesh → AreRoundAndClosed mesh.triangles.items
mesh_is_closed bytes mesh is =
    certified_are_closed mesh.planes.items is.tables.lines.items mesh.corners.items is.tables.segments.items mesh.triangles.items is.cut.certified

-- and so are those of its STL and its GLB
floats_are_closed : (format : FloatFormat) (grid : Grid) (mesh : SolidMesh) (file : OutputMesh) →
    AreRoundAndClosed mesh.triangles.items → IsOfFloats format grid mesh file → IsClosedOfFloats format grid mesh file
floats_are_closed format grid mesh file round floats =
    let closed = written_are_closed grid.step grid.offset mesh.planes.items mesh.corners.items mesh.triangles.items
    floats.written floats.rounded.rounded round in
    record { floats = floats; closed = closed; shared = floats.shared closed }

-- the triangles of a text are closed as they are written, if they are before some are cut
written_text_is_closed : (format : TextFormat) (places : ℕ) (ts : List DecimalTriangle) (bytes : List ℕ) (count : ℕ) (is_manifold : Bool)
    (text : IsTextOver format places ts bytes count is_manifold) → AreDecimalsClosed ts → AreDecimalsClosed text.cut
written_text_is_closed format places ts bytes count true text closed =
    split_is_closed text.split text.cut text.are_split (text.manifold refl)
written_text_is_closed format places ts bytes count false text closed =
    subst AreDecimalsClosed (sym (text.whole refl)) closed

-- and of its text
text_is_closed : (format : TextFormat) (digits : Option ℕ) (grid : Grid) (mesh : SolidMesh) (file : OutputMesh) →
    AreRoundAndClosed mesh.triangles.items → IsText format digits grid mesh file →
    IsClosedText format digits grid mesh file
text_is_closed format digits grid mesh file round text = record {
  text = text;
  closed = decimals_are_closed (written_places digits grid.step) grid.step grid.offset mesh.corners.items mesh.triangles.items round;
  written = written_text_is_closed format (written_places digits grid.step) (decimals_of digits grid mesh) file.bytes.items file.written file.is_manifold text.bytes
      (decimals_are_closed (written_places digits grid.step) grid.step grid.offset mesh.corners.items mesh.triangles.items round);
  shared = text.shared (indices_are_closed (written_places digits grid.step) grid.step grid.offset mesh.corners.items mesh.triangles.items round);
}

-- and so are those of its file
file_is_closed : (format : MeshFormat) (grid : Grid) (mesh : SolidMesh) (file : OutputMesh) →
    AreRoundAndClosed mesh.triangles.items → IsWritten format grid mesh file → IsClosedAs format grid mesh file
file_is_closed (Floats format) grid mesh file round floats = floats_are_closed format grid mesh file round floats
file_is_closed (Text format digits) grid mesh file round text = text_is_closed format digits grid mesh file round text

-- the file of a document's mesh is closed
pub written_is_closed : (bytes : List ℕ) (format : MeshFormat) (grid : Grid) (mesh : SolidMesh) (file : OutputMesh) →
    IsDocumentMesh bytes mesh → IsWritten format grid mesh file → IsClosedAs format grid mesh file
written_is_closed bytes format grid mesh file is written =
    file_is_closed format grid mesh file (mesh_is_closed bytes mesh is) written

-- ---- outputs
-- triangles that are shown are those that are written
pub shown_if_asked : (asked : Bool) (written : Vec FloatTriangle) → IfSome (then_some asked written) (λ shown. shown.items ≡ written.items)
shown_if_asked true written = refl
shown_if_asked false written = tt

-- the scene is kept with its document
abbrev kept_with : Scene → Option (Vec ℕ) → Option KeptDocument
kept_with scene document = option_map (λ (d : Vec ℕ). record { scene = scene; document = d }) document

both_are_kept : (keeps : Bool) (tris : List Tri) (bytes : List ℕ) (scene : Scene) (document : Option (Vec ℕ)) →
    scene.tris ≡ tris → IsThereIf keeps (λ (d : Vec ℕ). d.items ≡ bytes) document →
    IsThereIf keeps (AreKept tris bytes) (kept_with scene document)
both_are_kept keeps tris bytes scene (Some document) e h = (h.0, record { scene = e; document = h.1 })
both_are_kept keeps tris bytes scene None e h = h

-- the triangles on the meshes of a scene are those on the meshes of an equal one
pub counted_on_files : (counts : Bool) (solid : SolidMesh) (lying : Option (Vec ℕ)) {ts us : List Tri} {m n : ℕ} → ts ≡ us →
    m ≡ n → IsThereIf counts (λ (l : Vec ℕ). AreLyingCounts ts m solid l.items) lying →
    IsThereIf counts (λ (l : Vec ℕ). AreLyingCounts us n solid l.items) lying
counted_on_files counts solid lying {ts} {us} {m} {n} e f h =
    subst (λ (k : ℕ). IsThereIf counts (λ (l : Vec ℕ). AreLyingCounts us k solid l.items) lying) f
    (subst (λ (vs : List Tri). IsThereIf counts (λ (l : Vec ℕ). AreLyingCounts vs m solid l.items) lying) e h)

-- the file of the mesh of the files' scene is an output for them
module _ (files : List InputFile) (formula : Formula) (wanted : WantedFile) (placed : PlacedScene) (is : IsPlaced files wanted.placings.now wanted.grid placed) where
  pub output_is : (meshed : SolidRun) → IsSolidRun placed.scene.tris formula wanted.keeps meshed →
      (file : OutputMesh) → IsWritten wanted.format placed.grid meshed.mesh file →
      AreShownIf wanted.shows placed.grid meshed.mesh file.shown → (shown_files : Option (Vec ℕ)) →
      IsThereIf wanted.shows (AreShownFiles placed.scene.tris placed.grid meshed.mesh) shown_files →
      (kept : Option KeptDocument) →
      kept ≡ kept_with placed.scene meshed.document →
      (volumes : Vec ℤ) → volumes.items ≡ sixfold_volumes_of_meshes placed.scene.tris placed.scene.meshes →
      (lying : Option (Vec ℕ)) → IsThereIf wanted.counts
      (λ (counts : Vec ℕ). AreLyingCounts placed.scene.tris placed.scene.meshes meshed.mesh counts.items) lying →
      IsOutput files formula wanted (record {
        written = file;
        grid = placed.grid;
        counts = placed.counts;
        moves =
            placed.moves;
        sixfold_volumes = volumes;
        lying = lying;
        report = meshed.report;
        shown_files = shown_files;
        kept = kept;
      })
  output_is meshed solid file written shown shown_files of_files kept e volumes f lying l =
      let of_images = subst (λ (tris : List Tri). IsSolidRun tris formula wanted.keeps meshed) is.tris solid in
      record {
        surfaces = is.surfaces;
        are_placed = is.are_placed;
        counts = is.counts;
        moves = is.moves;
        sixfold_volumes = f ∙ (λ i. sixfold_volumes_of_meshes (is.tris i) (is.meshes i));
        mesh = meshed.mesh;
        solid = of_images.mesh;
        report = of_images.report;
        written = written_is_closed of_images.mesh.bytes wanted.format placed.grid meshed.mesh file of_images.mesh.of_document written;
        shown = shown;
        lying = counted_on_files wanted.counts meshed.mesh lying is.tris is.meshes l;
        shown_files = subst (λ (tris : List Tri). IsThereIf wanted.shows (AreShownFiles tris placed.grid meshed.mesh) shown_files) is.tris of_files;
        kept = subst (IsThereIf wanted.keeps (AreKept (images_of placed.grid is.surfaces) of_images.mesh.bytes)) (sym e)
            (both_are_kept wanted.keeps (images_of placed.grid is.surfaces) of_images.mesh.bytes placed.scene
            meshed.document is.tris of_images.document);
      }
