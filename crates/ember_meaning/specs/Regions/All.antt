-- What is said of all written regions, and of all faces with a meaning
use Rattle.std.specs.Prelude.{ℕ, List, map}
use Rattle.ember_expr.specs.Formula.{Formula}
use Rattle.ember_leaf.specs.KeptRegions.{NarrowKept as Kept}
use Rattle.ember_leaf.specs.Scenes.{IsWritten, IsWrittenOn}
use Rattle.ember_leaf.specs.declared.kept.Kept.{Kept as KeptOn}
use Rattle.ember_model.specs.FaceFiles.{WrittenFace}
use Rattle.ember_model.specs.Meshes.{IsScene}
use Rattle.ember_model.specs.declared.face.Face.{Face}
use Rattle.ember_model.specs.declared.tri.Tri.{Tri}
use Rattle.ember_text.specs.Documents.{IsDocumentText, written_face}
use Rattle.ember_text.specs.OutlineFaces.{AreOutlineFaces}
use Rattle.ember_width.specs.declared.width.Width.{Ghosts}
use Rattle.ember_meaning.specs.Closed.Chains.{AreOutlined, face_from}
use Rattle.ember_meaning.specs.Regions.Meaning.{AreSurfaceWithMeaning, HaveMeaning, IsFalseOutside, ReadsWithMeaning}

-- ---- written regions
-- it is so of the written regions of each scene and of each expression that is false outside
abbrev pub AllWrittenRegions : (List Tri → Formula → List Kept → Type 0) → Type 0
AllWrittenRegions Is =
    (scene : List Tri) (f : Formula) (ks : List Kept) → IsScene scene 64 → IsWritten scene f ks → IsFalseOutside f →
    Is scene f ks

-- the document of the regions is read with the meaning
abbrev pub DocumentsReadWithMeaning : List Tri → Formula → List Kept → Type 0
DocumentsReadWithMeaning scene f ks =
    (bytes : List ℕ) → IsDocumentText (map written_face ks) bytes → ReadsWithMeaning scene f bytes

-- two expressions have the same written regions
abbrev pub WriteTheSame : List Tri → Formula → Formula → Type 0
WriteTheSame scene f g = (ks : List Kept) → IsWritten scene f ks → IsWritten scene g ks

-- on this grid the outlines of written regions are a surface with the meaning
abbrev pub OutlinesAreSurfaces : {W M : Type 0} → Ghosts W M → List Tri → Type 0
OutlinesAreSurfaces {W} {M} grid scene =
    (f : Formula) (ks : List (KeptOn W M)) (faces : List Face) → IsWrittenOn grid.scale scene f ks →
    IsFalseOutside f → AreOutlineFaces grid (map written_face ks) faces → AreSurfaceWithMeaning scene f faces

-- ---- faces
-- it is so of each list of faces whose written edges are their outlines, and which have the meaning of an expression
abbrev pub AllWithMeaning : (List Tri → Formula → List WrittenFace → Type 0) → Type 0
AllWithMeaning Is =
    (scene : List Tri) (f : Formula) (ws : List WrittenFace) → AreOutlined ws →
    HaveMeaning scene f (map face_from ws) → Is scene f ws
