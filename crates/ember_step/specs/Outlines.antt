-- The faces of the outlines of written regions in memory, on any grid
use Rattle.std.specs.Prelude.{ℕ, List, map, flat_map}
use Rattle.ember_box.specs.Boxes.{Cell}
use Rattle.ember_expr.specs.Formula.{Formula}
use Rattle.ember_job.specs.declared.job.Job.{Job}
use Rattle.ember_job.specs.declared.job.Outcome.{Outcome}
use Rattle.ember_job.specs.Items.{EachAnswers}
use Rattle.ember_job.specs.Visited.{leaves}
use Rattle.ember_job.specs.Works.{Answers}
use Rattle.ember_leaf.specs.declared.kept.Kept.{Kept}
use Rattle.ember_leaf.specs.Scenes.{IsWrittenOn}
use Rattle.ember_model.specs.declared.face.Face.{Face}
use Rattle.ember_model.specs.declared.tri.Tri.{Tri}
use Rattle.ember_width.specs.declared.width.Width.{Ghosts}
use Rattle.ember_text.specs.Documents.{written_face}
use Rattle.ember_text.specs.OutlineFaces.{AreOutlineFaces}
use Rattle.ember_visit.specs.Jobs.{root_job_on}
use Rattle.ember_visit.specs.Values.{shape_on}
use Rattle.ember_step.specs.Boxes.{IsWrittenInBox}

-- the faces of the outlines of some list of regions with the property
pub record AreRegionsOutlines {W M : Type 0} (G : Ghosts W M) (Has : List (Kept W M) → Type 0)
    (faces : List Face) : Type 0 where
  pub kept : List (Kept W M)
  pub has : Has kept
  pub faces_of : AreOutlineFaces G (map written_face kept) faces

-- of what is written in a box
abbrev pub AreBoxOutlines : {W M : Type 0} → Ghosts W M → List Tri → Formula → Cell → List Face → Type 0
AreBoxOutlines {W} {M} G tris formula c faces =
    AreRegionsOutlines G (λ (ks : List (Kept W M)). IsWrittenInBox G.scale tris formula c ks) faces

-- what becomes of a job, with the faces of the outlines of what is written for a leaf
abbrev pub AnswersByOutlines : {W M : Type 0} → Ghosts W M → List Tri → Formula → Job → Outcome (List Face) → Type 0
AnswersByOutlines G tris formula job outcome =
    Answers (shape_on G.scale G.fine tris formula)
    (λ job faces. AreBoxOutlines G tris formula job.cell faces) job outcome

-- the lists of such faces of the visited leaves, in tree order
abbrev pub AreLeafOutlines : {W M : Type 0} → Ghosts W M → List Tri → Formula → List (List Face) → Type 0
AreLeafOutlines G tris formula lists =
    EachAnswers (λ job faces. AreBoxOutlines G tris formula job.cell faces)
    (leaves (shape_on G.scale G.fine tris formula) (root_job_on G.scale tris)) lists

-- those of what is written of a scene
abbrev pub AreSceneOutlines : {W M : Type 0} → Ghosts W M → List Tri → Formula → List Face → Type 0
AreSceneOutlines {W} {M} G tris formula faces =
    AreRegionsOutlines G (λ (ks : List (Kept W M)). IsWrittenOn G.scale tris formula ks) faces

-- the faces of the visited leaves, one list after another, are those of the scene
abbrev pub LeafOutlinesJoin : {W M : Type 0} → Ghosts W M → List Tri → Formula → Type 0
LeafOutlinesJoin G tris formula =
    (lists : List (List Face)) → AreLeafOutlines G tris formula lists →
    AreSceneOutlines G tris formula (flat_map (λ faces. faces) lists)
