-- What the leaves below a root give is what a query asks for.
use Rattle.std.proofs.Common.{◌≡◌, ◌≤◌, ◌^◌, ℕ, List, Vec, Global, Bor, sym, subst}
use Rattle.ember_box.specs.Boxes as boxes
use Rattle.ember_expr.specs.declared.trees.Tree.{Tree}
use Rattle.ember_expr.specs.Formula.{formula_of}
use Rattle.ember_job.specs.declared.job.Job.{Job}
use Rattle.ember_job.specs.Visited.{leaves}
use Rattle.ember_model.specs.declared.face.Face.{Face}
use Rattle.ember_model.specs.declared.scene.Scene.{Scene}
use Rattle.ember_model.specs.declared.tri.Tri.{Tri}
use Rattle.ember_model.specs.Limits.{broad_limit, most_meshes}
use Rattle.ember_pairs.specs.declared.pair.Pair.{Pair}
use Rattle.ember_pairs.specs.Pairs.{AreMeetingPairs}
use Rattle.ember_pairs.specs.Works.{job_at, pairs_shape}
use Rattle.ember_visit.specs.Jobs.{root_job, root_job_on}
use Rattle.ember_visit.specs.Values as values
use Rattle.ember_voxel.specs.declared.fill.Fill.{Fill}
use Rattle.ember_voxel.specs.Fills.{IsFill}
use Rattle.ember_voxel.specs.Lattice as lattice
use Rattle.ember_voxel.specs.Laws.{root_is_voxel_job}
use Rattle.ember_step.specs.Counts.{IsCount}
use Rattle.ember_step.specs.Faces.{AreBoxFaces}
use Rattle.ember_step.specs.Outlines.{AreBoxOutlines}
use Rattle.ember_step.specs.Texts.{IsBoxText}
use Rattle.ember_text.specs.FacesTexts.{FacesText}
use Rattle.ember_job.specs.Items.{EachAnswers}
use Rattle.ember_query.specs.declared.query.Answer.TheVariants as answer
use Rattle.ember_query.specs.declared.query.RunResult.{RunResult}
use Rattle.ember_query.specs.declared.query.Query.{Query}
use Rattle.ember_query.specs.declared.query.Query.TheVariants as query
use Rattle.ember_report.specs.Runs.{AreJournalsOf}
use Rattle.ember_query.specs.BroadLeaves.{broad_numbers}
use Rattle.ember_query.specs.Leaves.{IsWrittenAt}
use Rattle.ember_query.specs.Queries.{IsAnswer, IsQuery}
use Rattle.ember_width.specs.Scenes.{IsSceneWithin}

-- what the leaves give answers the query for pairs
pub pairs_found : (asked : Query) (scene : Bor Scene) (root : Job) (items : Vec (List Pair) Global) →
    asked ≡ query.Pairs scene → root ≡ job_at scene.now.tris boxes.root →
    EachAnswers (λ job ps. AreMeetingPairs scene.now.tris job.list ps)
    (leaves (λ job. pairs_shape scene.now.tris job) root) items.items → IsAnswer asked (answer.Pairs items)
pairs_found asked scene root items e f are =
    subst (λ (asked : Query). IsAnswer asked (answer.Pairs items)) (sym e)
    (subst (λ (root : Job). EachAnswers (λ job ps. AreMeetingPairs scene.now.tris job.list ps)
    (leaves (λ job. pairs_shape scene.now.tris job) root) items.items) f are)

-- the root is a job of the lattice
pub fills_root : (asked : Query) (scene : Bor Scene) (expr : Bor Tree) (size : ℕ) (root : Job) → IsQuery asked →
    asked ≡ query.Fills scene expr size → root ≡ root_job scene.now.tris → lattice.IsVoxelJob scene.now.tris size root
fills_root asked scene expr size root may e f =
    let sized : (4 ≤ size) × (size ≤ 12) = subst IsQuery e may in
    subst (lattice.IsVoxelJob scene.now.tris size) (sym f) (root_is_voxel_job scene.now.tris scene.now.meshes size scene.now.kept sized.1)

-- what the leaves give answers the query for fills
pub fills_found : (asked : Query) (scene : Bor Scene) (expr : Bor Tree) (size : ℕ) (root : Job)
    (fills : Vec Fill Global) → asked ≡ query.Fills scene expr size → root ≡ root_job scene.now.tris →
    EachAnswers (IsFill (formula_of expr.now)) (leaves (lattice.shape scene.now.tris (formula_of expr.now) size) root)
    fills.items → IsAnswer asked (answer.Fills fills)
fills_found asked scene expr size root fills e f are =
    subst (λ (asked : Query). IsAnswer asked (answer.Fills fills)) (sym e)
    (subst (λ (root : Job). EachAnswers (IsFill (formula_of expr.now))
    (leaves (lattice.shape scene.now.tris (formula_of expr.now) size) root) fills.items) f are)

-- what the leaves give answers the query for texts
pub texts_found : (asked : Query) (scene : Bor Scene) (expr : Bor Tree) (root : Job) (found : RunResult FacesText) →
    asked ≡ query.Texts scene expr → root ≡ root_job scene.now.tris →
    EachAnswers (λ job text. IsBoxText scene.now.tris (formula_of expr.now) job.cell text)
    (leaves (values.shape scene.now.tris (formula_of expr.now)) root) found.items.items →
    AreJournalsOf (values.shape scene.now.tris (formula_of expr.now)) root found.journals →
    IsAnswer asked (answer.Texts found)
texts_found asked scene expr root found e f are holds =
    subst (λ (asked : Query). IsAnswer asked (answer.Texts found)) (sym e) (
      subst (λ (root : Job). EachAnswers (λ job text. IsBoxText scene.now.tris (formula_of expr.now) job.cell text)
          (leaves (values.shape scene.now.tris (formula_of expr.now)) root) found.items.items) f are,
      subst (λ (root : Job). AreJournalsOf (values.shape scene.now.tris (formula_of expr.now)) root found.journals) f holds,
    )

-- what the leaves give answers the query for faces
pub faces_found : (asked : Query) (scene : Bor Scene) (expr : Bor Tree) (root : Job) (found : RunResult (List Face)) →
    asked ≡ query.Faces scene expr → root ≡ root_job scene.now.tris →
    EachAnswers (λ job faces. AreBoxFaces scene.now.tris (formula_of expr.now) job.cell faces)
    (leaves (values.shape scene.now.tris (formula_of expr.now)) root) found.items.items →
    AreJournalsOf (values.shape scene.now.tris (formula_of expr.now)) root found.journals →
    IsAnswer asked (answer.Faces found)
faces_found asked scene expr root found e f are holds =
    subst (λ (asked : Query). IsAnswer asked (answer.Faces found)) (sym e) (
      subst (λ (root : Job). EachAnswers (λ job faces. AreBoxFaces scene.now.tris (formula_of expr.now) job.cell faces)
          (leaves (values.shape scene.now.tris (formula_of expr.now)) root) found.items.items) f are,
      subst (λ (root : Job). AreJournalsOf (values.shape scene.now.tris (formula_of expr.now)) root found.journals) f holds,
    )

-- what the leaves give answers the query for counts
pub counts_found : (asked : Query) (scene : Bor Scene) (expr : Bor Tree) (root : Job) (found : RunResult ℕ) →
    asked ≡ query.Counts scene expr → root ≡ root_job scene.now.tris →
    EachAnswers (λ job n. IsCount (IsWrittenAt scene.now.tris (formula_of expr.now) job) n)
    (leaves (values.shape scene.now.tris (formula_of expr.now)) root) found.items.items →
    AreJournalsOf (values.shape scene.now.tris (formula_of expr.now)) root found.journals →
    IsAnswer asked (answer.Counts found)
counts_found asked scene expr root found e f are holds =
    subst (λ (asked : Query). IsAnswer asked (answer.Counts found)) (sym e) (
      subst (λ (root : Job). EachAnswers (λ job n. IsCount (IsWrittenAt scene.now.tris (formula_of expr.now) job) n)
          (leaves (values.shape scene.now.tris (formula_of expr.now)) root) found.items.items) f are,
      subst (λ (root : Job). AreJournalsOf (values.shape scene.now.tris (formula_of expr.now)) root found.journals) f holds,
    )

-- what the leaves give answers the query for outlines on the broad grid
pub outlines_found : (asked : Query) (tris : Bor (List Tri)) (expr : Bor Tree) (root : Job) (found : RunResult (List Face)) →
    asked ≡ query.BroadOutlines tris expr → root ≡ root_job_on 8 tris.now →
    EachAnswers (λ job faces. AreBoxOutlines broad_numbers tris.now (formula_of expr.now) job.cell faces)
    (leaves (values.shape_on 8 (2 ^ 43) tris.now (formula_of expr.now)) root) found.items.items →
    AreJournalsOf (values.shape_on 8 (2 ^ 43) tris.now (formula_of expr.now)) root found.journals →
    IsAnswer asked (answer.BroadOutlines found)
outlines_found asked tris expr root found e f are holds =
    subst (λ (asked : Query). IsAnswer asked (answer.BroadOutlines found)) (sym e) (
      subst (λ (root : Job). EachAnswers (λ job faces. AreBoxOutlines broad_numbers tris.now (formula_of expr.now) job.cell faces)
          (leaves (values.shape_on 8 (2 ^ 43) tris.now (formula_of expr.now)) root) found.items.items) f are,
      subst (λ (root : Job). AreJournalsOf (values.shape_on 8 (2 ^ 43) tris.now (formula_of expr.now)) root found.journals) f holds,
    )

-- the triangles of such a query are a scene
pub outlines_asked : (asked : Query) (tris : Bor (List Tri)) (expr : Bor Tree) → IsQuery asked →
    asked ≡ query.BroadOutlines tris expr → IsSceneWithin broad_limit tris.now most_meshes
outlines_asked asked tris expr may e = subst IsQuery e may
