-- Queries, their answers, and who runs the boxes
use Rattle.std.specs.Prelude.{◌≤◌, ⊤, ℕ, Result, IfOk}
use Rattle.std.specs.Borrow.{Bor}
use Rattle.std.specs.declared.alloc.AllocError.{AllocError}
use Rattle.ember_expr.specs.Formula.{formula_of}
use Rattle.ember_query.specs.declared.query.Answer.{Answer}
use Rattle.ember_query.specs.declared.query.Answer.TheVariants as answer
use Rattle.ember_query.specs.declared.query.Query.{Query}
use Rattle.ember_query.specs.declared.query.Query.TheVariants as query
use Rattle.ember_model.specs.Limits.{broad_limit, most_meshes}
use Rattle.ember_query.specs.BroadLeaves.{AreBroadOutlines, AreJournalsOnBroad}
use Rattle.ember_query.specs.Leaves.{AreFills, ArePairsOfLeaves, AreRegionCounts}
use Rattle.ember_meaning.specs.Regions.Solids.{AreJournalsOfSolid}
use Rattle.ember_step.specs.Faces.{AreLeafFaces}
use Rattle.ember_step.specs.Texts.{AreLeafTexts}
use Rattle.ember_width.specs.Scenes.{IsSceneWithin}

-- the queries that may be asked: cells have a side of 2 ^ 4 to 2 ^ 12, and triangles on the broad grid are a scene
abbrev pub IsQuery : Query → Type 0
IsQuery (query.Pairs scene) = ⊤
IsQuery (query.Fills scene expr size) = (4 ≤ size) × (size ≤ 12)
IsQuery (query.Texts scene expr) = ⊤
IsQuery (query.Faces scene expr) = ⊤
IsQuery (query.Counts scene expr) = ⊤
IsQuery (query.BroadOutlines tris expr) = IsSceneWithin broad_limit tris.now most_meshes

-- this is the answer to the query; it is of the same kind (`query.Pairs` is a variant of `Query`,
-- and `answer.Pairs` the one of `Answer`)
abbrev pub IsAnswer : Query → Answer → Type 0
IsAnswer (query.Pairs scene) (answer.Pairs items) = ArePairsOfLeaves scene.now.tris items.items
IsAnswer (query.Fills scene expr size) (answer.Fills fills) =
    AreFills scene.now.tris (formula_of expr.now) size fills.items
IsAnswer (query.Texts scene expr) (answer.Texts found) =
    AreLeafTexts scene.now.tris (formula_of expr.now) found.items.items ×
    AreJournalsOfSolid scene.now.tris (formula_of expr.now) found.journals
IsAnswer (query.Faces scene expr) (answer.Faces found) =
    AreLeafFaces scene.now.tris (formula_of expr.now) found.items.items ×
    AreJournalsOfSolid scene.now.tris (formula_of expr.now) found.journals
IsAnswer (query.Counts scene expr) (answer.Counts found) =
    AreRegionCounts scene.now.tris (formula_of expr.now) found.items.items ×
    AreJournalsOfSolid scene.now.tris (formula_of expr.now) found.journals
IsAnswer (query.BroadOutlines tris expr) (answer.BroadOutlines found) =
    AreBroadOutlines tris.now (formula_of expr.now) found.items.items ×
    AreJournalsOnBroad tris.now (formula_of expr.now) found.journals
IsAnswer _ _ = ⊥

-- the closure `call` may be called at each query, and each Ok of it is the answer
pub record IsExecutor {C : Type 0} (pre : C → Bor Query → Type 0)
    (post : C → Bor Query → Result Answer AllocError → Type 0) (call : C) : Type 0 where
  pub runs : (query : Bor Query) → IsQuery query.now → pre call query
  pub answers_each : (query : Bor Query) (r : Result Answer AllocError) → IsQuery query.now → post call query r →
      IfOk r (IsAnswer query.now)

-- the same of a closure that is also given the number of workers, 1 to 64
pub record IsExecutorOfAny {C : Type 0} (pre : C → ℕ → Bor Query → Type 0)
    (post : C → ℕ → Bor Query → Result Answer AllocError → Type 0) (call : C) : Type 0 where
  pub runs : (workers : ℕ) (query : Bor Query) → (1 ≤ workers) × (workers ≤ 64) → IsQuery query.now →
      pre call workers query
  pub answers_each : (workers : ℕ) (query : Bor Query) (r : Result Answer AllocError) →
      (1 ≤ workers) × (workers ≤ 64) → IsQuery query.now → post call workers query r → IfOk r (IsAnswer query.now)
