-- The texts of a list of pairs and of a lattice, made of what the leaves of the tree of boxes answer.
use Rattle.std.proofs.Common.{◌≡◌, ℕ, ◌≤◌, List, [], ◌∷◌, map, Result, Ok, Err, IfOk, Vec, Global, refl, ap, ap₂, ◌∙◌}
use Rattle.ember_expr.specs.Formula.{Formula}
use Rattle.ember_job.specs.declared.job.Job.{Job}
use Rattle.ember_job.specs.Visited.{leaves}
use Rattle.ember_model.specs.declared.tri.Tri.{Tri}
use Rattle.ember_pairs.specs.declared.pair.Pair.{Pair}
use Rattle.ember_pairs.specs.Gathering.{AreGathered}
use Rattle.ember_pairs.specs.Pairs.{ArePairs}
use Rattle.ember_pairs.specs.Texts.{pairs_text}
use Rattle.ember_pairs.specs.Whole.{AreItems, leaf_jobs}
use Rattle.ember_job.specs.Items.{EachAnswers}
use Rattle.ember_query.specs.Leaves.{AreFills, ArePairsOfLeaves}
use Rattle.ember_visit.specs.Jobs.{root_job}
use Rattle.ember_voxel.specs.declared.fill.Fill.{Fill}
use Rattle.ember_voxel.specs.Fills.{IsFill, fill_of, leaf_fills}
use Rattle.ember_voxel.specs.Grid.{IsGridText}
use Rattle.ember_voxel.specs.Lattice.{shape}
use Rattle.ember_voxel.specs.Voxels.{IsVoxelText}
use Rattle.ember_verdict.specs.Lattices.{IsLatticeText}
use Rattle.ember_verdict.specs.PairLists.{IsPairsText}

-- ---- pairs
pub pairs_text_if : {E : Type 0} (tris : List Tri) (items : List (List Pair)) (ps shown : List Pair)
    (result : Result (Vec ℕ Global) E) → ((items : List (List Pair)) (ps : List Pair) →
    AreItems tris (leaf_jobs tris) items → AreGathered items ps → ArePairs tris ps) → ArePairsOfLeaves tris items →
    AreGathered items ps → shown ≡ ps → IfOk result (λ text. text.items ≡ pairs_text shown) →
    IfOk result (λ text. IsPairsText tris text.items)
pairs_text_if tris items ps shown (Ok text) law are gathered e is =
    (ps, law items ps are gathered, is ∙ ap pairs_text e)
pairs_text_if tris items ps shown (Err error) law are gathered e is = tt

-- ---- a lattice
-- the boxes of one value, as the law of the cells takes them
fills_are : (formula : Formula) (jobs : List Job) (fills : List Fill) → EachAnswers (IsFill formula) jobs fills → fills ≡ map (fill_of formula) jobs
fills_are formula [] [] h = refl
fills_are formula [] (fill ∷ fills) h = absurd h
fills_are formula (job ∷ jobs) [] h = absurd h
fills_are formula (job ∷ jobs) (fill ∷ fills) h =
    let is : fill ≡ fill_of formula job = h.0 in ap₂ (λ x xs. x ∷ xs) is (fills_are formula jobs fills h.1)

-- the text of the leaves' boxes is that of the lattice
pub lattice_text_if : {E : Type 0} (tris : List Tri) (formula : Formula) (size : ℕ) (fills given : List Fill)
    (result : Result (Vec ℕ Global) E) → ((size : ℕ) (fills : List Fill) (text : List ℕ) → size ≤ 12 →
    fills ≡ leaf_fills tris formula size → IsGridText size fills text → IsVoxelText tris formula size text) → size ≤ 12 →
    AreFills tris formula size fills → given ≡ fills → IfOk result (λ text. IsGridText size given text.items) →
    IfOk result (λ text. IsLatticeText tris formula size text.items)
lattice_text_if tris formula size fills given (Ok text) law le are e is =
    law size given text.items le (e ∙ fills_are formula (leaves (shape tris formula size) (root_job tris)) fills are) is
lattice_text_if tris formula size fills given (Err error) law le are e is = tt
