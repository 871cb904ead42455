-- The boxes of one value of the leaves give each cell of the lattice its own value.
use Rattle.std.proofs.Common.{◌≡◌, ℕ, zero, suc, ◌-◌, ◌^◌, ◌<◌, ◌≤◌, Bool, true, false, ◌&&◌, ◌||◌, if◌then◌else◌}
use Rattle.std.proofs.Common.{Option, None, Some, List, ◌++◌, map, refl, sym, ap, ◌∙◌, arith}
use Rattle.std.proofs.lemmas.List.{map-append}
use Rattle.std.proofs.lemmas.List.Folds.{list_any-append}
use Rattle.ember_model.specs.declared.tri.Tri.{Tri}
use Rattle.ember_model.specs.declared.point.Axis.TheVariants.{X}
use Rattle.ember_model.specs.Meshes.{vector, IsScene}
use Rattle.ember_expr.specs.Formula.{Formula, IsFit}
use Rattle.ember_expr.specs.Truth.{truth}
use Rattle.ember_box.specs.Boxes.{root, halvings_left}
use Rattle.ember_box.specs.Reference.{reference_at, vector_at}
use Rattle.ember_box.proofs.HalfCells.{left_less}
use Rattle.ember_job.specs.declared.job.Job.{Job}
use Rattle.ember_job.specs.Works.{Shape, halved}
use Rattle.ember_job.proofs.Leaves.{under, under_leaf, under_halved}
use Rattle.ember_visit.specs.Jobs.{root_job, left_job, right_job}
use Rattle.ember_visit.specs.Values.{box_value}
use Rattle.ember_visit.proofs.KnownInBox.{known_at_corners}
use Rattle.ember_voxel.specs.Fills.{fill_of, leaf_fills}
use Rattle.ember_voxel.specs.Grid.{contains_cell, sets_cell, is_set, IsGridText}
use Rattle.ember_voxel.specs.Lattice.{longest, IsVoxelJob, is_lattice_cell, ends, shape}
use Rattle.ember_voxel.specs.Laws.{halves_are_jobs, root_is_voxel_job, leaf_by, halved_by, may_halve}
use Rattle.ember_voxel.specs.Voxels.{least_corner, cell_value, IsVoxelText}
use Rattle.ember_voxel.proofs.Covering.{in_third, halves_cover, root_covers, own_corner, covered, least_is}

leaf_bit : (covered bit value : Bool) → (covered ≡ true → bit ≡ value) → ((bit && covered) || false) ≡ (covered && value)
leaf_bit true true value same = same refl
leaf_bit true false value same = same refl
leaf_bit false true value same = refl
leaf_bit false false value same = refl

module _ (ts : List Tri) (n : ℕ) (s : IsScene ts n) (f : Formula) (fit : IsFit 64 f) (size i j l : ℕ) where
  -- a leaf's value is that of each of its cells
  leaf_value : (job : Job) → IsVoxelJob ts size job → ends (box_value ts f job) (is_lattice_cell size job.cell) ≡ true →
      contains_cell size job.cell i j l ≡ true → truth job.at.counts f ≡ cell_value ts f size i j l
  leaf_value job h e c = ap (λ counts. truth counts f) h.job.at ∙ by (box_value ts f job) refl e where
    by : (v : Option Bool) → box_value ts f job ≡ v → ends v (is_lattice_cell size job.cell) ≡ true →
        truth (vector_at ts job.cell) f ≡ cell_value ts f size i j l
    by None k last = ap (λ v. truth (vector X ts (reference_at v)) f) (least_is size job.cell i j l h.even last c)
    by (Some known) k last =
        let at = known_at_corners ts n s f fit job h.job known k in
        at job.cell.lo (own_corner job.cell) ∙ sym (at (least_corner size i j l) (covered size job.cell i j l c))

  -- the cell lies in a box of the value 1, of those of these jobs
  abbrev lit_by : List Job → Bool
  lit_by jobs = is_set size (map (fill_of f) jobs) i j l

  abbrev of : Job → Shape
  of = shape ts f size

  lit_append : (xs ys : List Job) → lit_by (xs ++ ys) ≡ (lit_by xs || lit_by ys)
  lit_append xs ys =
      ap (λ fills. is_set size fills i j l) (map-append (fill_of f) xs ys) ∙ list_any-append (sets_cell size i j l) (map (fill_of f) xs) (map (fill_of f) ys)

  -- the leaves under the job give the cell its value if its box has the cell
  abbrev Has : ℕ → Job → Type 0
  Has depth job = lit_by (under of depth job) ≡ (contains_cell size job.cell i j l && cell_value ts f size i j l)

  lit_leaf : (depth : ℕ) (job : Job) → IsVoxelJob ts size job → ends (box_value ts f job) (is_lattice_cell size job.cell) ≡ true → Has depth job
  lit_leaf depth job h e =
      ap lit_by (under_leaf of depth job (leaf_by ts f size job (sym e)))
      ∙ leaf_bit (contains_cell size job.cell i j l) (truth job.at.counts f) (cell_value ts f size i j l)
      (leaf_value job h e)

  lit_under : (depth : ℕ) (job : Job) → halvings_left job.cell ≤ depth → IsVoxelJob ts size job → Has depth job
  lit_under zero job few h = by (ends (box_value ts f job) (is_lattice_cell size job.cell)) refl where
    by : (b : Bool) → ends (box_value ts f job) (is_lattice_cell size job.cell) ≡ b → Has zero job
    by true e = lit_leaf zero job h e
    by false e = absurd (omega (arith, few, left_less job.cell (longest job.cell) (may_halve ts f size job h (sym e))))
  lit_under (suc depth) job few h = by (ends (box_value ts f job) (is_lattice_cell size job.cell)) refl (lit_under depth) where
    by : (b : Bool) → ends (box_value ts f job) (is_lattice_cell size job.cell) ≡ b →
        ((half : Job) → halvings_left half.cell ≤ depth → IsVoxelJob ts size half → Has depth half) → Has (suc depth) job
    by true e half = lit_leaf (suc depth) job h e
    by false e half =
        let k = longest job.cell in let low = left_job ts job k in let high = right_job ts job k in
        let may = may_halve ts f size job h (sym e) in let less = left_less job.cell k may in
        let is : of job ≡ halved low high = halved_by ts f size job low high (sym e) refl refl in
        let both = halves_are_jobs ts f size job low high n s h is in
        let a = half low (omega (arith, few, less)) both.0 in let b = half high (omega (arith, few, less)) both.1 in
        ap lit_by (under_halved of depth job low high is) ∙ lit_append (under of depth low) (under of depth high)
        ∙ (λ t. a t || b t) ∙ in_third (contains_cell size low.cell i j l) (contains_cell size high.cell i j l)
        (cell_value ts f size i j l) ∙ ap (λ t. t && cell_value ts f size i j l)
        (halves_cover size job.cell k i j l may)

  lit_is : size ≤ 12 → i < 2 ^ (12 - size) → j < 2 ^ (12 - size) → l < 2 ^ (12 - size) → is_set size (leaf_fills ts f size) i j l ≡ cell_value ts f size i j l
  lit_is le p q r =
      lit_under (halvings_left root) (root_job ts) (omega arith) (root_is_voxel_job ts n size s le)
      ∙ ap (λ t. t && cell_value ts f size i j l) (root_covers size i j l le p q r)

-- the text by the leaves' values is that of the cells' values
pub voxels_are : (ts : List Tri) (n : ℕ) → IsScene ts n → (f : Formula) → IsFit 64 f → (size : ℕ) (text : List ℕ) →
    size ≤ 12 → IsGridText size (leaf_fills ts f size) text → IsVoxelText ts f size text
voxels_are ts n s f fit size text le g = record {
  rows = g.rows;
  grid = record {
    size = g.grid.size;
    cell = λ i j l p q r. g.grid.cell i j l p q r ∙ ap (λ (b : Bool). if b then 49 else 48) (lit_is ts n s f fit size i j l le p q r);
    feed = g.grid.feed;
  };
  is = g.is;
}
