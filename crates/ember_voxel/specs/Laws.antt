-- The halves of a job are jobs of the two halves of its box, and a leaf has one answer.
use Rattle.std.proofs.Common.{◌≡◌, ℕ, ◌<◌, ◌≤◌, Option, None, Some, Bool, true, false, List, refl, sym}
use Rattle.std.proofs.Common.{ap, ap₂, ◌∙◌, subst, arith}
use Rattle.ember_model.specs.declared.tri.Tri.{Tri}
use Rattle.ember_model.specs.Meshes.{IsScene}
use Rattle.ember_expr.specs.Formula.{Formula}
use Rattle.ember_job.specs.declared.job.Job.{Job}
use Rattle.ember_job.specs.Works.{halved, leafed, IsSplit}
use Rattle.ember_visit.specs.Jobs.{root_job, left_job, right_job}
use Rattle.ember_visit.specs.Values.{box_value, leaf_or}
use Rattle.ember_visit.proofs.Laws.{root_is_job, left_is_job, right_is_job}
use Rattle.ember_voxel.specs.declared.fill.Fill.{Fill}
use Rattle.ember_voxel.specs.Lattice.{longest, whole, low, high, IsVoxelJob, is_lattice_cell, ends, shape}
use Rattle.ember_voxel.specs.Fills.{IsFill}
use Rattle.ember_voxel.specs.Sides.{longest_above, sides_of_halves}

record HalvedInto (last : Bool) (x y l r : Job) : Type 0 where
  goes_on : last ≡ false
  is_low : x ≡ l
  is_high : y ≡ r

halved_into : (last : Bool) (x y l r : Job) → leaf_or last (halved x y) ≡ halved l r → HalvedInto last x y l r
halved_into true x y l r e = absurd (cc)
halved_into false x y l r e = record { goes_on = refl; is_low = cc; is_high = cc }

-- a box that is halved is no cell of the lattice
pub not_last : (v : Option Bool) (last : Bool) → ends v last ≡ false → last ≡ false
not_last None last e = e
not_last (Some b) last e = absurd (cc)

module _ (ts : List Tri) (f : Formula) (size : ℕ) (j l r : Job) where
  into : shape ts f size j ≡ halved l r →
      HalvedInto (ends (box_value ts f j) (is_lattice_cell size j.cell)) (left_job ts j (longest j.cell))
      (right_job ts j (longest j.cell)) l r
  unfolding shape
  into e = halved_into (ends (box_value ts f j) (is_lattice_cell size j.cell)) (left_job ts j (longest j.cell))
      (right_job ts j (longest j.cell)) l r e

  goes_above : IsVoxelJob ts size j → shape ts f size j ≡ halved l r → size < j.cell.log (longest j.cell)
  goes_above h e = longest_above j.cell size h.sides (not_last (box_value ts f j) (is_lattice_cell size j.cell)
      (into e).goes_on)

  -- the halves of a valid job are valid
  pub halves_are_jobs : (n : ℕ) → IsScene ts n → IsVoxelJob ts size j → shape ts f size j ≡ halved l r →
      IsVoxelJob ts size l × IsVoxelJob ts size r
  halves_are_jobs n s h e =
      let i = into e in let k = longest j.cell in
      let above : size < j.cell.log k = goes_above h e in
      let may : 0 < j.cell.log k = omega (arith, above) in
      let sides = sides_of_halves j.cell size h.sides above in (
        subst (IsVoxelJob ts size) i.is_low (record {
          job = left_is_job ts n s j h.job k may;
          even = low j.cell h.even may;
          sides = sides;
        }),
        subst (IsVoxelJob ts size) i.is_high (record {
          job = right_is_job ts n s j h.job k may;
          even = high j.cell h.even may;
          sides = sides;
        }),
      )

  -- and they are jobs of the two halves of its box
  pub halves_are_split : IsVoxelJob ts size j → shape ts f size j ≡ halved l r → IsSplit j.cell l.cell r.cell
  halves_are_split h e =
      let i = into e in record {
        axis = longest j.cell;
        may_halve = omega (arith, goes_above h e);
        is_low = ap (λ (x : Job). x.cell) (sym i.is_low);
        is_high = ap (λ (x : Job). x.cell) (sym i.is_high);
      }

-- a job has one answer
pub one_fill : (f : Formula) (j : Job) (x y : Fill) → IsFill f j x → IsFill f j y → x ≡ y
one_fill f j x y a b = a ∙ sym b

-- the root's job is valid
pub root_is_voxel_job : (ts : List Tri) (n size : ℕ) → IsScene ts n → size ≤ 12 → IsVoxelJob ts size (root_job ts)
root_is_voxel_job ts n size s le = record { job = root_is_job ts n s; even = whole; sides = λ k. le }

-- ---- what a step answers
-- the shape of a job whose value is known, or whose box is a cell of the lattice
pub leaf_by : (ts : List Tri) (f : Formula) (size : ℕ) (j : Job) →
    true ≡ ends (box_value ts f j) (is_lattice_cell size j.cell) → shape ts f size j ≡ leafed
unfolding shape
leaf_by ts f size j e =
    ap (λ b. leaf_or b (halved (left_job ts j (longest j.cell)) (right_job ts j (longest j.cell)))) (sym e)

-- the shape of a job that is halved
pub halved_by : (ts : List Tri) (f : Formula) (size : ℕ) (j l r : Job) →
    false ≡ ends (box_value ts f j) (is_lattice_cell size j.cell) → l ≡ left_job ts j (longest j.cell) →
    r ≡ right_job ts j (longest j.cell) → shape ts f size j ≡ halved l r
unfolding shape
halved_by ts f size j l r e is_l is_r =
    ap (λ b. leaf_or b (halved (left_job ts j (longest j.cell)) (right_job ts j (longest j.cell))))
    (sym e) ∙ ap₂ halved (sym is_l) (sym is_r)

-- a box that is no leaf may be halved along its longest side
pub may_halve : (ts : List Tri) (f : Formula) (size : ℕ) (j : Job) → IsVoxelJob ts size j →
    false ≡ ends (box_value ts f j) (is_lattice_cell size j.cell) → 0 < j.cell.log (longest j.cell)
may_halve ts f size j h e =
    omega (arith, longest_above j.cell size h.sides (not_last (box_value ts f j) (is_lattice_cell size j.cell) (sym e)))
