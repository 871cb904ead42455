-- The halves of a job are jobs, and its box is halved in two.
use Rattle.std.proofs.Common.{◌≡◌, ℕ, ◌+◌, ◌*◌, ◌^◌, ◌<◌, ◌≤◌, Bool, true, false, Option, Some, None, List, refl, sym, ap, ◌∙◌, subst, lit<, mul-le-mul, arith}
use Rattle.std.proofs.Common.{ℤ, pos, ◌+ℤ◌, ◌*ℤ◌, ◌<ℤ◌}
use Rattle.std.proofs.lemmas.Nat.{pow_pos}
use borrow.Author.Differences.{ints}
use Rattle.ember_algebra.proofs.Laws.{linear}
use Rattle.ember_algebra.proofs.Ring.{◌⊗◌, ◌≈◌, num, neg, solve, cancels}
use Rattle.ember_model.specs.declared.tri.Tri.{Tri}
use Rattle.ember_model.specs.declared.point.Axis.{Axis}
use Rattle.ember_model.specs.declared.point.Axis.TheVariants.{X, Y}
use Rattle.ember_model.specs.Limits.{narrow_limit, most_meshes}
use Rattle.ember_model.specs.Within.{normal_limit}
use Rattle.ember_model.specs.Meshes.{IsScene, vector}
use Rattle.ember_expr.specs.Formula.{Formula}
use Rattle.ember_width.specs.Scenes.{IsSceneWithin}
use Rattle.ember_box.specs.Boxes.{Cell, low, root, left_half, right_half, in_steps}
use Rattle.ember_box.specs.Near.{near_indices, all_indices}
use Rattle.ember_box.specs.Reference.{reference_beside, vector_beside}
use Rattle.ember_box.specs.Halving.{is_leaf_on, halving_axis_on}
use Rattle.ember_box.proofs.InSteps.{above_in_steps, left_in_steps, right_in_steps, low_in_steps}
use Rattle.ember_box.proofs.Lists.{left_places, right_places}
use Rattle.ember_box.proofs.Halvable.{halvable_unless_leaf}
use Rattle.ember_ref.proofs.ShiftLaw.{shift_law_within}
use Rattle.ember_ref.proofs.RootOutside.{root_is_outside, root_is_outside_within}
use Rattle.ember_job.specs.declared.job.Job.{Job}
use Rattle.ember_job.specs.Works.{halved, IsSplit}
use Rattle.ember_visit.specs.Jobs.{near_of, IsJobOn, root_job_on, left_job_on, right_job_on, IsJob, root_job, left_job, right_job}
use Rattle.ember_visit.specs.Values.{unless_known, leaf_or, box_value, shape_on, shape}
use Rattle.ember_visit.proofs.IndexLists.{scene_within, near_listed}

-- ---- the root of a grid on which a unit has 2^s steps, that ends one step past the corners
-- a shift that the planes don't reach is below 1
tells_two : (s m f : ℕ) → 2 ^ s * 2048 ≤ m + 1 → normal_limit m < f → 1 < f
tells_two s m f over tells =
    let one : 1 ≤ m = omega (arith, over, pow_pos s) in let square : 1 * 1 ≤ m * m = mul-le-mul one one in omega (arith, tells, square)

-- the root begins below all corners
root_below : (s m : ℕ) (u : ℤ) → u ≡ pos (2 ^ s) → pos m <ℤ (pos 2048 *ℤ u) → (low (in_steps s root) Y +ℤ pos m) <ℤ pos 0
root_below s m u e l =
    let h : pos m <ℤ (pos 2048 *ℤ pos (2 ^ s)) = subst (λ z. pos m <ℤ (pos 2048 *ℤ z)) e l in
    let p = low_in_steps s root Y in
    let q = solve 1 (λ x. x ⊗ neg (num (pos 2048)) ≈ neg (num (pos 2048) ⊗ x)) cancels (pos (2 ^ s)) in
    omega (arith, linear, p, q, h)

-- the root's job is a job of each scene within the grid
pub root_is_job_on : (s m f : ℕ) (u : ℤ) (ts : List Tri) → 2 ^ s * 2048 ≤ m + 1 → normal_limit m < f → u ≡ pos (2 ^ s) →
    pos m <ℤ (pos 2048 *ℤ u) → IsSceneWithin m ts most_meshes → IsJobOn s f ts (root_job_on s ts)
root_is_job_on s m f u ts over tells unit holds scene =
    record { list = refl; at = sym (root_is_outside_within s m f ts (tells_two s m f over tells) (root_below s m u unit holds) scene) }

-- on the narrow grid
pub root_is_job : (ts : List Tri) (n : ℕ) → IsScene ts n → IsJob ts (root_job ts)
root_is_job ts n s = record { list = refl; at = sym (root_is_outside ts n s) }

-- ---- the halves along any axis
module _ (s m f : ℕ) (tells : normal_limit m < f) (ts : List Tri) (scene : IsSceneWithin m ts most_meshes) (j : Job) (h : IsJobOn s f ts j)
    (k : Axis) (may : 0 < j.cell.log k) where
  abbrev box : Cell
  box = in_steps s j.cell

  -- the box in steps may be halved, too
  above : 0 < box.log k
  above = above_in_steps s j.cell k may

  -- the least corner of the left half is that of the box
  same_low : (in_steps s (left_half j.cell k)).lo ≡ box.lo
  same_low = ap (λ (c : Cell). c.lo) (sym (left_in_steps s j.cell k may))

  -- the left half's job is a job of the scene
  pub left_is_job_on : IsJobOn s f ts (left_job_on s ts j k)
  left_is_job_on = record {
    list = ap (near_indices ts (in_steps s (left_half j.cell k))) h.list
        ∙ subst (λ (c : Cell). near_indices ts c (near_indices ts box (all_indices ts)) ≡ near_indices ts c (all_indices ts))
        (left_in_steps s j.cell k may) (left_places ts box k (all_indices ts) above);
    at = h.at ∙ ap (λ lo. vector X ts (reference_beside f lo)) (sym same_low);
  }

  -- the right half's job is a job of the scene
  pub right_is_job_on : IsJobOn s f ts (right_job_on s f ts j k)
  right_is_job_on = record {
    list = ap (near_indices ts (in_steps s (right_half j.cell k))) h.list
        ∙ subst (λ (c : Cell). near_indices ts c (near_indices ts box (all_indices ts)) ≡ near_indices ts c (all_indices ts))
        (right_in_steps s j.cell k may) (right_places ts box k (all_indices ts) above);
    at = sym (shift_law_within m f ts (near_of ts j) box k j.at.counts tells above (record { scene = scene; near = near_listed ts j h; at = sym h.at }))
        ∙ ap (λ (c : Cell). vector_beside f ts c) (right_in_steps s j.cell k may);
  }

-- on the narrow grid
module _ (ts : List Tri) (n : ℕ) (s : IsScene ts n) (j : Job) (h : IsJob ts j) (k : Axis) (may : 0 < j.cell.log k) where
  pub left_is_job : IsJob ts (left_job ts j k)
  left_is_job = left_is_job_on 0 narrow_limit (2 ^ 27) (lit< tt) ts (scene_within ts n s) j h k may

  pub right_is_job : IsJob ts (right_job ts j k)
  right_is_job = right_is_job_on 0 narrow_limit (2 ^ 27) (lit< tt) ts (scene_within ts n s) j h k may

-- ---- the halves of a job that is halved
record HalvedInto (leaf : Bool) (x y low high : Job) : Type 0 where
  not_leaf : leaf ≡ false
  is_low : x ≡ low
  is_high : y ≡ high

halved_into : (v : Option Bool) (leaf : Bool) (x y low high : Job) → unless_known v (leaf_or leaf (halved x y)) ≡ halved low high → HalvedInto leaf x y low high
halved_into (Some b) leaf x y low high e = absurd (cc)
halved_into None true x y low high e = absurd (cc)
halved_into None false x y low high e = record { not_leaf = refl; is_low = cc; is_high = cc }

module _ (s f : ℕ) (ts : List Tri) (x : Formula) (j lower higher : Job) where
  abbrev axis : Axis
  axis = halving_axis_on s (near_of ts j) j.cell

  into : shape_on s f ts x j ≡ halved lower higher →
      HalvedInto (is_leaf_on s (near_of ts j) j.cell) (left_job_on s ts j axis) (right_job_on s f ts j axis) lower higher
  unfolding shape_on
  into e = halved_into (box_value ts x j) (is_leaf_on s (near_of ts j) j.cell) (left_job_on s ts j axis) (right_job_on s f ts j axis) lower higher e

  -- the halves of a job of a scene are jobs of it
  pub halves_are_jobs_on : (m : ℕ) → normal_limit m < f → IsSceneWithin m ts most_meshes → IsJobOn s f ts j →
      shape_on s f ts x j ≡ halved lower higher → IsJobOn s f ts lower × IsJobOn s f ts higher
  halves_are_jobs_on m tells scene h e =
      let i = into e in
      let may = halvable_unless_leaf s (near_of ts j) j.cell i.not_leaf in (
        subst (IsJobOn s f ts) i.is_low (left_is_job_on s m f tells ts scene j h axis may),
        subst (IsJobOn s f ts) i.is_high (right_is_job_on s m f tells ts scene j h axis may),
      )

  -- the halves of a job are jobs of the two halves of its box
  pub halves_are_split_on : shape_on s f ts x j ≡ halved lower higher → IsSplit j.cell lower.cell higher.cell
  halves_are_split_on e =
      let i = into e in record {
        axis = axis;
        may_halve = halvable_unless_leaf s (near_of ts j) j.cell i.not_leaf;
        is_low = ap (λ (x : Job). x.cell) (sym i.is_low);
        is_high = ap (λ (x : Job). x.cell) (sym i.is_high);
      }

-- on the narrow grid
module _ (ts : List Tri) (f : Formula) (j lower higher : Job) where
  pub halves_are_jobs : (n : ℕ) → IsScene ts n → IsJob ts j → shape ts f j ≡ halved lower higher → IsJob ts lower × IsJob ts higher
  halves_are_jobs n s h e = halves_are_jobs_on 0 (2 ^ 27) ts f j lower higher narrow_limit (lit< tt) (scene_within ts n s) h e

  pub halves_are_split : shape ts f j ≡ halved lower higher → IsSplit j.cell lower.cell higher.cell
  halves_are_split e = halves_are_split_on 0 (2 ^ 27) ts f j lower higher e
