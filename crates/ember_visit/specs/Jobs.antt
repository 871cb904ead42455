-- The jobs of a scene: the root's, and those of the halves of a job
use Rattle.std.specs.Prelude.{◌≡◌, ℕ, ◌^◌, true, false, ℤ, pos, Option, None, Some, List, replicate}
use Rattle.ember_model.specs.declared.tri.Tri.{Tri}
use Rattle.ember_model.specs.declared.point.Axis.{Axis}
use Rattle.ember_box.specs.Boxes.{Cell, root, left_half, right_half, in_steps}
use Rattle.ember_box.specs.Near.{listed, near_indices, all_indices}
use Rattle.ember_box.specs.Halving.{is_leaf_on, halving_axis_on}
use Rattle.ember_box.specs.Reference.{vector_beside}
use Rattle.ember_ref.specs.References.{counts_beside}
use Rattle.ember_job.specs.declared.job.Job.{Job}

-- the job of a box with these triangles and winding numbers
abbrev pub job_of : Cell → List ℕ → List ℤ → Job
job_of cell list counts = record { cell = cell; list = list; at = record { counts = counts } }

-- the triangles near a job's box, by its list
abbrev pub near_of : List Tri → Job → List Tri
near_of ts j = listed ts j.list

-- ---- on a grid on which a unit has 2^s steps, with reference points beside the boxes in steps by shifts of 1/f
-- the list is that of the triangles near the box, and the counts are those at its reference point
pub record IsJobOn (s f : ℕ) (ts : List Tri) (j : Job) : Type 0 where
  pub list : j.list ≡ near_indices ts (in_steps s j.cell) (all_indices ts)
  pub at : j.at.counts ≡ vector_beside f ts (in_steps s j.cell)

-- the root's job: the triangles near the root, and all winding numbers 0
abbrev pub root_job_on : ℕ → List Tri → Job
root_job_on s ts = job_of root (near_indices ts (in_steps s root) (all_indices ts)) (replicate 64 (pos 0))

-- the halves of a job along an axis, each with the triangles near it; the reference point of the left half is that of
-- the whole
abbrev pub left_job_on : ℕ → List Tri → Job → Axis → Job
left_job_on s ts j k =
    job_of (left_half j.cell k) (near_indices ts (in_steps s (left_half j.cell k)) j.list) j.at.counts

abbrev pub right_job_on : ℕ → ℕ → List Tri → Job → Axis → Job
right_job_on s f ts j k = job_of (right_half j.cell k) (near_indices ts (in_steps s (right_half j.cell k)) j.list)
    (counts_beside f (near_of ts j) (in_steps s j.cell) k j.at.counts)

-- the two half jobs along an axis
pub record AreHalfJobsOn (s f : ℕ) (ts : List Tri) (j : Job) (k : Axis) (left right : Job) : Type 0 where
  pub is_left : left ≡ left_job_on s ts j k
  pub is_right : right ≡ right_job_on s f ts j k

-- nothing for a leaf, and otherwise the halves along the halving axis
abbrev pub IsHalvedUnlessLeafOn : ℕ → ℕ → List Tri → Job → Option (Job × Job) → Type 0
IsHalvedUnlessLeafOn s f ts j None = is_leaf_on s (near_of ts j) j.cell ≡ true
IsHalvedUnlessLeafOn s f ts j (Some halves) =
    (is_leaf_on s (near_of ts j) j.cell ≡ false) ×
    AreHalfJobsOn s f ts j (halving_axis_on s (near_of ts j) j.cell) halves.0 halves.1

-- ---- on the narrow grid, where f is 2^27 and a unit is one step
abbrev pub IsJob : List Tri → Job → Type 0
IsJob ts j = IsJobOn 0 (2 ^ 27) ts j

abbrev pub root_job : List Tri → Job
root_job ts = root_job_on 0 ts

abbrev pub left_job : List Tri → Job → Axis → Job
left_job ts j k = left_job_on 0 ts j k

abbrev pub right_job : List Tri → Job → Axis → Job
right_job ts j k = right_job_on 0 (2 ^ 27) ts j k

abbrev pub AreHalfJobs : List Tri → Job → Axis → Job → Job → Type 0
AreHalfJobs ts j k left right = AreHalfJobsOn 0 (2 ^ 27) ts j k left right
