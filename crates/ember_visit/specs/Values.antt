-- What is known of an expression in a whole box, and what becomes of a job
use Rattle.std.specs.Prelude.{ℕ, ◌^◌, ◌≤ℤ◌, ◌<ℤ◌, ◌==◌, ◌||◌, Bool, true, false, List, [], ◌∷◌, Option, None, Some}
use Rattle.ember_algebra.specs.Vector.{Vector}
use Rattle.ember_model.specs.declared.tri.Tri.{Tri}
use Rattle.ember_model.specs.declared.point.Axis.{Axis}
use Rattle.ember_expr.specs.Formula.{Formula}
use Rattle.ember_known.specs.Known.{known}
use Rattle.ember_box.specs.Boxes.{Cell, entry_along, low, high}
use Rattle.ember_box.specs.Halving.{is_leaf_on, halving_axis_on}
use Rattle.ember_job.specs.declared.job.Job.{Job}
use Rattle.ember_job.specs.Works.{Shape, halved, leafed, passed}
use Rattle.ember_visit.specs.Jobs.{near_of, left_job_on, right_job_on}

-- whether a triangle of the mesh is among these
abbrev pub has_mesh : List Tri → ℕ → Bool
has_mesh [] n = false
has_mesh (t ∷ ts) n = n == t.mesh || has_mesh ts n

-- the value of a box, if it is known: the meshes that have a triangle near the box are undecided, and the others
-- count as at its reference point
unfoldable pub box_value : List Tri → Formula → Job → Option Bool
box_value ts f j = known (has_mesh (near_of ts j)) j.at.counts f

-- the corner lies in the half-open box. Then so does the reference point of each box that has it as
-- its least corner: that point is less than 1 above the corner along each axis.
pub record HasCorner (c : Cell) (v : Vector) : Type 0 where
  pub from : (k : Axis) → low c k ≤ℤ entry_along k v
  pub until : (k : Axis) → entry_along k v <ℤ high c k

-- skipped if the value is known
abbrev pub unless_known : Option Bool → Shape → Shape
unless_known (Some b) s = passed
unless_known None s = s

-- a leaf if the first is true
abbrev pub leaf_or : Bool → Shape → Shape
leaf_or true s = leafed
leaf_or false s = s

-- a box is skipped if its value is known, and otherwise it is a leaf or is halved along its axis; on a grid on which a
-- unit has 2^s steps, with reference points beside the boxes in steps by shifts of 1/fine
unfoldable pub shape_on : ℕ → ℕ → List Tri → Formula → Job → Shape
shape_on s fine ts f j =
    let k = halving_axis_on s (near_of ts j) j.cell in
    unless_known (box_value ts f j)
    (leaf_or (is_leaf_on s (near_of ts j) j.cell) (halved (left_job_on s ts j k) (right_job_on s fine ts j k)))

-- the same on the narrow grid
abbrev pub shape : List Tri → Formula → Job → Shape
shape ts f j = shape_on 0 (2 ^ 27) ts f j
