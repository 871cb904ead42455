-- The work that looks for meeting pairs box by box
use Rattle.std.specs.Prelude.{◌≡◌, ◌<◌, nat_lt, if◌then◌else◌, pos, List, length, replicate}
use Rattle.ember_model.specs.declared.tri.Tri.{Tri}
use Rattle.ember_model.specs.declared.vector.Vector.{Vector}
use Rattle.ember_box.specs.Boxes.{Cell, root, left_half, right_half}
use Rattle.ember_box.specs.Near.{near_indices, all_indices}
use Rattle.ember_box.specs.Halving.{halving_axis, is_leaf}
use Rattle.ember_job.specs.declared.job.Job.{Job}
use Rattle.ember_job.specs.Works.{Shape, halved, leafed, passed}

-- the boxes that are made from the root by halvings along the halving axis
pub data IsFromRoot (ts : List Tri) : Cell → Type 0 where
  at_root : IsFromRoot ts root
  low_half : (c : Cell) → IsFromRoot ts c → 0 < c.log (halving_axis ts c) →
      IsFromRoot ts (left_half c (halving_axis ts c))
  high_half : (c : Cell) → IsFromRoot ts c → 0 < c.log (halving_axis ts c) →
      IsFromRoot ts (right_half c (halving_axis ts c))

-- the zero vector; pairs need no winding numbers
abbrev pub no_windings : Vector
no_windings = record { counts = replicate 64 (pos 0) }

-- the job of a box: its near triangles, and the zero vector
abbrev pub job_at : List Tri → Cell → Job
job_at ts c = record { cell = c; list = near_indices ts c (all_indices ts); at = no_windings }

-- the job of a box of the tree
pub record IsPairsJob (ts : List Tri) (job : Job) : Type 0 where
  pub from_root : IsFromRoot ts job.cell
  pub is : job ≡ job_at ts job.cell

-- what becomes of a box: it is skipped with fewer than two near triangles, otherwise it is a leaf or halved
unfoldable pub pairs_shape : List Tri → Job → Shape
pairs_shape ts job =
    if nat_lt (length job.list) 2 then passed
    else (if is_leaf ts job.cell then leafed
    else halved (job_at ts (left_half job.cell (halving_axis ts job.cell)))
    (job_at ts (right_half job.cell (halving_axis ts job.cell))))
