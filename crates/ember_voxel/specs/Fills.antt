-- Boxes of one value
use Rattle.std.specs.Prelude.{◌≡◌, ℕ, List, map}
use Rattle.ember_model.specs.declared.tri.Tri.{Tri}
use Rattle.ember_expr.specs.Formula.{Formula}
use Rattle.ember_expr.specs.Truth.{truth}
use Rattle.ember_job.specs.declared.job.Job.{Job}
use Rattle.ember_job.specs.Visited.{leaves}
use Rattle.ember_visit.specs.Jobs.{root_job}
use Rattle.ember_voxel.specs.declared.fill.Fill.{Fill}
use Rattle.ember_voxel.specs.Lattice.{shape}

-- the box of the job, with the value at its reference point
abbrev pub fill_of : Formula → Job → Fill
fill_of f j = record { cell = j.cell; bit = truth j.at.counts f }

-- the item of a leaf
abbrev pub IsFill : Formula → Job → Fill → Type 0
IsFill f j it = it ≡ fill_of f j

-- the items of the leaves below the root, in order
abbrev pub leaf_fills : List Tri → Formula → ℕ → List Fill
leaf_fills ts f size = map (fill_of f) (leaves (shape ts f size) (root_job ts))
