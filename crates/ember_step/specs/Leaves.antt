-- What leaves write of a scene
use Rattle.std.specs.Prelude.{◌≡◌, ℤ, Bool, List, [], Some}
use Rattle.ember_algebra.specs.Relations.{Each}
use Rattle.ember_box.specs.Boxes.{Cell}
use Rattle.ember_box.specs.Near.{near}
use Rattle.ember_expr.specs.Formula.{Formula, IsFit}
use Rattle.ember_expr.specs.Truth.{truth}
use Rattle.ember_job.specs.Visited.{leaves}
use Rattle.ember_job.specs.declared.job.Job.{Job}
use Rattle.ember_leaf.specs.KeptRegions.{NarrowKept as Kept}
use Rattle.ember_leaf.specs.Scenes.{HasOneValue, IsWritten}
use Rattle.ember_leaf.specs.Written.{IsWrittenIn}
use Rattle.ember_model.specs.Sides.{IsSides}
use Rattle.ember_model.specs.declared.face.Face.{Face}
use Rattle.ember_model.specs.declared.tri.Tri.{Tri}
use Rattle.ember_trace.specs.Boxed.{IsRegion}
use Rattle.ember_visit.specs.Jobs.{IsJob, root_job}
use Rattle.ember_visit.specs.Values.{box_value, shape}

-- ---- known boxes
-- if the value of a box is known, the expression has one value in the box and directly beside it
abbrev pub KnownBoxesHaveOneValue : List Tri → Type 0
KnownBoxesHaveOneValue ts =
    (f : Formula) (job : Job) (known : Bool) → IsFit 64 f → IsJob ts job → box_value ts f job ≡ Some known →
    HasOneValue ts f job.cell

-- where it has one value, it has it on both sides of each region of the leaf
abbrev pub SidesHaveOneValue : List Tri → Type 0
SidesHaveOneValue ts =
    (f : Formula) (c : Cell) (one : HasOneValue ts f c) (region : Face) (before after : List ℤ) →
    IsRegion (near ts c) c region → IsSides ts region before after →
    (truth before f ≡ one.value) × (truth after f ≡ one.value)

-- where it has one value, the leaf writes nothing
abbrev pub OneValueWritesNothing : List Tri → Type 0
OneValueWritesNothing ts =
    (f : Formula) (c : Cell) (kept : List Kept) → HasOneValue ts f c → IsWrittenIn ts f c (near ts c) kept → kept ≡ []

-- ---- all leaves
-- what the visited leaves write, one after another, is what is written of the scene
abbrev pub VisitedLeavesWriteAll : List Tri → Formula → Type 0
VisitedLeavesWriteAll ts f =
    (kept : List Kept) →
    Each (λ job ks. IsWrittenIn ts f job.cell (near ts job.cell) ks) (leaves (shape ts f) (root_job ts)) kept →
    IsWritten ts f kept

-- ---- one list
-- at most one list of regions has the property
abbrev pub HasOneList : (List Kept → Type 0) → Type 0
HasOneList Is = (one other : List Kept) → Is one → Is other → one ≡ other

-- the written regions of each leaf are one list
abbrev pub LeavesWriteOneList : List Tri → Type 0
LeavesWriteOneList ts = (f : Formula) (c : Cell) → HasOneList (IsWrittenIn ts f c (near ts c))
