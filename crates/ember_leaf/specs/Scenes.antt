-- What is written of a scene, leaf by leaf of the full tree
use Rattle.std.specs.Prelude.{◌≡◌, ℕ, ℤ, pos, Bool, List, []}
use Rattle.ember_algebra.specs.Large.{Eventually}
use Rattle.ember_algebra.specs.Relations.{Each}
use Rattle.ember_model.specs.declared.point.Axis.{Axis}
use Rattle.ember_model.specs.declared.point.Spot.{Spot}
use Rattle.ember_model.specs.declared.tri.Tri.{Tri}
use Rattle.ember_model.specs.Points.{scaled, moved}
use Rattle.ember_model.specs.Clear.{AreClear}
use Rattle.ember_model.specs.Meshes.{faces_of, vector}
use Rattle.ember_expr.specs.Formula.{Formula}
use Rattle.ember_expr.specs.Truth.{truth}
use Rattle.ember_box.specs.Boxes.{Cell, root, in_steps}
use Rattle.ember_box.specs.Near.{near}
use Rattle.ember_box.specs.Halving.{leaves_on}
use Rattle.ember_ref.specs.ClosedBoxes.{HasPoint}
use Rattle.ember_leaf.specs.declared.kept.Kept.{Kept}
use Rattle.ember_leaf.specs.KeptRegions.{NarrowKept}
use Rattle.ember_leaf.specs.Written.{IsWrittenIn}

-- the expression has this value at all clear points directly beside v: for each axis and number `by`, at the
-- point v moved by `by` / (m * w) along the axis, if it is clear and m is large enough (from some m on)
pub record IsBeside (scene : List Tri) (e : Formula) (v : Spot) (value : Bool) : Type 0 where
  pub steps : (k : Axis) (by : ℤ) → Eventually (λ m. AreClear (faces_of scene) (moved (scaled (pos m) v) k by) →
      (a : Axis) → truth (vector a scene (moved (scaled (pos m) v) k by)) e ≡ value)

-- the expression has one value at all clear points in the closed box and directly beside it
pub record HasOneValue (scene : List Tri) (e : Formula) (c : Cell) : Type 0 where
  pub value : Bool
  pub beside : (v : Spot) → HasPoint c v → IsBeside scene e v value

-- what a leaf gives, by its box in steps: its written regions, and nothing if the expression has one value in it
pub data LeafGivesOn {W M : Type 0} (scene : List Tri) (e : Formula) (c : Cell) : List (Kept W M) → Type 0 where
  regions : {ks : List (Kept W M)} → IsWrittenIn scene e c (near scene c) ks → LeafGivesOn scene e c ks
  nothing : HasOneValue scene e c → LeafGivesOn scene e c []

-- on a grid on which a unit has 2^s steps: the written regions of all leaves of the full tree, in tree order
abbrev pub IsWrittenOn : {W M : Type 0} → ℕ → List Tri → Formula → List (Kept W M) → Type 0
IsWrittenOn s scene e ks = Each (λ c. LeafGivesOn scene e (in_steps s c)) (leaves_on s scene root) ks

-- ---- on the narrow grid
abbrev pub LeafGives : List Tri → Formula → Cell → List NarrowKept → Type 0
LeafGives scene e c ks = LeafGivesOn scene e c ks

abbrev pub IsWritten : List Tri → Formula → List NarrowKept → Type 0
IsWritten scene e ks = IsWrittenOn 0 scene e ks
