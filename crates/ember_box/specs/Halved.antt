-- A box with the triangles near its halves
use Rattle.std.specs.Prelude.{◌≡◌, ℕ, Option, None, Some, List}
use Rattle.ember_model.specs.declared.tri.Tri.{Tri}
use Rattle.ember_model.specs.declared.point.Axis.{Axis}
use Rattle.ember_box.specs.declared.halved_box.HalvedBox.{HalvedBox}
use Rattle.ember_box.specs.Boxes.{Cell, left_half, right_half, in_steps}
use Rattle.ember_box.specs.Near.{near_indices}

-- the axis along which a box was halved, if it was
abbrev pub axis_of : Option HalvedBox → Option Axis
axis_of None = None
axis_of (Some h) = Some h.axis

-- where a unit has 2^n steps: the indices of the list whose triangles are near the left half, and those near the right
-- half
pub record AreNearListsOn (n : ℕ) (ts : List Tri) (c : Cell) (k : Axis) (indices left right : List ℕ) : Type 0 where
  pub is_left : left ≡ near_indices ts (in_steps n (left_half c k)) indices
  pub is_right : right ≡ near_indices ts (in_steps n (right_half c k)) indices

-- where a unit is one step
abbrev pub AreNearLists : List Tri → Cell → Axis → List ℕ → List ℕ → List ℕ → Type 0
AreNearLists ts c k indices left right = AreNearListsOn 0 ts c k indices left right
