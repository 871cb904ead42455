-- The heights of two triangles over planes of each other
use Rattle.std.specs.Prelude.{◌≡◌, Bool, not, ◌&&◌, ◌||◌, ◌^◌, List, map}
use Rattle.std.specs.List.{list_any}
use Rattle.ember_model.specs.declared.plane.Plane.{Plane}
use Rattle.ember_model.specs.declared.tri.Tri.{Tri}
use Rattle.ember_model.specs.Planes.{support_of}
use Rattle.ember_width.specs.declared.heights.Heights.{Heights}
use Rattle.ember_width.specs.Heights.{heights_of, all_in_front, all_behind, none_in_front, none_behind, all_on}
use Rattle.ember_width.specs.Heights.{lie_in_front, AreWithin}
use Rattle.ember_pairs.specs.declared.heights.PlaneHeights.{PlaneHeights}

-- they are at most 2^40 in size
abbrev pub AreSmall : Heights → Type 0
AreSmall h = AreWithin (2 ^ 40) h

-- all corners are strictly on one side of the plane
abbrev pub are_on_one_side : Heights → Bool
are_on_one_side h = all_in_front h || all_behind h

-- the corners are on one side of the plane or on it, and not all are on it
abbrev pub lean_to_one_side : Heights → Bool
lean_to_one_side h = (none_in_front h || none_behind h) && not (all_on h)

-- ---- two triangles
-- these are the heights of u over the plane of t, and of t over the plane of u
pub record ArePlaneHeights (t u : Tri) (over : PlaneHeights) : Type 0 where
  pub theirs : over.theirs ≡ heights_of (support_of t) u
  pub own : over.own ≡ heights_of (support_of u) t
  pub theirs_small : AreSmall over.theirs
  pub own_small : AreSmall over.own

-- ---- several planes
-- the heights of a triangle over each of these planes
abbrev pub heights_over : List Plane → Tri → List Heights
heights_over planes t = map (λ p. heights_of p t) planes

-- of the heights of a triangle over several planes: it lies beyond one of them
abbrev pub lies_beyond_some : List Heights → Bool
lies_beyond_some heights = list_any lie_in_front heights
