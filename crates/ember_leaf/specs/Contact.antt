-- What the corners of a triangle show of a region in its plane
use Rattle.std.specs.Prelude.{◌≡◌, ◌⊎◌, ℕ, ◌<◌, true, List, length, slice_index_or, ⊤}
use Rattle.std.specs.List.{AllByRecursion}
use Rattle.ember_model.specs.declared.plane.Plane.{Plane}
use Rattle.ember_model.specs.declared.tri.Tri.{Tri}
use Rattle.ember_model.specs.declared.point.Corner.{Corner}
use Rattle.ember_model.specs.Owners.{spot_of_corner}
use Rattle.ember_model.specs.Planes.{zero_plane}
use Rattle.ember_poly.specs.Rings.{IsBelow}
use Rattle.ember_leaf.specs.declared.contact.Contact.{Contact}
use Rattle.ember_leaf.specs.declared.contact.Contact.TheVariants.{Apart, Met, Unknown}
use Rattle.ember_width.specs.Heights.{heights_of, none_behind}

-- some plane of the list has no corner behind it
pub record HasParting (ps : List Plane) (t : Tri) : Type 0 where
  pub index : ℕ
  pub before : index < length ps
  pub parts : none_behind (heights_of (slice_index_or ps index zero_plane) t) ≡ true

-- the corner is behind all of them
abbrev pub IsBehind : List Plane → Corner → Type 0
IsBehind ps corner = AllByRecursion (λ p. IsBelow p (spot_of_corner corner)) ps

-- what each answer shows; `Unknown` shows nothing
abbrev pub IsContact : List Plane → Tri → Contact → Type 0
IsContact ps t Apart = HasParting ps t
IsContact ps t Met = IsBehind ps t.a ⊎ (IsBehind ps t.b ⊎ IsBehind ps t.c)
IsContact ps t Unknown = ⊤
