-- What the steps of a placing mean: a move, a scale, a turn about an axis, a mirror
use Rattle.std.specs.Prelude.{◌≡◌, ℕ, ◌+◌, ◌^◌, Bool, true, false, ℤ, pos, neg_ℤ, List, [], ◌∷◌}
use Rattle.std.specs.Prelude.{Option, None, Some, slice_get, nat_le, ⊤, if◌then◌else◌}
use Rattle.ember_algebra.specs.Relations.{Chain}
use Rattle.mesh_read.specs.Surface.Surfaces.{Point, point_of}
use Rattle.mesh_place.specs.declared.maps.axes.Axis.{Axis}
use Rattle.mesh_place.specs.declared.maps.axes.Axis.TheVariants.{X, Y, Z}
use Rattle.mesh_place.specs.declared.maps.steps.Step.{Step}
use Rattle.mesh_place.specs.declared.maps.steps.Step.TheVariants.{Move, Scale, Turn, Mirror}
use Rattle.mesh_place.specs.declared.maps.steps.StepsFault.{StepsFault}
use Rattle.mesh_place.specs.declared.maps.steps.StepsFault.TheVariants.{OutOfMemory, TooFine, TooLong, Flat}
use Rattle.mesh_place.specs.Decimals.{IsOver}
use Rattle.mesh_place.specs.Points.{has_short_numbers, places_at}
use Rattle.mesh_place.specs.AffineMaps.{Affine, row_along, row_without, mirrored, identity, composed, is_flattening}
use Rattle.mesh_place.specs.Directions.{Direction, IsDirection}

-- each coordinate is moved by a number
pub record IsMove (by : Point) (a : Affine) : Type 0 where
  pub x : a.x ≡ row_along X (pos a.scale) a.x.offset
  pub y : a.y ≡ row_along Y (pos a.scale) a.y.offset
  pub z : a.z ≡ row_along Z (pos a.scale) a.z.offset
  pub by_x : IsOver a.x.offset a.scale by.x
  pub by_y : IsOver a.y.offset a.scale by.y
  pub by_z : IsOver a.z.offset a.scale by.z

-- each coordinate is multiplied by a number
pub record IsScale (by : Point) (a : Affine) : Type 0 where
  pub x : a.x ≡ row_along X a.x.x (pos 0)
  pub y : a.y ≡ row_along Y a.y.y (pos 0)
  pub z : a.z ≡ row_along Z a.z.z (pos 0)
  pub by_x : IsOver a.x.x a.scale by.x
  pub by_y : IsOver a.y.y a.scale by.y
  pub by_z : IsOver a.z.z a.scale by.z

-- a turn about an axis: about x from y to z, about y from z to x, about z from x to y
abbrev pub turn_about : Axis → Direction → ℕ → Affine
turn_about X d scale = record {
  x = row_along X (pos scale) (pos 0);
  y = row_without X d.cosine (neg_ℤ d.sine);
  z = row_without X d.sine d.cosine;
  scale = scale;
}
turn_about Y d scale = record {
  x = row_without Y d.cosine d.sine;
  y = row_along Y (pos scale) (pos 0);
  z = row_without Y (neg_ℤ d.sine) d.cosine;
  scale = scale;
}
turn_about Z d scale = record {
  x = row_without Z d.cosine (neg_ℤ d.sine);
  y = row_without Z d.sine d.cosine;
  z = row_along Z (pos scale) (pos 0);
  scale = scale;
}

-- a turn by so many trillionths of a degree, whose sine and cosine are decimals of 20 places
pub record IsTurn (axis : Axis) (trillionths : ℕ) (a : Affine) : Type 0 where
  pub direction : Direction
  pub right : IsDirection trillionths 360_000_000_000_000 direction
  pub map : a ≡ turn_about axis direction (10 ^ 20)

-- the sign of a coordinate is turned
abbrev pub mirror : Axis → Affine
mirror X = mirrored true false false
mirror Y = mirrored false true false
mirror Z = mirrored false false true

-- the map of a step
abbrev pub IsMapOf : Step → Affine → Type 0
IsMapOf (Move by) a = IsMove (point_of by) a
IsMapOf (Scale by) a = IsScale (point_of by) a
IsMapOf (Turn axis angle) a = IsTurn axis angle.trillionths a
IsMapOf (Mirror axis) a = a ≡ mirror axis

-- a step after a map
pub record Leads (step : Step) (before after : Affine) : Type 0 where
  pub map : Affine
  pub is : IsMapOf step map
  pub then_it : after ≡ composed map before

-- the map of steps, each applied after those before it
abbrev pub IsMapOfSteps : List Step → Affine → Type 0
IsMapOfSteps steps a = Chain Leads steps identity a

-- ---- limits
abbrev pub is_short_step : Step → Bool
is_short_step (Move by) = has_short_numbers by
is_short_step (Scale by) = has_short_numbers by
is_short_step (Turn axis angle) = true
is_short_step (Mirror axis) = true

-- the decimal places of the numbers of its map
abbrev pub places_of_step : Step → ℕ
places_of_step (Move by) = places_at by
places_of_step (Scale by) = places_at by
places_of_step (Turn axis angle) = 20
places_of_step (Mirror axis) = 0

-- the first fault of the steps' numbers, where this many steps were before and their maps have so many places
abbrev pub fault_from : ℕ → ℕ → List Step → Option StepsFault
fault_from number places [] = None
fault_from number places (step ∷ steps) =
    if is_short_step step
    then (if nat_le (places + places_of_step step) 4999
    then fault_from (number + 1) (places + places_of_step step) steps
    else Some (TooFine number))
    else Some (TooLong number)

-- a step makes everything flat
pub record Flattens (step : Step) : Type 0 where
  pub map : Affine
  pub is : IsMapOf step map
  pub flat : is_flattening map ≡ true

-- the step with this number, counted from 0, makes everything flat
pub record FlattensAt (steps : List Step) (number : ℕ) : Type 0 where
  pub step : Step
  pub is : slice_get steps number ≡ Some step
  pub flat : Flattens step

-- when a fault of steps comes
abbrev pub IsFaultOf : List Step → StepsFault → Type 0
IsFaultOf steps OutOfMemory = ⊤
IsFaultOf steps (TooFine number) = fault_from 0 0 steps ≡ Some (TooFine number)
IsFaultOf steps (TooLong number) = fault_from 0 0 steps ≡ Some (TooLong number)
IsFaultOf steps (Flat number) = FlattensAt steps number
