-- The length of a move in few digits
use Rattle.std.specs.Prelude.{◌≡◌, ℕ, zero, suc, ◌*◌, ◌^◌, true, nat_le, nat_lt, if◌then◌else◌, List, map}
use Rattle.mesh_number.specs.Number.Quotients.{quotient}
use Rattle.mesh_grid.specs.declared.snap.steps.GridStep.{GridStep}
use Rattle.mesh_read.specs.declared.surface.surface.Surface.{Surface}
use Rattle.mesh_grid.specs.declared.grid.grid.Grid.{Grid}
use Rattle.mesh_grid.specs.declared.moves.length.Length.{Length}
use Rattle.mesh_grid.specs.Moves.Moves.{fineness_of}
use Rattle.mesh_grid.specs.Moves.Greatest.{greatest_square}

-- the least whole number up to this one whose square isn't below n, if there is one
unfoldable pub root_up_to : ℕ → ℕ → ℕ
root_up_to n zero = 0
root_up_to n (suc most) = if nat_le n (most * most) then root_up_to n most else suc most

-- the square root of n, rounded up to a whole number
abbrev pub root_above : ℕ → ℕ
root_above n = root_up_to n n

-- the root divided by `under`, with these places, rounded up to the last place
abbrev pub rounded_up : ℕ → ℕ → ℕ → ℕ
rounded_up root under places = quotient true (root * 10 ^ places) under

-- the greatest number of places, up to this one, with which there are at most nine digits; or 0
unfoldable pub places_up_to : ℕ → ℕ → ℕ → ℕ
places_up_to root under zero = 0
places_up_to root under (suc most) =
    if nat_lt (rounded_up root under (suc most)) (10 ^ 9) then suc most else places_up_to root under most

-- how many ticks the user's unit has
abbrev pub ticks_in_unit : GridStep → ℕ → ℕ
ticks_in_unit s fineness = 2 * (s.denominator * fineness)

-- size / 10 ^ places
pub record Rounded : Type 0 where
  pub size : ℕ
  pub places : ℕ

abbrev pub rounded_of : Length → Rounded
rounded_of l = record { size = l.size; places = l.places }

-- the root divided by `under`, rounded up to nine digits and at most 12 places
abbrev pub length_from : ℕ → ℕ → Rounded
length_from root under = record {
  size = rounded_up root under (places_up_to root under 12);
  places = places_up_to root under 12;
}

-- a length in the user's unit, from its square in ticks
abbrev pub length_of : GridStep → ℕ → ℕ → Rounded
length_of s fineness square = length_from (root_above square) (ticks_in_unit s fineness)

-- how far a corner of the surface's triangles moves to the grid at most
unfoldable pub greatest_move : Grid → Surface → Rounded
greatest_move g s =
    length_of g.step (fineness_of g.step) (greatest_square g.step (fineness_of g.step) s.vertices.items s.facets.items)

-- the greatest move of each surface, in order
abbrev pub AreMoves : Grid → List Surface → List Length → Type 0
AreMoves g surfaces moves = map rounded_of moves ≡ map (greatest_move g) surfaces
