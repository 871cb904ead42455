-- Moves in few digits
use Rattle.std.specs.Prelude.{ℕ, zero, suc, ◌*◌, ◌^◌, true, nat_lt, if◌then◌else◌}
use Rattle.mesh_number.specs.Number.Quotients.{quotient}
use Rattle.mesh_grid.specs.Moves.Shown.{root_above}
use Rattle.mesh_effect.specs.declared.rounding.length.Move.{Move}
use Rattle.mesh_effect.specs.declared.rounding.tick.Tick.{Tick}

-- so many ticks in the user's unit, with these places, rounded up to the last place
abbrev pub rounded_up : ℕ → Tick → ℕ → ℕ
rounded_up root tick places = quotient true (root * tick.numerator * 10 ^ places) tick.denominator

-- the greatest number of places, up to this one, with which there are at most nine digits; or 0
unfoldable pub places_up_to : ℕ → Tick → ℕ → ℕ
places_up_to root tick zero = 0
places_up_to root tick (suc most) =
    if nat_lt (rounded_up root tick (suc most)) (10 ^ 9) then suc most else places_up_to root tick most

-- size / 10 ^ places
pub record Rounded : Type 0 where
  pub size : ℕ
  pub places : ℕ

abbrev pub rounded_of : Move → Rounded
rounded_of m = record { size = m.size; places = m.places }

-- so many ticks, rounded up to nine digits and at most 38 places
abbrev pub rounded_from : ℕ → Tick → Rounded
rounded_from root tick = record {
  size = rounded_up root tick (places_up_to root tick 38);
  places = places_up_to root tick 38;
}

-- a move, from its square in ticks
abbrev pub move_from : Tick → ℕ → Rounded
move_from tick square = rounded_from (root_above square) tick
