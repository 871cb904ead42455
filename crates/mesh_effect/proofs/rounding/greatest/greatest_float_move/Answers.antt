use Rattle.std.proofs.Common.{◌≤◌, subst, refl, sym, ◌∙◌, arith}
use Rattle.mesh_effect.specs.declared.rounding.tick.Tick.{Tick}
use Rattle.mesh_effect.specs.Rounding.Greatest.{greatest_float_move}
use Rattle.mesh_effect.specs.Rounding.Ticks.{IsTick}
use Rattle.mesh_effect.proofs.TicksFit.{power_tick_fits}
use Rattle.mesh_effect.proofs.rounding.greatest.greatest_float_move.Goals as goal

pub move_from-requires : goal.move_from-requires
move_from-requires c =
    let least : 85 ≤ c.top_place-top.result = omega (arith, c.top_place-top.ensures.value) in
    subst (λ (t : Tick). IsTick t) (sym c.power_tick.ensures) (power_tick_fits c.top_place-top.result least c.top_place-top.ensures.few)

pub returns-clause-moved : goal.returns-clause-moved
unfolding greatest_float_move
returns-clause-moved c = c.move_from.ensures ∙ rw (
  c.power_tick.ensures,
  c.greatest_square-square.ensures,
  c.deref.ensures.value,
  c.in_ok-squares.ensures.squares,
  c.top_place-top.ensures.value,
) refl
