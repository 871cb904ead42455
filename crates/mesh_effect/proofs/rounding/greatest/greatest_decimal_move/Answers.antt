use Rattle.std.proofs.Common.{subst, refl, sym, ◌∙◌}
use Rattle.mesh_effect.specs.declared.rounding.tick.Tick.{Tick}
use Rattle.mesh_effect.specs.Rounding.Greatest.{greatest_decimal_move}
use Rattle.mesh_effect.specs.Rounding.Ticks.{IsTick}
use Rattle.mesh_effect.proofs.TicksFit.{decimal_tick_fits}
use Rattle.mesh_effect.proofs.rounding.greatest.greatest_decimal_move.Goals as goal

pub move_from-requires : goal.move_from-requires
move_from-requires c = subst (λ (t : Tick). IsTick t) (sym c.decimal_tick.ensures) (decimal_tick_fits c.args.places c.requires.places)

pub returns-clause-moved : goal.returns-clause-moved
unfolding greatest_decimal_move
returns-clause-moved c = c.move_from.ensures ∙ rw (
  c.decimal_tick.ensures,
  c.greatest_square-square.ensures,
  c.deref.ensures.value,
  c.in_ok-squares.ensures.squares,
) refl
