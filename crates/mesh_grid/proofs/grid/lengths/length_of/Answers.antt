use Rattle.std.proofs.Common.{ℕ, ◌<◌, ◌^◌, ap, ◌∙◌, sym, subst}
use Rattle.mesh_grid.specs.Grid.Lengths.{greater_of}
use Rattle.mesh_grid.proofs.BoundSteps.{greater_below}
use Rattle.mesh_grid.proofs.grid.lengths.length_of.Goals as goal

pub returns-clause-length : goal.returns-clause-length
returns-clause-length c = record {
  x = c.length_along-x.result;
  y = c.length_along-y.result;
  z = c.length_along-z.result;
  along_x = c.length_along-x.ensures.length;
  along_y = c.length_along-y.ensures.length;
  along_z = c.length_along-z.ensures.length;
  greatest = c.greater-2.ensures ∙ ap (λ (n : ℕ). greater_of n c.length_along-z.result) c.greater.ensures;
}

pub returns-clause-small : goal.returns-clause-small
returns-clause-small c =
    let first = greater_below c.length_along-x.result c.length_along-y.result (2 ^ 108) c.length_along-x.ensures.small c.length_along-y.ensures.small in
    let below = subst (λ (n : ℕ). n < 2 ^ 108) (sym c.greater.ensures) first in
    subst (λ (n : ℕ). n < 2 ^ 108) (sym c.greater-2.ensures)
    (greater_below c.greater.result c.length_along-z.result (2 ^ 108) below c.length_along-z.ensures.small)
