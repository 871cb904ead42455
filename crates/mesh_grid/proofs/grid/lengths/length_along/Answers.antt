use Rattle.std.proofs.Common.{arith}
use borrow.Author.Differences.{ints}
use Rattle.mesh_grid.proofs.grid.lengths.length_along.Goals as goal

pub returns-clause-length : goal.returns-clause-length
returns-clause-length c = record {
  bounds = c.bounds_of-bounds.result;
  are_bounds = c.bounds_of-bounds.ensures.bounds;
  distance = omega (arith, ints, c.unsigned_abs.ensures.value, c.bounds_of-bounds.ensures.least, c.bounds_of-bounds.ensures.greatest);
}

pub returns-clause-small : goal.returns-clause-small
returns-clause-small c = omega (arith, ints, c.unsigned_abs.ensures.value, c.bounds_of-bounds.ensures.least, c.bounds_of-bounds.ensures.greatest)
