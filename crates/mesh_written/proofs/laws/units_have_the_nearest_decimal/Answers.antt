use Rattle.mesh_written.proofs.NearestUnits.{units_are_nearest, units_have_the_sign}
use Rattle.mesh_written.proofs.Signs.{units_have_the_decimal}
use Rattle.mesh_written.proofs.laws.units_have_the_nearest_decimal.Goals as goal

pub returns-clause-text : goal.returns-clause-text
returns-clause-text c = units_have_the_decimal

pub returns-clause-nearest : goal.returns-clause-nearest
returns-clause-nearest c = units_are_nearest

pub returns-clause-sign : goal.returns-clause-sign
returns-clause-sign c = units_have_the_sign
