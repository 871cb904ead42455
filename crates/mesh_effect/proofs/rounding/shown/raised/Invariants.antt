use Rattle.std.proofs.Common.{◌≡◌, ◌<◌, ◌*◌, ◌^◌}
use Rattle.ember_wide.specs.Whole.{size_of}
use Rattle.mesh_effect.specs.Rounding.Shown.{rounded_up}
use Rattle.mesh_effect.proofs.rounding.shown.raised.Given as goal

abbrev pub invariant-loop-places : goal.invariant-loop-places
invariant-loop-places l = record {
  value : size_of l.over ≡ l.root * l.tick.numerator * 10 ^ l.places;
  fits : size_of l.over < 2 ^ 124 * l.tick.denominator;
  short : 0 < l.places → rounded_up l.root l.tick l.places < 10 ^ 9;
}
