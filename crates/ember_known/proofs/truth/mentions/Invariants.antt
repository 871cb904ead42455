use Rattle.std.proofs.Common.{◌≡◌, drop}
use Rattle.ember_known.specs.Masks.{is_in}
use Rattle.ember_known.specs.Known.{mentions}
use Rattle.ember_known.proofs.truth.mentions.Given as goal

abbrev pub invariant-loop-term : goal.invariant-loop-term
invariant-loop-term l = mentions (is_in l.m.0) l.terms ≡ mentions (is_in l.m.0) (drop l.term-index l.terms)
