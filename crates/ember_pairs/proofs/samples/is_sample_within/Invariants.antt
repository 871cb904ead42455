use Rattle.std.proofs.Common.{◌≡◌, true, take}
use Rattle.ember_pairs.specs.Samples.{is_sample_within}
use Rattle.ember_pairs.proofs.samples.is_sample_within.Given as goal

abbrev pub invariant-loop-h : goal.invariant-loop-h
invariant-loop-h l = is_sample_within (take l.h-index l.heights) l.w ≡ true
