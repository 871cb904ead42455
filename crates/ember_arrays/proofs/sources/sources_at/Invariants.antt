use Rattle.std.proofs.Common.{◌≡◌, map, take}
use Rattle.ember_arrays.specs.Sources.{source_at}
use Rattle.ember_arrays.proofs.sources.sources_at.Given as goal

abbrev pub invariant-loop-origin : goal.invariant-loop-origin
invariant-loop-origin l = l.sources.items ≡ map (source_at l.inputs l.exact) (take l.origin-index l.origins)
