use Rattle.std.proofs.Common.{◌≡◌, decimal, map, take}
use Rattle.mesh_texts.specs.Objects.{texts_of}
use Rattle.mesh_report.proofs.lying.numbers.Given as goal

abbrev pub invariant-loop-count : goal.invariant-loop-count
invariant-loop-count l = texts_of l.texts.items ≡ map decimal (take l.count-index l.counts)
