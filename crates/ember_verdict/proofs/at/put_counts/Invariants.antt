use Rattle.std.proofs.Common.{◌≡◌, ◌+◌, ◌++◌, drop}
use Rattle.ember_verdict.specs.Outputs.{count_lines}
use Rattle.ember_verdict.proofs.at.put_counts.Given as goal

abbrev pub invariant-loop-count : goal.invariant-loop-count
invariant-loop-count l =
    record {
      mesh : l.mesh ≡ l.count-index + 1;
      text : l.initial.text.items ++ count_lines 1 l.counts ≡ l.text.items ++ count_lines l.mesh (drop l.count-index l.counts);
    }
