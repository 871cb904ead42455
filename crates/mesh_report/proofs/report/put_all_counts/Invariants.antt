use Rattle.std.proofs.Common.{◌≡◌, ◌++◌, drop}
use Rattle.mesh_report.specs.Reports.{counts_lines}
use Rattle.mesh_report.proofs.report.put_all_counts.Given as goal

abbrev pub invariant-loop-name : goal.invariant-loop-name
invariant-loop-name l =
    record {
      file : l.file ≡ l.name-index;
      text : l.initial.text.items ++ counts_lines l.names l.counts l.moves ≡ l.text.items
          ++ counts_lines (drop l.name-index l.names) (drop l.file l.counts) (drop l.file l.moves);
    }
