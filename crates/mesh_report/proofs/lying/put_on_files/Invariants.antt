use Rattle.std.proofs.Common.{◌≡◌, ◌++◌, drop}
use Rattle.mesh_report.specs.Lying.{on_file_lines}
use Rattle.mesh_report.proofs.lying.put_on_files.Given as goal

abbrev pub invariant-loop-name : goal.invariant-loop-name
invariant-loop-name l =
    record {
      file : l.file ≡ l.name-index;
      text : l.initial.text.items ++ on_file_lines l.names l.counts l.all ≡ l.text.items
          ++ on_file_lines (drop l.name-index l.names) (drop l.file l.counts) l.all;
    }
