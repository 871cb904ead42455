use Rattle.std.proofs.Common.{◌≡◌, ◌++◌, drop}
use Rattle.mesh_texts.specs.Objects.{texts_of}
use Rattle.mesh_report.specs.Lying.{missed_warnings}
use Rattle.mesh_report.proofs.lying.put_missed_warnings.Given as goal

abbrev pub invariant-loop-name : goal.invariant-loop-name
invariant-loop-name l =
    record {
      file : l.file ≡ l.name-index;
      texts : texts_of l.initial.texts.items ++ missed_warnings l.names l.counts l.all ≡ texts_of l.texts.items
          ++ missed_warnings (drop l.name-index l.names) (drop l.file l.counts) l.all;
    }
