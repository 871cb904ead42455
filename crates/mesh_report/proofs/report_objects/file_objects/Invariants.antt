use Rattle.std.proofs.Common.{◌≡◌, ◌++◌, drop}
use Rattle.mesh_texts.specs.Objects.{texts_of}
use Rattle.mesh_report.specs.ReportObjects.{file_objects}
use Rattle.mesh_report.proofs.report_objects.file_objects.Given as goal

abbrev pub invariant-loop-name : goal.invariant-loop-name
invariant-loop-name l =
    record {
      file : l.file ≡ l.name-index;
      texts : file_objects l.names l.step l.counts l.moves l.sixfold_volumes ≡ texts_of l.texts.items
          ++ file_objects (drop l.name-index l.names) l.step (drop l.file l.counts) (drop l.file l.moves)
          (drop l.file l.sixfold_volumes);
    }
