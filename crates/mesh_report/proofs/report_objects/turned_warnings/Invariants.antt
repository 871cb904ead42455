use Rattle.std.proofs.Common.{◌≡◌, ◌+◌, ◌++◌, drop}
use Rattle.mesh_texts.specs.Objects.{texts_of}
use Rattle.mesh_report.specs.ReportObjects.{turned_warnings}
use Rattle.mesh_report.proofs.report_objects.turned_warnings.Given as goal

abbrev pub invariant-loop-name : goal.invariant-loop-name
invariant-loop-name l =
    record {
      file : l.file ≡ l.name-index;
      texts : turned_warnings 1 l.names l.step l.sixfold_volumes ≡ texts_of l.texts.items
          ++ turned_warnings (l.file + 1) (drop l.name-index l.names) l.step (drop l.file l.sixfold_volumes);
    }
