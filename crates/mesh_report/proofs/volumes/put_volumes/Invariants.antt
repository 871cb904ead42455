use Rattle.std.proofs.Common.{◌≡◌, ◌+◌, ◌++◌, drop}
use Rattle.mesh_report.specs.Volumes.{volume_lines}
use Rattle.mesh_report.proofs.volumes.put_volumes.Given as goal

abbrev pub invariant-loop-name : goal.invariant-loop-name
invariant-loop-name l =
    record {
      file : l.file ≡ l.name-index;
      text : l.initial.text.items ++ volume_lines 1 l.names l.step l.sixfold_volumes ≡ l.text.items
          ++ volume_lines (l.file + 1) (drop l.name-index l.names) l.step (drop l.file l.sixfold_volumes);
    }
