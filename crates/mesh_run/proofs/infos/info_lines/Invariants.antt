use Rattle.std.proofs.Common.{take}
use Rattle.ember_algebra.specs.Relations.{Each}
use Rattle.mesh_run.specs.Infos.{IsFileLine}
use Rattle.mesh_run.proofs.infos.info_lines.Given as goal

abbrev pub invariant-loop-index : goal.invariant-loop-index
invariant-loop-index l = Each IsFileLine (take l.index l.files) l.lines.items
