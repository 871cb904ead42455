use Rattle.std.proofs.Common.{◌≡◌, ◌++◌, drop}
use Rattle.mesh_info.specs.Info.Lines.{escaped}
use Rattle.mesh_info.proofs.info.line.put_escaped.Given as goal

abbrev pub invariant-loop-byte : goal.invariant-loop-byte
invariant-loop-byte l =
    l.text.items ++ escaped (drop l.byte-index l.name) ≡ l.fn.text.items ++ escaped l.name
