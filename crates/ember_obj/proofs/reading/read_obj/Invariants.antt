use Rattle.std.proofs.Common.{◌≡◌, ◌≤◌, ◌+◌, length, Ok}
use Rattle.ember_obj.specs.Lines.{lines_from}
use Rattle.ember_obj.specs.ReadObj.{table_of, after_lines}
use Rattle.ember_obj.proofs.reading.read_obj.Given as goal

abbrev pub invariant-loop-line : goal.invariant-loop-line
invariant-loop-line l = record {
  same : table_of l.places l.mesh l.bytes ≡ after_lines l.places l.mesh (Ok l.table) (lines_from l.number l.rest);
  short : l.number + length l.rest ≤ length l.bytes + 1;
}

abbrev pub decreases-loop-line : goal.decreases-loop-line
decreases-loop-line l = length l.rest
