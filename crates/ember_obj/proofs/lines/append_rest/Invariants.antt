use Rattle.std.proofs.Common.{◌≡◌, ◌≤◌, ◌+◌, length}
use Rattle.ember_obj.specs.Lines.{joined_to, lines_from}
use Rattle.ember_obj.proofs.lines.append_rest.Given as goal

abbrev pub invariant-loop-line : goal.invariant-loop-line
invariant-loop-line l = record {
  same : joined_to l.number l.fn.text.items (lines_from l.fn.next l.fn.bytes) ≡ joined_to l.number l.text.items (lines_from l.next l.rest);
  numbers : l.next + length l.rest ≤ l.fn.next + length l.fn.bytes;
  shorter : length l.rest ≤ length l.fn.bytes;
}

abbrev pub decreases-loop-line : goal.decreases-loop-line
decreases-loop-line l = length l.rest
