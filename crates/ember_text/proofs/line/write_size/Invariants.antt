use Rattle.std.proofs.Common.{◌≡◌, ◌+◌, ◌≤◌, ◌++◌, length, drop}
use Rattle.std.specs.Fmt.{decimal}
use Rattle.ember_text.proofs.line.write_size.Given as goal

abbrev pub invariant-loop-left : goal.invariant-loop-left
invariant-loop-left l =
    (l.at ≤ l.fn.end) × (length l.line ≡ length l.fn.line) ×
    (l.at + length (decimal l.n) ≡ l.fn.end + length (decimal l.left)) ×
    (decimal l.left ++ drop l.at l.line ≡ decimal l.n ++ drop l.fn.end l.fn.line)

abbrev pub decreases-loop-left : goal.decreases-loop-left
decreases-loop-left l = l.left
