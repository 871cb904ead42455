use Rattle.std.proofs.Common.{◌≡◌, ◌+◌, ◌*◌, ◌≤◌, ◌++◌, ◌∷◌, [], length, drop}
use Rattle.ember_model.specs.FaceFiles.{fields}
use Rattle.ember_text.proofs.line.put_line.Given as goal

abbrev pub invariant-loop-left : goal.invariant-loop-left
invariant-loop-left l = record {
  within : l.left ≤ length l.numbers;
  room : 41 * l.left + 1 ≤ l.at;
  fits : l.at ≤ 330;
  size : length l.line ≡ 330;
  written : drop l.at l.line ≡ fields (drop l.left l.numbers) ++ 10 ∷ [];
}

abbrev pub decreases-loop-left : goal.decreases-loop-left
decreases-loop-left l = l.left
