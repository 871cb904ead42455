use Rattle.std.proofs.Common.{◌≡◌, ◌++◌, take}
use Rattle.ember_model.specs.FaceFiles.{fields}
use Rattle.ember_slice.proofs.text.put_line.Given as goal

abbrev pub invariant-loop-n : goal.invariant-loop-n
invariant-loop-n l = l.out.items ≡ (l.fn.out.items ++ l.fn.keyword) ++ fields (take l.n-index l.numbers)
