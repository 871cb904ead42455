use Rattle.std.proofs.Common.{◌≡◌, None}
use Rattle.mesh_words_tests.proofs.target.whole_files.put_all_beside.Given as goal

abbrev pub invariant-loop-number : goal.invariant-loop-number
invariant-loop-number l = l.target.begun ≡ None
