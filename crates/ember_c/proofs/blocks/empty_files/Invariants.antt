use Rattle.std.proofs.Common.{◌≡◌, vec_len}
use Rattle.ember_c.proofs.blocks.empty_files.Given as goal

abbrev pub invariant-loop : goal.invariant-loop
invariant-loop l = vec_len l.blocks ≡ l.counter
