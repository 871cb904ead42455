use Rattle.std.proofs.Common.{◌≡◌, ◌≤◌, vec_len}
use Rattle.ember_c.proofs.blocks.blocks_of.Given as goal

abbrev pub invariant-loop-file : goal.invariant-loop-file
invariant-loop-file l = record {
  room : vec_len l.files ≤ vec_len l.blocks;
  all : vec_len l.blocks ≡ vec_len l.fn.files;
}

abbrev pub decreases-loop-file : goal.decreases-loop-file
decreases-loop-file l = vec_len l.files
