use Rattle.std.proofs.Common.{◌≡◌, ◌++◌, codes, flat_map, take}
use Rattle.ember_pairs.specs.Texts.{pair_line}
use Rattle.ember_pairs.proofs.text.pairs_text.Given as goal

abbrev pub invariant-loop-p : goal.invariant-loop-p
invariant-loop-p l = l.text.items ≡ codes "pairs\n" ++ flat_map pair_line (take l.p-index l.pairs)
