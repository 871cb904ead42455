use Rattle.std.proofs.Common.{pos, arith, replicate}
use Rattle.std.proofs.lemmas.List.Elements.{All-set, All-replicate}
use Rattle.ember_algebra.specs.Size.{Small}
use Rattle.ember_box_tests.proofs.known.one_and_zero.Goals as goal

pub returns : goal.returns
returns c =
    All-set (Small 16777216) (replicate 64 (pos 0)) 0 (pos 1) (record { small = omega arith })
    (All-replicate (Small 16777216) 64 (pos 0) (record { small = omega arith }))
