use Rattle.std.proofs.Common.{pos, arith, replicate, set, ℤ, to_z, of_z, w32}
use Rattle.std.proofs.lemmas.Int.{ints}
use Rattle.std.proofs.lemmas.List.Elements.{All-set, All-replicate}
use Rattle.ember_algebra.specs.Size.{Small}
use Rattle.ember_text_tests.proofs.expressions.windings.Goals as goal

-- as it is kept in the array
abbrev kept : ℤ → ℤ
kept z = to_z w32 (of_z w32 z)

pub returns : goal.returns
returns c =
    All-set (Small 16777216) (set (replicate 64 (pos 0)) 0 (kept c.from.result)) 1 (kept c.from-2.result)
    (record { small = omega (arith, ints) }) (All-set (Small 16777216) (replicate 64 (pos 0)) 0 (kept c.from.result)
    (record { small = omega (arith, ints) }) (All-replicate (Small 16777216) 64 (pos 0)
    (record { small = omega arith })))
