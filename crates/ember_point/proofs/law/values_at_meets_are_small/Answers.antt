use Rattle.std.proofs.Common.{arith}
use Rattle.ember_algebra.proofs.Size.{small_within, small_mul, small_add, small_sub}
use Rattle.ember_point.proofs.law.values_at_meets_are_small.Goals as goal

pub returns : goal.returns
returns c =
    λ p m v s. small_within (omega arith) (small_sub (small_add (small_add (small_mul v.a s.x) (small_mul v.b s.y)) (small_mul v.c s.z)) (small_mul v.d s.w))
