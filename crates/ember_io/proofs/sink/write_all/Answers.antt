use Rattle.std.proofs.Common.{arith, rules}
use Rattle.ember_io.proofs.ToldBytes.{taken_step}
use Rattle.ember_io.proofs.sink.write_all.Goals as goal

pub loop-rest-preserved : goal.loop-rest-preserved
loop-rest-preserved g c = let t = c.loop-rest.invariant.taken in
    record {
      unflushed = omega arith;
      later = omega arith;
      taken =
          rw c.split_at.ensures.back (taken_step _ _ _ _ t.0 _ _ t.1 t.2 c.in-Ok.ensures.bytes);
    }

pub returns-clause-flushed : goal.returns-clause-flushed
returns-clause-flushed g c = search rules
