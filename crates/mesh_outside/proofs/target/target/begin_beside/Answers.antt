use Rattle.std.proofs.Common.{arith, ap, Err}
use Rattle.mesh_outside.proofs.HeldNames.{HoldsSame-trans, IsTaken-next}
use Rattle.mesh_outside.proofs.target.target.begin_beside.Goals as goal

pub loop-number-preserved : goal.loop-number-preserved
loop-number-preserved g c =
    let i = c.loop-number.invariant in
    let e = c.in-Err-Taken.ensures in record {
      none_begun = e.none_begun;
      held = HoldsSame-trans _ _ _ i.held e.held;
      later = omega arith;
      taken = IsTaken-next _ _ _ _ _ i.taken i.held c.in_ok-path.ensures (e.taken (ap Err c.in-Err-Taken.field-0-is));
    }

pub returns-clause-taken : goal.returns-clause-taken
returns-clause-taken g c = λ _. (
  c.front_of-front.result.now,
  c.front_of-front.ensures,
  λ number less. c.loop-number.invariant.taken number (omega (arith, less, c.loop-number-test.false, c.loop-number.auto.number-end)),
)
