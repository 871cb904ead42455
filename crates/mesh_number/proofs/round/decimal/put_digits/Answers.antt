use Rattle.std.proofs.Common.{◌-◌, ◌<◌, arith}
use Rattle.mesh_number.proofs.Digits.{places_left, text_more, text_whole, power_of_10_positive}
use Rattle.mesh_number.proofs.round.decimal.put_digits.Goals as goal

pub loop-rest-preserved : goal.loop-rest-preserved
loop-rest-preserved c =
    let left_positive : 0 < c.loop-rest.left = places_left c.loop-rest.left c.loop-rest.rest c.loop-rest.invariant.rest c.loop-rest-test.true in
    record {
      text = text_more c.loop-rest.out.items _ _ c.loop-rest.left c.pow-unit.result c.loop-rest.rest
          c.loop-rest-test.true left_positive c.pow-unit.ensures c.in_ok-push.ensures.items c.loop-rest.invariant.text;
      small = omega arith;
      rest = omega (arith, c.pow-unit.ensures, power_of_10_positive (c.loop-rest.left - 1));
    }

pub returns : goal.returns
returns c = text_whole c.loop-rest.out.items _ c.loop-rest.left c.loop-rest.rest c.loop-rest-test.false c.loop-rest.invariant.text
