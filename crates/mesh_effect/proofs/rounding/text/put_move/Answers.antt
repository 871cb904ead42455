use Rattle.std.proofs.Common.{arith}
use Rattle.mesh_effect.proofs.Places.{tens_grow, few_places, some_places}
use Rattle.mesh_effect.proofs.rounding.text.put_move.Goals as goal

pub pow-requires : goal.pow-requires
pow-requires c = omega (arith, tens_grow c.args.moved.now.places 38 c.args.moved.now.few)

pub put_shifted-requires : goal.put_shifted-requires
put_shifted-requires c =
    let m = c.args.moved.now in
    few_places m.size m.places (omega (arith, c.pow.ensures, c.if-pow-moved.true)) m.short

pub put_exponent-requires-clause-some : goal.put_exponent-requires-clause-some
put_exponent-requires-clause-some c =
    let m = c.args.moved.now in
    some_places m.size m.places (omega (arith, c.if-moved-eq0.false)) (omega (arith, c.pow.ensures, c.if-pow-moved.false))

pub put_exponent-requires-clause-short : goal.put_exponent-requires-clause-short
put_exponent-requires-clause-short c =
    let m = c.args.moved.now in
    m.short (some_places m.size m.places (omega (arith, c.if-moved-eq0.false)) (omega (arith, c.pow.ensures, c.if-pow-moved.false)))

pub put_exponent-requires-clause-below : goal.put_exponent-requires-clause-below
put_exponent-requires-clause-below c = omega (arith, c.pow.ensures, c.if-pow-moved.false)
