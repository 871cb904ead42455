use Rattle.std.proofs.Common.{◌≡◌, ◌^◌, subst, arith, neg_ℤ, Some}
use borrow.Author.Differences.{ints}
use mir.Syntax.{w128}
use mir.Val.{to_z, of_z}
use Rattle.mesh_number.specs.Number.Fractions.{Fraction, floor_times}
use Rattle.mesh_number.specs.Number.Values.{value_of}
use Rattle.mesh_number.proofs.Denominators.{denominator_pos}
use Rattle.mesh_grid.specs.Snap.Decimals.{negated}
use Rattle.mesh_grid.proofs.DecimalSteps.{floors_meet, whole_floors, floor_given}
use Rattle.mesh_grid.proofs.snap.decimals.trillionths_of.Goals as goal

pub returns-then-floor-ceiling-clause-some : goal.returns-then-floor-ceiling-clause-some
returns-then-floor-ceiling-clause-some c =
    let v = value_of c.args.number.now in
    let floor = c.in_ok-floor.floor in
    let other = c.in_ok-ceiling.field-0 in
    let down = floor_given (10 ^ 12) v floor c.in_ok-floor.ensures.value in
    let turned = subst (λ (w : Fraction). Some other ≡ floor_times (10 ^ 12) w) c.negated.ensures c.in_ok-ceiling.ensures.value in
    let up = floor_given (10 ^ 12) (negated v) other turned in
    let stored : to_z w128 (of_z w128 floor) ≡ floor = omega (arith, ints, c.in_ok-floor.ensures.small) in
    let met : floor ≡ neg_ℤ other = omega (arith, ints, c.if-floor-ceiling.true, c.in_ok-floor.ensures.small, c.in_ok-ceiling.ensures.small) in
    rw stored (floors_meet v.numerator (10 ^ 12) v.denominator floor other (denominator_pos c.args.number.now) down up met)

pub returns-else-floor-ceiling-clause-none : goal.returns-else-floor-ceiling-clause-none
returns-else-floor-ceiling-clause-none c = λ t whole below.
    let v = value_of c.args.number.now in
    let floor = c.in_ok-floor.floor in
    let other = c.in_ok-ceiling.field-0 in
    let down = floor_given (10 ^ 12) v floor c.in_ok-floor.ensures.value in
    let turned = subst (λ (w : Fraction). Some other ≡ floor_times (10 ^ 12) w) c.negated.ensures c.in_ok-ceiling.ensures.value in
    let up = floor_given (10 ^ 12) (negated v) other turned in
    let met = whole_floors v.numerator (10 ^ 12) v.denominator floor other t (denominator_pos c.args.number.now) down up whole in
    absurd (omega (arith, ints, c.if-floor-ceiling.false, met, c.in_ok-floor.ensures.small, c.in_ok-ceiling.ensures.small))

pub returns-then-floor-ceiling-clause-small : goal.returns-then-floor-ceiling-clause-small
returns-then-floor-ceiling-clause-small c =
    let stored : to_z w128 (of_z w128 c.in_ok-floor.floor) ≡ c.in_ok-floor.floor = omega (arith, ints, c.in_ok-floor.ensures.small) in
    rw stored c.in_ok-floor.ensures.small
