use Rattle.std.proofs.Common.{◌≡◌, ◌∙◌, refl, max, arith, pos, ◌+ℤ◌, ◌-ℤ◌}
use borrow.Author.Differences.{ints}
use mir.Syntax.{w128}
use mir.Val.{to_z, of_z}
use Rattle.std.specs.Int.RustNames.{unsigned_abs}
use Rattle.mesh_grid.proofs.moves.axis.distance.Goals as goal

pub returns : goal.returns
returns c =
    let down = pos c.args.half -ℤ c.args.rest in
    let part : to_z w128 (of_z w128 (to_z w128 (of_z w128 c.from.result) -ℤ to_z w128 (of_z w128 c.args.rest))) ≡ down =
    omega (arith, ints, c.from.ensures, c.requires.rest, c.requires.half) in
    let middle : to_z w128 (of_z w128 (to_z w128 (of_z w128 c.args.low) +ℤ down)) ≡ c.args.low +ℤ down =
    omega (arith, ints, c.requires.low, c.requires.rest, c.requires.half) in
    let up : to_z w128 (of_z w128 (to_z w128 (of_z w128 c.args.high) -ℤ (c.args.low +ℤ down))) ≡ c.args.high -ℤ (c.args.low +ℤ down) =
    omega (arith, ints, c.requires.low, c.requires.high, c.requires.rest, c.requires.half) in
    let above : c.unsigned_abs.result ≡ unsigned_abs (c.args.high -ℤ (c.args.low +ℤ down)) =
    c.unsigned_abs.ensures.value ∙ rw (part, middle, up) refl in
    let below : c.unsigned_abs-2.result ≡ unsigned_abs down = c.unsigned_abs-2.ensures.value ∙ rw part refl in
    c.max.ensures ∙ (λ i. max (above i) (below i))
