use Rattle.std.proofs.Common.{◌≡◌, ◌<◌, ◌*◌, ◌∙◌, refl, arith, pos, ◌+ℤ◌, ◌*ℤ◌}
use borrow.Author.Differences.{ints}
use mir.Syntax.{w128}
use mir.Val.{to_z, of_z}
use Rattle.std.specs.Int.RustNames.{unsigned_abs}
use Rattle.std.proofs.lemmas.Int.{to_z-of_z}
use Rattle.mesh_grid.proofs.moves.axis.rest_of.Goals as goal

stored : (c : goal.After-remainder) → to_z w128 (of_z w128 c.remainder.result) ≡ c.remainder.result
stored c = to_z-of_z w128 c.remainder.result (record { sfits = c.remainder.type_inv })

product : (c : goal.After-remainder) → to_z w128 (of_z w128 (pos 2 *ℤ to_z w128 (of_z w128 c.from-part.result))) ≡ pos (2 * c.args.half)
product c = omega (arith, ints, c.from-part.ensures, c.requires.small)

pub returns-clause-value : goal.returns-clause-value
returns-clause-value c =
    let part = c.from-part.result in
    let sum : to_z w128 (of_z w128 (to_z w128 (of_z w128 c.args.floor) +ℤ to_z w128 (of_z w128 part))) ≡ c.args.floor +ℤ pos c.args.half =
    omega (arith, ints, c.requires.floor, c.from-part.ensures, c.requires.small) in
    stored c ∙ c.remainder.ensures.value ∙ rw (sum, product c) refl

pub returns-clause-small : goal.returns-clause-small
returns-clause-small c =
    let less : unsigned_abs c.remainder.result < 2 * c.args.half = rw (product c) at c.remainder.ensures.below in
    rw (stored c) less
