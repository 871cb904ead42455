use Rattle.std.proofs.Common.{◌≡◌, ◌+◌, ◌*◌, ◌≤◌, pos, ◌*ℤ◌, unsigned_abs, to_z, of_z, to_z-of_z, mul-le-mul, refl, ◌∙◌, arith}
use borrow.Author.Differences.{ints}
use mir.Syntax.{w128}
use Rattle.ember_wide.specs.Whole.{size_of, value_of}
use Rattle.ember_wide.proofs.Values.{size_of_sum}
use Rattle.mesh_written.proofs.Sizes.{size_of_product, read_step, code_gives_numerator}
use Rattle.mesh_written.proofs.places.numerator_of.Goals as goal

pub plus-from_zero-requires : goal.plus-from_zero-requires
plus-from_zero-requires c =
    let e : value_of c.product.result ≡ c.args.coordinate *ℤ pos 1 = c.product.ensures ∙ rw (to_z-of_z c.ranges.coordinate) refl in
    let f : value_of c.product-2.result ≡ c.args.offset *ℤ c.args.weight =
    c.product-2.ensures ∙ rw (to_z-of_z c.ranges.offset, to_z-of_z c.ranges.weight) refl in
    let a = size_of_product c.product.result c.args.coordinate (pos 1) 162259276829213363391578010288128 1 e c.requires.coordinate.small (omega arith) in
    let b = size_of_product c.product-2.result c.args.offset c.args.weight 170141183460469231731687303715884105728
    37778931862957161709567 f (omega (arith, ints, c.ranges.offset)) c.requires.weight.small in
    omega (arith, a, b)

pub times-requires : goal.times-requires
times-requires c =
    let e : value_of c.product.result ≡ c.args.coordinate *ℤ pos 1 = c.product.ensures ∙ rw (to_z-of_z c.ranges.coordinate) refl in
    let f : value_of c.product-2.result ≡ c.args.offset *ℤ c.args.weight =
    c.product-2.ensures ∙ rw (to_z-of_z c.ranges.offset, to_z-of_z c.ranges.weight) refl in
    let a = size_of_product c.product.result c.args.coordinate (pos 1) 162259276829213363391578010288128 1 e c.requires.coordinate.small (omega arith) in
    let b = size_of_product c.product-2.result c.args.offset c.args.weight 170141183460469231731687303715884105728
    37778931862957161709567 f (omega (arith, ints, c.ranges.offset)) c.requires.weight.small in
    let s : size_of c.plus-from_zero.result.size ≤ 162259276829213363391578010288128
    + 170141183460469231731687303715884105728 * 37778931862957161709567 =
    omega (
      arith,
      a,
      b,
      size_of_sum c.product.result c.product-2.result c.plus-from_zero.result
          c.plus-from_zero.ensures,
    ) in
    let k : unsigned_abs (to_z w128 (of_z w128 c.from.result)) ≤ 1099511627775 =
    rw (read_step c.from.result c.args.step c.from.ensures c.requires.step) (omega arith) in
    omega (arith, mul-le-mul s k)

pub returns : goal.returns
returns c =
    let e : value_of c.product.result ≡ c.args.coordinate *ℤ pos 1 = c.product.ensures ∙ rw (to_z-of_z c.ranges.coordinate) refl in
    let f : value_of c.product-2.result ≡ c.args.offset *ℤ c.args.weight =
    c.product-2.ensures ∙ rw (to_z-of_z c.ranges.offset, to_z-of_z c.ranges.weight) refl in
    code_gives_numerator c.product.result c.product-2.result c.plus-from_zero.result c.times.result c.args.coordinate
    c.args.weight c.args.offset (pos c.args.step) (to_z w128 (of_z w128 c.from.result)) e f c.plus-from_zero.ensures
    (read_step c.from.result c.args.step c.from.ensures c.requires.step) c.times.ensures
