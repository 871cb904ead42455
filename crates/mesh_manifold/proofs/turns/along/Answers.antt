use Rattle.std.proofs.Common.{◌≡◌, ◌*◌, ◌^◌, ◌≤◌, ℤ, ◌*ℤ◌, unsigned_abs, to_z, of_z, refl, ap, rules, arith}
use borrow.Author.Gap.{read_sfits}
use mir.Syntax.{w128}
use Rattle.ember_algebra.specs.Size.{Small}
use Rattle.ember_algebra.proofs.Size.{small_of_fits}
use Rattle.ember_wide.specs.declared.whole.Wide.{Wide}
use Rattle.ember_wide.specs.Whole.{size_of, value_of}
use Rattle.mesh_number.proofs.Sizes.{product_size}
use Rattle.ember_wide.proofs.Values.{size_of_value, size_of_sum}
use Rattle.mesh_manifold.proofs.turns.along.Goals as goal

abbrev read : ℤ → ℤ
read z = to_z w128 (of_z w128 z)

read_size : (z : ℤ) → unsigned_abs (read z) ≤ 170141183460469231731687303715884105728
read_size z = let s : Small (2 ^ 127) (read z) = small_of_fits w128 (read_sfits w128 (of_z w128 z)) in s.small

-- the size of a product of two numbers of 128 bits
size_of_product : (n : Wide) (x y : ℤ) → value_of n ≡ read x *ℤ read y →
    size_of n.size ≤ 170141183460469231731687303715884105728 * 170141183460469231731687303715884105728
size_of_product n x y e =
    let same : unsigned_abs (value_of n) ≡ unsigned_abs (read x *ℤ read y) = ap unsigned_abs e in
    omega (
      arith,
      size_of_value n,
      same,
      product_size (read x) (read y) 170141183460469231731687303715884105728
          170141183460469231731687303715884105728 (read_size x) (read_size y),
    )

pub plus-requires : goal.plus-requires
plus-requires c =
    let p = c.args.point.now in let n = c.args.direction.now in
    let x = size_of_product c.product-x.result p.x n.x c.product-x.ensures in
    let y = size_of_product c.product-y.result p.y n.y c.product-y.ensures in
    omega (arith, x, y)

pub plus-requires-2 : goal.plus-requires-2
plus-requires-2 c =
    let p = c.args.point.now in let n = c.args.direction.now in
    let x = size_of_product c.product-x.result p.x n.x c.product-x.ensures in
    let y = size_of_product c.product-y.result p.y n.y c.product-y.ensures in
    let z = size_of_product c.product-z.result p.z n.z c.product-z.ensures in
    let s = size_of_sum c.product-x.result c.product-y.result c.plus.result c.plus.ensures in
    omega (arith, x, y, z, s)

pub returns : goal.returns
returns c =
    let p = c.args.point.now in let n = c.args.direction.now in
    let px : read p.x ≡ p.x = search rules in
    let py : read p.y ≡ p.y = search rules in
    let pz : read p.z ≡ p.z = search rules in
    let nx : read n.x ≡ n.x = search rules in
    let ny : read n.y ≡ n.y = search rules in
    let nz : read n.z ≡ n.z = search rules in
    rw (c.plus-2.ensures, c.plus.ensures, c.product-x.ensures, c.product-y.ensures, c.product-z.ensures, px, py, pz, nx, ny, nz) refl
