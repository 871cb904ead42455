use Rattle.std.proofs.Common.{◌*ℤ◌, ◌∙◌, ap}
use mir.Syntax.{w128}
use Rattle.ember_algebra.specs.Sign.{sgn}
use Rattle.ember_algebra.proofs.Exact.{Code, stored, wide, kept, ◌⊠◌, ◌⊞◌, ◌&◌, done, exact, no_overflow}
use Rattle.ember_width.proofs.CubeValues.{remainder_small}
use Rattle.mesh_point.proofs.SideValues.{added_up}
use Rattle.mesh_point.proofs.sides.long_side.Goals as goal

abbrev product : Code
product = wide 0 ⊠ kept 1

abbrev two : Code
two = stored w128 product ⊞ stored w128 (wide 2 ⊠ kept 3)

abbrev three : Code
three = stored w128 two ⊞ stored w128 (wide 4 ⊠ kept 5)

abbrev four : Code
four = stored w128 three ⊞ stored w128 (wide 6 ⊠ kept 7)

pub overflow_mul-x : goal.overflow_mul-x
overflow_mul-x c =
    let h = c.requires.plane in let v = c.args.p.now.valid in let w = c.requires.long in
    no_overflow (h.a & remainder_small v.x w & done) w128 product tt

pub overflow_mul-y : goal.overflow_mul-y
overflow_mul-y c =
    let h = c.requires.plane in let v = c.args.p.now.valid in let w = c.requires.long in
    no_overflow (h.b & remainder_small v.y w & done) w128 product tt

pub overflow_mul-z : goal.overflow_mul-z
overflow_mul-z c =
    let h = c.requires.plane in let v = c.args.p.now.valid in let w = c.requires.long in
    no_overflow (h.c & remainder_small v.z w & done) w128 product tt

pub overflow_add-base : goal.overflow_add-base
overflow_add-base c =
    let h = c.requires.plane in let v = c.args.p.now.valid in let w = c.requires.long in
    no_overflow (c.requires.value & w & h.a & remainder_small v.x w & done) w128 two tt

pub overflow_add-base-2 : goal.overflow_add-base-2
overflow_add-base-2 c =
    let h = c.requires.plane in let v = c.args.p.now.valid in let w = c.requires.long in
    no_overflow (c.requires.value & w & h.a & remainder_small v.x w & h.b & remainder_small v.y w & done) w128 three tt

pub overflow_add-base-3 : goal.overflow_add-base-3
overflow_add-base-3 c =
    let h = c.requires.plane in let v = c.args.p.now.valid in let w = c.requires.long in
    no_overflow (c.requires.value & w & h.a & remainder_small v.x w & h.b & remainder_small v.y w & h.c & remainder_small v.z w & done) w128 four tt

pub returns : goal.returns
returns c =
    let p = c.args.p.now in let n = c.args.plane.now in
    let h = c.requires.plane in let v = c.args.p.now.valid in let w = c.requires.long in
    c.sign_of.ensures ∙ ap sgn (exact (c.requires.value & w & h.a & remainder_small v.x w & h.b & remainder_small v.y w & h.c & remainder_small v.z w & done) (stored w128 four) tt ∙ added_up (c.args.value *ℤ p.w) (n.a *ℤ p.x) (n.b *ℤ p.y) (n.c *ℤ p.z))
