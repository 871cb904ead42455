use mir.Syntax.{w128}
use Rattle.ember_algebra.proofs.Exact.{Code, stored, wide, kept, ◌⊠◌, ◌⊞◌, ◌&◌, done, exact, bounded, no_overflow}
use Rattle.ember_width.specs.Broad.{most_weight}
use Rattle.ember_width.proofs.meeting.product.Goals as goal

abbrev two : Code
two = stored w128 (wide 0 ⊠ kept 1) ⊞ stored w128 (wide 2 ⊠ kept 3)

abbrev three : Code
three = stored w128 two ⊞ stored w128 (wide 4 ⊠ kept 5)

pub overflow_mul-result : goal.overflow_mul-result
overflow_mul-result c =
    let p = c.requires in let u = c.args.cross.now.small in no_overflow (p.a & u.x & done) w128 (wide 0 ⊠ kept 1) tt

pub overflow_mul-result-2 : goal.overflow_mul-result-2
overflow_mul-result-2 c =
    let p = c.requires in let u = c.args.cross.now.small in no_overflow (p.b & u.y & done) w128 (wide 0 ⊠ kept 1) tt

pub overflow_add-result : goal.overflow_add-result
overflow_add-result c =
    let p = c.requires in let u = c.args.cross.now.small in no_overflow (p.a & u.x & p.b & u.y & done) w128 two tt

pub overflow_mul-result-3 : goal.overflow_mul-result-3
overflow_mul-result-3 c =
    let p = c.requires in let u = c.args.cross.now.small in no_overflow (p.c & u.z & done) w128 (wide 0 ⊠ kept 1) tt

pub overflow_add-result-2 : goal.overflow_add-result-2
overflow_add-result-2 c =
    let p = c.requires in let u = c.args.cross.now.small in
    no_overflow (p.a & u.x & p.b & u.y & p.c & u.z & done) w128 three tt

pub returns : goal.returns
returns c =
    let p = c.requires in let u = c.args.cross.now.small in
    let i = p.a & u.x & p.b & u.y & p.c & u.z & done in
    record { value = exact i (stored w128 three) tt; small = bounded i most_weight (stored w128 three) tt }
