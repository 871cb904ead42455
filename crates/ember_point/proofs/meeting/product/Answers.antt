use mir.Syntax.{w128}
use Rattle.ember_algebra.proofs.Exact.{Code, stored, wide, ◌⊠◌, ◌⊞◌, ◌&◌, done, exact, bounded, no_overflow}
use Rattle.ember_point.proofs.meeting.product.Goals as goal

abbrev two : Code
two = stored w128 (wide 0 ⊠ wide 1) ⊞ stored w128 (wide 2 ⊠ wide 3)

abbrev three : Code
three = stored w128 two ⊞ stored w128 (wide 4 ⊠ wide 5)

pub overflow_add-result : goal.overflow_add-result
overflow_add-result c =
    let p = c.requires in let u = c.args.cross.now.small in no_overflow (p.a & u.x & p.b & u.y & done) w128 two tt

pub overflow_add-result-2 : goal.overflow_add-result-2
overflow_add-result-2 c =
    let p = c.requires in let u = c.args.cross.now.small in
    no_overflow (p.a & u.x & p.b & u.y & p.c & u.z & done) w128 three tt

pub returns : goal.returns
returns c =
    let p = c.requires in let u = c.args.cross.now.small in
    let i = p.a & u.x & p.b & u.y & p.c & u.z & done in
    record { value = exact i (stored w128 three) tt; small = bounded i 302231454903657293676543 (stored w128 three) tt }
