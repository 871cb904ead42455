use mir.Syntax.{w128}
use Rattle.ember_algebra.proofs.Exact.{Code, stored, wide, ◌⊠◌, ◌⊞◌, ◌&◌, done, exact, bounded, no_overflow}
use Rattle.ember_point.proofs.meeting.combination.Goals as goal

abbrev two : Code
two = stored w128 (wide 0 ⊠ wide 1) ⊞ stored w128 (wide 2 ⊠ wide 3)

abbrev three : Code
three = stored w128 two ⊞ stored w128 (wide 4 ⊠ wide 5)

pub overflow_add-result : goal.overflow_add-result
overflow_add-result c =
    no_overflow (c.requires.small_a & c.requires.small_x & c.requires.small_b & c.requires.small_y & done) w128 two tt

pub overflow_add-result-2 : goal.overflow_add-result-2
overflow_add-result-2 c =
    no_overflow (c.requires.small_a & c.requires.small_x & c.requires.small_b & c.requires.small_y & c.requires.small_c
    & c.requires.small_z & done) w128 three tt

pub returns : goal.returns
returns c =
    let i = c.requires.small_a & c.requires.small_x & c.requires.small_b & c.requires.small_y & c.requires.small_c & c.requires.small_z & done in
    record { value = exact i (stored w128 three) tt; small = bounded i 4951760157141521099596496895 (stored w128 three) tt }
