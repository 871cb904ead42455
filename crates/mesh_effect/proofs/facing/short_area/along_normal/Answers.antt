use mir.Syntax.{w128}
use Rattle.ember_algebra.proofs.Exact.{Code, stored, wide, kept, ◌⊠◌, ◌⊞◌, ◌&◌, done, exact, no_overflow}
use Rattle.mesh_effect.proofs.facing.short_area.along_normal.Goals as goal

abbrev two : Code
two = stored w128 (wide 0 ⊠ kept 1) ⊞ stored w128 (wide 2 ⊠ kept 3)

abbrev three : Code
three = stored w128 two ⊞ stored w128 (wide 4 ⊠ kept 5)

pub overflow_mul-result : goal.overflow_mul-result
overflow_mul-result c = no_overflow (c.requires.plane.a & c.requires.x & done) w128 (wide 0 ⊠ kept 1) tt

pub overflow_mul-result-2 : goal.overflow_mul-result-2
overflow_mul-result-2 c = no_overflow (c.requires.plane.b & c.requires.y & done) w128 (wide 0 ⊠ kept 1) tt

pub overflow_add-result : goal.overflow_add-result
overflow_add-result c = no_overflow (c.requires.plane.a & c.requires.x & c.requires.plane.b & c.requires.y & done) w128 two tt

pub overflow_mul-result-3 : goal.overflow_mul-result-3
overflow_mul-result-3 c = no_overflow (c.requires.plane.c & c.requires.z & done) w128 (wide 0 ⊠ kept 1) tt

pub overflow_add-result-2 : goal.overflow_add-result-2
overflow_add-result-2 c = no_overflow (c.requires.plane.a & c.requires.x & c.requires.plane.b & c.requires.y &
    c.requires.plane.c & c.requires.z & done) w128 three tt

pub returns : goal.returns
returns c = exact (c.requires.plane.a & c.requires.x & c.requires.plane.b & c.requires.y & c.requires.plane.c & c.requires.z & done) (stored w128 three) tt
