use mir.Syntax.{w64, w128}
use Rattle.ember_algebra.proofs.Exact.{input, stored, ◌⊠◌, ◌⊞◌, ◌⊟◌, ◌&◌, done, exact, bounded, no_overflow}
use Rattle.std.proofs.Common.{◌^◌}
use Rattle.ember_model.proofs.values.plane_value.Goals as goal

pub overflow_cast-result : goal.overflow_cast-result
overflow_cast-result c = no_overflow (c.requires.plane.a & done) w128 (stored w64 (input 0)) tt

pub overflow_cast-result-2 : goal.overflow_cast-result-2
overflow_cast-result-2 c = no_overflow (c.requires.spot.x & done) w128 (stored w64 (input 0)) tt

pub overflow_mul-result : goal.overflow_mul-result
overflow_mul-result c = no_overflow (c.requires.plane.a & c.requires.spot.x & done) w128
    (stored w128 (stored w64 (input 0)) ⊠ stored w128 (stored w64 (input 1))) tt

pub overflow_cast-result-3 : goal.overflow_cast-result-3
overflow_cast-result-3 c = no_overflow (c.requires.plane.b & done) w128 (stored w64 (input 0)) tt

pub overflow_cast-result-4 : goal.overflow_cast-result-4
overflow_cast-result-4 c = no_overflow (c.requires.spot.y & done) w128 (stored w64 (input 0)) tt

pub overflow_mul-result-2 : goal.overflow_mul-result-2
overflow_mul-result-2 c = no_overflow (c.requires.plane.b & c.requires.spot.y & done) w128
    (stored w128 (stored w64 (input 0)) ⊠ stored w128 (stored w64 (input 1))) tt

pub overflow_add-result : goal.overflow_add-result
overflow_add-result c = no_overflow (c.requires.plane.a & c.requires.spot.x & c.requires.plane.b & c.requires.spot.y &
    done) w128 (stored w128 (stored w128 (stored w64 (input 0)) ⊠ stored w128 (stored w64 (input 1))) ⊞ stored w128
    (stored w128 (stored w64 (input 2)) ⊠ stored w128 (stored w64 (input 3)))) tt

pub overflow_cast-result-5 : goal.overflow_cast-result-5
overflow_cast-result-5 c = no_overflow (c.requires.plane.c & done) w128 (stored w64 (input 0)) tt

pub overflow_cast-result-6 : goal.overflow_cast-result-6
overflow_cast-result-6 c = no_overflow (c.requires.spot.z & done) w128 (stored w64 (input 0)) tt

pub overflow_mul-result-3 : goal.overflow_mul-result-3
overflow_mul-result-3 c = no_overflow (c.requires.plane.c & c.requires.spot.z & done) w128
    (stored w128 (stored w64 (input 0)) ⊠ stored w128 (stored w64 (input 1))) tt

pub overflow_add-result-2 : goal.overflow_add-result-2
overflow_add-result-2 c = no_overflow (c.requires.plane.a & c.requires.spot.x & c.requires.plane.b & c.requires.spot.y &
    c.requires.plane.c & c.requires.spot.z & done) w128
    (stored w128 (stored w128 (stored w128 (stored w64 (input 0)) ⊠ stored w128 (stored w64 (input 1))) ⊞ stored w128
    (stored w128 (stored w64 (input 2)) ⊠ stored w128 (stored w64 (input 3)))) ⊞ stored w128
    (stored w128 (stored w64 (input 4)) ⊠ stored w128 (stored w64 (input 5)))) tt

pub overflow_cast-result-7 : goal.overflow_cast-result-7
overflow_cast-result-7 c = no_overflow (c.requires.plane.d & done) w128 (stored w64 (input 0)) tt

pub overflow_cast-result-8 : goal.overflow_cast-result-8
overflow_cast-result-8 c = no_overflow (c.requires.spot.w & done) w128 (stored w64 (input 0)) tt

pub overflow_mul-result-4 : goal.overflow_mul-result-4
overflow_mul-result-4 c = no_overflow (c.requires.plane.d & c.requires.spot.w & done) w128
    (stored w128 (stored w64 (input 0)) ⊠ stored w128 (stored w64 (input 1))) tt

pub overflow_sub-result : goal.overflow_sub-result
overflow_sub-result c = no_overflow (c.requires.plane.a & c.requires.spot.x & c.requires.plane.b & c.requires.spot.y &
    c.requires.plane.c & c.requires.spot.z & c.requires.plane.d & c.requires.spot.w & done) w128
    (stored w128 (stored w128 (stored w128 (stored w128 (stored w64 (input 0)) ⊠ stored w128 (stored w64 (input 1))) ⊞
    stored w128 (stored w128 (stored w64 (input 2)) ⊠ stored w128 (stored w64 (input 3)))) ⊞ stored w128
    (stored w128 (stored w64 (input 4)) ⊠ stored w128 (stored w64 (input 5)))) ⊟ stored w128
    (stored w128 (stored w64 (input 6)) ⊠ stored w128 (stored w64 (input 7)))) tt

pub returns-clause-value : goal.returns-clause-value
returns-clause-value c = exact (c.requires.plane.a & c.requires.spot.x & c.requires.plane.b & c.requires.spot.y &
    c.requires.plane.c & c.requires.spot.z & c.requires.plane.d & c.requires.spot.w & done)
    (stored w128 (stored w128 (stored w128 (stored w128
    (stored w128 (stored w64 (input 0)) ⊠ stored w128 (stored w64 (input 1))) ⊞ stored w128
    (stored w128 (stored w64 (input 2)) ⊠ stored w128 (stored w64 (input 3)))) ⊞ stored w128
    (stored w128 (stored w64 (input 4)) ⊠ stored w128 (stored w64 (input 5)))) ⊟ stored w128
    (stored w128 (stored w64 (input 6)) ⊠ stored w128 (stored w64 (input 7))))) tt

pub returns-clause-small : goal.returns-clause-small
returns-clause-small c = bounded (c.requires.plane.a & c.requires.spot.x & c.requires.plane.b & c.requires.spot.y &
    c.requires.plane.c & c.requires.spot.z & c.requires.plane.d & c.requires.spot.w & done) (2 ^ 80)
    (stored w128 (stored w128 (stored w128 (stored w128
    (stored w128 (stored w64 (input 0)) ⊠ stored w128 (stored w64 (input 1))) ⊞ stored w128
    (stored w128 (stored w64 (input 2)) ⊠ stored w128 (stored w64 (input 3)))) ⊞ stored w128
    (stored w128 (stored w64 (input 4)) ⊠ stored w128 (stored w64 (input 5)))) ⊟ stored w128
    (stored w128 (stored w64 (input 6)) ⊠ stored w128 (stored w64 (input 7))))) tt
