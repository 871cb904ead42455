use mir.Syntax.{w32, w64}
use Rattle.ember_algebra.proofs.Exact.{Code, input, stored, ◌⊠◌, ◌⊞◌, ◌&◌, done, exact, bounded, no_overflow}
use Rattle.ember_box.proofs.aabb.value_without_constant.Goals as goal
use Rattle.std.proofs.Common.{ℕ}
use Rattle.ember_box.specs.Aabbs.{most_sum}

-- a coefficient times a coordinate
abbrev times : ℕ → ℕ → Code
times i j = stored w64 (input i) ⊠ stored w64 (stored w32 (input j))

pub overflow_cast-result : goal.overflow_cast-result
overflow_cast-result c = no_overflow (c.requires.x & done) w64 (stored w32 (input 0)) tt

pub overflow_mul-result : goal.overflow_mul-result
overflow_mul-result c = no_overflow (c.requires.plane.a & c.requires.x & done) w64 (times 0 1) tt

pub overflow_cast-result-2 : goal.overflow_cast-result-2
overflow_cast-result-2 c = no_overflow (c.requires.y & done) w64 (stored w32 (input 0)) tt

pub overflow_mul-result-2 : goal.overflow_mul-result-2
overflow_mul-result-2 c = no_overflow (c.requires.plane.b & c.requires.y & done) w64 (times 0 1) tt

pub overflow_add-result : goal.overflow_add-result
overflow_add-result c =
    no_overflow (c.requires.plane.a & c.requires.x & c.requires.plane.b & c.requires.y & done) w64 (stored w64 (times 0 1) ⊞ stored w64 (times 2 3)) tt

pub overflow_cast-result-3 : goal.overflow_cast-result-3
overflow_cast-result-3 c = no_overflow (c.requires.z & done) w64 (stored w32 (input 0)) tt

pub overflow_mul-result-3 : goal.overflow_mul-result-3
overflow_mul-result-3 c = no_overflow (c.requires.plane.c & c.requires.z & done) w64 (times 0 1) tt

pub overflow_add-result-2 : goal.overflow_add-result-2
overflow_add-result-2 c =
    no_overflow (c.requires.plane.a & c.requires.x & c.requires.plane.b & c.requires.y & c.requires.plane.c &
    c.requires.z & done) w64 (stored w64 (stored w64 (times 0 1) ⊞ stored w64 (times 2 3)) ⊞ stored w64 (times 4 5))
    tt

pub returns-clause-value : goal.returns-clause-value
returns-clause-value c =
    exact (c.requires.plane.a & c.requires.x & c.requires.plane.b & c.requires.y & c.requires.plane.c & c.requires.z &
    done) (stored w64 (stored w64 (stored w64 (times 0 1) ⊞ stored w64 (times 2 3)) ⊞ stored w64 (times 4 5))) tt

pub returns-clause-small : goal.returns-clause-small
returns-clause-small c =
    bounded (c.requires.plane.a & c.requires.x & c.requires.plane.b & c.requires.y & c.requires.plane.c & c.requires.z &
    done) most_sum (stored w64 (stored w64 (stored w64 (times 0 1) ⊞ stored w64 (times 2 3)) ⊞ stored w64
    (times 4 5))) tt
