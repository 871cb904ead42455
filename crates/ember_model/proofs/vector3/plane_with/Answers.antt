use mir.Syntax.{w32, w64}
use Rattle.ember_algebra.proofs.Exact.{input, stored, ◌⊠◌, ◌⊞◌, ◌&◌, done, exact, no_overflow}
use Rattle.ember_model.proofs.vector3.plane_with.Goals as goal

pub overflow_cast-d : goal.overflow_cast-d
overflow_cast-d c = no_overflow (c.requires.u.x & done) w64 (stored w32 (input 0)) tt

pub overflow_mul-d : goal.overflow_mul-d
overflow_mul-d c = no_overflow (c.requires.normal.x & c.requires.u.x & done) w64 (stored w64 (input 0) ⊠ stored w64 (stored w32 (input 1))) tt

pub overflow_cast-d-2 : goal.overflow_cast-d-2
overflow_cast-d-2 c = no_overflow (c.requires.u.y & done) w64 (stored w32 (input 0)) tt

pub overflow_mul-d-2 : goal.overflow_mul-d-2
overflow_mul-d-2 c = no_overflow (c.requires.normal.y & c.requires.u.y & done) w64 (stored w64 (input 0) ⊠ stored w64 (stored w32 (input 1))) tt

pub overflow_add-d : goal.overflow_add-d
overflow_add-d c = no_overflow (c.requires.normal.x & c.requires.u.x & c.requires.normal.y & c.requires.u.y & done) w64
    (stored w64 (stored w64 (input 0) ⊠ stored w64 (stored w32 (input 1))) ⊞ stored w64
    (stored w64 (input 2) ⊠ stored w64 (stored w32 (input 3)))) tt

pub overflow_cast-d-3 : goal.overflow_cast-d-3
overflow_cast-d-3 c = no_overflow (c.requires.u.z & done) w64 (stored w32 (input 0)) tt

pub overflow_mul-d-3 : goal.overflow_mul-d-3
overflow_mul-d-3 c = no_overflow (c.requires.normal.z & c.requires.u.z & done) w64 (stored w64 (input 0) ⊠ stored w64 (stored w32 (input 1))) tt

pub overflow_add-d-2 : goal.overflow_add-d-2
overflow_add-d-2 c = no_overflow (c.requires.normal.x & c.requires.u.x & c.requires.normal.y & c.requires.u.y &
    c.requires.normal.z & c.requires.u.z & done) w64
    (stored w64 (stored w64 (stored w64 (input 0) ⊠ stored w64 (stored w32 (input 1))) ⊞ stored w64
    (stored w64 (input 2) ⊠ stored w64 (stored w32 (input 3)))) ⊞ stored w64
    (stored w64 (input 4) ⊠ stored w64 (stored w32 (input 5)))) tt

pub returns : goal.returns
returns c = let a = exact (c.requires.normal.x & done) (stored w64 (input 0)) tt in let b =
    exact (c.requires.normal.y & done) (stored w64 (input 0)) tt in let c' =
    exact (c.requires.normal.z & done) (stored w64 (input 0)) tt in let d =
    exact (c.requires.normal.x & c.requires.u.x & c.requires.normal.y & c.requires.u.y & c.requires.normal.z &
    c.requires.u.z & done) (stored w64 (stored w64
    (stored w64 (stored w64 (input 0) ⊠ stored w64 (stored w32 (input 1))) ⊞ stored w64
    (stored w64 (input 2) ⊠ stored w64 (stored w32 (input 3)))) ⊞ stored w64
    (stored w64 (input 4) ⊠ stored w64 (stored w32 (input 5))))) tt in λ i. record { a = a i; b = b i; c = c' i; d = d i }
