use mir.Syntax.{w64}
use Rattle.ember_algebra.proofs.Exact.{input, stored, ◌⊠◌, ◌⊞◌, ◌&◌, done, exact, no_overflow}
use Rattle.mesh_sources.proofs.place.dot.Goals as goal

pub overflow_mul-result : goal.overflow_mul-result
overflow_mul-result c = no_overflow (c.requires.p.a & c.requires.q.a & done) w64 (stored w64 (input 0) ⊠ stored w64 (input 1)) tt

pub overflow_mul-result-2 : goal.overflow_mul-result-2
overflow_mul-result-2 c = no_overflow (c.requires.p.b & c.requires.q.b & done) w64 (stored w64 (input 0) ⊠ stored w64 (input 1)) tt

pub overflow_mul-result-3 : goal.overflow_mul-result-3
overflow_mul-result-3 c = no_overflow (c.requires.p.c & c.requires.q.c & done) w64 (stored w64 (input 0) ⊠ stored w64 (input 1)) tt

pub overflow_add-result : goal.overflow_add-result
overflow_add-result c =
    no_overflow (c.requires.p.a & c.requires.q.a & c.requires.p.b & c.requires.q.b & done) w64
    (stored w64 (stored w64 (input 0) ⊠ stored w64 (input 1)) ⊞ stored w64 (stored w64 (input 2) ⊠ stored w64 (input 3))) tt

pub overflow_add-result-2 : goal.overflow_add-result-2
overflow_add-result-2 c =
    no_overflow (c.requires.p.a & c.requires.q.a & c.requires.p.b & c.requires.q.b & c.requires.p.c & c.requires.q.c & done) w64
    (stored w64 (stored w64 (stored w64 (input 0) ⊠ stored w64 (input 1)) ⊞ stored w64 (stored w64 (input 2) ⊠ stored w64 (input 3))) ⊞ stored w64 (stored w64 (input 4) ⊠ stored w64 (input 5))) tt

pub returns : goal.returns
returns c =
    exact (c.requires.p.a & c.requires.q.a & c.requires.p.b & c.requires.q.b & c.requires.p.c & c.requires.q.c & done)
    (stored w64 (stored w64 (stored w64 (stored w64 (input 0) ⊠ stored w64 (input 1)) ⊞ stored w64
    (stored w64 (input 2) ⊠ stored w64 (input 3))) ⊞ stored w64
    (stored w64 (input 4) ⊠ stored w64 (input 5)))) tt
