use mir.Syntax.{w64}
use Rattle.std.proofs.Common.{◌^◌, pos}
use Rattle.ember_algebra.proofs.Exact.{input, number, stored, ◌⊠◌, ◌⊞◌, ◌&◌, done, exact, bounded, no_overflow}
use Rattle.mesh_sources.proofs.mark.mixed.Goals as goal

pub overflow_mul-result : goal.overflow_mul-result
overflow_mul-result c = no_overflow (c.requires.a & done) w64 (number (pos 29148763391) ⊠ stored w64 (input 0)) tt

pub overflow_mul-result-2 : goal.overflow_mul-result-2
overflow_mul-result-2 c = no_overflow (c.requires.b & done) w64 (number (pos 23740125197) ⊠ stored w64 (input 0)) tt

pub overflow_mul-result-3 : goal.overflow_mul-result-3
overflow_mul-result-3 c = no_overflow (c.requires.c & done) w64 (number (pos 19999999019) ⊠ stored w64 (input 0)) tt

pub overflow_mul-result-4 : goal.overflow_mul-result-4
overflow_mul-result-4 c = no_overflow (c.requires.d & done) w64 (number (pos 1994371) ⊠ stored w64 (input 0)) tt

pub overflow_add-result : goal.overflow_add-result
overflow_add-result c =
    no_overflow (c.requires.a & c.requires.b & done) w64
    (stored w64 (number (pos 29148763391) ⊠ stored w64 (input 0)) ⊞ stored w64 (number (pos 23740125197) ⊠ stored w64 (input 1)))
    tt

pub overflow_add-result-2 : goal.overflow_add-result-2
overflow_add-result-2 c =
    no_overflow (c.requires.a & c.requires.b & c.requires.c & done) w64
    (stored w64 (stored w64 (number (pos 29148763391) ⊠ stored w64 (input 0)) ⊞ stored w64
    (number (pos 23740125197) ⊠ stored w64 (input 1))) ⊞ stored w64
    (number (pos 19999999019) ⊠ stored w64 (input 2)))
    tt

pub overflow_add-result-3 : goal.overflow_add-result-3
overflow_add-result-3 c =
    no_overflow (c.requires.a & c.requires.b & c.requires.c & c.requires.d & done) w64
    (stored w64 (stored w64 (stored w64 (number (pos 29148763391) ⊠ stored w64 (input 0)) ⊞ stored w64
    (number (pos 23740125197) ⊠ stored w64 (input 1))) ⊞ stored w64
    (number (pos 19999999019) ⊠ stored w64 (input 2))) ⊞ stored w64
    (number (pos 1994371) ⊠ stored w64 (input 3)))
    tt

pub returns-clause-value : goal.returns-clause-value
returns-clause-value c =
    exact (c.requires.a & c.requires.b & c.requires.c & c.requires.d & done)
    (stored w64 (stored w64 (stored w64 (stored w64 (number (pos 29148763391) ⊠ stored w64 (input 0)) ⊞ stored w64
    (number (pos 23740125197) ⊠ stored w64 (input 1))) ⊞ stored w64
    (number (pos 19999999019) ⊠ stored w64 (input 2))) ⊞ stored w64
    (number (pos 1994371) ⊠ stored w64 (input 3))))
    tt

pub returns-clause-small : goal.returns-clause-small
returns-clause-small c =
    bounded (c.requires.a & c.requires.b & c.requires.c & c.requires.d & done) (2 ^ 62)
    (stored w64 (stored w64 (stored w64 (stored w64 (number (pos 29148763391) ⊠ stored w64 (input 0)) ⊞ stored w64
    (number (pos 23740125197) ⊠ stored w64 (input 1))) ⊞ stored w64
    (number (pos 19999999019) ⊠ stored w64 (input 2))) ⊞ stored w64
    (number (pos 1994371) ⊠ stored w64 (input 3))))
    tt
