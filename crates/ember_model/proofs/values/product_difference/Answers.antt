use mir.Syntax.{w64, w128}
use Rattle.ember_algebra.proofs.Exact.{input, stored, ◌⊠◌, ◌⊟◌, ◌&◌, done, exact, bounded, no_overflow}
use Rattle.std.proofs.Common.{◌^◌}
use Rattle.ember_model.proofs.values.product_difference.Goals as goal

pub overflow_cast-result : goal.overflow_cast-result
overflow_cast-result c = no_overflow (c.requires.a & done) w128 (stored w64 (input 0)) tt

pub overflow_cast-result-2 : goal.overflow_cast-result-2
overflow_cast-result-2 c = no_overflow (c.requires.x & done) w128 (stored w64 (input 0)) tt

pub overflow_mul-result : goal.overflow_mul-result
overflow_mul-result c = no_overflow (c.requires.a & c.requires.x & done) w128 (stored w128 (stored w64 (input 0)) ⊠ stored w128 (stored w64 (input 1))) tt

pub overflow_cast-result-3 : goal.overflow_cast-result-3
overflow_cast-result-3 c = no_overflow (c.requires.b & done) w128 (stored w64 (input 0)) tt

pub overflow_cast-result-4 : goal.overflow_cast-result-4
overflow_cast-result-4 c = no_overflow (c.requires.y & done) w128 (stored w64 (input 0)) tt

pub overflow_mul-result-2 : goal.overflow_mul-result-2
overflow_mul-result-2 c = no_overflow (c.requires.b & c.requires.y & done) w128 (stored w128 (stored w64 (input 0)) ⊠ stored w128 (stored w64 (input 1))) tt

pub overflow_sub-result : goal.overflow_sub-result
overflow_sub-result c = no_overflow (c.requires.a & c.requires.x & c.requires.b & c.requires.y & done) w128
    (stored w128 (stored w128 (stored w64 (input 0)) ⊠ stored w128 (stored w64 (input 1))) ⊟ stored w128
    (stored w128 (stored w64 (input 2)) ⊠ stored w128 (stored w64 (input 3)))) tt

pub returns-clause-value : goal.returns-clause-value
returns-clause-value c = exact (c.requires.a & c.requires.x & c.requires.b & c.requires.y & done)
    (stored w128 (stored w128 (stored w128 (stored w64 (input 0)) ⊠ stored w128 (stored w64 (input 1))) ⊟ stored w128
    (stored w128 (stored w64 (input 2)) ⊠ stored w128 (stored w64 (input 3))))) tt

pub returns-clause-small : goal.returns-clause-small
returns-clause-small c = bounded (c.requires.a & c.requires.x & c.requires.b & c.requires.y & done) (2 ^ 66)
    (stored w128 (stored w128 (stored w128 (stored w64 (input 0)) ⊠ stored w128 (stored w64 (input 1))) ⊟ stored w128
    (stored w128 (stored w64 (input 2)) ⊠ stored w128 (stored w64 (input 3))))) tt
