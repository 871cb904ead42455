use mir.Syntax.{w32, w64}
use Rattle.ember_algebra.proofs.Exact.{input, stored, ◌⊠◌, ◌⊟◌, ◌&◌, done, exact, bounded, no_overflow}
use Rattle.std.proofs.Common.{◌^◌}
use Rattle.ember_model.proofs.values.vector_from_corner.Goals as goal

pub overflow_cast-result : goal.overflow_cast-result
overflow_cast-result c = no_overflow (c.requires.corner.x & done) w64 (stored w32 (input 0)) tt

pub overflow_mul-result : goal.overflow_mul-result
overflow_mul-result c = no_overflow (c.requires.spot.w & c.requires.corner.x & done) w64 (stored w64 (input 0) ⊠ stored w64 (stored w32 (input 1))) tt

pub overflow_sub-result : goal.overflow_sub-result
overflow_sub-result c = no_overflow (c.requires.spot.x & c.requires.spot.w & c.requires.corner.x & done) w64
    (stored w64 (input 0) ⊟ stored w64 (stored w64 (input 1) ⊠ stored w64 (stored w32 (input 2)))) tt

pub overflow_cast-result-2 : goal.overflow_cast-result-2
overflow_cast-result-2 c = no_overflow (c.requires.corner.y & done) w64 (stored w32 (input 0)) tt

pub overflow_mul-result-2 : goal.overflow_mul-result-2
overflow_mul-result-2 c = no_overflow (c.requires.spot.w & c.requires.corner.y & done) w64 (stored w64 (input 0) ⊠ stored w64 (stored w32 (input 1))) tt

pub overflow_sub-result-2 : goal.overflow_sub-result-2
overflow_sub-result-2 c = no_overflow (c.requires.spot.y & c.requires.spot.w & c.requires.corner.y & done) w64
    (stored w64 (input 0) ⊟ stored w64 (stored w64 (input 1) ⊠ stored w64 (stored w32 (input 2)))) tt

pub overflow_cast-result-3 : goal.overflow_cast-result-3
overflow_cast-result-3 c = no_overflow (c.requires.corner.z & done) w64 (stored w32 (input 0)) tt

pub overflow_mul-result-3 : goal.overflow_mul-result-3
overflow_mul-result-3 c = no_overflow (c.requires.spot.w & c.requires.corner.z & done) w64 (stored w64 (input 0) ⊠ stored w64 (stored w32 (input 1))) tt

pub overflow_sub-result-3 : goal.overflow_sub-result-3
overflow_sub-result-3 c = no_overflow (c.requires.spot.z & c.requires.spot.w & c.requires.corner.z & done) w64
    (stored w64 (input 0) ⊟ stored w64 (stored w64 (input 1) ⊠ stored w64 (stored w32 (input 2)))) tt

pub returns-clause-x : goal.returns-clause-x
returns-clause-x c = exact (c.requires.spot.x & c.requires.spot.w & c.requires.corner.x & done)
    (stored w64 (stored w64 (input 0) ⊟ stored w64 (stored w64 (input 1) ⊠ stored w64 (stored w32 (input 2))))) tt

pub returns-clause-y : goal.returns-clause-y
returns-clause-y c = exact (c.requires.spot.y & c.requires.spot.w & c.requires.corner.y & done)
    (stored w64 (stored w64 (input 0) ⊟ stored w64 (stored w64 (input 1) ⊠ stored w64 (stored w32 (input 2))))) tt

pub returns-clause-z : goal.returns-clause-z
returns-clause-z c = exact (c.requires.spot.z & c.requires.spot.w & c.requires.corner.z & done)
    (stored w64 (stored w64 (input 0) ⊟ stored w64 (stored w64 (input 1) ⊠ stored w64 (stored w32 (input 2))))) tt

pub returns-clause-small : goal.returns-clause-small
returns-clause-small c = record {
  x = bounded (c.requires.spot.x & c.requires.spot.w & c.requires.corner.x & done)
      (2 ^ 52) (stored w64 (stored w64 (input 0) ⊟ stored w64 (stored w64 (input 1) ⊠ stored w64 (stored w32 (input 2)))))
      tt;
  y = bounded (c.requires.spot.y & c.requires.spot.w & c.requires.corner.y & done) (2 ^ 52)
      (stored w64 (stored w64 (input 0) ⊟ stored w64 (stored w64 (input 1) ⊠ stored w64 (stored w32 (input 2))))) tt;
  z =
      bounded (c.requires.spot.z & c.requires.spot.w & c.requires.corner.z & done) (2 ^ 52)
      (stored w64 (stored w64 (input 0) ⊟ stored w64 (stored w64 (input 1) ⊠ stored w64 (stored w32 (input 2))))) tt;
}
