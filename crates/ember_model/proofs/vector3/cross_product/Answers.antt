use mir.Syntax.{w64}
use Rattle.ember_algebra.proofs.Exact.{input, stored, ◌⊠◌, ◌⊟◌, ◌&◌, done, exact, bounded, no_overflow}
use Rattle.std.proofs.Common.{◌*◌}
use Rattle.ember_model.specs.Limits.{broad_limit}
use Rattle.ember_model.proofs.vector3.cross_product.Goals as goal

pub overflow_mul-result : goal.overflow_mul-result
overflow_mul-result c = no_overflow (c.requires.u.y & c.requires.v.z & done) w64 (stored w64 (input 0) ⊠ stored w64 (input 1)) tt

pub overflow_mul-result-2 : goal.overflow_mul-result-2
overflow_mul-result-2 c = no_overflow (c.requires.u.z & c.requires.v.y & done) w64 (stored w64 (input 0) ⊠ stored w64 (input 1)) tt

pub overflow_sub-result : goal.overflow_sub-result
overflow_sub-result c = no_overflow (c.requires.u.y & c.requires.v.z & c.requires.u.z & c.requires.v.y & done) w64
    (stored w64 (stored w64 (input 0) ⊠ stored w64 (input 1)) ⊟ stored w64 (stored w64 (input 2) ⊠ stored w64 (input 3)))
    tt

pub overflow_mul-result-3 : goal.overflow_mul-result-3
overflow_mul-result-3 c = no_overflow (c.requires.u.z & c.requires.v.x & done) w64 (stored w64 (input 0) ⊠ stored w64 (input 1)) tt

pub overflow_mul-result-4 : goal.overflow_mul-result-4
overflow_mul-result-4 c = no_overflow (c.requires.u.x & c.requires.v.z & done) w64 (stored w64 (input 0) ⊠ stored w64 (input 1)) tt

pub overflow_sub-result-2 : goal.overflow_sub-result-2
overflow_sub-result-2 c = no_overflow (c.requires.u.z & c.requires.v.x & c.requires.u.x & c.requires.v.z & done) w64
    (stored w64 (stored w64 (input 0) ⊠ stored w64 (input 1)) ⊟ stored w64 (stored w64 (input 2) ⊠ stored w64 (input 3)))
    tt

pub overflow_mul-result-5 : goal.overflow_mul-result-5
overflow_mul-result-5 c = no_overflow (c.requires.u.x & c.requires.v.y & done) w64 (stored w64 (input 0) ⊠ stored w64 (input 1)) tt

pub overflow_mul-result-6 : goal.overflow_mul-result-6
overflow_mul-result-6 c = no_overflow (c.requires.u.y & c.requires.v.x & done) w64 (stored w64 (input 0) ⊠ stored w64 (input 1)) tt

pub overflow_sub-result-3 : goal.overflow_sub-result-3
overflow_sub-result-3 c = no_overflow (c.requires.u.x & c.requires.v.y & c.requires.u.y & c.requires.v.x & done) w64
    (stored w64 (stored w64 (input 0) ⊠ stored w64 (input 1)) ⊟ stored w64 (stored w64 (input 2) ⊠ stored w64 (input 3)))
    tt

pub returns-clause-value : goal.returns-clause-value
returns-clause-value c = let x = exact (c.requires.u.y & c.requires.v.z & c.requires.u.z & c.requires.v.y & done)
    (stored w64 (stored w64 (stored w64 (input 0) ⊠ stored w64 (input 1)) ⊟ stored w64
    (stored w64 (input 2) ⊠ stored w64 (input 3)))) tt in let y =
    exact (c.requires.u.z & c.requires.v.x & c.requires.u.x & c.requires.v.z & done)
    (stored w64 (stored w64 (stored w64 (input 0) ⊠ stored w64 (input 1)) ⊟ stored w64
    (stored w64 (input 2) ⊠ stored w64 (input 3)))) tt in let z =
    exact (c.requires.u.x & c.requires.v.y & c.requires.u.y & c.requires.v.x & done)
    (stored w64 (stored w64 (stored w64 (input 0) ⊠ stored w64 (input 1)) ⊟ stored w64
    (stored w64 (input 2) ⊠ stored w64 (input 3)))) tt in λ i. record { x = x i; y = y i; z = z i }

pub returns-clause-small : goal.returns-clause-small
returns-clause-small c = record {
  x = bounded (c.requires.u.y & c.requires.v.z & c.requires.u.z & c.requires.v.y & done)
      (8 * (broad_limit * broad_limit)) (stored w64 (stored w64 (stored w64 (input 0) ⊠ stored w64 (input 1)) ⊟ stored w64
      (stored w64 (input 2) ⊠ stored w64 (input 3)))) tt;
  y =
      bounded (c.requires.u.z & c.requires.v.x & c.requires.u.x & c.requires.v.z & done) (8 * (broad_limit * broad_limit))
      (stored w64 (stored w64 (stored w64 (input 0) ⊠ stored w64 (input 1)) ⊟ stored w64
      (stored w64 (input 2) ⊠ stored w64 (input 3)))) tt;
  z =
      bounded (c.requires.u.x & c.requires.v.y & c.requires.u.y & c.requires.v.x & done) (8 * (broad_limit * broad_limit))
      (stored w64 (stored w64 (stored w64 (input 0) ⊠ stored w64 (input 1)) ⊟ stored w64
      (stored w64 (input 2) ⊠ stored w64 (input 3)))) tt;
}
