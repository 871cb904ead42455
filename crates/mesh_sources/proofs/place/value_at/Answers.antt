use mir.Syntax.{w32, w64}
use Rattle.std.proofs.Common.{◌≡◌, ◌∙◌, arith, ℤ, pos, ◌+ℤ◌, ◌-ℤ◌, ◌*ℤ◌}
use Rattle.ember_algebra.proofs.Laws.{linear}
use Rattle.ember_algebra.proofs.Exact.{input, stored, ◌⊠◌, ◌⊞◌, ◌⊟◌, ◌&◌, done, exact, no_overflow}
use Rattle.mesh_sources.proofs.place.value_at.Goals as goal

-- the weight of a corner is 1
with_weight : (x d : ℤ) → x -ℤ d ≡ x -ℤ d *ℤ pos 1
with_weight x d = omega (arith, linear)

pub overflow_cast-result : goal.overflow_cast-result
overflow_cast-result c = no_overflow (c.requires.corner.x & done) w64 (stored w32 (input 0)) tt

pub overflow_mul-result : goal.overflow_mul-result
overflow_mul-result c = no_overflow (c.requires.plane.a & c.requires.corner.x & done) w64 (stored w64 (input 0) ⊠ stored w64 (stored w32 (input 1))) tt

pub overflow_cast-result-2 : goal.overflow_cast-result-2
overflow_cast-result-2 c = no_overflow (c.requires.corner.y & done) w64 (stored w32 (input 0)) tt

pub overflow_mul-result-2 : goal.overflow_mul-result-2
overflow_mul-result-2 c = no_overflow (c.requires.plane.b & c.requires.corner.y & done) w64 (stored w64 (input 0) ⊠ stored w64 (stored w32 (input 1))) tt

pub overflow_cast-result-3 : goal.overflow_cast-result-3
overflow_cast-result-3 c = no_overflow (c.requires.corner.z & done) w64 (stored w32 (input 0)) tt

pub overflow_mul-result-3 : goal.overflow_mul-result-3
overflow_mul-result-3 c = no_overflow (c.requires.plane.c & c.requires.corner.z & done) w64 (stored w64 (input 0) ⊠ stored w64 (stored w32 (input 1))) tt

pub overflow_add-result : goal.overflow_add-result
overflow_add-result c =
    no_overflow (c.requires.plane.a & c.requires.corner.x & c.requires.plane.b & c.requires.corner.y & done) w64
    (stored w64 (stored w64 (input 0) ⊠ stored w64 (stored w32 (input 1))) ⊞ stored w64 (stored w64 (input 2) ⊠ stored w64 (stored w32 (input 3)))) tt

pub overflow_add-result-2 : goal.overflow_add-result-2
overflow_add-result-2 c =
    no_overflow (c.requires.plane.a & c.requires.corner.x & c.requires.plane.b & c.requires.corner.y & c.requires.plane.c & c.requires.corner.z & done) w64
    (stored w64 (stored w64 (stored w64 (input 0) ⊠ stored w64 (stored w32 (input 1))) ⊞ stored w64
    (stored w64 (input 2) ⊠ stored w64 (stored w32 (input 3)))) ⊞ stored w64
    (stored w64 (input 4) ⊠ stored w64 (stored w32 (input 5))))
    tt

pub overflow_sub-result : goal.overflow_sub-result
overflow_sub-result c =
    no_overflow (c.requires.plane.a & c.requires.corner.x & c.requires.plane.b & c.requires.corner.y & c.requires.plane.c & c.requires.corner.z & c.requires.plane.d &
    done) w64
    (stored w64 (stored w64 (stored w64 (stored w64 (input 0) ⊠ stored w64 (stored w32 (input 1))) ⊞ stored w64
    (stored w64 (input 2) ⊠ stored w64 (stored w32 (input 3)))) ⊞ stored w64
    (stored w64 (input 4) ⊠ stored w64 (stored w32 (input 5)))) ⊟ stored w64
    (input 6))
    tt

pub returns : goal.returns
returns c =
    let p = c.args.plane.now in let v = c.args.c.now in
    exact (c.requires.plane.a & c.requires.corner.x & c.requires.plane.b & c.requires.corner.y & c.requires.plane.c & c.requires.corner.z & c.requires.plane.d &
    done) (stored w64
    (stored w64 (stored w64 (stored w64 (stored w64 (input 0) ⊠ stored w64 (stored w32 (input 1))) ⊞ stored w64
    (stored w64 (input 2) ⊠ stored w64 (stored w32 (input 3)))) ⊞ stored w64
    (stored w64 (input 4) ⊠ stored w64 (stored w32 (input 5)))) ⊟ stored w64
    (input 6)))
    tt ∙ with_weight (p.a *ℤ v.x +ℤ p.b *ℤ v.y +ℤ p.c *ℤ v.z) p.d
