use Rattle.std.proofs.Common.{ℕ, ◌∙◌, pos}
use mir.Syntax.{w32, w64}
use Rattle.ember_algebra.proofs.Ring.{◌⊕◌, ◌⊖◌, ◌⊗◌, ◌≈◌, num, solve, cancels}
use Rattle.ember_algebra.proofs.Exact.{Code, input, stored, narrow, ◌⊠◌, ◌⊞◌, ◌⊟◌, ◌&◌, done, exact, bounded, no_overflow}
use Rattle.ember_width.specs.Broad.{most_value}
use Rattle.ember_width.proofs.sides.value_at_corner.Goals as goal

-- a coordinate of the cube's corner as it is cast
abbrev place : ℕ → Code
place i = stored w64 (stored w32 (input i))

abbrev x : Code
x = narrow 0 ⊠ place 1

abbrev xy : Code
xy = stored w64 x ⊞ stored w64 (narrow 2 ⊠ place 3)

abbrev xyz : Code
xyz = stored w64 xy ⊞ stored w64 (narrow 4 ⊠ place 5)

abbrev value : Code
value = stored w64 xyz ⊟ narrow 6

pub overflow_mul-result : goal.overflow_mul-result
overflow_mul-result c = no_overflow (c.requires.plane.a & c.requires.corner.x & done) w64 x tt

pub overflow_mul-result-2 : goal.overflow_mul-result-2
overflow_mul-result-2 c = no_overflow (c.requires.plane.b & c.requires.corner.y & done) w64 x tt

pub overflow_mul-result-3 : goal.overflow_mul-result-3
overflow_mul-result-3 c = no_overflow (c.requires.plane.c & c.requires.corner.z & done) w64 x tt

pub overflow_add-result : goal.overflow_add-result
overflow_add-result c =
    let p = c.requires.plane in let q = c.requires.corner in no_overflow (p.a & q.x & p.b & q.y & done) w64 xy tt

pub overflow_add-result-2 : goal.overflow_add-result-2
overflow_add-result-2 c =
    let p = c.requires.plane in let q = c.requires.corner in
    no_overflow (p.a & q.x & p.b & q.y & p.c & q.z & done) w64 xyz tt

pub overflow_sub-result : goal.overflow_sub-result
overflow_sub-result c =
    let p = c.requires.plane in let q = c.requires.corner in
    no_overflow (p.a & q.x & p.b & q.y & p.c & q.z & p.d & done) w64 value tt

pub returns-clause-sum : goal.returns-clause-sum
returns-clause-sum c =
    let p = c.requires.plane in let q = c.requires.corner in
    exact (p.a & q.x & p.b & q.y & p.c & q.z & p.d & done) (stored w64 value) tt

pub returns-clause-small : goal.returns-clause-small
returns-clause-small c =
    let p = c.requires.plane in let q = c.requires.corner in
    bounded (p.a & q.x & p.b & q.y & p.c & q.z & p.d & done) most_value (stored w64 value) tt

pub returns-clause-value : goal.returns-clause-value
returns-clause-value c =
    let p = c.requires.plane in let q = c.requires.corner in let e = c.args.p.now in let v = c.args.c.now in
    exact (p.a & q.x & p.b & q.y & p.c & q.z & p.d & done) (stored w64 value) tt
    ∙ solve 7 (λ a x b y c z d. a ⊗ x ⊕ b ⊗ y ⊕ c ⊗ z ⊖ d ≈ a ⊗ x ⊕ b ⊗ y ⊕ c ⊗ z ⊖ d ⊗ num (pos 1)) cancels e.a v.x
    e.b v.y e.c v.z e.d
