use mir.Syntax.{w128}
use Rattle.ember_algebra.proofs.Exact.{Code, stored, kept, ◌⊠◌, ◌⊞◌, ◌&◌, done, exact, no_overflow}
use Rattle.mesh_manifold.proofs.turns.inner.Goals as goal

abbrev product : Code
product = kept 0 ⊠ kept 1

abbrev two : Code
two = stored w128 (kept 0 ⊠ kept 1) ⊞ stored w128 (kept 2 ⊠ kept 3)

abbrev three : Code
three = stored w128 two ⊞ stored w128 (kept 4 ⊠ kept 5)

pub overflow_mul-result : goal.overflow_mul-result
overflow_mul-result c = no_overflow (c.requires.g.x & c.requires.h.x & done) w128 product tt

pub overflow_mul-result-2 : goal.overflow_mul-result-2
overflow_mul-result-2 c = no_overflow (c.requires.g.y & c.requires.h.y & done) w128 product tt

pub overflow_mul-result-3 : goal.overflow_mul-result-3
overflow_mul-result-3 c = no_overflow (c.requires.g.z & c.requires.h.z & done) w128 product tt

pub overflow_add-result : goal.overflow_add-result
overflow_add-result c =
    no_overflow (c.requires.g.x & c.requires.h.x & c.requires.g.y & c.requires.h.y & done) w128 two tt

pub overflow_add-result-2 : goal.overflow_add-result-2
overflow_add-result-2 c =
    no_overflow (c.requires.g.x & c.requires.h.x & c.requires.g.y & c.requires.h.y & c.requires.g.z & c.requires.h.z & done) w128 three tt

pub returns : goal.returns
returns c =
    exact (c.requires.g.x & c.requires.h.x & c.requires.g.y & c.requires.h.y & c.requires.g.z & c.requires.h.z & done) (stored w128 three) tt
