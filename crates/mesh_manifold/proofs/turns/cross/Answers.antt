use mir.Syntax.{w128}
use Rattle.ember_algebra.proofs.Exact.{Code, stored, kept, ◌⊠◌, ◌⊟◌, ◌&◌, done, exact, no_overflow}
use Rattle.mesh_manifold.proofs.turns.cross.Goals as goal

abbrev product : Code
product = kept 0 ⊠ kept 1

abbrev minor : Code
minor = stored w128 (kept 0 ⊠ kept 1) ⊟ stored w128 (kept 2 ⊠ kept 3)

pub overflow_mul-result : goal.overflow_mul-result
overflow_mul-result c = no_overflow (c.requires.g.y & c.requires.h.z & done) w128 product tt

pub overflow_mul-result-2 : goal.overflow_mul-result-2
overflow_mul-result-2 c = no_overflow (c.requires.g.z & c.requires.h.y & done) w128 product tt

pub overflow_sub-result : goal.overflow_sub-result
overflow_sub-result c =
    no_overflow (c.requires.g.y & c.requires.h.z & c.requires.g.z & c.requires.h.y & done) w128 minor tt

pub overflow_mul-result-3 : goal.overflow_mul-result-3
overflow_mul-result-3 c = no_overflow (c.requires.g.z & c.requires.h.x & done) w128 product tt

pub overflow_mul-result-4 : goal.overflow_mul-result-4
overflow_mul-result-4 c = no_overflow (c.requires.g.x & c.requires.h.z & done) w128 product tt

pub overflow_sub-result-2 : goal.overflow_sub-result-2
overflow_sub-result-2 c =
    no_overflow (c.requires.g.z & c.requires.h.x & c.requires.g.x & c.requires.h.z & done) w128 minor tt

pub overflow_mul-result-5 : goal.overflow_mul-result-5
overflow_mul-result-5 c = no_overflow (c.requires.g.x & c.requires.h.y & done) w128 product tt

pub overflow_mul-result-6 : goal.overflow_mul-result-6
overflow_mul-result-6 c = no_overflow (c.requires.g.y & c.requires.h.x & done) w128 product tt

pub overflow_sub-result-3 : goal.overflow_sub-result-3
overflow_sub-result-3 c =
    no_overflow (c.requires.g.x & c.requires.h.y & c.requires.g.y & c.requires.h.x & done) w128 minor tt

pub returns : goal.returns
returns c =
    let x = exact (c.requires.g.y & c.requires.h.z & c.requires.g.z & c.requires.h.y & done) (stored w128 minor) tt in
    let y = exact (c.requires.g.z & c.requires.h.x & c.requires.g.x & c.requires.h.z & done) (stored w128 minor) tt in
    let z = exact (c.requires.g.x & c.requires.h.y & c.requires.g.y & c.requires.h.x & done) (stored w128 minor) tt in
    λ i. record { x = x i; y = y i; z = z i }
