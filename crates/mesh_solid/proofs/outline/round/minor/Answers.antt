use mir.Syntax.{w64}
use Rattle.ember_algebra.proofs.Exact.{Code, stored, narrow, ◌⊠◌, ◌⊟◌, ◌&◌, done, exact, bounded, no_overflow}
use Rattle.mesh_solid.proofs.outline.round.minor.Goals as goal

abbrev code : Code
code = stored w64 (narrow 0 ⊠ narrow 3) ⊟ stored w64 (narrow 1 ⊠ narrow 2)

pub overflow_sub-result : goal.overflow_sub-result
overflow_sub-result c =
    no_overflow (c.requires.small_a & c.requires.small_b & c.requires.small_c & c.requires.small_d & done) w64 code tt

pub returns : goal.returns
returns c =
    let i = c.requires.small_a & c.requires.small_b & c.requires.small_c & c.requires.small_d & done in
    record { value = exact i (stored w64 code) tt; small = bounded i 2251799679467522 (stored w64 code) tt }
