use mir.Syntax.{w128}
use Rattle.ember_algebra.proofs.Exact.{Code, stored, wide, ◌⊠◌, ◌⊟◌, ◌&◌, done, exact, bounded, no_overflow}
use Rattle.mesh_certificate.specs.Key.LineKeys.{most_moment}
use Rattle.mesh_certificate.proofs.key.lines.moment_entry.Goals as goal

-- e * n - d * m
abbrev code : Code
code = stored w128 (wide 3 ⊠ wide 0) ⊟ stored w128 (wide 1 ⊠ wide 2)

pub overflow_sub-result : goal.overflow_sub-result
overflow_sub-result c = no_overflow (c.requires.n & c.requires.d & c.requires.m & c.requires.e & done) w128 code tt

pub returns : goal.returns
returns c =
    let i = c.requires.n & c.requires.d & c.requires.m & c.requires.e & done in
    record { value = exact i (stored w128 code) tt; small = bounded i most_moment (stored w128 code) tt }
