use mir.Syntax.{w128}
use Rattle.ember_algebra.proofs.Exact.{Code, stored, wide, ◌⊠◌, ◌⊟◌, ◌&◌, done, exact, bounded, no_overflow}
use Rattle.ember_width.specs.Broad.{most_cross}
use Rattle.ember_width.proofs.meeting.minor.Goals as goal

abbrev code : Code
code = stored w128 (wide 0 ⊠ wide 3) ⊟ stored w128 (wide 1 ⊠ wide 2)

pub overflow_sub-result : goal.overflow_sub-result
overflow_sub-result c =
    no_overflow (c.requires.small_a & c.requires.small_b & c.requires.small_c & c.requires.small_d & done) w128 code tt

pub returns-clause-value : goal.returns-clause-value
returns-clause-value c = exact (c.requires.small_a & c.requires.small_b & c.requires.small_c & c.requires.small_d & done) (stored w128 code) tt

pub returns-clause-small : goal.returns-clause-small
returns-clause-small c = bounded (c.requires.small_a & c.requires.small_b & c.requires.small_c & c.requires.small_d & done) most_cross (stored w128 code) tt
