use mir.Syntax.{w128}
use Rattle.ember_algebra.proofs.Exact.{Code, stored, wide, ◌⊠◌, ◌⊟◌, ◌&◌, done, exact, bounded, no_overflow}
use Rattle.ember_width.proofs.narrow_levels.minor.Goals as goal

abbrev code : Code
code = stored w128 (wide 0 ⊠ wide 3) ⊟ stored w128 (wide 1 ⊠ wide 2)

pub overflow_sub-result : goal.overflow_sub-result
overflow_sub-result c =
    no_overflow (c.requires.a & c.requires.b & c.requires.c & c.requires.d & done) w128 code tt

pub returns-clause-value : goal.returns-clause-value
returns-clause-value c =
    exact (c.requires.a & c.requires.b & c.requires.c & c.requires.d & done) (stored w128 code) tt

pub returns-clause-small : goal.returns-clause-small
returns-clause-small c =
    bounded (c.requires.a & c.requires.b & c.requires.c & c.requires.d & done) 73786974095747842050 (stored w128 code) tt
