use Rattle.std.proofs.Common.{◌∙◌, ap}
use mir.Syntax.{w128}
use Rattle.ember_algebra.specs.Sign.{sgn}
use Rattle.ember_algebra.proofs.Exact.{Code, stored, kept, wide, ◌⊠◌, ◌⊟◌, exact, no_overflow}
use Rattle.ember_width.proofs.Along.{inputs_are_small}
use Rattle.ember_width.proofs.across.side_by_coordinate.Goals as goal

abbrev value : Code
value = stored w128 (wide 0 ⊠ kept 1) ⊟ stored w128 (wide 2 ⊠ kept 3)

pub overflow_sub-a : goal.overflow_sub-a
overflow_sub-a c =
    let r = c.requires in no_overflow (inputs_are_small r.a r.x r.d r.w) w128 value tt

pub returns : goal.returns
returns c =
    let r = c.requires in
    c.sign_of.ensures ∙ ap sgn (exact (inputs_are_small r.a r.x r.d r.w) (stored w128 value) tt)
