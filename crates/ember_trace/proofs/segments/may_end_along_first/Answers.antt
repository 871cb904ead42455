use Rattle.std.proofs.Common.{◌∙◌, ap}
use mir.Syntax.{w32}
use mir.Val.{to_z, of_z}
use Rattle.ember_algebra.proofs.Exact.{input, stored, ◌&◌, done, exact}
use Rattle.ember_box.specs.declared.aabb.Interval.{Interval}
use Rattle.ember_trace.specs.Paths.{path_of, floor_at_end}
use Rattle.ember_trace.specs.Crossings.{may_contain}
use Rattle.ember_trace.proofs.Roots.{contained_in_root}
use Rattle.ember_trace.proofs.segments.may_end_along_first.Goals as goal

pub returns : goal.returns
returns g c =
    let w = path_of c.args.way.now in let z = floor_at_end w w.first_axis in let f = c.args.triangle.now in
    let at = to_z w32 (of_z w32 c.args.at.now.first) in
    let e = exact (c.args.at.now.small_first & done) (stored w32 (input 0)) tt ∙ c.requires.first in
    c.may_contain.ensures ∙ ap (λ (s : Interval). may_contain s at) (c.interval_at.ensures w.first_axis c.requires.first_index)
    ∙ contained_in_root w.half g.met.W.Width.holds f f.valid w.first_axis at z e
