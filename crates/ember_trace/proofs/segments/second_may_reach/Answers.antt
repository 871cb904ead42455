use Rattle.std.proofs.Common.{◌∙◌, ap}
use mir.Syntax.{w32}
use mir.Val.{to_z, of_z}
use Rattle.ember_algebra.proofs.Exact.{input, stored, ◌&◌, done, exact}
use Rattle.ember_box.specs.declared.aabb.Interval.{Interval}
use Rattle.ember_trace.specs.Paths.{path_of, coordinate, floor_at_end}
use Rattle.ember_trace.specs.Crossings.{begins_by}
use Rattle.ember_trace.proofs.Roots.{begun_in_root}
use Rattle.ember_trace.proofs.segments.second_may_reach.Goals as goal

pub returns : goal.returns
returns g c =
    let w = path_of c.args.way.now in let z = floor_at_end w w.second_axis in let lo = coordinate w.lo w.second_axis in let f = c.args.triangle.now in
    let at = to_z w32 (of_z w32 c.args.at.now.farthest_second) in
    let e = exact (c.args.at.now.small_farthest_second & done) (stored w32 (input 0)) tt ∙ c.requires.farthest_second in
    c.begins_by.ensures ∙ ap (λ (s : Interval). begins_by s at) (c.interval_at.ensures w.second_axis c.requires.second_index)
    ∙ begun_in_root w.half g.met.W.Width.holds f f.valid w.second_axis at z lo e
