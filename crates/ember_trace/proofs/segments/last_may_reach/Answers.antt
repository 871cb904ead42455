use Rattle.std.proofs.Common.{◌∙◌, ap}
use mir.Syntax.{w32}
use mir.Val.{to_z, of_z}
use Rattle.ember_algebra.proofs.Exact.{input, stored, ◌&◌, done, exact}
use Rattle.ember_box.specs.declared.aabb.Interval.{Interval}
use Rattle.ember_trace.specs.Paths.{path_of, coordinate, floor_at_end}
use Rattle.ember_trace.specs.Crossings.{begins_by}
use Rattle.ember_trace.proofs.Roots.{begun_in_root}
use Rattle.ember_trace.proofs.segments.last_may_reach.Goals as goal

pub returns : goal.returns
returns g c =
    let w = path_of c.args.way.now in let z = floor_at_end w w.main in let lo = coordinate w.lo w.main in let f = c.args.triangle.now in
    let at = to_z w32 (of_z w32 c.args.at.now.farthest_main) in
    let e = exact (c.args.at.now.small_farthest_main & done) (stored w32 (input 0)) tt ∙ c.requires.farthest_main in
    c.begins_by.ensures ∙ ap (λ (s : Interval). begins_by s at) (c.interval_at.ensures w.main c.requires.main_index)
    ∙ begun_in_root w.half g.met.W.Width.holds f f.valid w.main at z lo e
