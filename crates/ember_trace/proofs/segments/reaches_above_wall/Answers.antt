use Rattle.std.proofs.Common.{◌∙◌, ap, ℤ}
use mir.Syntax.{w32}
use mir.Val.{to_z, of_z}
use Rattle.ember_algebra.proofs.Exact.{input, stored, ◌&◌, done, exact}
use Rattle.ember_box.specs.declared.aabb.Interval.{Interval}
use Rattle.ember_box.specs.Aabbs.{interval_along}
use Rattle.ember_trace.specs.Paths.{path_of}
use Rattle.ember_trace.specs.Lines.{contains_above}
use Rattle.ember_trace.proofs.segments.reaches_above_wall.Goals as goal

pub returns : goal.returns
returns g c =
    let w = path_of c.args.way.now in let at = to_z w32 (of_z w32 c.args.at.now.start) in
    let e = exact (c.args.at.now.small_start & done) (stored w32 (input 0)) tt ∙ c.requires.start in
    c.contains_above.ensures ∙ ap (λ (s : Interval). contains_above s at) (c.interval_at.ensures w.main c.requires.main_index)
    ∙ ap (λ (z : ℤ). contains_above (interval_along c.args.triangle.now.aabb w.main) z) e
