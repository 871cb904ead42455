use Rattle.std.proofs.Common.{sym, ap, ◌∙◌, Bool, cond, pos, ◌+ℤ◌}
use mir.Syntax.{w32}
use Rattle.ember_algebra.proofs.Exact.{input, stored, ◌⊞◌, ◌&◌, done, exact}
use Rattle.ember_trace.specs.Paths.{path_of}
use Rattle.ember_trace.specs.Crossings.{first_segment, second_segment}
use Rattle.ember_trace.proofs.segments.segments_above_wall.Goals as goal

pub returns-then-reaches_above_wall-clause-value : goal.returns-then-reaches_above_wall-clause-value
returns-then-reaches_above_wall-clause-value g c =
    let w = path_of c.args.way.now in let f = c.args.triangle.now in
    let b = sym c.reaches_above_wall.ensures ∙ c.if-reaches_above_wall.true in
    exact (c.first_segment.ensures.small & c.second_segment.ensures.small & done)
    (stored w32 (stored w32 (input 0) ⊞ stored w32 (input 1))) tt
    ∙ (λ i. c.first_segment.ensures.value i +ℤ c.second_segment.ensures.value i)
    ∙ sym (ap (λ (t : Bool). cond t (first_segment w f +ℤ second_segment w f) (pos 0)) b)
