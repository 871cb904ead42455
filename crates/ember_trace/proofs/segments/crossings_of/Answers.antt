use Rattle.std.proofs.Common.{◌∙◌, ◌+ℤ◌}
use mir.Syntax.{w32}
use Rattle.ember_algebra.proofs.Exact.{input, stored, ◌⊞◌, ◌&◌, done, exact}
use Rattle.ember_trace.specs.Crossings.{crossing_before, crossing_after}
use Rattle.ember_trace.proofs.segments.crossings_of.Goals as goal

pub returns-clause-before : goal.returns-clause-before
unfolding crossing_before
returns-clause-before g c =
    exact (c.segments_above_wall-both.ensures.small & c.last_segments-last.ensures.small.0 & done)
    (stored w32 (stored w32 (input 0) ⊞ stored w32 (input 1))) tt
    ∙ (λ i. c.segments_above_wall-both.ensures.value i +ℤ c.last_segments-last.ensures.before i)

pub returns-clause-after : goal.returns-clause-after
unfolding crossing_after
returns-clause-after g c =
    exact (c.segments_above_wall-both.ensures.small & c.last_segments-last.ensures.small.1 & done)
    (stored w32 (stored w32 (input 0) ⊞ stored w32 (input 1))) tt
    ∙ (λ i. c.segments_above_wall-both.ensures.value i +ℤ c.last_segments-last.ensures.after i)
