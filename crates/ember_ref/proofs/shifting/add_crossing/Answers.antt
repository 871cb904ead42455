use Rattle.std.proofs.Common.{ap, ◌∙◌}
use mir.Syntax.{w32}
use Rattle.ember_algebra.proofs.Exact.{input, stored, ◌&◌, done, exact}
use Rattle.ember_law.specs.Counts.{with_more}
use Rattle.ember_ref.proofs.shifting.add_crossing.Goals as goal

pub returns-clause-value : goal.returns-clause-value
returns-clause-value c = λ m f b k within tells above back.
    c.add_count.ensures.value ∙ ap (with_more c.args.v.now.counts c.args.t.now.mesh)
    (exact (c.crossing_on.ensures.small & done) (stored w32 (input 0)) tt
    ∙ c.crossing_on.ensures.value m f b k within tells above back)
