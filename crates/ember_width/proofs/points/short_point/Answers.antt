use Rattle.std.proofs.Common.{pos, ◌<ℤ◌, ◌∙◌, sym, subst}
use mir.Syntax.{w64}
use Rattle.ember_algebra.proofs.Exact.{stored, kept, narrow, ◌&◌, done, exact, bounded, no_overflow}
use Rattle.ember_model.proofs.Tuples.{same_spot}
use Rattle.ember_width.specs.Broad.{most_short}
use Rattle.ember_width.proofs.ShortNumbers.{short_weight}
use Rattle.ember_width.proofs.points.short_point.Goals as goal

pub overflow_cast-w : goal.overflow_cast-w
overflow_cast-w c =
    no_overflow (short_weight c.requires.w c.requires.weight c.if-w-gt-MOST_SHORT_WEIGHT.false & done) w64 (kept 0) tt

pub invariant_of-result : goal.invariant_of-result
invariant_of-result c =
    let w = short_weight c.requires.w c.requires.weight c.if-w-gt-MOST_SHORT_WEIGHT.false in
    record {
      valid = record {
        x = bounded (c.in_ok-x.ensures.small & done) most_short (narrow 0) tt;
        y = bounded (c.in_ok-y.ensures.small & done) most_short (narrow 0) tt;
        z = bounded (c.in_ok-z.ensures.small & done) most_short (narrow 0) tt;
        w = bounded (w & done) most_short (stored w64 (kept 0)) tt;
        weight = subst (λ z. pos 0 <ℤ z) (sym (exact (w & done) (stored w64 (kept 0)) tt)) c.requires.weight;
      };
    }

pub returns : goal.returns
returns c =
    let w = short_weight c.requires.w c.requires.weight c.if-w-gt-MOST_SHORT_WEIGHT.false in
    same_spot (exact (c.in_ok-x.ensures.small & done) (narrow 0) tt ∙ c.in_ok-x.ensures.value)
    (exact (c.in_ok-y.ensures.small & done) (narrow 0) tt ∙ c.in_ok-y.ensures.value)
    (exact (c.in_ok-z.ensures.small & done) (narrow 0) tt ∙ c.in_ok-z.ensures.value)
    (exact (w & done) (stored w64 (kept 0)) tt)
