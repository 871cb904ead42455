use Rattle.ember_poly.proofs.Classification.{on_both}
use Rattle.ember_poly.proofs.passage.reach_by.Goals as goal

pub returns-else-some_above : goal.returns-else-some_above
returns-else-some_above g c =
    λ p ms s. on_both g.W.Width.spot p ms (s.most c.if-some_above.false) (s.least c.if-below_count-eq0.true)
