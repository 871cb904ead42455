use Rattle.std.proofs.Common.{ap, ◌∙◌}
use Rattle.ember_model.specs.declared.point.Spot.{Spot}
use Rattle.ember_trace.specs.Edges.{side_seen}
use Rattle.ember_trace.proofs.edges.corner_side.Goals as goal

pub returns : goal.returns
returns g c = c.side_of_line.ensures ∙ ap (λ (v : Spot). side_seen c.args.line.now c.args.k v) c.numbers.ensures
