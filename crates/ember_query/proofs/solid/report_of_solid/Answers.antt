use Rattle.std.proofs.Common.{ap, ◌∙◌}
use Rattle.std.specs.List.{sum}
use Rattle.ember_query.proofs.SolidRuns.{is_solid_report, journals_fit}
use Rattle.ember_query.proofs.solid.report_of_solid.Goals as goal

pub report_of-requires : goal.report_of-requires
report_of-requires g c = journals_fit _ _ _ c.in_ok-found.ensures.journals

pub returns : goal.returns
returns g c =
    is_solid_report _ _ _ _ _ _ c.visited_leaves_write_all.ensures c.in_ok-found.ensures.items
    c.in_ok-found.ensures.journals c.report_of.ensures (c.in_ok-faces.ensures ∙ ap sum c.deref.ensures.value)
