use Rattle.std.proofs.Common.{List, ap, ◌∙◌}
use Rattle.ember_text.specs.FacesTexts.{FacesText}
use Rattle.ember_text.specs.Documents.{joined}
use Rattle.ember_query.proofs.SolidRuns.{solid_report_of, solid_text_of, journals_fit}
use Rattle.ember_query.proofs.solid.solid_of.Goals as goal

pub report_of-report-requires : goal.report_of-report-requires
report_of-report-requires g c = journals_fit _ _ _ c.in_ok-found.ensures.journals

pub returns-clause-text : goal.returns-clause-text
returns-clause-text g c =
    solid_text_of _ _ _ _ _ _ _ c.leaf_texts_join.ensures c.in_ok-found.ensures.items c.in_ok-found.ensures.journals
    c.report_of-report.ensures (c.in_ok-faces.ensures
    ∙ ap (λ (texts : List FacesText). (joined texts).count) c.deref.ensures.value) c.in_ok-text.ensures.document

pub returns-clause-report : goal.returns-clause-report
returns-clause-report g c =
    solid_report_of _ _ _ _ _ _ c.leaf_texts_join.ensures c.in_ok-found.ensures.items c.in_ok-found.ensures.journals
    c.report_of-report.ensures (c.in_ok-faces.ensures
    ∙ ap (λ (texts : List FacesText). (joined texts).count) c.deref.ensures.value)
