use Rattle.std.proofs.Common.{ap, inl, refl, ◌∙◌}
use Rattle.mesh_report.specs.Reports.{report_of}
use Rattle.mesh_words.specs.declared.command.Request.{Request}
use Rattle.ember_arrays.proofs.outcome.reported.Goals as goal

pub returns-in-Ok-solid_report : goal.returns-in-Ok-solid_report
returns-in-Ok-solid_report c = inl (record {
  there = refl;
  status = refl;
  mesh = refl;
  place = refl;
  report = c.in-Ok-solid_report.ensures ∙ ap (λ (words : Request). report_of words c.args.solid.file) c.in-Ok.ensures;
})
