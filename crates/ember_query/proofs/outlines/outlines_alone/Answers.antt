use Rattle.std.proofs.Common.{◌≡◌, subst, IfOk}
use Rattle.ember_expr.specs.Formula.{formula_of}
use Rattle.ember_job.specs.declared.job.Job.{Job}
use Rattle.ember_job.specs.Items.{EachAnswers}
use Rattle.ember_job.specs.Visited.{leaves}
use Rattle.ember_report.specs.Runs.{AreJournalsOf}
use Rattle.ember_step.specs.Outlines.{AreBoxOutlines}
use Rattle.ember_visit.specs.Values.{shape_on}
use Rattle.ember_query.proofs.outlines.outlines_alone.Goals as goal

pub returns-clause-items : goal.returns-clause-items
returns-clause-items g c =
    let ts = c.args.tris.now in let f = formula_of c.args.expr.now in
    subst (λ (root : Job). IfOk c.results_alone.result (λ found. EachAnswers (λ job faces. AreBoxOutlines g.W.Width ts f job.cell faces)
    (leaves (shape_on g.W.Width.scale g.W.Width.fine ts f) root) found.items.items)) c.in_ok-root.ensures.value c.results_alone.ensures.items

pub returns-clause-journals : goal.returns-clause-journals
returns-clause-journals g c =
    let ts = c.args.tris.now in let f = formula_of c.args.expr.now in
    subst (λ (root : Job). IfOk c.results_alone.result (λ found. AreJournalsOf (shape_on g.W.Width.scale g.W.Width.fine ts f) root found.journals))
    c.in_ok-root.ensures.value c.results_alone.ensures.journals
