use Rattle.std.proofs.Common.{subst, Ok}
use Rattle.ember_query.specs.declared.query.Answer.{Answer}
use Rattle.ember_query.specs.declared.query.Query.TheVariants as query
use Rattle.ember_query.specs.Queries.{IsAnswer}
use Rattle.ember_query.proofs.query.query_broad_outlines.Goals as goal

pub returns-clause-journals : goal.returns-clause-journals
returns-clause-journals g c =
    let answer : IsAnswer (query.BroadOutlines c.args.tris c.args.expr) c.in_ok-found.field-0 =
    c.requires.executor.answers_each _ (Ok c.in_ok-found.field-0) c.requires.scene c.in_ok-found.ensures in
    (subst (λ (a : Answer). IsAnswer (query.BroadOutlines c.args.tris c.args.expr) a) c.in-BroadOutlines.is answer).1
