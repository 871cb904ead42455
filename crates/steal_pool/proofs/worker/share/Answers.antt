use Rattle.std.proofs.Common.{ap, arith, subst, sym, [], ◌∷◌}
use Rattle.std.proofs.lemmas.List.Elements.{All-push}
use Rattle.ember_job.specs.Weights.{weigh}
use Rattle.steal_pool.specs.declared.protocol.HandleView.{HandleView}
use Rattle.steal_pool.proofs.DequeSteps.{weigh_append}
use Rattle.steal_pool.proofs.worker.share.Goals as goal

pub returns-clause-visited : goal.returns-clause-visited
returns-clause-visited g c =
    rw c.in_ok-push.ensures.items (All-push g.K.VisitedJobs.is_visited c.args.hand.now.items c.in-Err.job
    c.requires.visited.1 (subst g.K.VisitedJobs.is_visited (sym c.in-Err.ensures.view.0) c.requires.visited.0))

pub returns-clause-shares : goal.returns-clause-shares
returns-clause-shares g c =
    let e = c.in-Err.ensures.view in
    let p = c.in_ok-push.ensures.items in
    record {
      owns = ap (λ (v : HandleView). v.owns) e.1;
      lent = ap (λ (v : HandleView). v.lent) e.1;
      taken = ap (λ (v : HandleView). v.taken) e.1;
      stays = λ h. omega (arith, ap (weigh h) p, weigh_append h c.args.hand.now.items (c.in-Err.job ∷ []));
      sums = λ h. omega (
        arith,
        ap (weigh h) p,
        weigh_append h c.args.hand.now.items (c.in-Err.job ∷ []),
        ap (λ (v : HandleView). weigh h v.pushed) e.1,
        ap h e.0,
      );
    }
