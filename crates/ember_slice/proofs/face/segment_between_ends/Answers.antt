use Rattle.std.proofs.Common.{subst, Some}
use Rattle.ember_slice.specs.Intervals.{IsInterval}
use Rattle.ember_slice.proofs.Bounds.{endless_on, endless_back, answer_between}
use Rattle.ember_slice.proofs.face.segment_between_ends.Goals as goal

pub returns-in_default : goal.returns-in_default
returns-in_default c =
    let s = c.args.interval.now in
    λ f at t h. endless_back f at t s.last (subst (λ o. IsInterval f.support at f.edges (record { first = o; last = s.last })) c.in_default.is h)

pub returns-in_default-last : goal.returns-in_default-last
returns-in_default-last c =
    let s = c.args.interval.now in
    λ f at t h. endless_on f at t s.first (subst (λ o. IsInterval f.support at f.edges (record { first = s.first; last = o })) c.in_default-last.is h)

pub returns : goal.returns
returns c =
    let s = c.args.interval.now in
    λ f at t h. answer_between f at _ _ (subst (λ o. IsInterval f.support at f.edges
    (record { first = o; last = Some c.in-Some-last.last })) c.in-Some.is
    (subst (λ o. IsInterval f.support at f.edges (record { first = s.first; last = o })) c.in-Some-last.is h))
    c.between.result c.between.ensures
