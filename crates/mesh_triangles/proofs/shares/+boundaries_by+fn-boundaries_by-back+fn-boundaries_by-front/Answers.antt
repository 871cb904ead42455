use Rattle.std.proofs.Common.{◌≡◌, ◌++◌, List, sym, subst}
use Rattle.std.proofs.lemmas.Result.{IfOk-at_ok}
use Rattle.mesh_certificate.specs.declared.certificate.segment.Segment.{Segment}
use Rattle.mesh_certificate.specs.Certificate.Chains.{HaveSameChains}
use Rattle.mesh_certificate.proofs.JoinedParts.{same_chains-append}
use Rattle.mesh_triangles.proofs.shares.+boundaries_by+fn-boundaries_by-back+fn-boundaries_by-front.Goals as goal

pub returns : goal.returns
returns g t c =
    let left = c.split_at.result.0.now in let right = c.split_at.result.1.now in
    let first = c.in_ok-first.field-0.segments.items in let second = c.in_ok-second.field-0.segments.items in
    subst (λ (ss : List Segment). HaveSameChains ss c.in_ok-joined_boundaries.field-0.segments.items) (sym c.split_at.ensures.by_index.0)
    (subst (HaveSameChains (left ++ right)) (sym c.in_ok-joined_boundaries.ensures)
    (same_chains-append left right first second
    (IfOk-at_ok (λ it. HaveSameChains left it.segments.items) c.in_ok-first.was c.join-first.ensures.first)
    (IfOk-at_ok (λ it. HaveSameChains right it.segments.items) c.in_ok-second.was c.join-first.ensures.second)))
