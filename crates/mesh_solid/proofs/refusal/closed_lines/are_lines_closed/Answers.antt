use Rattle.std.proofs.Common.{[], List, sym, subst, ◌∙◌}
use Rattle.mesh_certificate.specs.declared.certificate.segment.Segment.{Segment}
use Rattle.mesh_certificate.specs.Certificate.Chains.{HaveSameChains}
use Rattle.mesh_solid.proofs.ClosedLines.{lines_closed_from_chains, chains_from_lines_closed}
use Rattle.mesh_solid.proofs.refusal.closed_lines.are_lines_closed.Goals as goal

pub returns : goal.returns
returns c =
    let ss = c.args.segments.now in
    let ts = c.in_ok-moved.moved.items in
    let here = c.deref.ensures.value in
    let none = c.deref-2.ensures.value ∙ c.new-none.ensures.items in
    let chains = c.in_ok-closed.ensures.chains in (
      λ t. lines_closed_from_chains ss ts c.in_ok-moved.ensures
          (subst (λ (us : List Segment). HaveSameChains us []) here
          (subst (λ (us : List Segment). HaveSameChains c.deref.result.now us) none (chains.0 t))),
      λ h. chains.1
          (subst (λ (us : List Segment). HaveSameChains c.deref.result.now us) (sym none)
          (subst (λ (us : List Segment). HaveSameChains us []) (sym here)
          (chains_from_lines_closed ss ts c.in_ok-moved.ensures h))),
    )
