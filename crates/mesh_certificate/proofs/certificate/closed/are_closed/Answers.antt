use Rattle.mesh_certificate.proofs.ClosedKeys.{closed_from_halves, halves_from_closed}
use Rattle.mesh_certificate.proofs.Sorted.{same_lists_count}
use Rattle.mesh_certificate.proofs.certificate.closed.are_closed.Goals as goal

pub returns : goal.returns
returns c =
    let k = same_lists_count c.in_ok-rising.ensures.rising c.in_ok-rising.ensures.falling in (
      λ t. closed_from_halves c.args.segments.now (k.0 (c.are_words_rearranged.ensures.0 t)),
      λ h. c.are_words_rearranged.ensures.1 (k.1 (halves_from_closed c.args.segments.now h)),
    )
