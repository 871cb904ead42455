use Rattle.std.proofs.Common.{filter}
use Rattle.mesh_certificate.specs.Certificate.OnLines.{is_free}
use Rattle.mesh_certificate.proofs.FreePairs.{paired_from_halves, halves_from_paired}
use Rattle.mesh_certificate.proofs.Sorted.{same_lists_count}
use Rattle.mesh_certificate.proofs.certificate.free_pairs.are_free_paired.Goals as goal

pub returns : goal.returns
returns c =
    let k = same_lists_count c.in_ok-rising.ensures.rising c.in_ok-rising.ensures.falling in
    let free = filter (is_free c.args.lines.now) c.args.segments.now in (
      λ t. record { each = paired_from_halves free (k.0 (c.are_rearranged.ensures.0 t)) },
      λ h. c.are_rearranged.ensures.1 (k.1 (halves_from_paired free h.each)),
    )
