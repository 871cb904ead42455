use Rattle.std.proofs.lemmas.Bool.Decides.{Decides-eqb}
use Rattle.std.proofs.lemmas.Slice.Eq.{slice_eq-Decides}
use Rattle.mesh_certificate.proofs.Sorted.{same_counts_decided}
use Rattle.mesh_certificate.proofs.certificate.order.are_rearranged.Goals as goal

pub returns : goal.returns
returns c =
    same_counts_decided c.sort_by_stretches.ensures.permutation c.sort_by_stretches-2.ensures.permutation
    c.sort_by_stretches.ensures.order c.sort_by_stretches-2.ensures.order
    (slice_eq-Decides Decides-eqb _ _ _ c.eq.ensures)
