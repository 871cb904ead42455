use Rattle.std.proofs.lemmas.Bool.Decides.{Decides-eqb}
use Rattle.std.proofs.lemmas.List.Sorted.{IsNonDecreasingBy-from_sort}
use Rattle.std.proofs.lemmas.Slice.Eq.{slice_eq-Decides}
use Rattle.mesh_certificate.proofs.Sorted.{same_counts_decided}
use Rattle.mesh_certificate.proofs.certificate.order.are_words_rearranged.Goals as goal

pub returns : goal.returns
returns c =
    same_counts_decided c.sort_unstable.ensures.permutation c.sort_unstable-2.ensures.permutation
    (IsNonDecreasingBy-from_sort (λ n. n) _ c.sort_unstable.ensures.sorted)
    (IsNonDecreasingBy-from_sort (λ n. n) _ c.sort_unstable-2.ensures.sorted)
    (slice_eq-Decides Decides-eqb _ _ _ c.eq.ensures)
