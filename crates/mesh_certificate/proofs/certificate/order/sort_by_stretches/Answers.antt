use Rattle.std.proofs.lemmas.List.Sorted.{IsNonDecreasingBy-from_sort}
use Rattle.mesh_certificate.proofs.Sorted.{order_written}
use Rattle.mesh_certificate.proofs.certificate.order.sort_by_stretches.Goals as goal

pub returns-clause-permutation : goal.returns-clause-permutation
returns-clause-permutation c =
    order_written _ _ _ _ _ _ c.as_mut_slice.ensures.value c.as_mut_slice.ensures.len c.sort_stretches.ensures c.sort_unstable.ensures.permutation

pub returns-clause-order : goal.returns-clause-order
returns-clause-order c = IsNonDecreasingBy-from_sort (λ n. n) _ c.sort_unstable.ensures.sorted
