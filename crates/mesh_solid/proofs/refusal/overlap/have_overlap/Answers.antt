use Rattle.std.proofs.Common.{map, sym, ap, subst, ◌∙◌}
use Rattle.std.specs.List.Sorted.{IsNonDecreasing}
use Rattle.std.proofs.lemmas.List.Sorted.{IsNonDecreasingBy-from_sort}
use Rattle.ember_reread.specs.Cornered.{face_of}
use Rattle.mesh_solid.specs.Refusal.Searches.{any_pair, overlap}
use Rattle.mesh_solid.proofs.Searches.{overlap_from_pair, pair_from_overlap}
use Rattle.mesh_solid.proofs.refusal.overlap.have_overlap.Goals as goal

pub any_overlap-found-requires : goal.any_overlap-found-requires
any_overlap-found-requires c =
    subst IsNonDecreasing (sym c.deref.ensures.value)
    (IsNonDecreasingBy-from_sort (λ n. n) _ c.sort_unstable.ensures.sorted)

pub returns : goal.returns
returns c =
    let ws = map face_of c.args.faces.now in
    let ns = c.in_ok-numbers.numbers.items in
    let sorted = c.sort_unstable.new.self.items in
    let is = c.any_overlap-found.ensures ∙ ap (any_pair (overlap ws)) c.deref.ensures.value in (
      λ t. overlap_from_pair ws ns sorted c.in_ok-numbers.ensures c.sort_unstable.ensures.permutation (sym is ∙ t),
      λ h. is ∙ pair_from_overlap ws ns sorted c.in_ok-numbers.ensures c.sort_unstable.ensures.permutation h,
    )
