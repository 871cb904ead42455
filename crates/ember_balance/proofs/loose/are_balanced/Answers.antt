use Rattle.std.proofs.Common.{List, ℕ, ◌∙◌, ap, length, subst, arith}
use Rattle.std.specs.List.Sorted.{IsPermutation}
use Rattle.std.proofs.lemmas.List.{length-map}
use Rattle.std.proofs.lemmas.List.Sorted.{length_permutation}
use Rattle.ember_model.specs.Meshes.{edges_in}
use Rattle.ember_balance.specs.Numbers.{two_way_number, AreTwoWay}
use Rattle.ember_balance.proofs.Edges.{length-edges_in}
use Rattle.ember_balance.proofs.TwoWay.{balanced_by_two_way}
use Rattle.ember_balance.proofs.loose.are_balanced.Goals as goal

pub are_two_way-requires : goal.are_two_way-requires
are_two_way-requires c =
    let ts = c.args.tris.now in
    let e = ap length c.deref.ensures.value ∙ length_permutation _ _ c.sort_unstable.ensures.permutation
    ∙ ap length c.in_ok-numbers.ensures ∙ length-map (edges_in ts) two_way_number ∙ length-edges_in ts in
    omega (arith, e, c.requires.few)

pub returns : goal.returns
returns c = λ t.
    let ks = c.sort_unstable.new.self.items in
    balanced_by_two_way c.args.tris.now c.requires.within ks
    (subst (λ (ns : List ℕ). IsPermutation ns ks) c.in_ok-numbers.ensures c.sort_unstable.ensures.permutation)
    (subst AreTwoWay c.deref.ensures.value (c.are_two_way.ensures t))
