use Rattle.std.proofs.Common.{◌≡◌, ◌∙◌, List, ℕ, map, ap, subst}
use Rattle.std.specs.List.Sorted.{IsPermutation}
use Rattle.std.proofs.lemmas.List.Sorted.{IsNonDecreasingBy-from_sort}
use Rattle.std.proofs.lemmas.List.{take_all}
use Rattle.ember_model.specs.declared.tri.Tri.{Tri}
use Rattle.ember_model.specs.Meshes.{edges_in}
use Rattle.ember_balance.specs.Numbers.{edge_number}
use Rattle.ember_balance.proofs.Edges.{there_more}
use Rattle.mesh_scene.proofs.scene.edges.edge_numbers.Goals as goal

pub loop-t-preserved : goal.loop-t-preserved
loop-t-preserved c =
    there_more c.args.tris.now c.loop-t.t-index _ _ _ c.loop-t-test.true c.loop-t.invariant c.in_ok-push_edges.ensures

pub returns : goal.returns
returns c = record {
  permutation = subst (λ (ns : List ℕ). IsPermutation ns c.sort_unstable.new.self.items) all c.sort_unstable.ensures.permutation;
  rises = IsNonDecreasingBy-from_sort (λ n. n) _ c.sort_unstable.ensures.sorted;
}
  where
    all : c.loop-t.numbers.items ≡ map edge_number (edges_in c.args.tris.now)
    all = c.loop-t.invariant ∙ ap (λ (ts : List Tri). map edge_number (edges_in ts)) (take_all c.loop-t.t-index c.args.tris.now c.loop-t-test.false)
