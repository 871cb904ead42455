-- In a balanced mesh a term that changes its sign with the edge's reverse adds up to 0.
use Rattle.std.proofs.Common.{◌≡◌, List, ℤ, pos, neg_ℤ}
use Rattle.ember_algebra.specs.Sums.{total}
use Rattle.ember_algebra.proofs.Sums.{total_odd}
use Rattle.ember_model.specs.declared.tri.Tri.{Tri}
use Rattle.ember_model.specs.Meshes.{Edge, reversed, edges_in, same_edge, IsBalanced}
use Rattle.ember_model.proofs.SameEdges.{edges_are_equal, same_edge_reversed}

-- over the edges of balanced triangles, a quantity that changes its sign with the direction adds up to 0
pub balanced_zero : (f : Edge → ℤ) → ((x : Edge) → f (reversed x) ≡ neg_ℤ (f x)) → (ts : List Tri) → IsBalanced ts → total f (edges_in ts) ≡ pos 0
balanced_zero f odd ts h = total_odd same_edge edges_are_equal f reversed odd same_edge_reversed (edges_in ts) h
