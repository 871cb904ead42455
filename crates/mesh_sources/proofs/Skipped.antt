-- Nodes that a search passes over
use Rattle.std.proofs.Common.{◌≡◌, ℕ, ◌-◌, ◌<◌, ◌≤◌, arith, List, length, get_or, Some}
use Rattle.std.specs.List.{slice_get, All}
use Rattle.ember_algebra.proofs.Lists.{all_at}
use Rattle.ember_model.specs.Valid.{IsValidTri}
use Rattle.mesh_sources.specs.declared.facet.Facet.{Facet}
use Rattle.mesh_sources.specs.declared.nodes.Bounds.{Bounds}
use Rattle.mesh_sources.specs.declared.nodes.Node.{Node}
use Rattle.mesh_sources.specs.Places.{IsPlace}
use Rattle.mesh_sources.specs.Nodes.{AreBoundsOver, HaveCommonBounds, AreNodes}
use Rattle.mesh_sources.proofs.Bounded.{far_away}
use Rattle.mesh_sources.proofs.NodeLists.{node_here}
use Rattle.mesh_sources.proofs.Placed.{positive_weights}

-- where the bounds of a node have nothing in common with those of a facet, none of its stretch is a place
pub none_skipped : (ns : List Node) (end : ℕ) (d : Node) → 0 < end → end ≤ length ns → AreNodes ns → All (λ (n : Node). IsValidTri n.item.tri) ns →
    (q : Bounds) (f : Facet) → AreBoundsOver q f → (HaveCommonBounds (get_or ns (end - 1) d).bounds q → ⊥) →
    (j : ℕ) (n : Node) → (get_or ns (end - 1) d).start ≤ j → j < end → slice_get ns j ≡ Some n → IsPlace f n.item.tri → ⊥
none_skipped ns end d some within are valid q f over apart j n l k e place =
    far_away (get_or ns (end - 1) d).bounds q f n.item.tri (positive_weights f.corners)
    (all_at (λ (n : Node). IsValidTri n.item.tri) ns j n valid e)
    ((are (end - 1) (get_or ns (end - 1) d) (node_here ns end d some within)).bounds j n l (omega (arith, k)) e) over apart place
