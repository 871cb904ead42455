use Rattle.std.proofs.Common.{◌≡◌, false, subst}
use Rattle.std.specs.List.{All}
use Rattle.ember_balance.specs.Loose.{edge_of}
use Rattle.mesh_grid.specs.Grid.Places.{has_edge}
use Rattle.mesh_scene.proofs.LooseEdges.{loose_edge_is_there}
use Rattle.mesh_scene.proofs.scene.surface.place_of_loose.Goals as goal

pub unreachable-requires : goal.unreachable-requires
unreachable-requires c =
    loose_edge_is_there c.args.soup.now.tris c.args.loose.now c.requires
    (subst (All (λ t. has_edge (edge_of c.args.loose.now) t ≡ false)) c.items.ensures c.in-None.ensures)
