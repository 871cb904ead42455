use Rattle.std.proofs.Common.{subst, ◌∙◌, sym, map}
use Rattle.ember_model.specs.Meshes.{reversed, edges_in}
use Rattle.ember_balance.specs.Numbers.{edge_number}
use Rattle.mesh_scene.specs.Scene.LooseEdges.{AreSorted}
use Rattle.mesh_scene.proofs.LooseNumbers.{excess_is_loose_count}
use Rattle.mesh_scene.proofs.scene.edges.count_loose.Goals as goal

pub returns : goal.returns
returns c =
    c.excess.ensures ∙ excess_is_loose_count c.args.tris.now c.requires.within _ _
    (subst (AreSorted (map edge_number (edges_in c.args.tris.now))) (sym c.deref.ensures.value) c.in_ok-there.ensures)
    (subst (AreSorted (map edge_number (map reversed (edges_in c.args.tris.now)))) (sym c.deref-2.ensures.value)
    c.in_ok-back.ensures)
