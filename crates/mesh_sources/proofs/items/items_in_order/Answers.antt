use Rattle.std.proofs.Common.{◌+◌, sym, subst, List}
use Rattle.mesh_sources.specs.declared.items.Item.{Item}
use Rattle.mesh_sources.specs.Nodes.{AreItems}
use Rattle.mesh_sources.proofs.NodeLists.{no_tri}
use Rattle.mesh_sources.proofs.ItemLists.{item_is, items_more}
use Rattle.mesh_sources.proofs.items.items_in_order.Goals as goal

pub loop-i-preserved : goal.loop-i-preserved
loop-i-preserved c =
    let scene = c.args.scene.now in let at = c.loop-i in let it = c.item_of.result in let h = c.item_of.ensures in
    subst (λ (items : List Item). AreItems scene (at.i + 1) items) (sym c.in_ok-push.ensures.items)
    (items_more scene at.i at.items.items it at.invariant
    (item_is scene at.i no_tri it c.loop-i-test.true c.requires.valid h.number h.tri h.mark) h.number)
