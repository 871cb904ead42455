use Rattle.std.proofs.Common.{◌∙◌, sym, ap, subst, List, [], ◌∷◌, ◌++◌, take}
use Rattle.std.proofs.lemmas.List.{take_more}
use Rattle.mesh_sources.specs.declared.items.Item.{Item}
use Rattle.mesh_sources.specs.declared.nodes.Node.{Node}
use Rattle.mesh_sources.specs.Nodes.{AreNodes, items_in}
use Rattle.mesh_sources.proofs.NodeLists.{no_item, items_push}
use Rattle.mesh_sources.proofs.nodes.nodes_of.Goals as goal

pub node_of-node-requires-clause-nodes : goal.node_of-node-requires-clause-nodes
node_of-node-requires-clause-nodes c =
    subst (λ (ns : List Node). AreNodes ns) (sym c.deref.ensures.value) c.loop-item.invariant.nodes

pub loop-item-preserved : goal.loop-item-preserved
loop-item-preserved c =
    let at = c.loop-item in let n = c.node_of-node.result in let items = c.args.items.now in
    record {
      nodes = subst (λ (ns : List Node). AreNodes ns) (sym c.in_ok-push.ensures.items)
          (subst (λ (ns : List Node). AreNodes (ns ++ n ∷ [])) c.deref.ensures.value c.node_of-node.ensures.nodes);
      items = ap (λ (ns : List Node). items_in ns) c.in_ok-push.ensures.items ∙ items_push at.nodes.items n
          ∙ ap (λ (its : List Item). its ++ n.item ∷ []) at.invariant.items
          ∙ ap (λ (it : Item). take at.item-index items ++ it ∷ []) c.node_of-node.ensures.item
          ∙ sym (take_more items at.item-index no_item c.loop-item-test.true);
    }
