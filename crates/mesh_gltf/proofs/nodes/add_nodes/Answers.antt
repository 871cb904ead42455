use Rattle.std.proofs.Common.{rules, ◌≡◌, ◌⊎◌, map, inr, sym, arith, Err}
use Rattle.mesh_read.specs.Surface.Surfaces.{content_of}
use Rattle.serde_json.specs.View.{view}
use Rattle.mesh_gltf.specs.declared.fault.GltfFault.TheVariants.{OutOfMemory}
use Rattle.mesh_gltf.specs.Buffers.{bytes_seen}
use Rattle.mesh_gltf.specs.Nodes.{with_nodes, nodes_count}
use Rattle.mesh_gltf.proofs.NodeSteps.{nodes_more, next_missing, too_many, nodes_done, node_fault, children_fault}
use Rattle.mesh_gltf.proofs.nodes.add_nodes.Goals as goal

pub returns-then-done-count-clause-fault : goal.returns-then-done-count-clause-fault
returns-then-done-count-clause-fault c =
    inr (too_many (with_nodes (nodes_count (view c.args.document.now)) (view c.args.document.now) (map bytes_seen c.args.buffers.now)
    c.args.waiting.now.items (content_of c.args.surface.now))
    (view c.args.document.now) (map bytes_seen c.args.buffers.now) c.loop-done.waiting.items c.nodes_count-count.result c.loop-done.done c.index-index.result.now
    (content_of c.loop-done.surface) (view c.in-Some.node.now) c.loop-done.invariant.same (omega arith) (omega arith) c.index-index.ensures (sym c.in-Some.ensures))

pub returns-in_default-clause-fault : goal.returns-in_default-clause-fault
returns-in_default-clause-fault c =
    inr (next_missing (with_nodes (nodes_count (view c.args.document.now)) (view c.args.document.now) (map bytes_seen c.args.buffers.now)
    c.args.waiting.now.items (content_of c.args.surface.now))
    (view c.args.document.now) (map bytes_seen c.args.buffers.now) c.loop-done.waiting.items c.nodes_count-count.result c.loop-done.done c.index-index.result.now
    (content_of c.loop-done.surface) c.loop-done.invariant.same (omega arith) c.index-index.ensures (sym c.in_default.ensures))

pub returns-in_err-add_node-clause-fault : goal.returns-in_err-add_node-clause-fault
returns-in_err-add_node-clause-fault c =
    let fault : (c.in_err-add_node.field-0.0 ≡ OutOfMemory) ⊎
    (with_nodes (nodes_count (view c.args.document.now)) (view c.args.document.now) (map bytes_seen c.args.buffers.now)
    c.args.waiting.now.items (content_of c.args.surface.now) ≡ Err c.in_err-add_node.field-0.0) =
    node_fault (with_nodes (nodes_count (view c.args.document.now)) (view c.args.document.now) (map bytes_seen c.args.buffers.now)
    c.args.waiting.now.items (content_of c.args.surface.now))
    (view c.args.document.now) (map bytes_seen c.args.buffers.now) c.loop-done.waiting.items c.nodes_count-count.result c.loop-done.done c.index-index.result.now
    (content_of c.loop-done.surface) (view c.in-Some.node.now) c.in_err-add_node.field-0.0 c.loop-done.invariant.same (omega arith) (omega arith)
    c.index-index.ensures (sym c.in-Some.ensures) c.in_err-add_node.ensures.fault in
    search rules

pub returns-in_err-push_children-clause-fault : goal.returns-in_err-push_children-clause-fault
returns-in_err-push_children-clause-fault c =
    let fault : (c.in_err-push_children.field-0.0 ≡ OutOfMemory) ⊎
    (with_nodes (nodes_count (view c.args.document.now)) (view c.args.document.now) (map bytes_seen c.args.buffers.now)
    c.args.waiting.now.items (content_of c.args.surface.now) ≡ Err c.in_err-push_children.field-0.0) =
    children_fault (with_nodes (nodes_count (view c.args.document.now)) (view c.args.document.now) (map bytes_seen c.args.buffers.now)
    c.args.waiting.now.items (content_of c.args.surface.now))
    (view c.args.document.now) (map bytes_seen c.args.buffers.now) c.loop-done.waiting.items c.nodes_count-count.result c.loop-done.done c.index-index.result.now
    (content_of c.loop-done.surface) (content_of c.add_node.new.surface) (view c.in-Some.node.now) c.in_err-push_children.field-0.0
    c.loop-done.invariant.same (omega arith) (omega arith) c.index-index.ensures (sym c.in-Some.ensures)
    c.in_ok-add_node.ensures.ok c.in_err-push_children.ensures.fault in
    search rules

pub loop-done-preserved : goal.loop-done-preserved
loop-done-preserved c = record {
  same = nodes_more (with_nodes (nodes_count (view c.args.document.now)) (view c.args.document.now) (map bytes_seen c.args.buffers.now)
      c.args.waiting.now.items (content_of c.args.surface.now))
      (view c.args.document.now) (map bytes_seen c.args.buffers.now) c.loop-done.waiting.items c.push_children.new.waiting.items
      c.in_ok-push_children.ensures.ok.0 c.nodes_count-count.result c.loop-done.done c.index-index.result.now (content_of c.loop-done.surface) (content_of c.add_node.new.surface)
      (view c.in-Some.node.now) c.loop-done.invariant.same (omega arith) (omega arith) c.index-index.ensures
      (sym c.in-Some.ensures) c.in_ok-add_node.ensures.ok c.in_ok-push_children.ensures.ok.1
      c.in_ok-push_children.ensures.ok.2;
  points = c.in_ok-add_node.ensures.points;
  corners = c.in_ok-add_node.ensures.corners;
}

pub returns-clause-ok : goal.returns-clause-ok
returns-clause-ok c =
    nodes_done (with_nodes (nodes_count (view c.args.document.now)) (view c.args.document.now) (map bytes_seen c.args.buffers.now)
    c.args.waiting.now.items (content_of c.args.surface.now))
    (view c.args.document.now) (map bytes_seen c.args.buffers.now) c.loop-done.waiting.items c.nodes_count-count.result c.loop-done.done (content_of c.loop-done.surface)
    c.loop-done.invariant.same (omega arith)
