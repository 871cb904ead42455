use Rattle.std.proofs.Common.{◌<◌, arith}
use Rattle.mesh_sources.proofs.Bounded.{bounds_link}
use Rattle.mesh_sources.proofs.NodeLists.{no_node, node_starts, joined_more}
use Rattle.mesh_sources.proofs.nodes.joined_from.Goals as goal

pub loop-end-smaller : goal.loop-end-smaller
loop-end-smaller c =
    node_starts c.args.nodes.now c.loop-end.end no_node (omega (arith, c.loop-end-test.true)) c.loop-end.invariant.within
    c.requires.nodes

pub loop-end-preserved : goal.loop-end-preserved
loop-end-preserved c =
    let ns = c.args.nodes.now in let at = c.loop-end in let some : 0 < at.end = omega (arith, c.loop-end-test.true) in
    record {
      own = bounds_link at.invariant.own c.joined-bounds.ensures.one;
      from =
          joined_more ns at.end no_node some at.invariant.within c.requires.nodes at.bounds c.joined-bounds.result at.invariant.from
          c.joined-bounds.ensures.one c.joined-bounds.ensures.other;
      within = omega (arith, at.invariant.within, node_starts ns at.end no_node some at.invariant.within c.requires.nodes);
    }

pub returns-clause-nodes : goal.returns-clause-nodes
returns-clause-nodes c j n l e =
    c.loop-end.invariant.from j n (omega (arith, l, c.loop-end-test.false)) e
