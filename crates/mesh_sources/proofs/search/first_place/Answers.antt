use Rattle.std.proofs.Common.{◌≡◌, refl, subst, arith, ℕ, ◌+◌, ◌-◌, ◌<◌, get_or}
use Rattle.mesh_sources.specs.Nodes.{IsFoundFrom}
use Rattle.mesh_sources.proofs.Placed.{clash}
use Rattle.mesh_sources.proofs.NodeLists.{no_node, node_here, node_starts}
use Rattle.mesh_sources.proofs.Found.{found_skipped}
use Rattle.mesh_sources.proofs.Skipped.{none_skipped}
use Rattle.mesh_sources.proofs.search.first_place.Goals as goal

pub loop-end-preserved-then-meets : goal.loop-end-preserved-then-meets
loop-end-preserved-then-meets c =
    let ns = c.args.nodes.now in let f = c.args.facet.now in let at = c.loop-end in
    let some : 0 < at.end = omega (arith, c.loop-end-test.true) in
    let last : at.end ≡ at.end - 1 + 1 = omega (arith, some) in
    record {
      found =
          c.found_with-found.ensures ns (at.end - 1) (get_or ns (at.end - 1) no_node) (node_here ns at.end no_node some at.invariant.within) refl
          (subst (λ (k : ℕ). IsFoundFrom ns k f at.found) last at.invariant.found);
      within = omega (arith, at.invariant.within);
    }

pub loop-end-smaller : goal.loop-end-smaller
loop-end-smaller c =
    node_starts c.args.nodes.now c.loop-end.end no_node (omega (arith, c.loop-end-test.true)) c.loop-end.invariant.within
    c.requires.nodes

pub loop-end-preserved : goal.loop-end-preserved
loop-end-preserved c =
    let ns = c.args.nodes.now in let f = c.args.facet.now in let at = c.loop-end in
    let some : 0 < at.end = omega (arith, c.loop-end-test.true) in
    record {
      found =
          found_skipped ns (get_or ns (at.end - 1) no_node).start at.end f at.found at.invariant.found
          (none_skipped ns at.end no_node some at.invariant.within c.requires.nodes c.requires.valid c.args.bounds.now f
          c.requires.bounds (λ m. clash c.if-meets.false (c.meets.ensures.1 m)));
      within = omega (arith, at.invariant.within, node_starts ns at.end no_node some at.invariant.within c.requires.nodes);
    }

pub returns : goal.returns
returns c =
    let none : c.loop-end.end ≡ 0 = omega (arith, c.loop-end-test.false) in
    subst (λ (k : ℕ). IsFoundFrom c.args.nodes.now k c.args.facet.now c.loop-end.found) none c.loop-end.invariant.found
