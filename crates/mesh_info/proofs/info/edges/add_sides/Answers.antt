use Rattle.std.proofs.Common.{◌≡◌, ◌<◌, ℕ, false, length, sym, ap, subst, ◌∙◌, arith}
use Rattle.std.proofs.lemmas.List.{length-replicate}
use Rattle.mesh_info.proofs.EdgeUses.{AreCounted, all_counted, down_counts, none_counted, side_added, side_passed, up_counts}
use Rattle.mesh_info.proofs.info.edges.add_sides.Goals as goal
use Rattle.mesh_info.proofs.info.edges.add_sides.Goals.{in-Some, in-None}

pub loop-side-init : goal.loop-side-init
loop-side-init c = record {
  many = ap length c.requires ∙ length-replicate _ _;
  counted = none_counted c.args.edges.now.keys c.args.sides.now c.args.uses.now c.requires;
}

pub returns : goal.returns
returns c = λ is.
    let at : c.loop-side.side-index ≡ length c.args.sides.now = omega arith in
    all_counted c.args.edges.now.keys c.args.sides.now c.loop-side.uses is c.loop-side.invariant.many
    (subst (λ (i : ℕ). AreCounted c.args.edges.now.keys c.args.sides.now i c.loop-side.uses) at c.loop-side.invariant.counted)

pub loop-side-preserved : goal.loop-side-preserved
loop-side-preserved c = record {
  many = c.match-get_index_of.auto.uses ∙ c.loop-side.invariant.many;
  counted =
      elim c.match-get_index_of.branch [
        | in-Some w ↦ side_added c.args.edges.now.keys c.args.sides.now c.loop-side.side-index _ w.in-Some.number
            c.loop-side.uses c.match-get_index_of.uses c.loop-side-test.true
            (sym c.get_index_of.ensures.index ∙ w.in-Some.is)
            (subst (λ (n : ℕ). w.in-Some.number < n) (sym c.loop-side.invariant.many) w.in-Some.ensures.within)
            c.loop-side.invariant.counted (w.uses-is ∙ w.add_use.ensures)
        | in-None w ↦ side_passed c.args.edges.now.keys c.args.sides.now c.loop-side.side-index _ c.loop-side.uses
            c.match-get_index_of.uses c.loop-side-test.true (sym c.get_index_of.ensures.index ∙ w.in-None.is)
            c.loop-side.invariant.counted w.uses-is
      ];
}

pub add_use-requires-clause-up : goal.add_use-requires-clause-up
add_use-requires-clause-up c =
    up_counts c.args.edges.now.keys c.args.sides.now c.loop-side.side-index
    (record { edge = record { low = 0; high = 0 }; rises = false }) c.loop-side.uses c.in-Some.number
    c.loop-side-test.true (omega arith) c.loop-side.invariant.counted c.in-Some.ensures.within

pub add_use-requires-clause-down : goal.add_use-requires-clause-down
add_use-requires-clause-down c =
    down_counts c.args.edges.now.keys c.args.sides.now c.loop-side.side-index
    (record { edge = record { low = 0; high = 0 }; rises = false }) c.loop-side.uses c.in-Some.number
    c.loop-side-test.true (omega arith) c.loop-side.invariant.counted c.in-Some.ensures.within
