use Rattle.std.proofs.Common.{refl, sym, ap, ◌∙◌, [], ◌∷◌, ◌++◌, append_assoc}
use Rattle.std.specs.Vec.Iter.{into_iter_items}
use Rattle.std.proofs.lemmas.List.{append-nil}
use Rattle.ember_algebra.specs.Relations.{none}
use Rattle.ember_expr.specs.Formula.{formula_of}
use Rattle.ember_box.specs.Boxes.{in_steps}
use Rattle.ember_leaf.specs.KeptRegions.{tris_of}
use Rattle.ember_leaf.specs.Written.{IsWrittenOfRegion}
use Rattle.ember_leaf.proofs.RegionOrder.{placed_push}
use Rattle.ember_leaf.proofs.WrittenRegions.{grown_none, grown_more, grown_owned, all_yielded}
use Rattle.ember_leaf.proofs.leaf.Leaf.add_written.Goals as goal

pub loop-ring-init : goal.loop-ring-init
loop-ring-init g c = (c.requires.kept, grown_none _ c.args.kept.now.items (λ scene h. none), refl)

pub loop-ring-preserved-in-Continue-1 : goal.loop-ring-preserved-in-Continue-1
loop-ring-preserved-in-Continue-1 g c =
    let s = c.args.self.now in let at = c.loop-ring in let r = c.in-Some.ring in let ns = tris_of s.near.now in (
      placed_push s.near.now c.args.i at.kept.items c.push.new.self.items c.in-Some-written_region.k c.requires.index
          at.invariant.0 c.in-Some-written_region.ensures.placed c.in_ok-push.ensures.items,
      grown_more g.W.Width.corner g.W.Width.fine ns (in_steps g.W.Width.scale s.cell.now) s.windings.now.counts
          (λ scene. IsWrittenOfRegion scene (formula_of s.expr.now) ns c.args.i) at.yielded r c.args.kept.now.items
          at.kept.items c.push.new.self.items (c.in-Some-written_region.k ∷ []) at.invariant.1
          c.in-Some-written_region.ensures.written c.in_ok-push.ensures.items,
      append_assoc at.yielded (r ∷ []) (into_iter_items c.next.new.self)
          ∙ ap (λ l. at.yielded ++ l) (sym c.in-Some.ensures.steps.0) ∙ at.invariant.2,
    )

pub loop-ring-preserved : goal.loop-ring-preserved
loop-ring-preserved g c =
    let s = c.args.self.now in let at = c.loop-ring in let r = c.in-Some.ring in let ns = tris_of s.near.now in (
      at.invariant.0,
      grown_more g.W.Width.corner g.W.Width.fine ns (in_steps g.W.Width.scale s.cell.now) s.windings.now.counts
          (λ scene. IsWrittenOfRegion scene (formula_of s.expr.now) ns c.args.i) at.yielded r c.args.kept.now.items
          at.kept.items at.kept.items [] at.invariant.1 c.in_default.ensures.written (sym (append-nil at.kept.items)),
      append_assoc at.yielded (r ∷ []) (into_iter_items c.next.new.self)
          ∙ ap (λ l. at.yielded ++ l) (sym c.in-Some.ensures.steps.0) ∙ at.invariant.2,
    )

pub returns-clause-written : goal.returns-clause-written
returns-clause-written g c =
    let s = c.args.self.now in let at = c.loop-ring in
    grown_owned g.W.Width.corner g.W.Width.fine (tris_of s.near.now) (in_steps g.W.Width.scale s.cell.now) s.windings.now.counts (formula_of s.expr.now) c.args.i at.yielded
    c.args.list.items c.args.kept.now.items at.kept.items at.invariant.1
    (all_yielded at.yielded (into_iter_items at.ring-iterator) at.invariant.2
    (sym at.ring-iterator.rest.ok.0 ∙ c.in-None.ensures.steps.0) c.into_iter-ring-iterator.ensures.into_iter_gives.0)
    c.requires.regions
