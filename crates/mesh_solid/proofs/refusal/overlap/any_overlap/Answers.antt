use Rattle.std.proofs.Common.{◌||◌, Bool, map, sym, ap, subst, ◌∙◌}
use Rattle.std.specs.List.Sorted.{IsNonDecreasing}
use Rattle.ember_reread.specs.Cornered.{face_of}
use Rattle.mesh_solid.specs.Refusal.Searches.{any_pair, overlap}
use Rattle.mesh_solid.proofs.Searches.{first_is_least, order_behind}
use Rattle.mesh_solid.proofs.refusal.overlap.any_overlap.Goals as goal

pub overlaps_one-requires-clause-least : goal.overlaps_one-requires-clause-least
overlaps_one-requires-clause-least c =
    first_is_least c.in-Some.number.now c.in-Some.behind.now
    (subst IsNonDecreasing c.in-Some.ensures.cases.0 c.loop-number.invariant.order)

pub overlaps_one-requires-clause-order : goal.overlaps_one-requires-clause-order
overlaps_one-requires-clause-order c =
    order_behind c.in-Some.number.now c.in-Some.behind.now
    (subst IsNonDecreasing c.in-Some.ensures.cases.0 c.loop-number.invariant.order)

pub loop-number-preserved : goal.loop-number-preserved
loop-number-preserved c =
    let p = overlap (map face_of c.args.faces.now) in
    let is = c.in-Some.ensures.cases.0 in
    record {
      found = c.loop-number.invariant.found ∙ ap (any_pair p) is
          ∙ ap (λ (b : Bool). b || any_pair p c.in-Some.behind.now) (sym c.overlaps_one.ensures ∙ c.if-overlaps_one.false);
      order = order_behind c.in-Some.number.now c.in-Some.behind.now
          (subst IsNonDecreasing is c.loop-number.invariant.order);
    }
