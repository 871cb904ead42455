use Rattle.std.proofs.Common.{[], ◌∷◌, ap, arith, length}
use Rattle.std.proofs.lemmas.List.{length-append}
use Rattle.mesh_placing.proofs.FilePlacings.{placings_more}
use Rattle.mesh_placing.proofs.files.placings_of.Goals as goal

pub loop-index-preserved : goal.loop-index-preserved
loop-index-preserved c =
    let added = c.in_ok-push.ensures.items in
    record {
      each = placings_more c.args.files c.args.places.now c.args.turns.now c.loop-index.index c.loop-index.placings.items _ _
          c.loop-index.invariant.each c.in_ok-placing_of.ensures.placing added;
      all = omega (arith, ap length added, length-append c.loop-index.placings.items (c.in_ok-placing_of.field-0 ∷ []), c.loop-index.invariant.all);
    }
