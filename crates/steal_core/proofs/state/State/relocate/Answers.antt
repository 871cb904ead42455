use Rattle.std.proofs.Common.{◌∙◌, ap, refl, subst, slice_set, slice_index_or}
use Rattle.steal_core.specs.declared.place.Placed.{Placed}
use Rattle.steal_core.specs.Core.{core, placed}
use Rattle.steal_core.proofs.CodeSteps.{Relocates, box_is_relocated, at_seam}
use Rattle.steal_core.proofs.state.State.relocate.Goals as goal

pub returns : goal.returns
returns c =
    subst (λ s. Relocates c.args.i c.args.to s (core c.self.inside.workers c.self.inside.room
    (slice_set c.self.inside.boxes.items c.args.i (placed c.args.to c.index.result.now.path)))) c.self.view_is
    (box_is_relocated c.args.i c.index.result.now.path c.args.to c.self.inside.boxes.items
    (slice_set c.self.inside.boxes.items c.args.i (placed c.args.to c.index.result.now.path)) c.self.inside.workers
    c.self.inside.room
    (λ front back s here there. ap (λ (x : Placed). x.path)
    (c.index.ensures ∙ ap (λ xs. slice_index_or xs c.args.i c.index.result.now) here
    ∙ at_seam front back s c.index.result.now c.args.i there))
    refl)
