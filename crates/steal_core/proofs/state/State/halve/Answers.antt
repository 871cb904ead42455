use Rattle.std.proofs.Common.{sym, ◌∙◌, ap, ◌++◌, ◌∷◌, [], ◌*◌, ◌+◌, subst}
use Rattle.steal_core.specs.Core.{Core, Halves, FirstAt, core, placed, is_held}
use Rattle.steal_core.proofs.CodeSteps.{steps_halve}
use Rattle.steal_core.proofs.state.State.halve.Goals as goal

pub returns : goal.returns
returns c =
    subst (λ s. Halves c.args.by c.args.path c.args.right s (core c.self.inside.workers c.self.inside.room c.push_reserved-2.new.self.items)) c.self.view_is
    (steps_halve c.args.by c.args.path c.args.i c.args.right c.self.inside.boxes.items c.push_reserved-2.new.self.items
    c.self.inside.workers c.self.inside.room (subst
    (λ (s : Core). FirstAt (is_held c.args.by c.args.path) s.boxes c.args.i) (sym c.self.view_is) c.requires.at)
    (c.push_reserved-2.ensures.items ∙ ap (λ xs. xs ++ placed c.args.right (2 * c.args.path + 1) ∷ [])
    c.push_reserved.ensures.items))
