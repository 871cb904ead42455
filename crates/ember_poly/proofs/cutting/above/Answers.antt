use Rattle.std.proofs.Common.{sym, subst}
use Rattle.ember_model.specs.Faces.{Cuts}
use Rattle.ember_poly.proofs.ReachBySigns.{cuts_opposite}
use Rattle.ember_poly.proofs.cutting.above.Goals as goal

pub below-requires-clause-cuts : goal.below-requires-clause-cuts
below-requires-clause-cuts g c =
    let p = c.args.p.now in
    subst (λ q. Cuts c.args.r q) (sym c.opposite.ensures) (cuts_opposite c.args.r p c.requires.cuts)

pub opposite-requires : goal.opposite-requires
opposite-requires g c = g.met.W.Width.is_broad c.args.p.now c.requires.plane

pub below-requires-clause-plane : goal.below-requires-clause-plane
below-requires-clause-plane g c =
    subst (λ q. g.W.Width.IsPlane q) (sym c.opposite.ensures) (g.met.W.Width.turns_round c.args.p.now c.requires.plane)
