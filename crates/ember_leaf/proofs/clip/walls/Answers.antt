use Rattle.std.proofs.Common.{sym, subst}
use Rattle.ember_model.specs.declared.point.Axis.TheVariants.{X, Y, Z}
use Rattle.ember_box.specs.Regions.{Wall}
use Rattle.ember_leaf.specs.Walls.{wall_of}
use Rattle.ember_leaf.proofs.WallPlanes.{high_taken, low_taken, all_six}
use Rattle.ember_leaf.proofs.clip.walls.Goals as goal

pub returns-clause-planes : goal.returns-clause-planes
returns-clause-planes g c =
    let w = g.met.W.Width in let IsPlane = g.W.Width.IsPlane in let n = g.W.Width.scale in let s = c.aabb_on-aabb.ensures.within in
    all_six (λ v. IsPlane (wall_of v).plane)
    (subst (λ (v : Wall). IsPlane v.plane) (sym c.low_wall.ensures) (low_taken n w.takes w.turns_round w.ends X _ s.x.low))
    (subst (λ (v : Wall). IsPlane v.plane) (sym c.high_wall.ensures) (high_taken n w.takes w.turns_round w.ends X _ s.x.high))
    (subst (λ (v : Wall). IsPlane v.plane) (sym c.low_wall-2.ensures) (low_taken n w.takes w.turns_round w.ends Y _ s.y.low))
    (subst (λ (v : Wall). IsPlane v.plane) (sym c.high_wall-2.ensures) (high_taken n w.takes w.turns_round w.ends Y _ s.y.high))
    (subst (λ (v : Wall). IsPlane v.plane) (sym c.low_wall-3.ensures) (low_taken n w.takes w.turns_round w.ends Z _ s.z.low))
    (subst (λ (v : Wall). IsPlane v.plane) (sym c.high_wall-3.ensures) (high_taken n w.takes w.turns_round w.ends Z _ s.z.high))
