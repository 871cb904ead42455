use Rattle.std.proofs.Common.{subst}
use Rattle.ember_model.specs.Planes.{value_at}
use Rattle.ember_poly.specs.declared.reach_and_cut.Reach.TheVariants.{Below, Above, On, Both}
use Rattle.ember_poly.specs.Passages.{AreSigns}
use Rattle.ember_poly.proofs.CornerSigns.{neg_out, zero_out, pos_out, seen_zero, seen_low, seen_high}
use Rattle.ember_poly.proofs.reaching.with_corner.Goals as goal

pub returns-in-Zero : goal.returns-in-Zero
returns-in-Zero g c =
    λ p ms m s e. seen_zero g.W.Width.spot p ms m c.args.seen (zero_out (value_at p (g.W.Width.spot m)) e c.in-Zero.is) s

pub returns-in-Below : goal.returns-in-Below
returns-in-Below g c =
    λ p ms m s e. seen_low g.W.Width.spot p ms m Below (neg_out (value_at p (g.W.Width.spot m)) e c.in-Neg.is)
    (subst (λ r. AreSigns g.W.Width.spot p ms r) c.in-Below.is s)

pub returns-in-Above : goal.returns-in-Above
returns-in-Above g c =
    λ p ms m s e. seen_low g.W.Width.spot p ms m Above (neg_out (value_at p (g.W.Width.spot m)) e c.in-Neg.is)
    (subst (λ r. AreSigns g.W.Width.spot p ms r) c.in-Above.is s)

pub returns-in-On : goal.returns-in-On
returns-in-On g c =
    λ p ms m s e. seen_low g.W.Width.spot p ms m On (neg_out (value_at p (g.W.Width.spot m)) e c.in-Neg.is)
    (subst (λ r. AreSigns g.W.Width.spot p ms r) c.in-On.is s)

pub returns-in-Both : goal.returns-in-Both
returns-in-Both g c =
    λ p ms m s e. seen_low g.W.Width.spot p ms m Both (neg_out (value_at p (g.W.Width.spot m)) e c.in-Neg.is)
    (subst (λ r. AreSigns g.W.Width.spot p ms r) c.in-Both.is s)

pub returns-in-Below-seen : goal.returns-in-Below-seen
returns-in-Below-seen g c =
    λ p ms m s e. seen_high g.W.Width.spot p ms m Below (pos_out (value_at p (g.W.Width.spot m)) e c.in-Pos.is)
    (subst (λ r. AreSigns g.W.Width.spot p ms r) c.in-Below-seen.is s)

pub returns-in-Above-seen : goal.returns-in-Above-seen
returns-in-Above-seen g c =
    λ p ms m s e. seen_high g.W.Width.spot p ms m Above (pos_out (value_at p (g.W.Width.spot m)) e c.in-Pos.is)
    (subst (λ r. AreSigns g.W.Width.spot p ms r) c.in-Above-seen.is s)

pub returns-in-On-seen : goal.returns-in-On-seen
returns-in-On-seen g c =
    λ p ms m s e. seen_high g.W.Width.spot p ms m On (pos_out (value_at p (g.W.Width.spot m)) e c.in-Pos.is)
    (subst (λ r. AreSigns g.W.Width.spot p ms r) c.in-On-seen.is s)

pub returns-in-Both-seen : goal.returns-in-Both-seen
returns-in-Both-seen g c =
    λ p ms m s e. seen_high g.W.Width.spot p ms m Both (pos_out (value_at p (g.W.Width.spot m)) e c.in-Pos.is)
    (subst (λ r. AreSigns g.W.Width.spot p ms r) c.in-Both-seen.is s)
