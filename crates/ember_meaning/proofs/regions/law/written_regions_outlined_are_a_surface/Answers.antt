use Rattle.std.proofs.Common.{pos, ◌*ℤ◌, ◌<ℤ◌, subst}
use Rattle.ember_meaning.proofs.ReadFaces.{outlines_are_a_surface}
use Rattle.ember_meaning.proofs.regions.law.written_regions_outlined_are_a_surface.Goals as goal

pub returns : goal.returns
returns g c =
    let w = g.met.W.Width in
    let holds = subst (λ u. pos g.W.Width.corner <ℤ (pos 2048 *ℤ u)) w.unit_is w.holds in
    λ scene v f ks faces r o a. outlines_are_a_surface g.W.Width g.W.Width.scale g.W.Width.corner holds scene f ks faces v r o a
