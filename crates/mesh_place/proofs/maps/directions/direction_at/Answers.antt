use Rattle.std.proofs.Common.{◌∙◌, ap, add-one, ℕ, sym}
use Rattle.mesh_place.specs.Directions.{quarters_further, quarter_further}
use Rattle.mesh_place.proofs.maps.directions.direction_at.Goals as goal

pub loop-quarter-preserved : goal.loop-quarter-preserved
loop-quarter-preserved c =
    let inv = c.loop-quarter.invariant in
    record {
      within = inv.within;
      first = inv.first;
      further = c.quarter_further-direction.ensures ∙ ap quarter_further inv.further
          ∙ sym (ap (λ (n : ℕ). quarters_further n inv.within) (add-one c.loop-quarter._quarter));
    }
