use Rattle.std.proofs.Common.{refl, subst}
use Rattle.mesh_grid.specs.declared.snap.steps.GridStep.{GridStep}
use Rattle.mesh_grid.specs.declared.snap.spans.Coordinates.{Coordinates}
use Rattle.mesh_grid.specs.Snap.Spans.{FitsAll}
use Rattle.mesh_grid.specs.declared.grid.choice.Wanted.{Wanted}
use Rattle.mesh_grid.specs.declared.grid.choice.Wanted.TheVariants.{Nice, Finest, Given}
use Rattle.mesh_grid.specs.declared.grid.extent.SceneExtent.{SceneExtent}
use Rattle.mesh_grid.specs.Grid.Grids.{IsWantedStep, IsExtent, IsTooSmall}
use Rattle.mesh_grid.proofs.grid.choice.grid_for.Goals as goal

-- only a given step can be too small
given_is_too_small : (c : Coordinates) (wanted : Wanted) (step : GridStep) (e : SceneExtent) → IsWantedStep wanted c step →
    (FitsAll step c → ⊥) → IsExtent c e → IsTooSmall c wanted e
given_is_too_small c Nice step e h unfit is = absurd (unfit h.fits)
given_is_too_small c Finest step e h unfit is = absurd (unfit h.fits)
given_is_too_small c (Given given) step e h unfit is = record {
  given = given;
  is_given = refl;
  too_small = subst (λ (s : GridStep). FitsAll s c → ⊥) h unfit;
  is_extent = is;
}

pub returns-in-None-clause-fault : goal.returns-in-None-clause-fault
returns-in-None-clause-fault c =
    given_is_too_small c.args.coordinates.now c.args.wanted c.wanted_step-step.result c.extent_of.result
    c.wanted_step-step.ensures.value c.in-None.ensures.none c.extent_of.ensures
