use Rattle.std.proofs.Common.{subst, sym}
use Rattle.mesh_boolean.proofs.Readings.{within_more}
use Rattle.ember_arrays.specs.Faults.{IsSurfacesFault}
use Rattle.ember_arrays.proofs.InOrder.{surfaces_more}
use Rattle.ember_arrays.proofs.Refusals.{refused_mesh_is_first}
use Rattle.ember_arrays.proofs.surfaces.surfaces_of.Goals as goal

pub returns-in-Err-clause-fault : goal.returns-in-Err-clause-fault
returns-in-Err-clause-fault c =
    subst (IsSurfacesFault c.args.meshes.now) (sym c.mesh_fault.ensures)
    (refused_mesh_is_first c.args.meshes.now c.loop-index.index _ c.loop-index.surfaces.items c.in-Err.fault
    c.loop-index-test.true c.loop-index.invariant.surfaces c.in-Err.ensures.fault)

pub loop-index-preserved : goal.loop-index-preserved
loop-index-preserved c = record {
  surfaces = surfaces_more c.args.meshes.now c.loop-index.index _ _ _ c.in-Ok.surface c.loop-index-test.true
      c.loop-index.invariant.surfaces c.in_ok-push-in-Ok.ensures.items c.in-Ok.ensures.surface;
  within = within_more _ _ c.in-Ok.surface c.loop-index.invariant.within c.in_ok-push-in-Ok.ensures.items c.in-Ok.ensures.within_limit;
}
