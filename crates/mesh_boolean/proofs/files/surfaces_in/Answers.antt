use Rattle.mesh_boolean.proofs.Readings.{readings_more, within_more}
use Rattle.mesh_boolean.proofs.Refusals.{refused_file_is_first}
use Rattle.mesh_boolean.proofs.files.surfaces_in.Goals as goal

pub returns-in-Err-clause-fault : goal.returns-in-Err-clause-fault
returns-in-Err-clause-fault g c =
    refused_file_is_first c.args.files.now c.loop-index.index _ c.loop-index.surfaces.items c.in-Err.fault
    c.loop-index-test.true c.loop-index.invariant.readings c.in-Err.ensures.fault

pub loop-index-preserved : goal.loop-index-preserved
loop-index-preserved g c = record {
  readings = readings_more c.args.files.now c.loop-index.index _ _ _ c.in-Ok.surface c.loop-index-test.true
      c.loop-index.invariant.readings c.in_ok-push-in-Ok.ensures.items c.in-Ok.ensures.says;
  within = within_more _ _ c.in-Ok.surface c.loop-index.invariant.within c.in_ok-push-in-Ok.ensures.items c.in-Ok.ensures.within;
}
