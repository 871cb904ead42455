use Rattle.std.proofs.Common.{◌≡◌, false, take, drop}
use Rattle.mesh_place.specs.AffineMaps.{affine_of, is_flattening}
use Rattle.mesh_place.specs.Steps.{IsMapOfSteps, fault_from}
use Rattle.mesh_place.proofs.maps.stepwise.map_of_steps.Given as goal

abbrev pub invariant-loop-number : goal.invariant-loop-number
invariant-loop-number l = record {
  map : IsMapOfSteps (take l.number l.steps) (affine_of l.all);
  space : is_flattening (affine_of l.all) ≡ false;
  fault : fault_from 0 0 l.steps ≡ fault_from l.number l.all.places (drop l.number l.steps);
}
