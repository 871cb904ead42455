use Rattle.std.proofs.Common.{◌≡◌, true, take}
use Rattle.ember_model.specs.Rays.{point_on_ray}
use Rattle.ember_model.specs.ClearTest.{all_negative}
use Rattle.ember_model.proofs.values.all_negative.Given as goal

abbrev pub invariant-loop-edge : goal.invariant-loop-edge
invariant-loop-edge l = all_negative (take l.edge-index l.edges) (point_on_ray l.p l.ray_point) ≡ true
