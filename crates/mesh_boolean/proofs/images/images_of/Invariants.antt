use Rattle.std.proofs.Common.{take}
use Rattle.mesh_boolean.specs.Images.{AllOfThree, IsImageIf}
use Rattle.mesh_boolean.proofs.images.images_of.Given as goal

abbrev pub invariant-loop-index : goal.invariant-loop-index
invariant-loop-index l = AllOfThree IsImageIf (take l.index l.placings) (take l.index l.surfaces) l.images.items
