use Rattle.std.proofs.Common.{◌≡◌, drop}
use Rattle.mesh_placing.specs.ShapeWords.{first_shape_fault}
use Rattle.mesh_placing.proofs.shapes.first_shape_fault.Given as goal

abbrev pub invariant-loop-word : goal.invariant-loop-word
invariant-loop-word l = first_shape_fault l.words ≡ first_shape_fault (drop l.word-index l.words)
