use Rattle.std.proofs.Common.{◌≡◌, drop}
use Rattle.mesh_placing.specs.Files.{first_place_fault}
use Rattle.mesh_placing.proofs.files.first_place_fault.Given as goal

abbrev pub invariant-loop-place : goal.invariant-loop-place
invariant-loop-place l = first_place_fault l.files (drop l.place-index l.places) ≡ first_place_fault l.files l.places
