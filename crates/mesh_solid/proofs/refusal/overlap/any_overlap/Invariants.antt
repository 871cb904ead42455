use Rattle.std.proofs.Common.{◌≡◌, map, length}
use Rattle.std.specs.List.Sorted.{IsNonDecreasing}
use Rattle.ember_reread.specs.Cornered.{face_of}
use Rattle.mesh_solid.specs.Refusal.Searches.{any_pair, overlap}
use Rattle.mesh_solid.proofs.refusal.overlap.any_overlap.Given as goal

abbrev pub invariant-loop-number : goal.invariant-loop-number
invariant-loop-number l = record {
  found : any_pair (overlap (map face_of l.faces)) l.numbers ≡ any_pair (overlap (map face_of l.faces)) l.rest;
  order : IsNonDecreasing l.rest;
}

abbrev pub decreases-loop-number : goal.decreases-loop-number
decreases-loop-number l = length l.rest
