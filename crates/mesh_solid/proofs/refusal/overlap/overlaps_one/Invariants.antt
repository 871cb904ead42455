use Rattle.std.proofs.Common.{◌≡◌, ◌∷◌, map, length}
use Rattle.std.specs.List.{list_any}
use Rattle.ember_balance.proofs.SortedSurplus.{Rises}
use Rattle.ember_reread.specs.Cornered.{face_of}
use Rattle.mesh_solid.specs.Refusal.Searches.{overlap}
use Rattle.mesh_solid.proofs.refusal.overlap.overlaps_one.Given as goal

abbrev pub invariant-loop-other : goal.invariant-loop-other
invariant-loop-other l = record {
  found : list_any (overlap (map face_of l.faces) l.number) l.others ≡ list_any (overlap (map face_of l.faces) l.number) l.rest;
  order : Rises (l.number ∷ l.rest);
}

abbrev pub decreases-loop-other : goal.decreases-loop-other
decreases-loop-other l = length l.rest
