use Rattle.std.proofs.Common.{◌≡◌, ℕ, ◌≤◌, map, length, take, Some, slice_get}
use Rattle.std.specs.List.{AllZip, IsDistinct}
use Rattle.ember_reread.specs.Cornered.{face_of}
use Rattle.mesh_solid.specs.Refusal.Searches.{index_in, HasPlane}
use Rattle.mesh_solid.specs.Tables.Numberings.{plane_of, same_entry}
use Rattle.mesh_solid.proofs.refusal.numbered.numbers_of.Given as goal

abbrev pub invariant-loop-index : goal.invariant-loop-index
invariant-loop-index l = record {
  few : length l.planes.keys ≤ l.index;
  distinct : IsDistinct same_entry l.planes.keys;
  each : AllZip (HasPlane (map plane_of l.planes.keys)) (map face_of (take l.index l.faces)) l.numbers.items;
  indices : (i n : ℕ) → slice_get l.numbers.items i ≡ Some n → index_in n ≡ i;
  many : length l.numbers.items ≡ l.index;
}
