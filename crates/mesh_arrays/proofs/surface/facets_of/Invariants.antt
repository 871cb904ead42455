use Rattle.std.proofs.Common.{◌≡◌, All, take}
use Rattle.mesh_read.specs.Surface.Surfaces.{IsWithin}
use Rattle.mesh_arrays.specs.Arrays.{facets_from}
use Rattle.mesh_arrays.specs.Faults.{AreWithin}
use Rattle.mesh_arrays.proofs.surface.facets_of.Given as goal

abbrev pub invariant-loop-index : goal.invariant-loop-index
invariant-loop-index l = record {
  facets : l.facets.items ≡ facets_from 1 (take l.index l.triangles);
  within : All (IsWithin l.count) l.facets.items;
  before : All (AreWithin l.count) (take l.index l.triangles);
}
