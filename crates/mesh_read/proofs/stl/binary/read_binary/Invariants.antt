use Rattle.std.proofs.Common.{◌≡◌, ◌≤◌, ◌-◌, ◌*◌, length, Ok}
use Rattle.mesh_read.specs.Surface.Surfaces.{content_of, IsSurface}
use Rattle.mesh_read.specs.Stl.Binary.{first_facets}
use Rattle.mesh_read.proofs.stl.binary.read_binary.Given as goal

abbrev pub invariant-loop-facet : goal.invariant-loop-facet
invariant-loop-facet l = record {
  same : first_facets l.bytes l.facet ≡ Ok (content_of l.surface);
  count : length l.surface.vertices.items ≡ 3 * l.facet;
  surface : IsSurface l.surface;
  within : l.facet ≤ l.count;
}

abbrev pub decreases-loop-facet : goal.decreases-loop-facet
decreases-loop-facet l = l.count - l.facet
