-- Rounded triangles over points
use Rattle.std.specs.Prelude.{◌≡◌, ℕ, true, false, List, [], map}
use Rattle.std.specs.Global.{Vec}
use Rattle.std.specs.declared.option.Option.{Option}
use Rattle.std.specs.declared.option.Option.TheVariants.{None, Some}
use Rattle.mesh_boolean.specs.Effects.{over_vertices}
use Rattle.mesh_boolean.specs.declared.split.SplitDecimals.{SplitDecimals}
use Rattle.mesh_manifold.specs.Cuts.{AreCutOf, origins_from}
use Rattle.mesh_manifold.specs.Paired.{IsManifold}
use Rattle.mesh_manifold.specs.Splits.{AreSplitOf}
use Rattle.mesh_manifold.specs.declared.edge_set.PointEdge.{PointEdge}
use Rattle.mesh_manifold.specs.declared.split.SplitMesh.{SplitMesh}
use Rattle.mesh_manifold.specs.declared.split.CheckedSplit.{CheckedSplit}
use Rattle.mesh_write.specs.Vertices.Vertices.{IsMeshOf, point_at, vertices_of}
use Rattle.mesh_write.specs.declared.vertices.mesh.IndexedMesh.{IndexedMesh}
use Rattle.mesh_write.specs.declared.vertices.point.DecimalTriangle.{DecimalTriangle}

-- the indices of the triangles that the pieces are cut of, when triangles are cut along these edges; they are left out
-- only if no edge is cut
abbrev pub AreOriginsOf : List PointEdge → List DecimalTriangle → Option (Vec ℕ) → Type 0
AreOriginsOf edges ts None = edges ≡ []
AreOriginsOf edges ts (Some origins) = origins.items ≡ origins_from edges 0 ts

-- triangles, some of them cut at the middles of their edges: each of their points is there, some of them more than
-- once. If this is called manifold, each edge has two triangles; otherwise none is cut. For each triangle it is known
-- which one it is cut of
pub record AreDecimalsOver (ts : List DecimalTriangle) (over : SplitDecimals) : Type 0 where
  pub cut : List DecimalTriangle
  pub are_cut : AreCutOf ts cut
  pub split : SplitMesh
  pub are_split : AreSplitOf split (over_vertices cut)
  pub points : over.points.items ≡ map (point_at (vertices_of cut)) split.origins.items
  pub triangles : over.triangles.items ≡ split.triangles.items
  pub manifold : over.is_manifold ≡ true → IsManifold split.triangles.items
  pub whole : over.is_manifold ≡ false → cut ≡ ts
  pub origins : AreOriginsOf are_cut.edges ts over.origins

-- it is so of triangles if this is a mesh of them, some of them cut, and this is its split; if that isn't called
-- manifold, none is cut, and if it is, each edge has two triangles. These are the indices of the triangles that its
-- pieces are cut of
abbrev pub IfSplitOver : IndexedMesh → CheckedSplit → Option (Vec ℕ) → (List DecimalTriangle → Type 0) → Type 0
IfSplitOver mesh split origins Is =
    (ts cut : List DecimalTriangle) → (are_cut : AreCutOf ts cut) → IsMeshOf cut mesh →
    AreSplitOf split.mesh (over_vertices cut) → (split.is_manifold ≡ true → IsManifold split.mesh.triangles.items) →
    (split.is_manifold ≡ false → cut ≡ ts) → AreOriginsOf are_cut.edges ts origins → Is ts
