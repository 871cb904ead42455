-- The arrays of the mesh of a scene are a solid, and mean its expression
use Rattle.std.proofs.Common.{◌≡◌, ℕ, ℤ, Bool, true, List, None, Some, false, length, refl, sym, subst, ◌∙◌}
use Rattle.std.specs.Global.{Vec}
use Rattle.std.specs.declared.option.Option.{Option}
use Rattle.ember_expr.specs.Formula.{Formula}
use Rattle.ember_meaning.specs.Regions.Meaning.{IsFalseOutside}
use Rattle.ember_model.specs.declared.tri.Tri.{Tri}
use Rattle.mesh_arrays.specs.declared.mesh.ArrayMesh.{ArrayMesh}
use Rattle.mesh_boolean.specs.Effects.{decimals_of}
use Rattle.mesh_boolean.specs.Lying.{AreLyingCounts}
use Rattle.mesh_boolean.specs.Volumes.{sixfold_volumes_of_meshes}
use Rattle.mesh_boolean.proofs.Outputs.{counted_on_files}
use Rattle.mesh_grid.specs.declared.grid.choice.Wanted.{Wanted}
use Rattle.mesh_grid.specs.declared.grid.grid.Grid.{Grid}
use Rattle.mesh_scene.specs.Scene.Images.{images_of}
use Rattle.mesh_scene.specs.declared.scene.scene.PlacedScene.{PlacedScene}
use Rattle.mesh_solid.specs.Mesh.Asked.{IsThereIf}
use Rattle.mesh_solid.specs.Mesh.Meshes.{IsDocumentMesh, IsSolidRun}
use Rattle.mesh_solid.specs.declared.mesh.mesh.SolidMesh.{SolidMesh}
use Rattle.mesh_solid.specs.declared.mesh.solid.SolidRun.{SolidRun}
use Rattle.mesh_solid.proofs.MeshMeaning.{mesh_means, mesh_winds_once_at_most}
use Rattle.mesh_written.specs.Closed.{AreDecimalsClosed}
use Rattle.mesh_written.specs.Digits.{written_places}
use Rattle.mesh_written.proofs.DecimalsClosed.{decimals_are_closed}
use Rattle.mesh_written.proofs.WrittenClosed.{certified_are_closed}
use Rattle.ember_arrays.specs.Meshes.{IsPlaced}
use Rattle.ember_arrays.specs.Solids.{AreArrays, IsArraySolid, MeansFormula}
use Rattle.ember_arrays.specs.Sources.{AreSources, AreSourcesIf, inputs_from}
use Rattle.ember_arrays.specs.declared.arrays.Arrays.{Arrays}
use Rattle.ember_arrays.specs.declared.inputs.InputTriangle.{InputTriangle}
use Rattle.ember_arrays.specs.declared.solid.ArraySolid.{ArraySolid}
use Rattle.ember_arrays.specs.declared.sources.ArraySource.{ArraySource}

-- the rounded triangles of a document's mesh are closed
decimals_of_mesh_are_closed : (bytes : List ℕ) (digits : Option ℕ) (grid : Grid) (mesh : SolidMesh) → IsDocumentMesh bytes mesh →
    AreDecimalsClosed (decimals_of digits grid mesh)
decimals_of_mesh_are_closed bytes digits grid mesh is =
    decimals_are_closed (written_places digits grid.step) grid.step grid.offset mesh.corners.items mesh.triangles.items
    (certified_are_closed mesh.planes.items is.tables.lines.items mesh.corners.items is.tables.segments.items
    mesh.triangles.items is.cut.certified)

-- the sources are there exactly if they are wanted, if the triangles of the meshes are
sources_are_there : (wants : Bool) (wanted : List InputTriangle) (inputs : Option (Vec InputTriangle)) (scene : List Tri) (mesh : SolidMesh)
    (origins : List ℕ) (sources : Option (Vec ArraySource)) → IsThereIf wants (λ inputs. inputs.items ≡ wanted) inputs →
    AreSourcesIf inputs scene mesh origins sources → IsThereIf wants (AreSources wanted scene mesh origins) sources
sources_are_there wants wanted None scene mesh origins None there are = there
sources_are_there wants wanted None scene mesh origins (Some sources) there are = absurd are
sources_are_there wants wanted (Some inputs) scene mesh origins None there are = absurd are
sources_are_there wants wanted (Some inputs) scene mesh origins (Some sources) there are =
    (there.0, subst (λ (xs : List InputTriangle). AreSources xs scene mesh origins sources) there.1 are)

-- the arrays of the mesh of the meshes' scene are a solid
module _ (meshes : List ArrayMesh) (formula : Formula) (wanted : Wanted) (digits : Option ℕ) (placed : PlacedScene)
    (is : IsPlaced meshes wanted placed) where
  pub arrays_are_solid : (meshed : SolidRun) → IsSolidRun placed.scene.tris formula false meshed → (arrays : Arrays) →
      AreArrays digits placed.grid meshed.mesh arrays → (volumes : Vec ℤ) →
      volumes.items ≡ sixfold_volumes_of_meshes placed.scene.tris placed.scene.meshes →
      (lying : Option (Vec ℕ)) → IsThereIf true
      (λ (counts : Vec ℕ). AreLyingCounts placed.scene.tris placed.scene.meshes meshed.mesh counts.items) lying →
      (wants : Bool) (inputs : Option (Vec InputTriangle)) →
      IsThereIf wants (λ inputs. inputs.items ≡ inputs_from placed.grid 1 is.surfaces) inputs →
      (sources : Option (Vec ArraySource)) →
      AreSourcesIf inputs placed.scene.tris meshed.mesh arrays.origins.items sources →
      IsArraySolid meshes formula wanted digits wants (record {
        vertices = arrays.vertices;
        triangles = arrays.triangles;
        sources = sources;
        file = record {
          written = arrays.numbers;
          grid = placed.grid;
          counts = placed.counts;
          moves = placed.moves;
          sixfold_volumes = volumes;
          lying = lying;
          report = meshed.report;
          shown_files = None;
          kept = None;
        };
      })
  arrays_are_solid meshed solid arrays are volumes f lying l wants inputs there sources of_inputs =
      let of_images = subst (λ (tris : List Tri). IsSolidRun tris formula false meshed) is.tris solid in
      record {
        surfaces = is.surfaces;
        are_placed = is.are_placed;
        counts = is.counts;
        moves = is.moves;
        sixfold_volumes = f ∙ (λ i. sixfold_volumes_of_meshes (is.tris i) (is.count i));
        mesh = meshed.mesh;
        is_mesh = of_images.mesh;
        report = of_images.report;
        arrays = arrays;
        are_arrays = are;
        vertices = refl;
        triangles = refl;
        numbers = refl;
        closed = decimals_of_mesh_are_closed of_images.mesh.bytes digits placed.grid meshed.mesh of_images.mesh.of_document;
        lying = counted_on_files true meshed.mesh lying is.tris is.count l;
        sources = sources_are_there wants (inputs_from placed.grid 1 is.surfaces) inputs (images_of placed.grid is.surfaces)
            meshed.mesh arrays.origins.items sources there
            (subst (λ (tris : List Tri). AreSourcesIf inputs tris meshed.mesh arrays.origins.items sources) is.tris of_inputs);
      }

-- a solid means its expression, if this is false outside all meshes
pub solid_means_formula : (meshes : List ArrayMesh) (formula : Formula) (wanted : Wanted) (digits : Option ℕ) (wants : Bool) (solid : ArraySolid) →
    IsFalseOutside formula → (is : IsArraySolid meshes formula wanted digits wants solid) → MeansFormula meshes formula wanted digits wants solid is
solid_means_formula meshes formula wanted digits wants solid outside is = record {
  means = mesh_means (images_of solid.file.grid is.surfaces) (length is.surfaces) formula is.mesh is.are_placed.scene outside is.is_mesh;
  once = mesh_winds_once_at_most (images_of solid.file.grid is.surfaces) (length is.surfaces) formula is.mesh is.are_placed.scene outside is.is_mesh;
}
