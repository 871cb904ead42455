-- From which file each triangle is that a page shows, by lists that equal those of the mesh.
use Rattle.std.proofs.Common.{◌≡◌, ◌∙◌, ℕ, List, [], ◌∷◌, length, map, Option, refl, ap, suc, subst}
use Rattle.std.specs.Global.{Vec}
use Rattle.std.specs.List.{AllZip}
use Rattle.ember_model.specs.declared.plane.Plane.{Plane}
use Rattle.ember_model.specs.declared.tri.Tri.{Tri}
use Rattle.mesh_point.specs.declared.space_point.SpacePoint.{SpacePoint}
use Rattle.mesh_certificate.specs.declared.certificate.triangle.Triangle.{Triangle}
use Rattle.mesh_grid.specs.declared.grid.grid.Grid.{Grid}
use Rattle.mesh_solid.specs.declared.mesh.mesh.SolidMesh.{SolidMesh}
use Rattle.mesh_sources.specs.Sources.{EachSource}
use Rattle.mesh_sources.specs.declared.source.Source.{Source}
use Rattle.mesh_write.specs.declared.stl.triangle.FloatPoint.{FloatPoint}
use Rattle.mesh_written.specs.Floats.{AreFloatPoints}
use Rattle.mesh_written.specs.Triangles.{kept_numbers, triangle_at}
use Rattle.mesh_written.proofs.KeptNumbers.{planes_tell_nothing}
use Rattle.mesh_boolean.specs.ShownFiles.{AreShownFiles, file_of}

-- lists that go together are as long
pub as_many : {A B : Type 0} (R : A → B → Type 0) (xs : List A) (ys : List B) → AllZip R xs ys → length ys ≡ length xs
as_many R [] [] h = refl
as_many R [] (y ∷ ys) h = absurd h
as_many R (x ∷ xs) [] h = absurd h
as_many R (x ∷ xs) (y ∷ ys) h = ap (λ (n : ℕ). suc n) (as_many R xs ys h.1)

module _ (scene : List Tri) (grid : Grid) (mesh : SolidMesh) (files : Vec ℕ) where
  pub shown_files_are : {planes : List Plane} {corners cs : List SpacePoint} {triangles ts : List Triangle} →
      planes ≡ mesh.planes.items → corners ≡ mesh.corners.items → cs ≡ mesh.corners.items →
      triangles ≡ mesh.triangles.items → ts ≡ mesh.triangles.items → (sources : List (Option Source)) →
      EachSource scene corners planes triangles sources → (points ps : List FloatPoint) → ps ≡ points →
      AreFloatPoints grid.step grid.offset cs points → (numbers : List ℕ) → numbers ≡ map (file_of scene) sources →
      files.items ≡ kept_numbers (map (triangle_at [] ps) ts) numbers → AreShownFiles scene grid mesh files
  shown_files_are {planes} {corners} {cs} {triangles} {ts} a b c d e sources each points ps same rounded numbers of are = record {
    sources = sources;
    each = subst (λ (us : List Triangle). EachSource scene mesh.corners.items mesh.planes.items us sources) d
        (subst (λ (vs : List SpacePoint). EachSource scene vs mesh.planes.items triangles sources) b
        (subst (λ (qs : List Plane). EachSource scene corners qs triangles sources) a each));
    points = points;
    rounded = subst (λ (vs : List SpacePoint). AreFloatPoints grid.step grid.offset vs points) c rounded;
    are = are ∙ (λ i. kept_numbers (map (triangle_at [] (same i)) (e i)) (of i))
        ∙ planes_tell_nothing [] mesh.planes.items points mesh.triangles.items (map (file_of scene) sources);
  }
