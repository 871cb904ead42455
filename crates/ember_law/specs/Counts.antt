-- Counts of all meshes, and what a ray or a segment adds to them
use Rattle.std.specs.Prelude.{ℕ, ◌-◌, ℤ, pos, ◌+ℤ◌, List, [], ◌∷◌, All, map, slice_set, slice_index_or}
use Rattle.ember_algebra.specs.Size.{Small}
use Rattle.ember_algebra.specs.Sums.{total}
use Rattle.ember_model.specs.declared.point.Spot.{Spot}
use Rattle.ember_model.specs.declared.tri.Tri.{Tri}
use Rattle.ember_model.specs.declared.face.Face.{Face}
use Rattle.ember_model.specs.Faces.{leg}
use Rattle.ember_model.specs.Meshes.{faces_of, of_mesh, meshes}

-- the sums of two vectors, entry by entry; what the second has no entry for stays
abbrev pub added : List ℤ → List ℤ → List ℤ
added [] ys = []
added (x ∷ xs) [] = x ∷ xs
added (x ∷ xs) (y ∷ ys) = (x +ℤ y) ∷ added xs ys

-- the vector with more at the entry of a mesh
abbrev pub with_more : List ℤ → ℕ → ℤ → List ℤ
with_more counts mesh more =
    slice_set counts (mesh - 1) (slice_index_or counts (mesh - 1) (pos 0) +ℤ more)

-- the signed crossings of the segment from p to q with all faces, added up
abbrev pub leg_wind : List Face → Spot → Spot → ℤ
leg_wind fs p q = total (λ f. leg f p q) fs

-- those of meshes 1 to 64
abbrev pub leg_vector : List Tri → Spot → Spot → List ℤ
leg_vector ts p q = map (λ m. leg_wind (faces_of (of_mesh m ts)) p q) meshes

-- counts that stay within 2^24 if each triangle of a scene changes one of them by 1
abbrev pub HasRoom : List ℤ → Type 0
HasRoom counts = All (Small 16515072) counts
