-- The volume of a mesh, triangle by triangle
use Rattle.std.proofs.Common.{◌≡◌, ℕ, ◌+◌, ◌*◌, ◌<◌, List, [], ◌∷◌, ◌++◌, length, take, get_or, nat_eq, ℤ, ◌+ℤ◌, sym, ap₂, ◌∙◌, arith}
use Rattle.std.proofs.lemmas.List.FromFn.{map-range_with_len_more}
use Rattle.ember_algebra.specs.Size.{Small}
use Rattle.ember_algebra.specs.Sums.{total}
use Rattle.ember_algebra.specs.Vector.{Vector, minus_v, dot, cross, det}
use Rattle.ember_algebra.proofs.Ring.{◌≈◌, cancels}
use Rattle.ember_algebra.proofs.Size.{small_add, small_within}
use Rattle.ember_algebra.proofs.Sums.{total-filter, total-take_more}
use Rattle.ember_algebra.proofs.Vectors.{vector, identity, minusE, dotE, crossE}
use Rattle.ember_model.specs.declared.tri.Tri.{Tri}
use Rattle.mesh_boolean.specs.Volumes.{sixfold_volume_of_mesh, sixfold_volumes_of_meshes, sixfold_volume, sixfold_volume_for}

-- the constant of the plane through three points is their determinant
pub constant_is_determinant : (a b c : Vector) → dot (cross (minus_v b a) (minus_v c a)) a ≡ det a b c
constant_is_determinant =
    identity (vector ∷ vector ∷ vector ∷ []) (λ a b c. dotE (crossE (minusE b a) (minusE c a)) a ≈ dotE a (crossE b c)) cancels

-- the sum over the triangles of a mesh, as one over all triangles
parts_of_mesh : (m : ℕ) (ts : List Tri) → sixfold_volume_of_mesh ts m ≡ total (sixfold_volume_for m) ts
parts_of_mesh m ts = total-filter sixfold_volume (λ t. nat_eq t.mesh m) ts

-- the sum with one triangle more
pub volume_more : (m : ℕ) (ts : List Tri) (i : ℕ) (d : Tri) (sum part : ℤ) → i < length ts →
    sum ≡ sixfold_volume_of_mesh (take i ts) m → part ≡ sixfold_volume_for m (get_or ts i d) →
    sum +ℤ part ≡ sixfold_volume_of_mesh (take (i + 1) ts) m
volume_more m ts i d sum part l e f =
    (λ k. (e ∙ parts_of_mesh m (take i ts)) k +ℤ f k)
    ∙ sym (total-take_more (sixfold_volume_for m) ts i d l)
    ∙ sym (parts_of_mesh m (take (i + 1) ts))

-- and how large it is at most, for parts of this size
pub small_more : (size i : ℕ) (sum part : ℤ) → Small (i * size) sum → Small size part → Small ((i + 1) * size) (sum +ℤ part)
small_more size i sum part p q = small_within (omega arith) (small_add p q)

-- the volumes with that of one mesh more
pub volumes_more : (ts : List Tri) (n : ℕ) (before : List ℤ) (next : ℤ) → before ≡ sixfold_volumes_of_meshes ts n →
    next ≡ sixfold_volume_of_mesh ts (n + 1) → before ++ next ∷ [] ≡ sixfold_volumes_of_meshes ts (n + 1)
volumes_more ts n before next e f =
    ap₂ (λ (vs : List ℤ) (v : ℤ). vs ++ v ∷ []) e f
    ∙ sym (map-range_with_len_more (sixfold_volume_of_mesh ts) 1 n (n + 1) (omega arith))
