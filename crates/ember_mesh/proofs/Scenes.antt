-- The triangles of closed meshes with numbers of their own are a scene
use Rattle.std.proofs.Common.{◌≡◌, ℕ, ◌+◌, ◌≤◌, List, [], ◌∷◌, length, sym, subst, arith, eqb}
use Rattle.std.specs.List.{All}
use Rattle.std.proofs.lemmas.List.Elements.{All-nil, All-append, filter-append}
use Rattle.ember_model.specs.declared.tri.Tri.{Tri}
use Rattle.ember_model.specs.Valid.{IsValidTri}
use Rattle.ember_model.specs.Meshes.{of_mesh, IsBalanced, HasMesh, IsScene}
use Rattle.ember_balance.proofs.Balanced.{balanced-nil, balanced-append, balanced_of_mesh}
use Rattle.ember_mesh.specs.declared.states.Closed.{Closed}
use Rattle.ember_mesh.specs.Joined.{triangles_of, AreNumbered}

-- ---- all meshes together
balanced_parts : (m k : ℕ) (parts : List Closed) → AreNumbered k parts → IsBalanced (of_mesh m (triangles_of parts))
balanced_parts m k [] n = balanced-nil
balanced_parts m k (part ∷ parts) n =
    subst IsBalanced (sym (filter-append (λ t. eqb t.mesh m) part.tris (triangles_of parts)))
    (balanced-append (of_mesh m part.tris) (of_mesh m (triangles_of parts))
    (balanced_of_mesh m k part.tris n.0 part.balanced) (balanced_parts m (k + 1) parts n.1))

valid_parts : (parts : List Closed) → All IsValidTri (triangles_of parts)
valid_parts [] = All-nil IsValidTri
valid_parts (part ∷ parts) =
    All-append IsValidTri part.tris (triangles_of parts) part.valid (valid_parts parts)

has_mesh : (most k : ℕ) (ts : List Tri) → 1 ≤ k → k ≤ most → All (λ t. t.mesh ≡ k) ts → All (HasMesh most) ts
has_mesh most k ts l u h i d b =
    let e = h i d b in record { first = omega (arith, e, l); last = omega (arith, e, u) }

numbered_parts : (most k : ℕ) (parts : List Closed) → 1 ≤ k → k + length parts ≤ most + 1 → AreNumbered k parts → All (HasMesh most) (triangles_of parts)
numbered_parts most k [] l u n = All-nil (HasMesh most)
numbered_parts most k (part ∷ parts) l u n =
    All-append (HasMesh most) part.tris (triangles_of parts) (has_mesh most k part.tris l (omega (arith, u)) n.0)
    (numbered_parts most (k + 1) parts (omega (arith, l)) (omega (arith, u)) n.1)

scene_of_parts : (parts : List Closed) → length parts ≤ 64 → length (triangles_of parts) ≤ 262144 →
    AreNumbered 1 parts → IsScene (triangles_of parts) (length parts)
scene_of_parts parts m f n = record {
  valid = valid_parts parts;
  few = f;
  few_meshes = m;
  numbered = numbered_parts (length parts) 1 parts (omega arith) (omega arith) n;
  balanced = λ m. balanced_parts m 1 parts n;
}

-- ---- one mesh more

-- the triangles of at most 64 closed meshes with numbers from 1 are a scene, if there are at most 262,144
pub scene_at : {ts : List Tri} {n : ℕ} (parts : List Closed) → ts ≡ triangles_of parts → n ≡ length parts →
    length parts ≤ 64 → length (triangles_of parts) ≤ 262144 → AreNumbered 1 parts → IsScene ts n
scene_at {ts} {n} parts p q m f h =
    subst (λ (us : List Tri). IsScene us n) (sym p) (subst (λ (k : ℕ). IsScene (triangles_of parts) k) (sym q) (scene_of_parts parts m f h))
