-- Boxes one after another are a scene of two meshes
use Rattle.std.proofs.Common.{◌≡◌, ℕ, ◌+◌, ◌*◌, ◌≤◌, Bool, true, false, not, cond, List, [], ◌∷◌, ◌++◌, length}
use Rattle.std.proofs.Common.{length-append, append-nil, refl, sym, ap, subst, ◌∙◌, arith, eqb}
use Rattle.std.specs.List.{All, filter, range_with_len}
use Rattle.std.proofs.lemmas.List.Elements.{All-nil, All-append, filter-append}
use Rattle.std.proofs.lemmas.List.Filters.{length-filter_both}
use Rattle.std.proofs.lemmas.List.FromFn.{length-range_with_len}
use Rattle.std.proofs.lemmas.Grind.{flat_map-append}
use Rattle.ember_algebra.proofs.Lists.{range_more}
use Rattle.ember_model.specs.declared.tri.Tri.{Tri}
use Rattle.ember_model.specs.Valid.{IsValidTri}
use Rattle.ember_model.specs.Meshes.{of_mesh, IsBalanced, HasMesh, IsScene}
use Rattle.ember_balance.proofs.Balanced.{balanced-nil, balanced-append, balanced_of_mesh}
use Rattle.ember_gen.specs.declared.block.Block.{Block}
use Rattle.ember_gen.specs.Blocks.{block_of, triangles_of}
use Rattle.ember_gen.specs.Scene.{is_even, evens, odds, mesh_of, scene_of}
use Rattle.ember_gen.proofs.Boxes.{balanced_block, block_has_mesh, length-triangles_of, valid_block}

-- ---- a list of boxes
balanced_mesh : (m : ℕ) (is : List ℕ) → IsBalanced (mesh_of m is)
balanced_mesh m [] = balanced-nil
balanced_mesh m (i ∷ is) =
    balanced-append (triangles_of m (block_of i)) (mesh_of m is) (balanced_block m (block_of i)) (balanced_mesh m is)

all_boxes : (P : Tri → Type 0) (m : ℕ) → ((i : ℕ) → All P (triangles_of m (block_of i))) → (is : List ℕ) → All P (mesh_of m is)
all_boxes P m h [] = All-nil P
all_boxes P m h (i ∷ is) =
    All-append P (triangles_of m (block_of i)) (mesh_of m is) (h i) (all_boxes P m h is)

length-mesh_of : (m : ℕ) (is : List ℕ) → length (mesh_of m is) ≡ 12 * length is
length-mesh_of m [] = refl
length-mesh_of m (i ∷ is) =
    let a = length-append (triangles_of m (block_of i)) (mesh_of m is) in
    let b = length-triangles_of m (block_of i) in let c = length-mesh_of m is in
    omega (arith, a, b, c)

has_mesh : (m : ℕ) (is : List ℕ) → All (λ t. t.mesh ≡ m) (mesh_of m is)
has_mesh m is = all_boxes (λ t. t.mesh ≡ m) m (λ i. block_has_mesh m (block_of i)) is

numbered : (m : ℕ) → 1 ≤ m → m ≤ 2 → (is : List ℕ) → All (HasMesh 2) (mesh_of m is)
numbered m l u is k d b =
    let e = has_mesh m is k d b in
    record { first = omega (arith, e, l); last = omega (arith, e, u) }

-- ---- both meshes
balanced_part : (k m : ℕ) (is : List ℕ) → IsBalanced (of_mesh k (mesh_of m is))
balanced_part k m is = balanced_of_mesh k m (mesh_of m is) (has_mesh m is) (balanced_mesh m is)

few : (n : ℕ) → n ≤ 20000 → length (mesh_of 1 (evens n) ++ mesh_of 2 (odds n)) ≤ 262144
few n l =
    let a = length-append (mesh_of 1 (evens n)) (mesh_of 2 (odds n)) in
    let b = length-mesh_of 1 (evens n) in let c = length-mesh_of 2 (odds n) in
    let d = length-filter_both is_even (λ i. not (is_even i)) (λ i. refl) (range_with_len 0 n) in
    let e = length-range_with_len 0 n in
    omega (arith, l, a, b, c, d, e)

-- the scene of `demo` is a scene of two meshes
pub is_scene : (n : ℕ) → n ≤ 20000 → IsScene (scene_of n) 2
unfolding scene_of
is_scene n l = record {
  valid = All-append IsValidTri (mesh_of 1 (evens n)) (mesh_of 2 (odds n))
      (all_boxes IsValidTri 1 (valid_block 1) (evens n)) (all_boxes IsValidTri 2 (valid_block 2) (odds n));
  few = few n l;
  few_meshes = omega arith;
  numbered = All-append (HasMesh 2) (mesh_of 1 (evens n)) (mesh_of 2 (odds n))
      (numbered 1 (omega arith) (omega arith) (evens n)) (numbered 2 (omega arith) (omega arith) (odds n));
  balanced = λ m. subst IsBalanced (sym (filter-append (λ t. eqb t.mesh m) (mesh_of 1 (evens n)) (mesh_of 2 (odds n))))
      (balanced-append (of_mesh m (mesh_of 1 (evens n))) (of_mesh m (mesh_of 2 (odds n))) (balanced_part m 1 (evens n))
      (balanced_part m 2 (odds n)));
}

-- ---- one box more
mesh_more : (m : ℕ) (p : ℕ → Bool) (n : ℕ) → mesh_of m (filter p (range_with_len 0 (n + 1))) ≡ mesh_of m
    (filter p (range_with_len 0 n)) ++ cond (p n) (triangles_of m (block_of n)) []
mesh_more m p n =
    ap (λ is. mesh_of m (filter p is)) (range_more n) ∙ ap (mesh_of m) (filter-append p (range_with_len 0 n) (n ∷ []))
    ∙ flat_map-append (λ i. triangles_of m (block_of i)) (filter p (range_with_len 0 n)) (filter p (n ∷ []))
    ∙ last (p n)
  where
    last : (b : Bool) → mesh_of m (filter p (range_with_len 0 n))
        ++ mesh_of m (cond b (n ∷ []) []) ≡ mesh_of m (filter p (range_with_len 0 n))
        ++ cond b (triangles_of m (block_of n)) []
    last true = ap (λ ts. mesh_of m (filter p (range_with_len 0 n)) ++ ts) (append-nil (triangles_of m (block_of n)))
    last false = refl

-- the box that was drawn is laid down in its mesh
pub laid_more : (m : ℕ) (p : ℕ → Bool) (n : ℕ) (b : Block) {us vs : List Tri} →
    us ≡ mesh_of m (filter p (range_with_len 0 n)) → b ≡ block_of n → vs ≡ us ++ cond (p n) (triangles_of m b) [] →
    vs ≡ mesh_of m (filter p (range_with_len 0 (n + 1)))
laid_more m p n b q e r =
    r ∙ (λ k. q k ++ cond (p n) (triangles_of m (e k)) []) ∙ sym (mesh_more m p n)

-- the even and the odd boxes together are the scene
pub scene_at : {ts us vs : List Tri} (n : ℕ) → us ≡ mesh_of 1 (evens n) → vs ≡ mesh_of 2 (odds n) → ts ≡ us ++ vs → ts ≡ scene_of n
unfolding scene_of
scene_at n p q r = r ∙ (λ k. p k ++ q k)
