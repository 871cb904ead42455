-- Sums over the faces of each mesh, compared triangle by triangle.
use Rattle.std.proofs.Common.{◌≡◌, refl, sym, ap, ◌∙◌, arith, ℕ, zero, suc, ◌+◌, Bool, true, false, cond, nat_eq}
use Rattle.std.proofs.Common.{filter, List, [], ◌∷◌, All, map, get_or, replicate, ℤ, pos, ◌+ℤ◌, neg_ℤ}
use Rattle.std.specs.List.{range_with_len}
use Rattle.std.proofs.lemmas.List.Elements.{All-head, All-tail}
use Rattle.ember_algebra.specs.Sums.{total}
use Rattle.ember_algebra.proofs.Laws.{linear}
use Rattle.ember_algebra.proofs.Sums.{total-filter, total_same_all, total-add}
use Rattle.ember_model.specs.declared.tri.Tri.{Tri}
use Rattle.ember_model.specs.declared.face.Face.{Face}
use Rattle.ember_model.specs.Faces.{face_of}
use Rattle.ember_model.specs.Meshes.{faces_of, of_mesh, meshes, HasMesh}
use Rattle.ember_law.specs.Counts.{added, with_more}
use Rattle.ember_law.proofs.FlatTriangles.{IsFlat}
use Rattle.ember_law.proofs.Tallies.{tally, map_same, of_one, mesh_total_is_entry, tally_more, tally_none}
use Rattle.ember_width.specs.declared.width.Width.{Ghosts}
use Rattle.ember_trace.specs.declared.near_triangle.NearTriangle.{NearTriangle}
use Rattle.ember_trace.specs.NearTriangles.{tri_of}
use Rattle.ember_trace.specs.Crossings.{taken, ray_counts}

-- flat triangles add nothing
abbrev pub LeavesFlat : (Face → ℤ) → Type 0
LeavesFlat f = (t : Tri) → IsFlat t → f (face_of t) ≡ pos 0

-- functions of faces that agree on the faces of a list of triangles have the same tally
pub tally_same : (f g : Face → ℤ) → LeavesFlat f → LeavesFlat g → (ts : List Tri) → All (λ t. f (face_of t) ≡ g (face_of t)) ts → tally f ts ≡ tally g ts
unfolding of_one
tally_same f g zf zg ts h = map_same (λ m. total f (faces_of (of_mesh m ts))) (λ m. total g (faces_of (of_mesh m ts))) each meshes
  where
    one : (m : ℕ) → All (λ t. of_one f zf m t ≡ of_one g zg m t) ts
    one m = λ i d l. ap (λ (v : ℤ). cond (nat_eq (get_or ts i d).mesh m) v (pos 0)) (h i d l)

    each : (m : ℕ) → total f (faces_of (of_mesh m ts)) ≡ total g (faces_of (of_mesh m ts))
    each m = mesh_total_is_entry f zf m ts ∙ total_same_all (of_one f zf m) (of_one g zg m) ts (one m) ∙ sym (mesh_total_is_entry g zg m ts)

-- triangles whose face adds nothing may be left out
pub tally_kept : (f : Face → ℤ) → LeavesFlat f → (p : Tri → Bool) (ts : List Tri) →
    All (λ t. p t ≡ false → f (face_of t) ≡ pos 0) ts → tally f (filter p ts) ≡ tally f ts
unfolding of_one
tally_kept f zf p ts h = map_same (λ m. total f (faces_of (of_mesh m (filter p ts)))) (λ m. total f (faces_of (of_mesh m ts))) each meshes
  where
    kept : (m : ℕ) (t : Tri) → (p t ≡ false → f (face_of t) ≡ pos 0) → cond (p t) (of_one f zf m t) (pos 0) ≡ of_one f zf m t
    kept m t z = by (p t) refl
      where
        none : (b : Bool) → f (face_of t) ≡ pos 0 → pos 0 ≡ cond b (f (face_of t)) (pos 0)
        none true e = sym e
        none false e = refl

        by : (b : Bool) → p t ≡ b → cond b (of_one f zf m t) (pos 0) ≡ of_one f zf m t
        by true e = refl
        by false e = none (nat_eq t.mesh m) (z e)

    each : (m : ℕ) → total f (faces_of (of_mesh m (filter p ts))) ≡ total f (faces_of (of_mesh m ts))
    each m =
        mesh_total_is_entry f zf m (filter p ts) ∙ total-filter (of_one f zf m) p ts
        ∙ total_same_all (λ t. cond (p t) (of_one f zf m t) (pos 0)) (of_one f zf m) ts
        (λ i d l. kept m (get_or ts i d) (h i d l)) ∙ sym (mesh_total_is_entry f zf m ts)

-- ---- one sum after another
added_twice : (xs : List ℤ) (f g : ℕ → ℤ) (ms : List ℕ) → added (added xs (map f ms)) (map g ms) ≡ added xs (map (λ m. f m +ℤ g m) ms)
added_twice [] f g ms = refl
added_twice (x ∷ xs) f g [] = refl
added_twice (x ∷ xs) f g (m ∷ ms) =
    let e : x +ℤ f m +ℤ g m ≡ x +ℤ (f m +ℤ g m) = omega (arith, linear) in let r = added_twice xs f g ms in λ i. e i ∷ r i

-- to add two tallies, one after the other, is to add the tally of the sum
pub tally_both : (f g : Face → ℤ) (ts : List Tri) (old : List ℤ) → added (added old (tally f ts)) (tally g ts) ≡ added old (tally (λ h. f h +ℤ g h) ts)
tally_both f g ts old =
    added_twice old (λ m. total f (faces_of (of_mesh m ts))) (λ m. total g (faces_of (of_mesh m ts))) meshes
    ∙ ap (λ (vs : List ℤ). added old vs) (map_same
    (λ m. total f (faces_of (of_mesh m ts)) +ℤ total g (faces_of (of_mesh m ts)))
    (λ m. total (λ h. f h +ℤ g h) (faces_of (of_mesh m ts))) (λ m. sym (total-add f g (faces_of (of_mesh m ts))))
    meshes)

-- ---- triangle by triangle
module _ (g : Face → ℤ) (flat : LeavesFlat g) where
  one_more : (old : List ℤ) (t : Tri) → HasMesh 64 t → with_more old t.mesh (g (face_of t)) ≡ added old (tally g (t ∷ []))
  one_more old t m =
      ap (λ (vs : List ℤ). with_more vs t.mesh (g (face_of t))) (sym (tally_none g old)) ∙ sym (tally_more g flat (t ∷ []) 0 t (omega arith) m old)

  at_front : (m : ℕ) (t : Tri) (ts : List Tri) →
      total g (faces_of (of_mesh m (t ∷ []))) +ℤ total g (faces_of (of_mesh m ts)) ≡ total g
      (faces_of (of_mesh m (t ∷ ts)))
  at_front m t ts =
      let a = mesh_total_is_entry g flat m (t ∷ []) in let b = mesh_total_is_entry g flat m ts in let c =
      mesh_total_is_entry g flat m (t ∷ ts) in omega (arith, linear, a, b, c)

  pushed : (old : List ℤ) (t : Tri) (ts : List Tri) → HasMesh 64 t → added (with_more old t.mesh (g (face_of t))) (tally g ts) ≡ added old (tally g (t ∷ ts))
  pushed old t ts m =
      ap (λ (vs : List ℤ). added vs (tally g ts)) (one_more old t m)
      ∙ added_twice old (λ m. total g (faces_of (of_mesh m (t ∷ [])))) (λ m. total g (faces_of (of_mesh m ts))) meshes
      ∙ ap (λ (vs : List ℤ). added old vs) (map_same
      (λ m. total g (faces_of (of_mesh m (t ∷ []))) +ℤ total g (faces_of (of_mesh m ts)))
      (λ m. total g (faces_of (of_mesh m (t ∷ ts)))) (λ m. at_front m t ts) meshes)

  -- the counts that the code takes, if each triangle takes what g counts back
  pub taken_legs : {W M : Type 0} {G : Ghosts W M} (less : NearTriangle W M G → ℤ) (fs : List (NearTriangle W M G)) →
      All (λ f. g (face_of f.tri) ≡ neg_ℤ (less f)) fs → (old : List ℤ) →
      taken less fs old ≡ added old (tally g (map tri_of fs))
  taken_legs less [] h old = sym (tally_none g old)
  taken_legs less (f ∷ fs) h old =
      let e = All-head (λ f. g (face_of f.tri) ≡ neg_ℤ (less f)) f fs h in
      taken_legs less fs (All-tail (λ f. g (face_of f.tri) ≡ neg_ℤ (less f)) f fs h)
      (with_more old f.tri.mesh (neg_ℤ (less f)))
      ∙ ap (λ (z : ℤ). added (with_more old f.tri.mesh z) (tally g (map tri_of fs))) (sym e)
      ∙ pushed old f.tri (map tri_of fs) f.mesh

  -- to add each triangle's number to its mesh's count is to add the tally
  pub ray_counts_rays : (more : Tri → ℤ) (ts : List Tri) → All (λ t. g (face_of t) ≡ more t) ts → All (HasMesh 64) ts →
      (old : List ℤ) → ray_counts more ts old ≡ added old (tally g ts)
  ray_counts_rays more [] h m old = sym (tally_none g old)
  ray_counts_rays more (t ∷ ts) h m old =
      let e = All-head (λ t. g (face_of t) ≡ more t) t ts h in
      ray_counts_rays more ts (All-tail (λ t. g (face_of t) ≡ more t) t ts h) (All-tail (HasMesh 64) t ts m)
      (with_more old t.mesh (more t)) ∙ ap (λ (z : ℤ). added (with_more old t.mesh z) (tally g ts)) (sym e)
      ∙ pushed old t ts (All-head (HasMesh 64) t ts m)

-- counts that begin with nothing
pub added_none : (f : ℕ → ℤ) → added (replicate 64 (pos 0)) (map f meshes) ≡ map f meshes
unfolding meshes
added_none f = from 64 1
  where
    from : (n a : ℕ) → added (replicate n (pos 0)) (map f (range_with_len a n)) ≡ map f (range_with_len a n)
    from zero a = refl
    from (suc n) a = let e : pos 0 +ℤ f a ≡ f a = omega (arith, linear) in let r = from n (a + 1) in λ i. e i ∷ r i
