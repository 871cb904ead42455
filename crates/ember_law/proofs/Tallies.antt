-- Sums over the faces of each mesh, triangle by triangle.
use Rattle.std.proofs.Common.{All, ◌≡◌, ◌≢◌, ℕ, zero, suc, ◌+◌, ◌-◌, ◌<◌, Bool, true, false, cond, filter, nat_eq, List}
use Rattle.std.proofs.Common.{[], ◌∷◌, map, length, take, get_or, set, ℤ, pos, ◌+ℤ◌, refl, sym, ap, subst, ◌∙◌, arith}
use Rattle.std.specs.List.{range_with_len}
use Rattle.std.proofs.lemmas.Bool.{ne_eqb, eq-eqb}
use Rattle.ember_algebra.specs.Sums.{total}
use Rattle.ember_algebra.proofs.Laws.{linear}
use Rattle.ember_algebra.proofs.Sums.{total-take_more, total-filter, total_same, total_same_all, total_zero}
use Rattle.ember_model.specs.declared.point.Corner.{Corner}
use Rattle.ember_model.specs.declared.tri.Tri.{Tri}
use Rattle.ember_model.specs.declared.face.Face.{Face}
use Rattle.ember_model.specs.Faces.{face_of}
use Rattle.ember_model.specs.Meshes.{faces_of, of_mesh, meshes, HasMesh}
use Rattle.ember_law.specs.Counts.{added, with_more}
use Rattle.ember_law.proofs.FlatTriangles.{IsFlat, total_faces}

-- the sum of f over the faces of each mesh
abbrev pub tally : (Face → ℤ) → List Tri → List ℤ
tally f ts = map (λ m. total f (faces_of (of_mesh m ts))) meshes

abbrev raised : List ℤ → ℕ → ℤ → List ℤ
raised xs i x = set xs i (get_or xs i (pos 0) +ℤ x)

-- what a read past the end of a list gives
abbrev pub no_tri : Tri
no_tri =
    let u : Corner = record { x = pos 0; y = pos 0; z = pos 0 } in record { a = u; b = u; c = u; mesh = 0 }

-- ---- lists of counts
-- functions with the same values map a list alike
pub map_same : (f g : ℕ → ℤ) → ((m : ℕ) → f m ≡ g m) → (ms : List ℕ) → map f ms ≡ map g ms
map_same f g e [] = refl
map_same f g e (m ∷ ms) = let x = e m in let r = map_same f g e ms in λ i. x i ∷ r i

same_below : (g h : ℕ → ℤ) (j : ℕ) (n a : ℕ) → j < a → ((m : ℕ) → j ≢ m → h m ≡ g m) → (old : List ℤ) →
    added old (map h (range_with_len a n)) ≡ added old (map g (range_with_len a n))
same_below g h j zero a l e [] = refl
same_below g h j zero a l e (c ∷ cs) = refl
same_below g h j (suc n) a l e [] = refl
same_below g h j (suc n) a l e (c ∷ cs) =
    let x = e a (λ q. omega arith) in let r = same_below g h j n (a + 1) (omega arith) e cs in λ i. (c +ℤ x i) ∷ r i

one_raised : (g h : ℕ → ℤ) (j : ℕ) (x : ℤ) → h j ≡ g j +ℤ x → ((m : ℕ) → j ≢ m → h m ≡ g m) → (i n a : ℕ) → a + i ≡ j →
    i < n → (old : List ℤ) → added old (map h (range_with_len a n)) ≡ raised (added old (map g (range_with_len a n))) i x
one_raised g h j x here else i zero a e l old = absurd (omega arith)
one_raised g h j x here else zero (suc n) a e l [] = refl
one_raised g h j x here else (suc i) (suc n) a e l [] = refl
one_raised g h j x here else zero (suc n) a e l (c ∷ cs) =
    let p : a ≡ j = omega arith in let q : c +ℤ h a ≡ (c +ℤ g a) +ℤ x = subst (λ (m : ℕ). c +ℤ h m ≡ (c +ℤ g m) +ℤ x) (sym p) (omega (arith, linear, here)) in
    let r = same_below g h j n (a + 1) (omega arith) else cs in λ i. q i ∷ r i
one_raised g h j x here else (suc i) (suc n) a e l (c ∷ cs) =
    let y = else a (λ q. omega arith) in let r = one_raised g h j x here else i n (a + 1) (omega arith) (omega arith) cs in λ k. (c +ℤ y k) ∷ r k

added_nothing : (g : ℕ → ℤ) → ((m : ℕ) → g m ≡ pos 0) → (n a : ℕ) (old : List ℤ) → added old (map g (range_with_len a n)) ≡ old
added_nothing g z n a [] = refl
added_nothing g z zero a (c ∷ cs) = refl
added_nothing g z (suc n) a (c ∷ cs) =
    let e = z a in let x : c +ℤ g a ≡ c = omega (arith, linear, e) in let r = added_nothing g z n (a + 1) cs in λ i. x i ∷ r i

-- ---- one more triangle
module _ (f : Face → ℤ) (flat : (t : Tri) → IsFlat t → f (face_of t) ≡ pos 0) where
  -- what a triangle of mesh m gives to its count, and 0 for other meshes
  unfoldable pub of_one : ℕ → Tri → ℤ
  of_one m t = cond (nat_eq t.mesh m) (f (face_of t)) (pos 0)

  -- the sum over the faces of one mesh, as a sum over all triangles that counts that mesh alone
  pub mesh_total_is_entry : (m : ℕ) (ts : List Tri) → total f (faces_of (of_mesh m ts)) ≡ total (of_one m) ts
  unfolding of_one
  mesh_total_is_entry m ts = total_faces f flat (of_mesh m ts) ∙ total-filter (λ t. f (face_of t)) (λ t. nat_eq t.mesh m) ts

  entry_more : (m : ℕ) (ts : List Tri) (i : ℕ) (d : Tri) → i < length ts →
      total f (faces_of (of_mesh m (take (i + 1) ts))) ≡ total f (faces_of (of_mesh m (take i ts))) +ℤ of_one m
      (get_or ts i d)
  entry_more m ts i d l =
      let x = mesh_total_is_entry m (take (i + 1) ts) in let y = mesh_total_is_entry m (take i ts) in let z = total-take_more (of_one m) ts i d l in
      x ∙ z ∙ (λ k. (sym y) k +ℤ of_one m (get_or ts i d))

  -- one more triangle adds what its face gives to the count of its mesh
  pub tally_more : (ts : List Tri) (i : ℕ) (d : Tri) → i < length ts → HasMesh 64 (get_or ts i d) → (old : List ℤ) →
      added old (tally f (take (i + 1) ts)) ≡ with_more (added old (tally f (take i ts))) (get_or ts i d).mesh
      (f (face_of (get_or ts i d)))
  unfolding meshes of_one
  tally_more ts i d l m old =
      let t = get_or ts i d in let a = m.first in let b = m.last in
      let g = λ (m : ℕ). total f (faces_of (of_mesh m (take i ts))) in let h = λ (m : ℕ). total f (faces_of (of_mesh m (take (i + 1) ts))) in
      one_raised g h t.mesh (f (face_of t))
      (entry_more t.mesh ts i d l ∙ ap (λ (b : Bool). g t.mesh +ℤ cond b (f (face_of t)) (pos 0)) (eq-eqb t.mesh t.mesh refl))
      (λ m n. entry_more m ts i d l ∙ ap (λ (b : Bool). g m +ℤ cond b (f (face_of t)) (pos 0)) (ne_eqb t.mesh m n) ∙ omega (arith, linear))
      (t.mesh - 1) 64 1 (omega arith) (omega arith) old

  -- triangles whose face adds nothing may be left out
  pub tally_filter : (p : Tri → Bool) → ((t : Tri) → p t ≡ false → f (face_of t) ≡ pos 0) → (ts : List Tri) → tally f (filter p ts) ≡ tally f ts
  unfolding of_one
  tally_filter p z ts = map_same (λ m. total f (faces_of (of_mesh m (filter p ts)))) (λ m. total f (faces_of (of_mesh m ts))) each meshes
    where
      none : (m : ℕ) (t : Tri) → p t ≡ false → of_one m t ≡ pos 0
      none m t e = by (nat_eq t.mesh m)
        where
          by : (b : Bool) → cond b (f (face_of t)) (pos 0) ≡ pos 0
          by true = z t e
          by false = refl

      kept : (m : ℕ) (t : Tri) → cond (p t) (of_one m t) (pos 0) ≡ of_one m t
      kept m t = by (p t) refl
        where
          by : (b : Bool) → p t ≡ b → cond b (of_one m t) (pos 0) ≡ of_one m t
          by true e = refl
          by false e = sym (none m t e)

      each : (m : ℕ) → total f (faces_of (of_mesh m (filter p ts))) ≡ total f (faces_of (of_mesh m ts))
      each m =
          mesh_total_is_entry m (filter p ts) ∙ total-filter (of_one m) p ts
          ∙ total_same (λ t. cond (p t) (of_one m t) (pos 0)) (of_one m) (kept m) ts ∙ sym (mesh_total_is_entry m ts)

  -- where no face adds anything
  pub tally_zero : (ts : List Tri) → All (λ t. f (face_of t) ≡ pos 0) ts → tally f ts ≡ map (λ m. pos 0) meshes
  unfolding of_one
  tally_zero ts z = map_same (λ m. total f (faces_of (of_mesh m ts))) (λ m. pos 0) each meshes
    where
      none : (m : ℕ) → All (λ t. of_one m t ≡ pos 0) ts
      none m = λ i d l. by (get_or ts i d) (nat_eq (get_or ts i d).mesh m) (z i d l)
        where
          by : (t : Tri) (b : Bool) → f (face_of t) ≡ pos 0 → cond b (f (face_of t)) (pos 0) ≡ pos 0
          by t true e = e
          by t false e = refl

      each : (m : ℕ) → total f (faces_of (of_mesh m ts)) ≡ pos 0
      each m = mesh_total_is_entry m ts ∙ total_same_all (of_one m) (λ t. pos 0) ts (none m) ∙ total_zero (λ t. pos 0) (λ t. refl) ts

-- no triangles add nothing
pub tally_none : (f : Face → ℤ) (old : List ℤ) → added old (tally f []) ≡ old
unfolding meshes
tally_none f old = added_nothing (λ m. total f (faces_of (of_mesh m []))) (λ m. refl) 64 1 old
