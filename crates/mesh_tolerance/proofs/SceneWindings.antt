-- The winding numbers of the meshes of a scene are those of its surfaces on the grid, in order.
use Rattle.std.proofs.Common.{◌≡◌, ◌⊎◌, inl, inr, ◌<◌, ◌≤◌, refl, sym, ap, ◌∙◌, arith, ℕ, zero, suc, ◌+◌, ◌-◌, Bool, true, false, not, ◌&&◌, ◌||◌, cond, nat_eq, int_le, ◌==◌}
use Rattle.std.proofs.Common.{List, [], ◌∷◌, ◌++◌, map, length, get_or, Option, Some, None, slice_get, ℤ, pos, ◌+ℤ◌, ◌*ℤ◌}
use Rattle.std.specs.List.{flat_map, range_with_len}
use Rattle.std.proofs.lemmas.Bool.{cases_lt, eq-eqb, ne_eqb}
use Rattle.std.proofs.lemmas.List.{append-nil, get_or_past}
use Rattle.std.proofs.lemmas.List.Elements.{filter-append}
use Rattle.std.proofs.lemmas.List.FromFn.{get_or-map-range_with_len, length-map-range_with_len}
use Rattle.ember_expr.specs.declared.trees.Term.{Term}
use Rattle.ember_expr.specs.Formula.{Formula, Or, Xor, And, Not, Mesh, Odd, Compare}
use Rattle.ember_expr.specs.Truth.{mesh_factor, signed, term_value, sum_from, is_odd, holds_between, differ, truth}
use Rattle.ember_model.specs.declared.point.Axis.{Axis}
use Rattle.ember_model.specs.declared.point.Corner.{Corner}
use Rattle.ember_model.specs.declared.point.Spot.{Spot}
use Rattle.ember_model.specs.declared.tri.Tri.{Tri}
use Rattle.ember_model.specs.Meshes.{wind, faces_of, of_mesh, meshes, vector}
use Rattle.mesh_grid.specs.declared.grid.grid.Grid.{Grid}
use Rattle.mesh_grid.specs.Grid.Corners.{corner_at}
use Rattle.mesh_grid.specs.Grid.Images.{image, kept}
use Rattle.mesh_read.specs.declared.surface.surface.Facet.{Facet}
use Rattle.mesh_read.specs.declared.surface.surface.Surface.{Surface}
use Rattle.mesh_scene.specs.Scene.Images.{images_on, meshes_on, images_of}

-- ---- the triangles of one mesh
abbrev all_of : Grid → ℕ → List Surface → List Tri
all_of g mesh ss = flat_map (λ ts. ts) (meshes_on g mesh ss)

-- a surface has triangles of its own number alone
own_number : (at : ℕ → Corner) (mesh n : ℕ) (fs : List Facet) →
    of_mesh n (map (image at mesh) fs) ≡ cond (nat_eq mesh n) (map (image at mesh) fs) []
own_number at mesh n fs = by (nat_eq mesh n) refl fs
  where
    by : (b : Bool) → nat_eq mesh n ≡ b → (fs : List Facet) →
        of_mesh n (map (image at mesh) fs) ≡ cond b (map (image at mesh) fs) []
    by true e [] = refl
    by false e [] = refl
    by true e (f ∷ fs) =
        ap (λ (b : Bool). cond b (image at mesh f ∷ of_mesh n (map (image at mesh) fs)) (of_mesh n (map (image at mesh) fs))) e
        ∙ ap (λ (us : List Tri). image at mesh f ∷ us) (by true e fs)
    by false e (f ∷ fs) =
        ap (λ (b : Bool). cond b (image at mesh f ∷ of_mesh n (map (image at mesh) fs)) (of_mesh n (map (image at mesh) fs))) e
        ∙ by false e fs

part : (g : Grid) (mesh n : ℕ) (s : Surface) (ss : List Surface) →
    of_mesh n (all_of g mesh (s ∷ ss)) ≡ cond (nat_eq mesh n) (images_on g mesh s) [] ++ of_mesh n (all_of g (mesh + 1) ss)
part g mesh n s ss =
    filter-append (λ t. nat_eq t.mesh n) (images_on g mesh s) (all_of g (mesh + 1) ss)
    ∙ ap (λ (us : List Tri). us ++ of_mesh n (all_of g (mesh + 1) ss))
    (own_number (corner_at g s.vertices.items) mesh n (kept (corner_at g s.vertices.items) s.facets.items))

-- no triangle has a number below the first
none_below : (g : Grid) (mesh n : ℕ) (ss : List Surface) → n < mesh → of_mesh n (all_of g mesh ss) ≡ []
none_below g mesh n [] l = refl
none_below g mesh n (s ∷ ss) l =
    part g mesh n s ss
    ∙ ap (λ (b : Bool). cond b (images_on g mesh s) [] ++ of_mesh n (all_of g (mesh + 1) ss))
    (ne_eqb mesh n (λ e. omega (arith, l, e))) ∙ none_below g (mesh + 1) n ss (omega (arith, l))

abbrev images_from : Grid → ℕ → Option Surface → List Tri
images_from g mesh None = []
images_from g mesh (Some s) = images_on g mesh s

-- the triangles of mesh n are those of the surface with this place
place_of_mesh : (g : Grid) (mesh k : ℕ) (ss : List Surface) →
    of_mesh (mesh + k) (all_of g mesh ss) ≡ images_from g (mesh + k) (slice_get ss k)
place_of_mesh g mesh k [] = refl
place_of_mesh g mesh zero (s ∷ ss) =
    let here : mesh ≡ mesh + 0 = omega arith in
    part g mesh (mesh + 0) s ss
    ∙ (λ i. cond (eq-eqb mesh (mesh + 0) here i) (images_on g mesh s) [] ++ none_below g (mesh + 1) (mesh + 0) ss (omega arith) i)
    ∙ append-nil (images_on g mesh s) ∙ ap (λ (m : ℕ). images_on g m s) here
place_of_mesh g mesh (suc k) (s ∷ ss) =
    let next : mesh + suc k ≡ (mesh + 1) + k = omega arith in
    part g mesh (mesh + suc k) s ss
    ∙ ap (λ (b : Bool). cond b (images_on g mesh s) [] ++ of_mesh (mesh + suc k) (all_of g (mesh + 1) ss))
    (ne_eqb mesh (mesh + suc k) (λ e. omega (arith, e)))
    ∙ ap (λ (n : ℕ). of_mesh n (all_of g (mesh + 1) ss)) next ∙ place_of_mesh g (mesh + 1) k ss
    ∙ ap (λ (n : ℕ). images_from g n (slice_get ss k)) (sym next)

-- ---- winding numbers
-- the winding numbers of the surfaces on the grid, the first of which is the mesh with this number
abbrev pub grid_windings : Axis → Grid → ℕ → List Surface → Spot → List ℤ
grid_windings a g mesh [] p = []
grid_windings a g mesh (s ∷ ss) p = wind a (faces_of (images_on g mesh s)) p ∷ grid_windings a g (mesh + 1) ss p

same_length : (a : Axis) (g : Grid) (mesh : ℕ) (ss : List Surface) (p : Spot) → length (grid_windings a g mesh ss p) ≡ length ss
same_length a g mesh [] p = refl
same_length a g mesh (s ∷ ss) p = ap suc (same_length a g (mesh + 1) ss p)

one_winding : (a : Axis) (g : Grid) (mesh k : ℕ) (ss : List Surface) (p : Spot) →
    get_or (grid_windings a g mesh ss p) k (pos 0) ≡ wind a (faces_of (images_from g (mesh + k) (slice_get ss k))) p
one_winding a g mesh k [] p = refl
one_winding a g mesh zero (s ∷ ss) p =
    let here : mesh ≡ mesh + 0 = omega arith in ap (λ (m : ℕ). wind a (faces_of (images_on g m s)) p) here
one_winding a g mesh (suc k) (s ∷ ss) p =
    let next : (mesh + 1) + k ≡ mesh + suc k = omega arith in
    one_winding a g (mesh + 1) k ss p ∙ ap (λ (n : ℕ). wind a (faces_of (images_from g n (slice_get ss k))) p) next

-- at each place both lists have one number, or none
same_counts : (a : Axis) (g : Grid) (ss : List Surface) (p : Spot) → length ss ≤ 64 → (k : ℕ) →
    get_or (vector a (images_of g ss) p) k (pos 0) ≡ get_or (grid_windings a g 1 ss p) k (pos 0)
unfolding meshes
same_counts a g ss p few k = by (cases_lt k 64)
  where
    f : ℕ → ℤ
    f m = wind a (faces_of (of_mesh m (images_of g ss))) p

    by : (k < 64) ⊎ (64 ≤ k) →
        get_or (map f (range_with_len 1 64)) k (pos 0) ≡ get_or (grid_windings a g 1 ss p) k (pos 0)
    by (inl less) =
        get_or-map-range_with_len f 1 64 k (1 + k) (pos 0) less refl
        ∙ ap (λ (ts : List Tri). wind a (faces_of ts) p) (place_of_mesh g 1 k ss) ∙ sym (one_winding a g 1 k ss p)
    by (inr past) =
        get_or_past (map f (range_with_len 1 64)) k (pos 0)
        (let n = length-map-range_with_len f 1 64 in omega (arith, n, past))
        ∙ sym (get_or_past (grid_windings a g 1 ss p) k (pos 0) (let n = same_length a g 1 ss p in omega (arith, n, few, past)))

-- ---- expressions
module _ (xs ys : List ℤ) (same : (k : ℕ) → get_or xs k (pos 0) ≡ get_or ys k (pos 0)) where
  same_factor : (n : ℕ) → mesh_factor xs n ≡ mesh_factor ys n
  same_factor n = ap (λ (z : ℤ). cond (n == 0) (pos 1) z) (same (n - 1))

  same_sum : (z : ℤ) (ts : List Term) → sum_from z xs ts ≡ sum_from z ys ts
  same_sum z [] = refl
  same_sum z (t ∷ ts) =
      ap (λ (c : ℤ). sum_from (z +ℤ signed t.minus (pos t.factor *ℤ c)) xs ts) (same_factor t.mesh)
      ∙ same_sum (z +ℤ term_value ys t) ts

  pub same_truth : (x : Formula) → truth xs x ≡ truth ys x
  same_truth (Or x y) = let p = same_truth x in let q = same_truth y in λ i. p i || q i
  same_truth (Xor x y) = let p = same_truth x in let q = same_truth y in λ i. differ (p i) (q i)
  same_truth (And x y) = let p = same_truth x in let q = same_truth y in λ i. p i && q i
  same_truth (Not x) = ap not (same_truth x)
  same_truth (Mesh n) = ap (λ (z : ℤ). int_le (pos 1) z) (same (n - 1))
  same_truth (Odd sum) = ap is_odd (same_sum (pos 0) sum)
  same_truth (Compare left rel right) =
      let p = same_sum (pos 0) left in let q = same_sum (pos 0) right in λ i. holds_between rel (p i) (q i)

pub scene_truth : (a : Axis) (g : Grid) (ss : List Surface) (p : Spot) (x : Formula) → length ss ≤ 64 →
    truth (vector a (images_of g ss) p) x ≡ truth (grid_windings a g 1 ss p) x
scene_truth a g ss p x few =
    same_truth (vector a (images_of g ss) p) (grid_windings a g 1 ss p) (same_counts a g ss p few) x
