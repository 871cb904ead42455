-- Whole triangles in place of their fragments wind as the fragments do.
use Rattle.std.proofs.Common.{◌≡◌, refl, sym, ap, ◌∙◌, arith, le_refl, ℕ, nat_eq, Bool, true, false, not, cond, ◌||◌, List, [], ◌∷◌, ◌++◌, map, ℤ, pos, ◌+ℤ◌, ◌<ℤ◌}
use Rattle.std.specs.List.{AllByRecursion, IsDistinct, list_any}
use Rattle.std.proofs.lemmas.Bool.{eqb-true}
use Rattle.ember_algebra.specs.Large.{Eventually}
use Rattle.ember_algebra.specs.Relations.{none, more}
use Rattle.ember_algebra.specs.Sums.{total}
use Rattle.ember_algebra.proofs.Laws.{linear}
use Rattle.ember_algebra.proofs.Large.{eventually_both, eventually_map}
use Rattle.ember_algebra.proofs.Sums.{total-append, total-map, total-filter, total-add, total_same, total_zero}
use Rattle.ember_model.specs.declared.point.Spot.{Spot}
use Rattle.ember_model.specs.declared.point.Axis.{Axis}
use Rattle.ember_model.specs.declared.face.Face.{Face}
use Rattle.ember_model.specs.declared.tri.Tri.{Tri}
use Rattle.ember_model.specs.Points.{offset_by}
use Rattle.ember_model.specs.Faces.{crossing}
use Rattle.ember_model.specs.Meshes.{faces_of, of_mesh, meshes, wind, vector}
use Rattle.ember_model.specs.Clear.{IsClear, AreClear}
use Rattle.ember_law.proofs.Generic.{wind_shifted}
use Rattle.ember_law.proofs.GenericClear.{clear_shifted, clear_faces}
use Rattle.ember_law.proofs.Shifted.{weight_shifted}
use Rattle.ember_law.proofs.Vectors.{of_mesh_all}
use Rattle.ember_alone.specs.UniformSides.{AreBalanced}
use Rattle.ember_alone.specs.Whole.{WindWhere, AreMissedNearby, Fragment, IsFragmentOf, faces, without, StaysWhole, StayWhole, WholeFacesWindAlike}
use Rattle.ember_alone.proofs.Shares.{one, shares_are_whole}

-- points directly beside a clear point have its vector
vector_shifted : (a : Axis) (ts : List Tri) (p : Spot) → pos 0 <ℤ p.w → AreClear (faces_of ts) p → Eventually (λ k. vector a ts p ≡ vector a ts (offset_by p (pos k)))
vector_shifted a ts p w c = each meshes
  where
    each : (ms : List ℕ) → Eventually (λ k. map (λ m. wind a (faces_of (of_mesh m ts)) p) ms ≡ map
        (λ m. wind a (faces_of (of_mesh m ts)) (offset_by p (pos k))) ms)
    each [] = record { from = 0; holds = λ k l. refl }
    each (m ∷ ms) =
        eventually_map (λ k h. λ i. h.0 i ∷ h.1 i)
        (eventually_both (wind_shifted a p (faces_of (of_mesh m ts)) w (of_mesh_all (λ f. IsClear f p) m ts c)) (each ms))

-- ---- sums over listed triangles
abbrev is_listed : List ℕ → Fragment → Bool
is_listed listed k = list_any (nat_eq k.triangle) listed

-- the values at the fragments of listed triangles
abbrev listed_value : (Fragment → ℤ) → List ℕ → Fragment → ℤ
listed_value g listed k = cond (is_listed listed k) (g k) (pos 0)

not_listed : (i : ℕ) (listed : List ℕ) (j : ℕ) → j ≡ i → AllByRecursion (λ y. nat_eq i y ≡ false) listed → list_any (nat_eq j) listed ≡ false
not_listed i [] j e d = refl
not_listed i (y ∷ ys) j e d =
    let f = ap (λ (z : ℕ). nat_eq z y) e ∙ d.0 in let r = not_listed i ys j e d.1 in λ l. f l || r l

-- of distinct triangles, the first counts, and then the others
one_more : (g : Fragment → ℤ) (i : ℕ) (listed : List ℕ) → AllByRecursion (λ y. nat_eq i y ≡ false) listed → (k : Fragment) →
    cond (nat_eq k.triangle i) (g k) (pos 0) +ℤ listed_value g listed k ≡ listed_value g (i ∷ listed) k
one_more g i listed d k = by (nat_eq k.triangle i) refl
  where
    by : (b : Bool) → nat_eq k.triangle i ≡ b → cond b (g k) (pos 0) +ℤ listed_value g listed k ≡ cond (b || is_listed listed k) (g k) (pos 0)
    by true e =
        let n = ap (λ (c : Bool). cond c (g k) (pos 0)) (not_listed i listed k.triangle (eqb-true k.triangle i e) d) in omega (arith, linear, n)
    by false e = omega (arith, linear)

-- listed fragments and the others
split : (g : Fragment → ℤ) (listed : List ℕ) (ks : List Fragment) →
    total (listed_value g listed) ks +ℤ total (λ k. cond (not (is_listed listed k)) (g k) (pos 0)) ks ≡ total g ks
split g listed ks =
    sym (total-add (listed_value g listed) (λ k. cond (not (is_listed listed k)) (g k) (pos 0)) ks)
    ∙ total_same (λ k. listed_value g listed k +ℤ cond (not (is_listed listed k)) (g k) (pos 0)) g (λ k. by k (is_listed listed k)) ks
  where
    by : (k : Fragment) (b : Bool) → cond b (g k) (pos 0) +ℤ cond (not b) (g k) (pos 0) ≡ g k
    by k true = omega (arith, linear)
    by k false = omega (arith, linear)

-- ---- fragments of closed meshes that wind where a condition holds
module _ (ts : List Tri) (balanced : AreBalanced ts) (x : List ℤ → Bool) (ks : List Fragment) (fragments : AllByRecursion (IsFragmentOf ts) ks)
    (near : AreMissedNearby (faces ks)) (meaning : WindWhere ts x (faces ks)) where
  -- what separates the sides of listed triangles is crossed as their fragments
  module _ (a : Axis) (p : Spot) (weight : pos 0 <ℤ p.w) (clear : AreClear (faces_of ts) p) (clear_fragments : AreClear (faces ks) p) where
    abbrev crossed : Fragment → ℤ
    crossed k = crossing k.face a p

    one_whole : (i : ℕ) (fs : List Face) → StaysWhole ts x i fs → wind a fs p ≡ total (λ k. cond (nat_eq k.triangle i) (crossed k) (pos 0)) ks
    one_whole i fs s =
        ap (λ gs. wind a gs p) s.is
        ∙ sym (shares_are_whole ts balanced i s.tri s.here s.alone s.full x s.part s.is_part s.before s.after s.sides ks fragments near meaning a p weight clear clear_fragments)

    all_whole : {listed : List ℕ} {fs : List Face} → StayWhole ts x listed fs → IsDistinct nat_eq listed → wind a fs p ≡ total (listed_value crossed listed) ks
    unfolding IsDistinct
    all_whole none d = sym (total_zero (listed_value crossed []) (λ k. refl) ks)
    all_whole (more {x = i} {xs = listed} {ys = ys} {zs = zs} r e) d =
        let u = one_whole i ys r in let v = all_whole e d.1 in
        total-append (λ f. crossing f a p) ys zs ∙ (λ j. u j +ℤ v j)
        ∙ sym (total-add (λ k. cond (nat_eq k.triangle i) (crossed k) (pos 0)) (listed_value crossed listed) ks)
        ∙ total_same (λ k. cond (nat_eq k.triangle i) (crossed k) (pos 0) +ℤ listed_value crossed listed k) (listed_value crossed (i ∷ listed))
        (one_more crossed i listed d.0) ks

    rest_winds : (listed : List ℕ) → wind a (faces (without listed ks)) p ≡ total (λ k. cond (not (is_listed listed k)) (crossed k) (pos 0)) ks
    rest_winds listed =
        total-map (λ f. crossing f a p) (λ k. k.face) (without listed ks) ∙ total-filter crossed (λ k. not (is_listed listed k)) ks

    winds_alike : (listed : List ℕ) (fs : List Face) → StayWhole ts x listed fs → IsDistinct nat_eq listed →
        wind a (fs ++ faces (without listed ks)) p ≡ wind a (faces ks) p
    winds_alike listed fs s d =
        total-append (λ f. crossing f a p) fs (faces (without listed ks))
        ∙ (let u = all_whole s d in let v = rest_winds listed in λ j. u j +ℤ v j)
        ∙ split crossed listed ks ∙ sym (total-map (λ f. crossing f a p) (λ k. k.face) ks)

  -- whole triangles and the fragments of the others
  wind_where : (listed : List ℕ) (fs : List Face) → IsDistinct nat_eq listed → StayWhole ts x listed fs → WindWhere ts x (fs ++ faces (without listed ks))
  wind_where listed fs d s a b p weight clear clear_new =
      let all = fs ++ faces (without listed ks) in
      let e = eventually_both (weight_shifted p weight) (eventually_both (clear_shifted p ts weight) (eventually_both (near p weight)
      (eventually_both (wind_shifted a p all weight clear_new) (vector_shifted b ts p weight clear)))) in
      let q = offset_by p (pos e.from) in let h = e.holds e.from (le_refl e.from) in let c = clear_faces q ts h.1.0 in
      h.1.1.1.0 ∙ winds_alike a q h.0 c h.1.1.0 listed fs s d ∙ meaning a b q h.0 c h.1.1.0
      ∙ ap (λ (v : List ℤ). one (x v)) (sym h.1.1.1.1)

-- whole triangles wind where their fragments do
pub whole_faces_wind_alike : (ts : List Tri) → AreBalanced ts → WholeFacesWindAlike ts
whole_faces_wind_alike ts balanced x ks listed fs fragments near meaning d s = wind_where ts balanced x ks fragments near meaning listed fs d s
