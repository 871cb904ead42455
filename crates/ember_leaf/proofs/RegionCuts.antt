-- Regions and a triangle more.
use Rattle.std.proofs.Common.{◌≡◌, refl, sym, ap, subst, ◌∙◌, arith, ℤ, ℕ, zero, suc, ◌+◌, ◌<◌, ◌≤◌, ◌↔◌, IsTrue, rules}
use Rattle.std.proofs.Common.{Bool, true, false, List, [], ◌∷◌, ◌++◌, length, take, drop, get_or, append_assoc, All}
use Rattle.std.proofs.lemmas.List.{take_more, take-append-drop}
use Rattle.std.proofs.lemmas.List.Elements.{All-nil, All-cons}
use Rattle.ember_algebra.specs.Relations.{Each, Chain, done, step, Every}
use Rattle.ember_algebra.specs.Sign.{is_negative, is_positive}
use Rattle.ember_algebra.proofs.Laws.{linear}
use Rattle.ember_algebra.proofs.Relations.{each_push}
use Rattle.ember_model.specs.declared.plane.Plane.{Plane}
use Rattle.ember_model.specs.declared.tri.Tri.{Tri}
use Rattle.ember_model.specs.declared.face.Face.{Face}
use Rattle.ember_model.specs.Planes.{support_of, opposite, value_at}
use Rattle.ember_model.specs.Faces.{face_of, edges_of, Meets, Cuts}
use Rattle.ember_model.specs.ClearTest.{face_with}
use Rattle.ember_model.proofs.SignTests.{negative_in, negative_out, positive_out, zero_not_negative}
use Rattle.ember_width.specs.declared.width.Width.{Ghosts}
use Rattle.ember_box.specs.Regions.{CuttingPlane, AreLeftByCuttingPlane, splits, whole}
use Rattle.ember_poly.specs.Cuts.{AreParts, IsReach}
use Rattle.ember_poly.specs.declared.reach_and_cut.Reach.{Reach}
use Rattle.ember_poly.specs.declared.reach_and_cut.Reach.TheVariants.{Below, Above, On, Both}
use Rattle.ember_poly.proofs.ReachBySigns.{over_opposite}
use Rattle.ember_leaf.specs.declared.cutter.Cutter.{Cutter}
use Rattle.ember_leaf.specs.KeptRegions.{LiesInPlaneOf}
use Rattle.ember_leaf.specs.Walls.{IsPartOf}
use Rattle.ember_leaf.specs.Written.{HasGrown}
use Rattle.ember_leaf.specs.Cutters.{AreLeftByCutter, AreSplit, AreCut, MeetsFirst}
use Rattle.ember_leaf.proofs.WallClips.{part_below, each_every}

-- the face of a cutter is that of its triangle
pub cutting_plane_face : (t : Tri) {p : Plane} {es : List Plane} → p ≡ support_of t → es ≡ edges_of t → face_with p es ≡ face_of t
unfolding face_of
cutting_plane_face t e q = λ i. record { support = e i; edges = q i }

-- ---- one region
pub not_met : {b : Bool} {P : Type 0} → IsTrue b ↔ P → b ≡ false → P → ⊥
not_met {b} q e p = by (subst (λ (b : Bool). IsTrue b) e (q.1 p))
  where
    by : IsTrue false → ⊥
    by h = grind arith

-- false is the truth of what doesn't hold
pub never : {P : Type 0} → (P → ⊥) → IsTrue false ↔ P
never n = (λ t. absurd (untrue t), λ p. absurd (n p))
  where
    untrue : IsTrue false → ⊥
    untrue h = grind arith

-- true is the truth of what holds
pub true_iff_given : {P : Type 0} → P → IsTrue true ↔ P
true_iff_given p = (λ t. p, λ q. truth)
  where
    truth : IsTrue true
    truth = search rules

-- what a test decides holds if the test is true
pub test_iff_out : {b c : Bool} {P : Type 0} → IsTrue b ↔ P → c ≡ b → c ≡ true → P
test_iff_out {b} q e h = q.0 (subst IsTrue (sym h ∙ e) truth)
  where
    truth : IsTrue true
    truth = search rules

-- a cutting plane leaves both parts of a face that it cuts
pub region_parts : (b : CuttingPlane) (f x y : Face) → Meets f b.face → AreParts f b.plane x y → AreLeftByCuttingPlane b f (x ∷ y ∷ [])
region_parts b f x y m p =
    subst (λ (l : List Face). AreLeftByCuttingPlane b f l) (sym (λ i. p.is_low i ∷ p.is_high i ∷ [])) (splits m p.cuts)

negative_positive : (z : ℤ) → is_negative z ≡ true → is_positive z ≡ true → ⊥
negative_positive z e q = let a = negative_out z e in let b = positive_out z q in omega (arith, linear, a, b)

-- a plane doesn't cut a face unless the face reaches to both sides of it
pub not_cut : (f : Face) (p : Plane) (k : Reach) → IsReach f p k → (k ≡ Both → ⊥) → Cuts f p → ⊥
not_cut f p Below k n c =
    negative_positive _ (k.everywhere.holds c.some_above.at c.some_above.inside) c.some_above.holds
not_cut f p Above k n c = negative_positive _ c.some_below.holds (k.everywhere.holds c.some_below.at c.some_below.inside)
not_cut f p On k n c = zero_not_negative _ (k.everywhere.holds c.some_below.at c.some_below.inside) c.some_below.holds
not_cut f p Both k n c = n refl

-- a cutting plane leaves a face as it is that it doesn't cut
pub region_whole : (b : CuttingPlane) (f : Face) (k : Reach) → IsReach f b.plane k → (k ≡ Both → ⊥) → AreLeftByCuttingPlane b f (f ∷ [])
region_whole b f k h n = whole (λ m. not_cut f b.plane k h n)

-- ---- regions one after another
pub first_met : {W M : Type 0} {G : Ghosts W M} (b : Cutter W M G) (rest : List Face) {f : Face} {list yielded : List Face} → MeetsFirst b list →
    yielded ++ f ∷ rest ≡ list → yielded ≡ [] → Meets f (face_of b.tri)
first_met b rest {f} {list} {yielded} h e q =
    subst (MeetsFirst b) (sym e ∙ ap (λ (l : List Face). l ++ f ∷ rest) q) h

-- the list has grown by what a triangle leaves of one region
pub split_grows_list : {W M : Type 0} {G : Ghosts W M} (b : Cutter W M G) (old fs : List Face) (f : Face) (out new : List Face) →
    ((front : List Face) → AreSplit b front old → AreSplit b (front ++ fs) out) → HasGrown (AreLeftByCutter b f) out new →
    (front : List Face) → AreSplit b front old → AreSplit b (front ++ (fs ++ f ∷ [])) new
split_grows_list b old fs f out new k g front h =
    subst (λ (l : List Face). AreSplit b l new) (append_assoc front fs (f ∷ []))
    (subst (λ (l : List Face). AreSplit b ((front ++ fs) ++ f ∷ []) l) (sym g.is) (each_push (k front h) g.holds))

-- the list has grown by one face that has the property
pub grown_by_one : (P : List Face → Type 0) (f : Face) (old new : List Face) → P (f ∷ []) → new ≡ old ++ f ∷ [] → HasGrown P old new
grown_by_one P f old new p e = record { more = f ∷ []; is = e; holds = p }

-- one more region that the cutter leaves whole
pub whole_more : {W M : Type 0} {G : Ghosts W M} (b : Cutter W M G) (list : List Face) (i : ℕ) (d : Face) → i < length list → d ≡ get_or list i d →
    AreSplit b (take i list) (take i list) → AreLeftByCutter b d (d ∷ []) →
    AreSplit b (take (i + 1) list) (take (i + 1) list)
whole_more b list i d l e h r = rw (take_more list i d l, ← e) (each_push h r)

-- the first k members of a list with at most k members are all of it
pub take_all : {A : Type 0} (k : ℕ) (xs : List A) → length xs ≤ k → take k xs ≡ xs
take_all zero [] l = refl
take_all zero (x ∷ xs) l = absurd (omega (arith, l))
take_all (suc k) [] l = refl
take_all (suc k) (x ∷ xs) l = ap (λ ys. x ∷ ys) (take_all k xs (omega (arith, l)))

-- regions at the front that are left whole, and the split ones behind them
pub split_front : {W M : Type 0} {G : Ghosts W M} (b : Cutter W M G) (k : ℕ) (old : List Face) {front back new : List Face} → front ≡ take k old →
    back ≡ drop k old → AreSplit b (take k old) (take k old) →
    ((start : List Face) → AreSplit b start front → AreSplit b (start ++ back) new) → AreSplit b old new
split_front b k old {front} {back} {new} e q h f =
    subst (λ (l : List Face). AreSplit b l new) (ap (λ (l : List Face). take k old ++ l) q ∙ take-append-drop k old)
    (f (take k old) (subst (AreSplit b (take k old)) (sym e) h))

-- a cutter that leaves all regions whole
pub split_none : {W M : Type 0} {G : Ghosts W M} (b : Cutter W M G) (k : ℕ) (old : List Face) → length old ≤ k → AreSplit b (take k old) (take k old) → AreSplit b old old
split_none b k old l h = subst (λ (fs : List Face). AreSplit b fs fs) (take_all k old l) h

-- before the first cutter there is the start alone
pub cut_begun : {W M : Type 0} {G : Ghosts W M} (f : Face) {none new : List Face} → none ≡ [] → new ≡ none ++ f ∷ [] →
    AreCut {W = W} {M = M} {G = G} [] (f ∷ []) new
cut_begun {W} {M} {G} f {none} {new} e q =
    subst (AreCut {W = W} {M = M} {G = G} [] (f ∷ [])) (sym (q ∙ ap (λ (fs : List Face). fs ++ f ∷ []) e)) done

-- ---- what is left is a part of the triangle
cutting_plane_keeps : (t : Tri) (b : CuttingPlane) (f : Face) (fs : List Face) → IsPartOf t f → AreLeftByCuttingPlane b f fs → Every (IsPartOf t) fs
cutting_plane_keeps t b f fs h (splits m c) = (
  part_below t f b.plane h c.some_below,
  (
    part_below t f (opposite b.plane) h
        (record {
          at = c.some_above.at;
          inside = c.some_above.inside;
          holds =
              negative_in (over_opposite b.plane c.some_above.at
              (record { over = positive_out (value_at b.plane c.some_above.at) c.some_above.holds })).under;
        }),
    tt,
  ),
)
cutting_plane_keeps t b f fs h (whole n) = (h, tt)

-- cuts keep parts of a triangle parts of it
pub cuts_keep : (t : Tri) {bs : List CuttingPlane} {fs gs : List Face} →
    Chain (λ b. Each (AreLeftByCuttingPlane b)) bs fs gs → Every (IsPartOf t) fs → Every (IsPartOf t) gs
cuts_keep t done h = h
cuts_keep t (step {x = b} r c) h =
    cuts_keep t c (each_every (IsPartOf t) (IsPartOf t) (cutting_plane_keeps t b) r h)

-- parts of a triangle lie in its plane
pub parts_regions : (t : Tri) (fs : List Face) → Every (IsPartOf t) fs → All (LiesInPlaneOf t) fs
parts_regions t [] h = All-nil (LiesInPlaneOf t)
parts_regions t (f ∷ fs) h = All-cons (LiesInPlaneOf t) f fs h.0.plane (parts_regions t fs h.1)
