-- A triangle has regions in a box: it can't be that it has none. So a covered triangle's are regions
-- that it doesn't own.
use Rattle.std.proofs.Common.{◌≡◌, ◌⊎◌, inl, inr, ℕ, true, false, List, [], ◌∷◌, ◌++◌}
use Rattle.ember_algebra.specs.Relations.{Each, Chain, none, more, done, step, Every}
use Rattle.ember_model.specs.declared.tri.Tri.{Tri}
use Rattle.ember_model.specs.declared.face.Face.{Face}
use Rattle.ember_model.specs.Faces.{is_flat, face_of, below, above, Cuts, Meets}
use Rattle.ember_model.specs.Owners.{IsOwner}
use Rattle.ember_expr.specs.Formula.{Formula}
use Rattle.ember_box.specs.Boxes.{Cell}
use Rattle.ember_box.specs.Near.{tri_at}
use Rattle.ember_box.specs.Regions.{Wall, walls, FaceIsAbove, FaceLiesOn, AreLeftByWall, cut, outside, in_high, stays}
use Rattle.ember_box.specs.Regions.{CuttingPlane, cutting_planes, AreLeftByCuttingPlane, splits, whole, IsRegions}
use Rattle.ember_leaf.specs.declared.kept.Kept.{Kept}
use Rattle.ember_leaf.specs.Written.{IsWrittenOfRegion, unowned, AreRegionsWritten, IsWrittenOf, regional, hidden}
use Rattle.ember_leaf.proofs.WrittenRegionsUnique.{hidden_owns_none}

-- ---- either it holds or it doesn't
pub either : (P : Type 0) → ((P ⊎ (P → ⊥)) → ⊥) → ⊥
either P n = n (inr (λ p. n (inl p)))

at_wall : (w : Wall) (f : Face) → ((fs : List Face) → AreLeftByWall w f fs → ⊥) → ⊥
at_wall w f n = either (Cuts f w.plane) by_cut
  where
    by_on : (Cuts f w.plane → ⊥) → (FaceIsAbove f w.plane → ⊥) → ((w.is_high ≡ true × FaceLiesOn f w.plane) ⊎ (w.is_high ≡ true × FaceLiesOn f w.plane → ⊥)) → ⊥
    by_on c a (inl o) = n [] (in_high o.0 o.1)
    by_on c a (inr m) = n (f ∷ []) (stays c a (λ h o. m (h, o)))

    by_above : (Cuts f w.plane → ⊥) → (FaceIsAbove f w.plane ⊎ (FaceIsAbove f w.plane → ⊥)) → ⊥
    by_above c (inl a) = n [] (outside a)
    by_above c (inr a) = either (w.is_high ≡ true × FaceLiesOn f w.plane) (by_on c a)

    by_cut : (Cuts f w.plane ⊎ (Cuts f w.plane → ⊥)) → ⊥
    by_cut (inl c) = n (below f w.plane ∷ []) (cut c)
    by_cut (inr c) = either (FaceIsAbove f w.plane) (by_above c)

at_cutting_plane : (b : CuttingPlane) (f : Face) → ((fs : List Face) → AreLeftByCuttingPlane b f fs → ⊥) → ⊥
at_cutting_plane b f n = either (Meets f b.face × Cuts f b.plane) by
  where
    by : ((Meets f b.face × Cuts f b.plane) ⊎ (Meets f b.face × Cuts f b.plane → ⊥)) → ⊥
    by (inl h) = n (below f b.plane ∷ above f b.plane ∷ []) (splits h.0 h.1)
    by (inr m) = n (f ∷ []) (whole (λ h c. m (h, c)))

-- ---- lists
pub some_each : {X Y : Type 0} {R : X → List Y → Type 0} → ((x : X) → ((ys : List Y) → R x ys → ⊥) → ⊥) → (xs : List X) → ((ys : List Y) → Each R xs ys → ⊥) → ⊥
some_each f [] n = n [] none
some_each f (x ∷ xs) n = f x (λ ys r. some_each f xs (λ zs e. n (ys ++ zs) (more r e)))

-- if no member can fail to have a list, the members together can't fail to have one
pub some_each_where : {X Y : Type 0} {R : X → List Y → Type 0} (P : X → Type 0) →
    ((x : X) → P x → ((ys : List Y) → R x ys → ⊥) → ⊥) → (xs : List X) → Every P xs → ((ys : List Y) → Each R xs ys → ⊥) →
    ⊥
some_each_where P f [] h n = n [] none
some_each_where P f (x ∷ xs) h n =
    f x h.0 (λ ys r. some_each_where P f xs h.1 (λ zs e. n (ys ++ zs) (more r e)))

some_chain : {X A : Type 0} {R : X → A → A → Type 0} → ((x : X) (a : A) → ((b : A) → R x a b → ⊥) → ⊥) →
    (xs : List X) (a : A) → ((b : A) → Chain R xs a b → ⊥) → ⊥
some_chain f [] a n = n a done
some_chain f (x ∷ xs) a n = f x a (λ b r. some_chain f xs b (λ c k. n c (step r k)))

-- ---- regions
pub some_regions : (c : Cell) (ts : List Tri) (i : ℕ) → ((fs : List Face) → IsRegions c ts i fs → ⊥) → ⊥
some_regions c ts i n =
    some_chain (λ w fs. some_each (at_wall w) fs) (walls c)
    (elim (is_flat (tri_at ts i)) [ true ↦ [] | false ↦ face_of (tri_at ts i) ∷ [] ])
    (λ start s. some_chain (λ b fs. some_each (at_cutting_plane b) fs) (cutting_planes ts i) start
    (λ fs k. n fs (record { start = start; is_start = s; cuts = k })))

all_unowned : {W M : Type 0} (scene : List Tri) (f : Formula) (near : List Tri) (i : ℕ) (fs : List Face) →
    Every (λ g. IsOwner near i g → ⊥) fs → Each (IsWrittenOfRegion {W = W} {M = M} scene f near i) fs []
all_unowned scene f near i [] h = none
all_unowned scene f near i (g ∷ gs) h = more (unowned h.0) (all_unowned scene f near i gs h.1)

-- what is written of a triangle is what is written of its regions
pub written_by_regions : {W M : Type 0} (scene : List Tri) (f : Formula) (c : Cell) (near : List Tri) (i : ℕ) {ks : List (Kept W M)} →
    IsWrittenOf scene f c near i ks → (AreRegionsWritten scene f c near i ks → ⊥) → ⊥
written_by_regions scene f c near i (regional r) n = n r
written_by_regions scene f c near i (hidden h) n =
    some_regions c near i (λ fs r. n (record { faces = fs; are_regions = r; are_written = all_unowned scene f near i fs (hidden_owns_none near c i fs r h) }))
