-- The written regions of a leaf are one list, and so are those of a scene.
use Rattle.std.proofs.Common.{◌≡◌, ℕ, refl, sym, ap, ap₂, ◌∙◌, subst, arith, le_refl, ◌+◌, ◌*◌, true, List, []}
use Rattle.std.proofs.Common.{◌∷◌, ◌++◌, length, ℤ, pos, neg_ℤ}
use Rattle.std.specs.List.{range_with_len}
use Rattle.std.proofs.lemmas.Option.{get_or_from_slice_get}
use Rattle.ember_algebra.specs.Relations.{Each, none, more, Every}
use Rattle.ember_algebra.proofs.Relations.{each_unique, each_unique_where, every_from}
use Rattle.ember_model.specs.declared.face.Face.{Face}
use Rattle.ember_model.specs.declared.point.Spot.{Spot}
use Rattle.ember_model.specs.declared.tri.Tri.{Tri}
use Rattle.ember_model.specs.Planes.{main_axis}
use Rattle.ember_model.specs.Faces.{is_inside, face_of}
use Rattle.ember_model.specs.Owners.{IsOwner}
use Rattle.ember_model.specs.Meshes.{of_mesh, IsBalanced, IsScene}
use Rattle.ember_model.specs.Sides.{IsSides}
use Rattle.ember_expr.specs.Formula.{Formula}
use Rattle.ember_expr.specs.Truth.{truth}
use Rattle.ember_box.specs.Boxes.{Cell, in_steps}
use Rattle.ember_box.specs.Near.{near, no_tri}
use Rattle.ember_box.specs.Regions.{IsRegions}
use Rattle.ember_box.proofs.OneList.{regions_unique}
use Rattle.ember_ref.specs.ClosedBoxes.{HasPoint}
use Rattle.ember_trace.specs.Boxed.{IsRegion}
use Rattle.ember_trace.proofs.BoxedRegions.{regions_lie_in, region_inside}
use Rattle.ember_trace.proofs.OneSides.{balanced_sides}
use Rattle.ember_trace.proofs.TracedSides.{in_box}
use Rattle.ember_leaf.specs.declared.kept.Kept.{Kept}
use Rattle.ember_leaf.specs.KeptRegions.{NarrowKept}
use Rattle.ember_leaf.specs.Written.{front, IsWrittenOfRegion, unowned, same_value, written, AreRegionsWritten}
use Rattle.ember_leaf.specs.Written.{IsCovered, IsWrittenOf, regional, hidden, IsWrittenIn}
use Rattle.ember_leaf.specs.Scenes.{HasOneValue, LeafGivesOn, regions, nothing, IsWrittenOn, IsWritten}

-- if no member gives anything, all give nothing
each_nothing : {X Y : Type 0} {R : X → List Y → Type 0} (Q : X → Type 0) →
    ((x : X) (ys : List Y) → Q x → R x ys → ys ≡ []) → {xs : List X} {ys : List Y} → Every Q xs → Each R xs ys → ys ≡ []
each_nothing Q f h none = refl
each_nothing Q f h (more {x = x} {ys = ys} {zs = zs} r e) =
    ap₂ (λ us vs. us ++ vs) (f x ys h.0 r) (each_nothing Q f h.1 e)

-- the regions of a leaf's triangle are regions of the leaf
each_region : (near : List Tri) (c : Cell) (i : ℕ) (faces : List Face) → IsRegions c near i faces → Every (IsRegion near c) faces
each_region near c i faces r =
    every_from (IsRegion near c) faces (λ j g e. record { tri = i; regions = faces; are_regions = r; index = j; here = e })

-- a covered triangle owns no region
pub hidden_owns_none : (near : List Tri) (c : Cell) (i : ℕ) (faces : List Face) → IsRegions c near i faces →
    IsCovered near i → Every (λ g. IsOwner near i g → ⊥) faces
hidden_owns_none near c i faces r h =
    every_from (λ g. IsOwner near i g → ⊥) faces
    (λ j g e o. o.first h.index h.own h.cover h.before h.here h.there h.coplanar
    (record {
      holds = λ v w. h.contains.holds v
          (subst (λ (t : Tri). is_inside (face_of t) v ≡ true) (get_or_from_slice_get near i h.own no_tri h.there)
          (region_inside c near i j faces g r e v w));
    }))

module _ (scene : List Tri) (f : Formula) (c : Cell) (near : List Tri) where
  none_owned : {W M : Type 0} (i : ℕ) (g : Face) (ks : List (Kept W M)) → (IsOwner near i g → ⊥) → IsWrittenOfRegion scene f near i g ks → ks ≡ []
  none_owned i g ks n (unowned m) = refl
  none_owned i g ks n (same_value s e) = refl
  none_owned i g ks n (written o s e) = absurd (n o)

  -- so nothing is written of it
  pub covered_writes_nothing : {W M : Type 0} (i : ℕ) (ks : List (Kept W M)) → IsCovered near i → AreRegionsWritten scene f c near i ks → ks ≡ []
  covered_writes_nothing i ks h r =
      each_nothing (λ g. IsOwner near i g → ⊥) (λ g xs n p. none_owned i g xs n p) (hidden_owns_none near c i r.faces r.are_regions h) r.are_written

-- ---- one list
-- all sides of a region are equal
abbrev pub SidesAreOne : List Tri → Face → Type 0
SidesAreOne scene face =
    (before after other_before other_after : List ℤ) → IsSides scene face before after →
    IsSides scene face other_before other_after → (before ≡ other_before) × (after ≡ other_after)

module _ (scene : List Tri) (f : Formula) (c : Cell) (near : List Tri) (one : (face : Face) → IsRegion near c face → SidesAreOne scene face) where
  region_unique : {W M : Type 0} (i : ℕ) (g : Face) (us vs : List (Kept W M)) → IsRegion near c g → IsWrittenOfRegion scene f near i g us →
      IsWrittenOfRegion scene f near i g vs → us ≡ vs
  region_unique i g us vs r (unowned n) (unowned m) = refl
  region_unique i g us vs r (unowned n) (same_value x e) = refl
  region_unique i g us vs r (unowned n) (written o x e) = absurd (n o)
  region_unique i g us vs r (same_value x e) (unowned n) = refl
  region_unique i g us vs r (same_value x e) (same_value y d) = refl
  region_unique i g us vs r (same_value {before = a} {after = b} x e) (written {before = p} {after = q} o y d) =
      let s = one g r a b p q x y in
      absurd (d (ap (λ (v : List ℤ). truth v f) (sym s.0) ∙ e ∙ ap (λ (v : List ℤ). truth v f) s.1))
  region_unique i g us vs r (written o x e) (unowned n) = absurd (n o)
  region_unique i g us vs r (written {before = a} {after = b} o x e) (same_value {before = p} {after = q} y d) =
      let s = one g r a b p q x y in
      absurd (e (ap (λ (v : List ℤ). truth v f) s.0 ∙ d ∙ ap (λ (v : List ℤ). truth v f) (sym s.1)))
  region_unique {W} {M} i g us vs r (written {before = a} {after = b} o x e) (written {before = p} {after = q} l y d) =
      let s = one g r a b p q x y in
      ap₂ (λ (v w : List ℤ). let k : Kept W M = record { tri = i; flipped = truth (front g v w) f; ring = g } in k ∷ []) s.0 s.1

  of_unique : {W M : Type 0} (i : ℕ) (us vs : List (Kept W M)) → IsWrittenOf scene f c near i us → IsWrittenOf scene f c near i vs → us ≡ vs
  of_unique i us vs (regional u) (regional v) =
      each_unique_where (IsRegion near c) (λ g xs ys r p q. region_unique i g xs ys r p q)
      (each_region near c i u.faces u.are_regions) u.are_written
      (subst (λ (gs : List Face). Each (IsWrittenOfRegion scene f near i) gs vs)
      (sym (regions_unique c near i u.faces v.faces u.are_regions v.are_regions)) v.are_written)
  of_unique i us vs (regional u) (hidden h) = covered_writes_nothing scene f c near i us h u
  of_unique i us vs (hidden h) (regional v) = sym (covered_writes_nothing scene f c near i vs h v)
  of_unique i us vs (hidden h) (hidden k) = refl

  -- the written regions of a leaf are one list
  leaf_unique : {W M : Type 0} (us vs : List (Kept W M)) → IsWrittenIn scene f c near us → IsWrittenIn scene f c near vs → us ≡ vs
  leaf_unique us vs u v = each_unique of_unique u v

-- ---- if the expression has one value
module _ (scene : List Tri) (f : Formula) (c : Cell) (one : HasOneValue scene f c) where
  both_sides : (g : Face) (before after : List ℤ) (s : IsSides scene g before after) → HasPoint c s.at →
      (truth before f ≡ one.value) × (truth after f ≡ one.value)
  both_sides g before after s has =
      let k = main_axis g.support in let b = (one.beside s.at has).steps k (neg_ℤ (pos 1)) in let a = (one.beside s.at has).steps k (pos 1) in
      let m = b.from + a.from + s.bound * 1 + 1 in
      let x = s.sees_before 1 m (le_refl 1) (omega arith) in let y = s.sees_after 1 m (le_refl 1) (omega arith) in (
        ap (λ (v : List ℤ). truth v f) (sym x.counts_are) ∙ b.holds m (omega arith) x.clear k,
        ap (λ (v : List ℤ). truth v f) (sym y.counts_are) ∙ a.holds m (omega arith) y.clear k,
      )

  module _ (near : List Tri) (has : (g : Face) → IsRegion near c g → (v : Spot) → is_inside g v ≡ true → HasPoint c v) where
    none_at : {W M : Type 0} (i : ℕ) (g : Face) (ks : List (Kept W M)) → IsRegion near c g → IsWrittenOfRegion scene f near i g ks → ks ≡ []
    none_at i g ks r (unowned n) = refl
    none_at i g ks r (same_value s e) = refl
    none_at i g ks r (written {before = b} {after = a} o s e) =
        let h = both_sides g b a s (has g r s.at s.inside) in absurd (e (h.0 ∙ sym h.1))

    none_of : {W M : Type 0} (i : ℕ) (ks : List (Kept W M)) → IsWrittenOf scene f c near i ks → ks ≡ []
    none_of i ks (regional w) =
        each_nothing (IsRegion near c) (λ g xs r p. none_at i g xs r p) (each_region near c i w.faces w.are_regions) w.are_written
    none_of i ks (hidden h) = refl

    -- no region is written in the box
    none_written : {W M : Type 0} (ks : List (Kept W M)) → IsWrittenIn scene f c near ks → ks ≡ []
    none_written ks w = each_nothing (λ i. Unit {0}) (λ i xs t p. none_of i xs p) (every_from (λ i. Unit {0}) (range_with_len 0 (length near)) (λ j i e. tt)) w

-- ---- a scene of closed meshes
module _ (scene : List Tri) (f : Formula) (balanced : (mesh : ℕ) → IsBalanced (of_mesh mesh scene)) where
  sides_one : (c : Cell) (g : Face) → IsRegion (near scene c) c g → SidesAreOne scene g
  sides_one c g r b a p q x y = balanced_sides scene (near scene c) balanced c refl g r b a p q x y

  has_region : (c : Cell) (g : Face) → IsRegion (near scene c) c g → (v : Spot) → is_inside g v ≡ true → HasPoint c v
  has_region c g r v h =
      in_box c g v (regions_lie_in c (near scene c) r.tri r.index r.regions g r.are_regions r.here) h

  -- the written regions of a leaf of a scene are one list
  pub balanced_in_unique : {W M : Type 0} (c : Cell) (us vs : List (Kept W M)) → IsWrittenIn scene f c (near scene c) us →
      IsWrittenIn scene f c (near scene c) vs → us ≡ vs
  balanced_in_unique c us vs u v = leaf_unique scene f c (near scene c) (sides_one c) us vs u v

  -- if the expression has one value, it has that value on both sides of each region
  pub balanced_value_on_sides : (c : Cell) (h : HasOneValue scene f c) (g : Face) (before after : List ℤ) →
      IsRegion (near scene c) c g → IsSides scene g before after → (truth before f ≡ h.value) × (truth after f ≡ h.value)
  balanced_value_on_sides c h g before after r s = both_sides scene f c h g before after s (has_region c g r s.at s.inside)

  -- so nothing is written there
  pub balanced_nothing : {W M : Type 0} (c : Cell) → HasOneValue scene f c → (ks : List (Kept W M)) → IsWrittenIn scene f c (near scene c) ks → ks ≡ []
  balanced_nothing c h ks w = none_written scene f c h (near scene c) (has_region c) ks w

  gives_unique : {W M : Type 0} (c : Cell) (us vs : List (Kept W M)) → LeafGivesOn scene f c us → LeafGivesOn scene f c vs → us ≡ vs
  gives_unique c us vs (regions u) (regions v) = balanced_in_unique c us vs u v
  gives_unique c us vs (regions u) (nothing h) = balanced_nothing c h us u
  gives_unique c us vs (nothing h) (regions v) = sym (balanced_nothing c h vs v)
  gives_unique c us vs (nothing h) (nothing k) = refl

  -- those of all leaves are one list
  pub balanced_unique : {W M : Type 0} (s : ℕ) (us vs : List (Kept W M)) → IsWrittenOn s scene f us → IsWrittenOn s scene f vs → us ≡ vs
  balanced_unique s us vs u v = each_unique (λ c. gives_unique (in_steps s c)) u v

-- ---- a scene on the narrow grid
module _ (scene : List Tri) (f : Formula) (meshes : ℕ) (is : IsScene scene meshes) where
  pub written_in_unique : (c : Cell) (us vs : List NarrowKept) → IsWrittenIn scene f c (near scene c) us → IsWrittenIn scene f c (near scene c) vs → us ≡ vs
  written_in_unique c us vs u v = balanced_in_unique scene f is.balanced c us vs u v

  pub value_on_sides : (c : Cell) (h : HasOneValue scene f c) (g : Face) (before after : List ℤ) →
      IsRegion (near scene c) c g → IsSides scene g before after → (truth before f ≡ h.value) × (truth after f ≡ h.value)
  value_on_sides c h g before after r s = balanced_value_on_sides scene f is.balanced c h g before after r s

  pub nothing_written : (c : Cell) → HasOneValue scene f c → (ks : List NarrowKept) → IsWrittenIn scene f c (near scene c) ks → ks ≡ []
  nothing_written c h ks w = balanced_nothing scene f is.balanced c h ks w

  pub written_unique : (us vs : List NarrowKept) → IsWritten scene f us → IsWritten scene f vs → us ≡ vs
  written_unique us vs u v = balanced_unique scene f is.balanced 0 us vs u v
