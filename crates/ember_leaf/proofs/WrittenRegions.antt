-- What is written of the regions of one triangle after another.
use Rattle.std.proofs.Common.{◌≡◌, sym, ap, subst, ◌∙◌, arith, ℕ, ◌+◌, Bool, true, false, Option, None, Some, List, []}
use Rattle.std.proofs.Common.{◌∷◌, ◌++◌, length, append_assoc, get_or, ℤ, All}
use Rattle.std.specs.List.{range_with_len}
use Rattle.std.proofs.lemmas.List.{append-nil}
use Rattle.std.proofs.lemmas.Option.{slice_get-get_or}
use Rattle.ember_algebra.specs.Relations.{Each, Chain, none, more, done, step}
use Rattle.ember_algebra.proofs.Relations.{each_push}
use Rattle.ember_algebra.proofs.Lists.{range_more}
use Rattle.ember_model.specs.declared.tri.Tri.{Tri}
use Rattle.ember_model.specs.declared.face.Face.{Face}
use Rattle.ember_model.specs.Faces.{is_flat, face_of}
use Rattle.ember_model.specs.Owners.{IsOwner}
use Rattle.ember_model.specs.Sides.{IsSides}
use Rattle.ember_expr.specs.Formula.{Formula}
use Rattle.ember_box.specs.Boxes.{Cell}
use Rattle.ember_box.specs.Near.{tri_at}
use Rattle.ember_box.specs.Regions.{walls, AreLeftByWall, AreLeftByCuttingPlane, cutting_planes, IsStart, IsRegions}
use Rattle.ember_box.specs.Regions as regions
use Rattle.ember_trace.specs.Boxed.{LiesIn}
use Rattle.ember_trace.proofs.BoxedRegions.{regions_lie_in}
use Rattle.ember_leaf.specs.declared.kept.Kept.{Kept}
use Rattle.ember_leaf.specs.Cutters.{Without, ended, left, dropped}
use Rattle.ember_leaf.specs.Written.{IsWrittenOfRegion, unowned, same_value, written, AreOwned, IsWrittenOf, regional, IsWrittenIn, IsFlip, WhereFitsWithin, HasGrown}

-- ---- one region
module _ {W M : Type 0} (scene : List Tri) (f : Formula) (near : List Tri) (i : ℕ) (face : Face) (before after : List ℤ) (s : IsSides scene face before after) where
  -- an owned region with different values on its sides is written
  pub is_written : (turn : Option Bool) (flipped : Bool) → IsOwner near i face → IsFlip f face before after turn →
      turn ≡ Some flipped → IsWrittenOfRegion {W = W} {M = M} scene f near i face
      (record { tri = i; flipped = flipped; ring = face } ∷ [])
  is_written turn flipped o t e =
      let k = subst (IsFlip f face before after) e t in
      subst (λ (b : Bool). IsWrittenOfRegion {W = W} {M = M} scene f near i face (record { tri = i; flipped = b; ring = face } ∷ [])) (sym k.1) (written o s k.0)

  -- a region with one value on both sides isn't written
  pub isnt_written : (turn : Option Bool) → IsFlip f face before after turn → turn ≡ None → IsWrittenOfRegion {W = W} {M = M} scene f near i face []
  isnt_written turn t e = same_value s (subst (IsFlip f face before after) e t)

-- ---- a list that grows
pub grown_none : {W M : Type 0} (P : List (Kept W M) → Type 0) (old : List (Kept W M)) → P [] → HasGrown P old old
grown_none P old p = record { more = []; is = sym (append-nil old); holds = p }

-- one more region, with what is written of it
pub grown_more : {W M : Type 0} (m fine : ℕ) (ns : List Tri) (c : Cell) (counts : List ℤ) (R : List Tri → Face → List (Kept W M) →
    Type 0) (fs : List Face) (f : Face) (old mid new ks : List (Kept W M)) →
    HasGrown (WhereFitsWithin m fine ns c counts (λ scene. Each (R scene) fs)) old mid →
    WhereFitsWithin m fine ns c counts (λ scene. R scene f) ks → new ≡ mid ++ ks →
    HasGrown (WhereFitsWithin m fine ns c counts (λ scene. Each (R scene) (fs ++ f ∷ []))) old new
grown_more m fine ns c counts R fs f old mid new ks g r e =
    record {
      more = g.more ++ ks;
      is = e ∙ ap (λ l. l ++ ks) g.is ∙ append_assoc old g.more ks;
      holds =
          λ scene h. each_push (g.holds scene h) (r scene h);
    }

-- nothing is written of the regions that the triangle doesn't own
all_written_of : {W M : Type 0} (scene ns : List Tri) (f : Formula) (i : ℕ) {all fs : List Face} {ks : List (Kept W M)} →
    Without (λ g. IsOwner ns i g → ⊥) (IsOwner ns i) all fs → Each (IsWrittenOfRegion scene f ns i) fs ks →
    Each (IsWrittenOfRegion scene f ns i) all ks
all_written_of scene ns f i ended none = none
all_written_of scene ns f i (left o w) (more r e) = more r (all_written_of scene ns f i w e)
all_written_of scene ns f i (dropped n w) e = more (unowned n) (all_written_of scene ns f i w e)

-- owned regions, each with what is written of it, are what is written of their triangle
pub grown_owned : {W M : Type 0} (m fine : ℕ) (ns : List Tri) (c : Cell) (counts : List ℤ) (f : Formula) (i : ℕ) (fs gs : List Face)
    (old new : List (Kept W M)) → HasGrown (WhereFitsWithin m fine ns c counts (λ scene. Each (IsWrittenOfRegion scene f ns i) fs)) old new →
    fs ≡ gs → AreOwned c ns i gs → HasGrown (WhereFitsWithin m fine ns c counts (λ scene. IsWrittenOf scene f c ns i)) old new
grown_owned m fine ns c counts f i fs gs old new g e o =
    record {
      more = g.more;
      is = g.is;
      holds = λ scene h. regional
          (record {
            faces = o.all;
            are_regions = o.are_regions;
            are_written =
                all_written_of scene ns f i o.owned (subst (λ (l : List Face). Each (IsWrittenOfRegion scene f ns i) l g.more) e
                (g.holds scene h));
          });
    }

-- once nothing is left to yield, all of the list has been yielded
pub all_yielded : (ys rest : List Face) {all list : List Face} → ys ++ rest ≡ all → length rest ≡ 0 → all ≡ list → ys ≡ list
all_yielded ys [] e l q = sym (append-nil ys) ∙ e ∙ q
all_yielded ys (f ∷ fs) e l q = absurd (omega (arith, l))

-- ---- no region
none_cut : (bs : List regions.CuttingPlane) → Chain (λ b. Each (AreLeftByCuttingPlane b)) bs [] []
none_cut [] = done
none_cut (b ∷ bs) = step none (none_cut bs)

none_left : (ws : List regions.Wall) → Chain (λ w. Each (AreLeftByWall w)) ws [] []
none_left [] = done
none_left (w ∷ ws) = step none (none_left ws)

flat_start : (c : Cell) (t : Tri) → is_flat t ≡ true → IsStart c t []
flat_start c t e =
    subst (λ (fs : List Face). Chain (λ w. Each (AreLeftByWall w)) (walls c) fs [])
    (λ j. elim (sym e j) as (λ x. List Face) [ true ↦ [] | false ↦ face_of t ∷ [] ]) (none_left (walls c))

module _ {W M : Type 0} (scene : List Tri) (f : Formula) (c : Cell) (ns : List Tri) (i : ℕ) where
  -- nothing is written of a triangle without a start
  pub none_started : IsStart c (tri_at ns i) [] → IsWrittenOf {W = W} {M = M} scene f c ns i []
  none_started s =
      regional (record { faces = []; are_regions = record { start = []; is_start = s; cuts = none_cut (cutting_planes ns i) }; are_written = none })

  -- nothing is written of a flat triangle
  pub none_flat : is_flat (tri_at ns i) ≡ true → IsWrittenOf {W = W} {M = M} scene f c ns i []
  none_flat e = none_started (flat_start c (tri_at ns i) e)

-- ---- all regions
pub all_lie_in : (c : Cell) (ns : List Tri) (i : ℕ) (fs : List Face) → IsRegions c ns i fs → All (LiesIn c) fs
all_lie_in c ns i fs r k d l = regions_lie_in c ns i k fs (get_or fs k d) r (slice_get-get_or fs k d l)

-- ---- all triangles
pub next_written : {W M : Type 0} (m fine : ℕ) (ns : List Tri) (c : Cell) (counts : List ℤ) (R : List Tri → ℕ → List (Kept W M) →
    Type 0) (n : ℕ) (old new : List (Kept W M)) → WhereFitsWithin m fine ns c counts (λ scene. Each (R scene) (range_with_len 0 n)) old →
    HasGrown (WhereFitsWithin m fine ns c counts (λ scene. R scene n)) old new →
    WhereFitsWithin m fine ns c counts (λ scene. Each (R scene) (range_with_len 0 (n + 1))) new
next_written m fine ns c counts R n old new w g scene h =
    subst (λ (l : List ℕ). Each (R scene) l new) (sym (range_more n))
    (subst (λ ks. Each (R scene) (range_with_len 0 n ++ n ∷ []) ks) (sym g.is)
    (each_push (w scene h) (g.holds scene h)))

-- after the last triangle, the list is what is written in the leaf
pub all_written : {W M : Type 0} (m fine : ℕ) (ns near : List Tri) (c : Cell) (counts : List ℤ) (f : Formula) (n : ℕ) (old new : List (Kept W M)) →
    ns ≡ near → n ≡ length ns → new ≡ old → WhereFitsWithin m fine ns c counts
    (λ scene. Each (IsWrittenOf scene f c ns) (range_with_len 0 n)) old →
    WhereFitsWithin m fine near c counts (λ scene. IsWrittenIn scene f c near) new
all_written m fine ns near c counts f n old new e q r w =
    subst (λ (us : List Tri). WhereFitsWithin m fine us c counts (λ scene. IsWrittenIn scene f c us) new) e
    (λ scene h. subst (λ (m : ℕ). Each (IsWrittenOf scene f c ns) (range_with_len 0 m) new) q
    (subst (λ ks. Each (IsWrittenOf scene f c ns) (range_with_len 0 n) ks) (sym r) (w scene h)))
