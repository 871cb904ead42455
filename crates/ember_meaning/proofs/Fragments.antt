-- The written regions of a scene are fragments of its triangles.
use Rattle.std.proofs.Common.{◌≡◌, refl, sym, ap, subst, ◌∙◌, ℕ, zero, suc, Bool, true, false, not, cond}
use Rattle.std.proofs.Common.{List, [], ◌∷◌, ◌++◌, map, filter, Some, slice_get, get_or, inl, inr, ℤ, pos, neg_ℤ, ◌<ℤ◌, arith}
use Rattle.std.specs.List.{AllByRecursion}
use Rattle.std.proofs.lemmas.Bool.{and_parts, and_from}
use Rattle.ember_algebra.specs.Large.{Eventually}
use Rattle.ember_algebra.specs.Relations.{Every}
use Rattle.ember_algebra.specs.Sign.{is_positive}
use Rattle.ember_algebra.proofs.Large.{eventually_both, eventually_map}
use Rattle.ember_algebra.proofs.Laws.{linear}
use Rattle.ember_algebra.proofs.Relations.{every_unit}
use Rattle.ember_model.specs.declared.plane.Plane.{Plane}
use Rattle.ember_model.specs.declared.point.Spot.{Spot}
use Rattle.ember_model.specs.declared.face.Face.{Face}
use Rattle.ember_model.specs.declared.tri.Tri.{Tri}
use Rattle.ember_model.specs.Planes.{value_at, support_of, opposite, HasNoNormal}
use Rattle.ember_model.specs.Points.{offset_by}
use Rattle.ember_model.specs.Faces.{is_inside, is_in_closed, is_flat, face_of, below, flipped_face}
use Rattle.ember_model.specs.Clear.{IsClear, AreClear}
use Rattle.ember_model.specs.ClearTest.{none_positive}
use Rattle.ember_model.proofs.SignTests.{clash, positive_in}
use Rattle.ember_model.proofs.Hits.{closed_on, closed_parts}
use Rattle.ember_law.proofs.FlatTriangles.{flat_in}
use Rattle.ember_law.proofs.Shifted.{eventually_true}
use Rattle.ember_expr.specs.Formula.{Formula}
use Rattle.ember_box.specs.Boxes.{Cell, root}
use Rattle.ember_box.specs.Halving.{leaves}
use Rattle.ember_box.specs.Near.{is_near, near, no_tri, tri_at}
use Rattle.ember_box.specs.Regions.{IsRegions}
use Rattle.ember_trace.proofs.BoxedRegions.{each_every}
use Rattle.ember_trace.proofs.CutRegions.{Keeps, walls_keep, cutting_planes_keep}
use Rattle.ember_leaf.specs.KeptRegions.{NarrowKept as Kept}
use Rattle.ember_leaf.specs.Scenes.{IsWritten, LeafGives, regions, nothing}
use Rattle.ember_leaf.specs.Written.{IsWrittenOfRegion, unowned, same_value, written, IsWrittenOf, regional, hidden}
use Rattle.ember_text.specs.Documents.{written_face}
use Rattle.ember_alone.specs.Whole.{AreMissedNearby, Fragment, IsFragmentOf, faces}
use Rattle.ember_model.proofs.FlippedFaces.{inside-flipped, closed-flipped}
use Rattle.ember_meaning.specs.Whole.Written.{AreFragments}
use Rattle.ember_meaning.proofs.MissedNearby.{clear_shifted_inside}

-- ---- a face within that of a triangle
record IsWithin (t : Tri) (f : Face) : Type 0 where
  full : is_flat t ≡ false
  support : f.support ≡ support_of t
  closed : (v : Spot) → is_in_closed f v ≡ true → is_in_closed (face_of t) v ≡ true

front_edges : (es : List Plane) (p : Plane) (v : Spot) → none_positive (es ++ p ∷ []) v ≡ true → none_positive es v ≡ true
front_edges [] p v h = refl
front_edges (e ∷ es) p v h =
    let a = and_parts (not (is_positive (value_at e v))) (none_positive (es ++ p ∷ []) v) h in
    and_from (not (is_positive (value_at e v))) (none_positive es v) a.0 (front_edges es p v a.1)

within_keeps : (t : Tri) → Keeps (IsWithin t)
within_keeps t f p h =
    record {
      full = h.full;
      support = h.support;
      closed = λ v e. let c = closed_parts (below f p) v e in h.closed v (closed_on f v (positive_in c.0) c.1 ∙ front_edges f.edges p v c.2);
    }

face_is_within : (t : Tri) → is_flat t ≡ false → IsWithin t (face_of t)
unfolding face_of
face_is_within t e = record { full = e; support = refl; closed = λ v h. h }

begun : (t : Tri) (b : Bool) → is_flat t ≡ b → Every (IsWithin t) (elim b [ true ↦ [] | false ↦ face_of t ∷ [] ])
begun t true e = tt
begun t false e = (face_is_within t e, tt)

regions_are_within : (c : Cell) (ts : List Tri) (i : ℕ) (fs : List Face) → IsRegions c ts i fs → Every (IsWithin (tri_at ts i)) fs
regions_are_within c ts i fs r =
    let t = tri_at ts i in
    cutting_planes_keep (IsWithin t) (within_keeps t) r.cuts (walls_keep (IsWithin t) (within_keeps t) r.is_start (begun t (is_flat t) refl))

-- ---- near triangles are triangles of the scene
record IsListed (ts : List Tri) (t : Tri) : Type 0 where
  index : ℕ
  here : slice_get ts index ≡ Some t

no_tri_is_flat : is_flat no_tri ≡ true
unfolding is_flat
no_tri_is_flat = refl

later : {ts : List Tri} {t u : Tri} → IsListed ts t → IsListed (u ∷ ts) t
later l = record { index = suc l.index; here = l.here }

near_is_listed : (p : Tri → Bool) (ts : List Tri) (i : ℕ) → is_flat (get_or (filter p ts) i no_tri) ≡ false → IsListed ts (get_or (filter p ts) i no_tri)
near_is_listed p [] i e = absurd (clash no_tri_is_flat e)
near_is_listed p (t ∷ ts) i e = by (p t) i e (λ j f. near_is_listed p ts j f)
  where
    by : (b : Bool) (i : ℕ) → is_flat (get_or (cond b (t ∷ filter p ts) (filter p ts)) i no_tri) ≡ false →
        ((j : ℕ) → is_flat (get_or (filter p ts) j no_tri) ≡ false → IsListed ts (get_or (filter p ts) j no_tri)) →
        IsListed (t ∷ ts) (get_or (cond b (t ∷ filter p ts) (filter p ts)) i no_tri)
    by true zero f r = record { index = 0; here = refl }
    by true (suc j) f r = later (r j f)
    by false j f r = later (r j f)

-- ---- kept regions
record IsKept (scene : List Tri) (k : Kept) : Type 0 where
  tri : Tri
  listed : IsListed scene tri
  within : IsWithin tri k.ring
  at : Spot
  inside : is_inside k.ring at ≡ true

module _ (scene : List Tri) (x : Formula) where
  of_region : (c : Cell) (i : ℕ) (f : Face) (ks : List Kept) → IsWithin (tri_at (near scene c) i) f →
      IsWrittenOfRegion scene x (near scene c) i f ks → Every (IsKept scene) ks
  of_region c i f ks w (unowned o) = tt
  of_region c i f ks w (same_value s e) = tt
  of_region c i f ks w (written o s e) = (
    record {
      tri = tri_at (near scene c) i;
      listed = near_is_listed (λ t. is_near c t) scene i w.full;
      within = w;
      at = s.at;
      inside = s.inside;
    },
    tt,
  )

  of_triangle : (c : Cell) (i : ℕ) (ks : List Kept) → IsWrittenOf scene x c (near scene c) i ks → Every (IsKept scene) ks
  of_triangle c i ks (regional r) =
      each_every (IsWithin (tri_at (near scene c) i)) (IsKept scene) (λ f ks w a. of_region c i f ks w a) r.are_written
      (regions_are_within c (near scene c) i r.faces r.are_regions)
  of_triangle c i ks (hidden h) = tt

  of_leaf : (c : Cell) (ks : List Kept) → LeafGives scene x c ks → Every (IsKept scene) ks
  of_leaf c ks (regions w) = each_every (λ i. Unit {0}) (IsKept scene) (λ i ks u a. of_triangle c i ks a) w (every_unit _)
  of_leaf c ks (nothing o) = tt

  written_are_kept : (ks : List Kept) → IsWritten scene x ks → Every (IsKept scene) ks
  written_are_kept ks w = each_every (λ c. Unit {0}) (IsKept scene) (λ c ks u a. of_leaf c ks a) w (every_unit (leaves scene root))

-- ---- with the front that is written

no_normal_opposite : (n : Plane) → HasNoNormal (opposite n) → HasNoNormal n
no_normal_opposite n h = (by h.0, by h.1, by h.2)
  where
    by : {z : ℤ} → neg_ℤ z ≡ pos 0 → z ≡ pos 0
    by {z} e = omega (arith, linear, e)

full_has_normal : (t : Tri) → is_flat t ≡ false → HasNoNormal (support_of t) → ⊥
full_has_normal t e h = clash (flat_in t (record { a = h.0; b = h.1; c = h.2 })) e

written_is_fragment : (scene : List Tri) (k : Kept) (h : IsKept scene k) → IsFragmentOf scene (record { triangle = h.listed.index; face = written_face k })
written_is_fragment scene k h = by k.flipped
  where
    by : (b : Bool) → IsFragmentOf scene (record { triangle = h.listed.index; face = cond b (flipped_face k.ring) k.ring })
    by true =
        record {
          tri = h.tri;
          here = h.listed.here;
          full = h.within.full;
          support = inr (ap opposite h.within.support);
          closed = λ v e. h.within.closed v (sym (closed-flipped k.ring v) ∙ e);
        }
    by false =
        record { tri = h.tri; here = h.listed.here; full = h.within.full; support = inl h.within.support; closed = h.within.closed }

written_is_missed : (scene : List Tri) (k : Kept) → IsKept scene k → (p : Spot) → pos 0 <ℤ p.w → Eventually (λ l. IsClear (written_face k) (offset_by p (pos l)))
written_is_missed scene k h p w = by k.flipped
  where
    normal : HasNoNormal k.ring.support → ⊥
    normal n = full_has_normal h.tri h.within.full (subst (λ (g : Plane). HasNoNormal g) h.within.support n)

    by : (b : Bool) → Eventually (λ l. IsClear (cond b (flipped_face k.ring) k.ring) (offset_by p (pos l)))
    by true = clear_shifted_inside p w (flipped_face k.ring) h.at (inside-flipped k.ring h.at ∙ h.inside) (λ n. normal (no_normal_opposite k.ring.support n))
    by false = clear_shifted_inside p w k.ring h.at h.inside normal

-- ---- all of them
abbrev fragments_of : (scene : List Tri) (ks : List Kept) → Every (IsKept scene) ks → List Fragment
fragments_of scene [] h = []
fragments_of scene (k ∷ ks) h = record { triangle = h.0.listed.index; face = written_face k } ∷ fragments_of scene ks h.1

their_faces : (scene : List Tri) (ks : List Kept) (h : Every (IsKept scene) ks) → faces (fragments_of scene ks h) ≡ map written_face ks
their_faces scene [] h = refl
their_faces scene (k ∷ ks) h = ap (λ fs. written_face k ∷ fs) (their_faces scene ks h.1)

all_fragments : (scene : List Tri) (ks : List Kept) (h : Every (IsKept scene) ks) → AllByRecursion (IsFragmentOf scene) (fragments_of scene ks h)
all_fragments scene [] h = tt
all_fragments scene (k ∷ ks) h = (written_is_fragment scene k h.0, all_fragments scene ks h.1)

all_missed : (scene : List Tri) (ks : List Kept) → Every (IsKept scene) ks → (p : Spot) → pos 0 <ℤ p.w → Eventually (λ l. AreClear (map written_face ks) (offset_by p (pos l)))
all_missed scene [] h p w = eventually_true (λ l. tt)
all_missed scene (k ∷ ks) h p w =
    eventually_map (λ l e. (e.0, e.1)) (eventually_both (written_is_missed scene k h.0 p w) (all_missed scene ks h.1 p w))

-- the written regions are fragments, and missed near every point
pub written_are_fragments : (scene : List Tri) (f : Formula) (ks : List Kept) → IsWritten scene f ks → AreFragments scene ks
written_are_fragments scene f ks w =
    let h = written_are_kept scene f ks w in let e = their_faces scene ks h in
    record {
      fragments = fragments_of scene ks h;
      are = e;
      of_scene = all_fragments scene ks h;
      near = subst (λ (fs : List Face). AreMissedNearby fs) (sym e) (all_missed scene ks h);
    }
