-- The meaning of the written regions of a scene on a general line.
use Rattle.std.proofs.Common.{◌≡◌, ℕ, zero, suc, pred, ◌<◌, refl, ap, ◌∙◌, sym, subst, List, [], ◌∷◌, map, length, Bool}
use Rattle.std.proofs.Common.{true, false, not, ◌&&◌, cond, ◌⊎◌, inl, inr, arith, ℤ, pos, negsuc, nat_lt, ◌+◌, ◌*ℤ◌}
use Rattle.std.proofs.Common.{◌-ℤ◌, ◌<ℤ◌, ◌≤ℤ◌, neg_ℤ, unsigned_abs}
use Rattle.std.specs.List.{filter, list_any}
use Rattle.std.proofs.lemmas.Option.{get_or_from_slice_get}
use Rattle.std.proofs.lemmas.Bool.{cases_Bool, lt-ltb, and_parts, and_from, not-true}
use Rattle.ember_algebra.specs.Relations.{Each, Every}
use Rattle.ember_algebra.specs.Sign.{sign, is_zero}
use Rattle.ember_algebra.proofs.Laws.{linear}
use Rattle.ember_algebra.proofs.Order.{by_sign}
use Rattle.ember_model.specs.declared.tri.Tri.{Tri}
use Rattle.ember_model.specs.declared.plane.Plane.{Plane}
use Rattle.ember_model.specs.declared.point.Spot.{Spot}
use Rattle.ember_model.specs.declared.point.Axis.{Axis}
use Rattle.ember_model.specs.declared.face.Face.{Face}
use Rattle.ember_model.specs.Planes.{value_at, along}
use Rattle.ember_model.specs.Faces.{is_inside, is_in_closed, is_flat, face_of, hit}
use Rattle.ember_model.specs.Points.{scaled, moved}
use Rattle.ember_model.specs.Clear.{AreClear}
use Rattle.ember_model.specs.Meshes.{of_mesh, IsBalanced, vector, faces_of}
use Rattle.ember_algebra.specs.Large.{Eventually}
use Rattle.ember_expr.specs.Truth.{truth}
use Rattle.ember_box.specs.Sums.{number}
use Rattle.ember_ref.proofs.NearPoints.{near_point}
use Rattle.ember_trace.specs.Boxed.{IsRegion}
use Rattle.ember_model.proofs.Hits.{inside_parts, inside_closed}
use Rattle.ember_expr.specs.Formula.{Formula}
use Rattle.ember_box.specs.Boxes.{Cell}
use Rattle.ember_box.specs.Near.{near, is_near, tri_at, no_tri}
use Rattle.ember_leaf.specs.KeptRegions.{NarrowKept as Kept}
use Rattle.ember_leaf.specs.Written.{IsWrittenOfRegion, unowned, same_value, written}
use Rattle.ember_leaf.specs.Scenes.{LeafGives, HasOneValue}
use Rattle.ember_text.specs.Texts.{oriented_face}
use Rattle.ember_meaning.proofs.Lines.{seen as counts_ahead}
use Rattle.ember_text.specs.Documents.{written_face}
use Rattle.ember_trace.proofs.CutRegions.{IsCutOut, region_cut}
use Rattle.ember_meaning.specs.Regions.Meaning.{one_if}
use Rattle.ember_meaning.proofs.CountedPoints.{IsFairAt, IsFairInAll, is_in_box}
use Rattle.ember_meaning.proofs.Listed.{Entry, IsListing, has_inside, is_hit_at, Without, ends, keeps, drops}
use Rattle.ember_meaning.proofs.Lines.{In, here, there, Fraction, is_below, key, is_hit, is_tri_hit, tri_key, tri_hits, Placed, onward, beyond}
use Rattle.ember_meaning.specs.Regions.Meaning.{IsFalseOutside, HasMeaning}
use Rattle.ember_meaning.proofs.HitConditions.{hit_point, SomeHit, IsGeneralAt, IsRegular, HaveMeaningOnLines}
use Rattle.ember_meaning.proofs.Entries.{one_holds, Listed, leaf_list_exists}
use Rattle.ember_law.proofs.Vectors.{balanced_axes}
use Rattle.ember_leaf.proofs.RegionOrder.{face_support}
use Rattle.ember_meaning.proofs.Fractions.{fractions_order}
use Rattle.ember_meaning.proofs.Meaning.{meaning_along, first}
use Rattle.ember_meaning.proofs.Members.{in_map, map_member_has_source, in_filter, of_filter, every_in, giver, member_splits_list, any_in, any_has_member}
use Rattle.ember_meaning.proofs.Owners.{IsOf, entry_of, inside_tri, owned}
use Rattle.ember_meaning.proofs.Owners.{first as first_only}
use Rattle.ember_meaning.proofs.Tree.{IsParted}
use Rattle.ember_meaning.proofs.HitsBeyond.{before_place, after_place}
use Rattle.ember_meaning.proofs.SidesOfHits.{before_is, after_is}
use Rattle.ember_meaning.proofs.LeafOfHit.{has_point, missing_member_passes, none_both}
use Rattle.ember_meaning.proofs.FlippedFaces.{key-turned, is_hit-turned}

-- ---- members
in_at : (ts : List Tri) (i : ℕ) → i < length ts → In (tri_at ts i) ts
in_at [] i l = absurd (omega arith)
in_at (t ∷ ts) zero l = here
in_at (t ∷ ts) (suc i) l = there (in_at ts i (omega arith))

to_filter : {X : Type 0} (q : X → Bool) (xs : List X) (x : X) → In x xs → q x ≡ true → In x (filter q xs)
to_filter q [] x i h = elim i [ ]
to_filter q (a ∷ xs) x here h = rw h here
to_filter {X} q (a ∷ xs) x (there i) h = by (q a) (to_filter q xs x i h)
  where
    by : (b : Bool) → In x (filter q xs) → In x (cond b (a ∷ filter q xs) (filter q xs))
    by true j = there j
    by false j = j

every_without : {X : Type 0} {P : X → Type 0} (Q : X → Type 0) {xs ys : List X} → Without P xs ys → Every Q xs → Every Q ys
every_without Q ends h = h
every_without Q (keeps w) h = (h.0, every_without Q w h.1)
every_without Q (drops d w) h = every_without Q w h.1

-- each point of the triangle's closed face is in the box
pub record LiesInBox (whole : Cell) (t : Tri) : Type 0 where
  pub holds : (v : Spot) → is_flat t ≡ false → is_in_closed (face_of t) v ≡ true → pos 0 <ℤ v.w → is_in_box whole v ≡ true

-- ---- the triangle of an entry
module _ (scene : List Tri) (cs : List Cell) (e : Entry) (o : IsOf scene cs e) where
  abbrev pub tri_of : Tri
  tri_of = tri_at (near scene e.cell) e.tri

  tri_in : In tri_of scene
  tri_in = of_filter (λ t. is_near e.cell t) scene tri_of (in_at (near scene e.cell) e.tri o.below)

  cut_out : IsCutOut (near scene e.cell) tri_of e.face
  cut_out = region_cut e.cell (near scene e.cell) e.tri o.index o.faces e.face o.are_regions o.here

  same_support : e.face.support ≡ (face_of tri_of).support
  same_support = cut_out.support ∙ sym (face_support tri_of)

  same_key : (k : Axis) (p : Spot) → key k p e.face ≡ tri_key k p tri_of
  same_key k p =
      let s = same_support in
      λ i. record { num = neg_ℤ (sign (along (s i) k) *ℤ value_at (s i) p); den = pred (unsigned_abs (along (s i) k)) }

  -- a region is hit where its triangle is
  tri_hit : (k : Axis) (p : Spot) → is_hit k p e.face ≡ true → is_tri_hit k p tri_of ≡ true
  tri_hit k p h =
      let q = and_parts (not (is_zero (along e.face.support k))) (is_inside e.face (hit e.face.support k p)) h in
      let i = inside_tri scene cs (hit e.face.support k p) e o q.1 in
      and_from (not (is_flat tri_of)) (is_hit k p (face_of tri_of)) (ap not cut_out.normal)
      (subst (λ (n : Plane). (not (is_zero (along n k)) && is_inside (face_of tri_of) (hit n k p)) ≡ true)
      same_support (and_from (not (is_zero (along e.face.support k)))
      (is_inside (face_of tri_of) (hit e.face.support k p)) q.0 i))

-- ---- a written face is hit only where a triangle is
kept_ring : (scene : List Tri) (x : Formula) (ns : List Tri) (i : ℕ) (f : Face) (us : List Kept) (w : Kept) →
    IsWrittenOfRegion scene x ns i f us → In w us → w.ring ≡ f
kept_ring scene x ns i f us w (unowned n) j = elim j [ ]
kept_ring scene x ns i f us w (same_value s q) j = elim j [ ]
kept_ring scene x ns i f us w (written o s n) here = refl
kept_ring scene x ns i f us w (written o s n) (there j) = elim j [ ]

seen_hit : (k : Axis) (p : Spot) (f : Face) (b : Bool) → is_hit k p (oriented_face f b) ≡ is_hit k p f
seen_hit k p f true = is_hit-turned k p f
seen_hit k p f false = refl

seen_key : (k : Axis) (p : Spot) (f : Face) (b : Bool) → key k p (oriented_face f b) ≡ key k p f
seen_key k p f true = key-turned k p f
seen_key k p f false = refl

module _ (scene : List Tri) (x : Formula) (all : List Cell) (ks : List Kept) (cs : List Cell) (es : List Entry) (l : IsListing scene x all ks cs es) (k : Axis) (p : Spot) where
  placed : (w : Face) → In w (filter (is_hit k p) (map written_face ks)) → Placed is_below (map (tri_key k p) (tri_hits k p scene)) (key k p w)
  placed w i =
      let s = map_member_has_source written_face ks w (of_filter (is_hit k p) (map written_face ks) w i) in
      let h = in_filter (is_hit k p) (map written_face ks) w i in
      let g = giver s.at l.are_written s.member in let e = g.from in
      let o = entry_of scene cs es e l.are_entries g.member in
      let ring = kept_ring scene x (near scene e.cell) e.tri e.face g.given s.at g.gives g.among in
      let t = tri_of scene cs e o in
      let hits : is_hit k p e.face ≡ true = ap (is_hit k p) (sym ring) ∙ sym (seen_hit k p s.at.ring s.at.flipped) ∙ ap (is_hit k p) (sym s.is) ∙ h in
      let keys : key k p w ≡ tri_key k p t = ap (key k p) s.is ∙ seen_key k p s.at.ring s.at.flipped ∙ ap (key k p) ring ∙ same_key scene cs e o k p in
      record {
        key = tri_key k p t;
        member = in_map (tri_key k p) (tri_hits k p scene) t
            (to_filter (is_tri_hit k p) scene t (tri_in scene cs e o) (tri_hit scene cs e o k p hits));
        same =
            at (tri_key k p t) (key k p w) keys;
      }
    where
      at : (a b : Fraction) → b ≡ a → (not (is_below a b) && not (is_below b a)) ≡ true
      at a b e =
          subst (λ c. (not (is_below a c) && not (is_below c a)) ≡ true) (sym e) (ap (λ c. not c && not c) (fractions_order.irreflexive a))

  -- ---- a general line is regular
  regular : (whole : Cell) → IsParted whole all → ((u : Tri) → In u scene → LiesInBox whole u) →
      ((mesh : ℕ) → IsBalanced (of_mesh mesh scene)) → (t : Tri) → In t (tri_hits k p scene) →
      IsGeneralAt scene all k (hit (face_of t).support k p) → IsRegular scene x k p cs es t
  regular whole parted lies balanced t i g =
      record {
        fair = listed_fair;
        some_hit = by (cases_Bool (list_any (λ c. is_in_box c at) cs));
        crosses = slope;
        owner_first = λ e j h own m l'. first_only scene cs at e (of e j) h (one_holds parted cs at weight l.listed) (fair_at e j) own m l';
        first_owner = λ e j h least. owned scene cs at e (of e j) h (fair_at e j) least;
        beside = λ e before after j h s.
            let o = of e j in let n = slope e j h in
            let r : IsRegion (near scene e.cell) e.cell e.face =
            record { tri = e.tri; regions = o.faces; are_regions = o.are_regions; index = o.index; here = o.here } in (
              before_is scene e.cell balanced e.face r x before after s at h k n (onward_seen) seen_before
                  g.clear_before,
              after_is scene e.cell balanced e.face r x before after s at h k n (beyond_seen)
                  seen_after g.clear_after,
            );
      }
    where
      at : Spot
      at = hit_point scene x k p cs es t

      listed_fair : IsFairInAll scene cs at
      listed_fair = every_without (λ c. IsFairAt scene at c) l.listed g.fair

      of : (e : Entry) → In e es → IsOf scene cs e
      of e j = entry_of scene cs es e l.are_entries j

      fair_at : (e : Entry) → In e es → IsFairAt scene at e.cell
      fair_at e j = every_in (λ c. IsFairAt scene at c) cs e.cell listed_fair (let o = of e j in o.listed)

      slope : (e : Entry) → In e es → is_inside e.face at ≡ true → is_zero (along e.face.support k) ≡ false
      slope e j h =
          let o = of e j in let n = cut_out scene cs e o in
          ap (λ (s : Plane). is_zero (along s k)) n.support
          ∙ g.slopes (tri_of scene cs e o) (tri_in scene cs e o) n.normal
          (sym (ap (λ (s : Plane). value_at s at) n.support) ∙ (inside_parts e.face at h).1)

      hits : (not (is_flat t) ≡ true) × (is_hit k p (face_of t) ≡ true)
      hits =
          and_parts (not (is_flat t)) (is_hit k p (face_of t)) (in_filter (is_tri_hit k p) scene t i)

      flat : is_flat t ≡ false
      flat = not-true (is_flat t) hits.0

      held : (not (is_zero (along (face_of t).support k)) ≡ true) × (is_inside (face_of t) at ≡ true)
      held = and_parts (not (is_zero (along (face_of t).support k))) (is_inside (face_of t) at) hits.1

      crossed : is_zero (along (face_of t).support k) ≡ false
      crossed = not-true (is_zero (along (face_of t).support k)) held.0

      positive : pos 0 <ℤ at.w
      positive = (inside_parts (face_of t) at held.1).0

      weight : pos 0 ≤ℤ at.w
      weight = let w = positive in omega (arith, linear, w)

      closed : is_in_closed (face_of t) at ≡ true
      closed = inside_closed (face_of t) at held.1

      tri : In t scene
      tri = of_filter (is_tri_hit k p) scene t i

      onward_seen : List ℤ
      onward_seen = counts_ahead k (onward is_below (tri_key k p) (tri_key k p t) (tri_hits k p scene))

      seen_before : Eventually (λ m. vector k scene (moved (scaled (pos m) at) k (negsuc 0)) ≡ onward_seen)
      seen_before = before_place scene k p (face_of t) crossed

      beyond_seen : List ℤ
      beyond_seen = counts_ahead k (beyond is_below (tri_key k p) (tri_key k p t) (tri_hits k p scene))

      seen_after : Eventually (λ m. vector k scene (moved (scaled (pos m) at) k (pos 1)) ≡ beyond_seen)
      seen_after = after_place scene k p (face_of t) crossed

      -- if a listed leaf holds the place, t is near it
      near_hit : (c : Cell) → In c cs → is_in_box c at ≡ true → SomeHit scene x k p cs es t
      near_hit c j h =
          let n = near_point c t at flat (has_point c at positive h) closed in
          let q = member_splits_list (near scene c) t (to_filter (λ u. is_near c u) scene t tri n) in
          let e = get_or_from_slice_get (near scene c) q.index t no_tri q.is in
          record {
            tri = q.index;
            is_hit = any_in (λ d. is_in_box d at && has_inside (near scene d) q.index at) cs c j
                (and_from (is_in_box c at) (has_inside (near scene c) q.index at) h
                (and_from (nat_lt q.index (length (near scene c)))
                (not (is_flat (tri_at (near scene c) q.index)) && is_inside (face_of (tri_at (near scene c) q.index)) at)
                (lt-ltb q.index (length (near scene c)) q.below)
                (subst (λ u. (not (is_flat u) && is_inside (face_of u) at) ≡ true) (sym e)
                (and_from (not (is_flat t)) (is_inside (face_of t) at) (ap not flat) held.1))));
          }

      one_value : (c : Cell) → HasOneValue scene x c → is_in_box c at ≡ true → truth onward_seen x ≡ truth beyond_seen x
      one_value c v h =
          told (negsuc 0) onward_seen seen_before g.clear_before ∙ sym (told (pos 1) beyond_seen seen_after g.clear_after)
        where
          told : (e : ℤ) (w : List ℤ) → Eventually (λ m. vector k scene (moved (scaled (pos m) at) k e) ≡ w) →
              Eventually (λ m. AreClear (faces_of scene) (moved (scaled (pos m) at) k e)) → truth w x ≡ v.value
          told e w a b =
              let s = (v.beside at (has_point c at positive h)).steps k e in let m = a.from + b.from + s.from in
              ap (λ u. truth u x) (sym (a.holds m (omega arith))) ∙ s.holds m (omega arith) (b.holds m (omega arith)) k

      by : (list_any (λ c. is_in_box c at) cs ≡ true) ⊎ (list_any (λ c. is_in_box c at) cs ≡ false) →
          SomeHit scene x k p cs es t ⊎ (((j : ℕ) →
          is_hit_at scene cs at j ≡ false) × (truth onward_seen x ≡ truth beyond_seen x))
      by (inl h) = let q = any_has_member (λ c. is_in_box c at) cs h in inl (near_hit q.at q.member q.holds)
      by (inr h) =
          let q = missing_member_passes (λ c. is_in_box c at) l.listed
          (some (parted.count at weight) ((lies t tri).holds at flat closed positive)) h in
          inr (λ j. none_both (λ c. is_in_box c at) (λ c. has_inside (near scene c) j at) cs h, one_value q.at q.has q.holds)
        where
          some : {n : ℕ} {b : Bool} → n ≡ number b → b ≡ true → 0 < n
          some e h = let o = ap number h in omega (arith, e, o)

-- ---- the meaning
-- numbers that can't differ are equal
stays_equal : (a b : ℤ) → ((a ≡ b → ⊥) → ⊥) → a ≡ b
stays_equal a b n =
    by_sign (a -ℤ b) (λ l. absurd (n (λ e. omega (arith, linear, l, e)))) (λ z. omega (arith, linear, z)) (λ l. absurd (n (λ e. omega (arith, linear, l, e))))

-- the written regions of leaves that part a box with all triangles have their meaning on each line
pub meaning_on_lines : (scene : List Tri) (x : Formula) (whole : Cell) (all : List Cell) (ks : List Kept) → IsParted whole all →
    ((u : Tri) → In u scene → LiesInBox whole u) → ((mesh : ℕ) → IsBalanced (of_mesh mesh scene)) →
    Each (LeafGives scene x) all ks → IsFalseOutside x → HaveMeaningOnLines scene x all ks
meaning_on_lines scene x whole all ks parted lies balanced w o a b p positive clear general =
    stays_equal _ _ (λ n. leaf_list_exists scene x w (λ l. n (by l)))
  where
    by : Listed scene x all ks → HasMeaning scene x (map written_face ks) a b p
    by l =
        let is : IsListing scene x all ks l.cells l.entries = record { listed = l.listed; are_entries = l.are_entries; are_written = l.are_written } in
        let m = meaning_along parted scene x a p l.cells l.entries ks l.listed l.are_entries l.are_written o
        (record {
          regular = λ t i. regular scene x all ks l.cells l.entries is a p whole parted lies balanced t i (general t i);
          placed =
              placed scene x all ks l.cells l.entries is a p;
        }) (record { num = pos 0; den = 0 }) in
        subst (λ q. HasMeaning scene x (map written_face ks) a a q) (first a p) m
        ∙ ap (λ (c : List ℤ). one_if (truth c x)) (balanced_axes scene balanced p a b positive clear)
