-- A cutting plane that no region meets leaves the list, and so does its triangle.
use Rattle.std.proofs.Common.{◌≡◌, Result, Ok, Err, OnOk, refl, sym, ap, subst, ◌∙◌, arith, ℕ, zero, suc, ◌+◌, flat_map}
use Rattle.std.proofs.Common.{Bool, true, false, nat_eq, ◌&&◌, List, [], ◌∷◌, ◌++◌, All}
use Rattle.std.specs.List.{range_with_len}
use Rattle.std.proofs.lemmas.List.{append-nil}
use Rattle.std.proofs.lemmas.List.Concat.{flat_map-append}
use Rattle.std.proofs.lemmas.List.Elements.{All-push}
use Rattle.ember_algebra.specs.Relations.{Each, Chain, none, more, done, step, Every}
use Rattle.ember_model.specs.declared.plane.Plane.{Plane}
use Rattle.ember_model.specs.declared.tri.Tri.{Tri}
use Rattle.ember_model.specs.declared.face.Face.{Face}
use Rattle.ember_model.specs.Planes.{support_of}
use Rattle.ember_model.specs.Faces.{is_flat, face_of, edges_of, Meets}
use Rattle.ember_model.specs.Owners.{is_coplanar}
use Rattle.ember_model.proofs.SignTests.{clash}
use Rattle.ember_model.proofs.Hits.{closed_parts}
use Rattle.ember_width.specs.declared.width.Width.{Ghosts}
use Rattle.ember_box.specs.declared.aabb.Aabb.{Aabb}
use Rattle.ember_box.specs.Aabbs.{aabb_of_tri, aabbs_meet, intervals_meet}
use Rattle.ember_box.specs.Regions.{AreLeftByCuttingPlane, whole, cutting_planes_of, cutting_planes_at}
use Rattle.ember_box.specs.Near.{tri_at}
use Rattle.ember_box.specs.Regions as regions
use Rattle.ember_model.specs.declared.point.Axis.TheVariants.{X, Y, Z}
use Rattle.std.proofs.lemmas.Bool.{and_from}
use Rattle.ember_algebra.proofs.Lists.{range_more}
use Rattle.ember_leaf.specs.declared.cutter.Cutter.{Cutter}
use Rattle.ember_leaf.specs.declared.cutter.Role.{Role}
use Rattle.ember_leaf.specs.TriRelations.{MissesClosedFace}
use Rattle.ember_leaf.specs.Cutters.{planes_as, owner_as, LiesAs, IsCutterOf, IsAdded, cutting_planes_with}
use Rattle.ember_leaf.specs.Cutters.{cutting_planes_by, cutting_planes_in, owners_by, owners_in, IsBounded, OmitsUnmet}
use Rattle.ember_leaf.specs.Cutters.{all_seen, stays, goes, AddsCuttingPlanes}
use Rattle.ember_leaf.proofs.WallClips.{each_every}
use Rattle.ember_leaf.proofs.TriRelations.{intervals_with_point_meet, bounds}

-- ---- lists of cutting planes
module _ {P : Face → Type 0} where
  sheds_append : {xs us ys vs : List regions.CuttingPlane} → OmitsUnmet P xs ys → OmitsUnmet P us vs → OmitsUnmet P (xs ++ us) (ys ++ vs)
  sheds_append all_seen q = q
  sheds_append (stays r) q = stays (sheds_append r q)
  sheds_append (goes f r) q = goes f (sheds_append r q)

  same : (bs : List regions.CuttingPlane) → OmitsUnmet P bs bs
  same [] = all_seen
  same (b ∷ bs) = stays (same bs)

  none_kept : (bs : List regions.CuttingPlane) → Every (λ b. (f : Face) → P f → Meets f b.face → ⊥) bs → OmitsUnmet P bs []
  none_kept [] h = all_seen
  none_kept (b ∷ bs) h = goes h.0 (none_kept bs h.1)

  adds_none : {W M : Type 0} {G : Ghosts W M} (bs : List regions.CuttingPlane) (old : List (Cutter W M G)) → Every (λ b. (f : Face) → P f → Meets f b.face → ⊥) bs → AddsCuttingPlanes P bs old old
  adds_none bs old h front r =
      subst (λ l. OmitsUnmet P (front ++ bs) l) (append-nil (cutting_planes_in old)) (sheds_append r (none_kept bs h))

  -- cutting planes that are all added
  pub adds_all : {W M : Type 0} {G : Ghosts W M} {bs more : List regions.CuttingPlane} (old new : List (Cutter W M G)) → bs ≡ more →
      cutting_planes_in new ≡ cutting_planes_in old ++ more → AddsCuttingPlanes P bs old new
  adds_all {bs} {more} old new e q front r =
      subst (λ l. OmitsUnmet P (front ++ bs) l) (ap (λ l. cutting_planes_in old ++ l) e ∙ sym q) (sheds_append r (same bs))

-- what is shed changes nothing
pub unmet_planes_change_nothing : {P : Face → Type 0} →
    ((b : regions.CuttingPlane) (f : Face) (fs : List Face) → P f → AreLeftByCuttingPlane b f fs → Every P fs) →
    {xs ys : List regions.CuttingPlane} {fs gs : List Face} → OmitsUnmet P xs ys → Every P fs →
    Chain (λ b. Each (AreLeftByCuttingPlane b)) ys fs gs → Chain (λ b. Each (AreLeftByCuttingPlane b)) xs fs gs
unmet_planes_change_nothing k all_seen h done = done
unmet_planes_change_nothing {P} k (stays {b = b} r) h (step q c) = step q (unmet_planes_change_nothing k r (each_every P P (k b) q h) c)
unmet_planes_change_nothing {P} k (goes {b = b} f r) h c = step (untouched _ h) (unmet_planes_change_nothing k r h c)
  where
    untouched : (fs : List Face) → Every P fs → Each (AreLeftByCuttingPlane b) fs fs
    untouched [] h = none
    untouched (g ∷ gs) h = more (whole (λ m q. f g h.0 m)) (untouched gs h.1)

-- ---- the cutting planes of a triangle
flat_cutting_planes : (t u : Tri) → is_flat u ≡ true → cutting_planes_of t u ≡ []
flat_cutting_planes t u e =
    λ j. elim (e j) as (λ x. List regions.CuttingPlane) [
      | true ↦ []
      | false ↦ cutting_planes_with u
          (elim (is_coplanar t u) as (λ x. List Plane) [ true ↦ edges_of u | false ↦ support_of u ∷ [] ])
    ]

-- the cutting plane of a triangle in another plane is its support plane
pub support_cutting_planes : (t u : Tri) → is_flat u ≡ false → is_coplanar t u ≡ false → cutting_planes_of t u ≡ cutting_planes_with u (support_of u ∷ [])
support_cutting_planes t u e q =
    λ j. elim (e j) as (λ x. List regions.CuttingPlane) [
      | true ↦ []
      | false ↦ cutting_planes_with u
          (elim (q j) as (λ x. List Plane) [ true ↦ edges_of u | false ↦ support_of u ∷ [] ])
    ]

-- the cutting planes of a coplanar triangle are its edge planes
pub edge_cutting_planes : (t u : Tri) → is_flat u ≡ false → is_coplanar t u ≡ true → cutting_planes_of t u ≡ cutting_planes_with u (edges_of u)
edge_cutting_planes t u e q =
    λ j. elim (e j) as (λ x. List regions.CuttingPlane) [
      | true ↦ []
      | false ↦ cutting_planes_with u
          (elim (q j) as (λ x. List Plane) [ true ↦ edges_of u | false ↦ support_of u ∷ [] ])
    ]

every_with : (Q : regions.CuttingPlane → Type 0) (u : Tri) (ps : List Plane) →
    ((p : Plane) → Q (record { face = face_of u; plane = p })) → Every Q (cutting_planes_with u ps)
every_with Q u [] h = tt
every_with Q u (p ∷ ps) h = (h p, every_with Q u ps h)

every_cutting_plane : (Q : regions.CuttingPlane → Type 0) (t u : Tri) →
    (is_flat u ≡ false → (p : Plane) → Q (record { face = face_of u; plane = p })) → Every Q (cutting_planes_of t u)
every_cutting_plane Q t u h = by (is_flat u) (is_coplanar t u) refl refl
  where
    by : (a b : Bool) → is_flat u ≡ a → is_coplanar t u ≡ b → Every Q (cutting_planes_of t u)
    by true b e q = subst (Every Q) (sym (flat_cutting_planes t u e)) tt
    by false false e q = subst (Every Q) (sym (support_cutting_planes t u e q)) (every_with Q u (support_of u ∷ []) (h e))
    by false true e q = subst (Every Q) (sym (edge_cutting_planes t u e q)) (every_with Q u (edges_of u) (h e))

-- a flat triangle needs no cutting planes
pub adds_flat : {W M : Type 0} {G : Ghosts W M} (t u : Tri) (b : Aabb) (old : List (Cutter W M G)) → is_flat u ≡ true → AddsCuttingPlanes (IsBounded t b) (cutting_planes_of t u) old old
adds_flat t u b old e =
    adds_none (cutting_planes_of t u) old (subst (Every (λ c. (f : Face) → IsBounded t b f → Meets f c.face → ⊥)) (sym (flat_cutting_planes t u e)) tt)

-- a triangle that is disjoint from t needs none either
pub adds_apart : {W M : Type 0} {G : Ghosts W M} (t u : Tri) (b : Aabb) (old : List (Cutter W M G)) → MissesClosedFace t u → AddsCuttingPlanes (IsBounded t b) (cutting_planes_of t u) old old
adds_apart t u b old a =
    adds_none (cutting_planes_of t u) old (every_cutting_plane (λ c. (f : Face) → IsBounded t b f → Meets f c.face →
    ⊥) t u (λ n p f k m. clash m.holds (a.holds m.at (k.within.holds m.at m.inside))))

-- within bounds that the bounding box of u doesn't meet
pub away_unmet : (t u : Tri) (b s : Aabb) → s ≡ aabb_of_tri u → aabbs_meet b s ≡ false → is_flat u ≡ false →
    (f : Face) → IsBounded t b f → Meets f (face_of u) → ⊥
away_unmet t u b s same away n f k m = clash met (sym (ap (aabbs_meet b) same) ∙ away)
  where
    met : aabbs_meet b (aabb_of_tri u) ≡ true
    met =
        let v = m.at in let h = k.bounds.holds v m.inside in let w = (closed_parts (face_of u) v m.holds).0 in let c = aabb_of_tri u in
        let x = intervals_with_point_meet b.x c.x v.x v.w w h.x (bounds X u v n m.holds) in
        let y = intervals_with_point_meet b.y c.y v.y v.w w h.y (bounds Y u v n m.holds) in
        let z = intervals_with_point_meet b.z c.z v.z v.w w h.z (bounds Z u v n m.holds) in
        and_from (intervals_meet b.x c.x && intervals_meet b.y c.y) (intervals_meet b.z c.z) (and_from (intervals_meet b.x c.x) (intervals_meet b.y c.y) x y) z

-- nor does one whose bounding box doesn't meet the bounds
pub adds_away : {W M : Type 0} {G : Ghosts W M} (t u : Tri) (b s : Aabb) (old : List (Cutter W M G)) → s ≡ aabb_of_tri u → aabbs_meet b s ≡ false →
    AddsCuttingPlanes (IsBounded t b) (cutting_planes_of t u) old old
adds_away t u b s old same away =
    adds_none (cutting_planes_of t u) old (every_cutting_plane (λ c. (f : Face) → IsBounded t b f → Meets f c.face →
    ⊥) t u (λ n p f k m. away_unmet t u b s same away n f k m))

-- ---- a triangle that joins the list
module _ {W M : Type 0} {G : Ghosts W M} {u : Tri} {k : Role} {old new : List (Cutter W M G)} (a : IsAdded u k old new) where
  -- a new cutter adds the planes of its role
  pub added_cutting_planes : cutting_planes_in new ≡ cutting_planes_in old ++ cutting_planes_with u (planes_as k u)
  added_cutting_planes =
      ap cutting_planes_in a.is ∙ flat_map-append cutting_planes_by old (a.cutter ∷ [])
      ∙ ap (λ (l : List regions.CuttingPlane). cutting_planes_in old ++ l)
      (append-nil (cutting_planes_by a.cutter)
      ∙ (λ i. cutting_planes_with (a.tri i) (planes_as (a.role i) (a.tri i))))

  -- a new cutter adds itself if it is an owner
  pub added_owners : owners_in new ≡ owners_in old ++ owner_as k u
  added_owners =
      ap owners_in a.is ∙ flat_map-append owners_by old (a.cutter ∷ [])
      ∙ ap (λ (l : List Tri). owners_in old ++ l)
      (append-nil (owners_by a.cutter) ∙ (λ i. owner_as (a.role i) (a.tri i)))

  -- a new cutter lies as its role says
  pub added_cutters : (t : Tri) → LiesAs k t u → All (IsCutterOf t) old → All (IsCutterOf t) new
  added_cutters t l h =
      subst (All (IsCutterOf t)) (sym a.is) (All-push (IsCutterOf t) old a.cutter h (record { lies = lies a.role a.tri }))
    where
      lies : a.cutter.role ≡ k → a.cutter.tri ≡ u → LiesAs a.cutter.role t a.cutter.tri
      lies e q = subst (λ (v : Tri). LiesAs a.cutter.role t v) (sym q) (subst (λ (r : Role). LiesAs r t u) (sym e) l)

-- ---- one triangle after another
nat_eq-same : {a b : ℕ} → a ≡ b → nat_eq a b ≡ true
nat_eq-same {a} {b} e = grind arith

nat_eq-other : {a b : ℕ} → (a ≡ b → ⊥) → nat_eq a b ≡ false
nat_eq-other {a} {b} n = by (nat_eq a b) refl
  where
    by : (c : Bool) → nat_eq a b ≡ c → nat_eq a b ≡ false
    by false e = e
    by true e = absurd (n (grind arith))

-- what follows from A holds on Ok if A does
pub on_ok : {V E : Type 0} {A B : Type 0} (r : Result V E) → OnOk r A → (A → B) → OnOk r B
on_ok (Ok v) a f = f a
on_ok (Err e) a f = tt

range_push : (a n : ℕ) → range_with_len a (suc n) ≡ range_with_len a n ++ (a + n) ∷ []
range_push a zero = ap (λ (k : ℕ). k ∷ []) (omega arith)
range_push a (suc n) =
    ap (λ (l : List ℕ). a ∷ l) (range_push (a + 1) n) ∙ ap (λ (k : ℕ). a ∷ range_with_len (a + 1) n ++ k ∷ []) (omega arith)

cutting_planes_more : (ts : List Tri) (i j : ℕ) →
    flat_map (cutting_planes_at ts i) (range_with_len 0 (j + 1)) ≡ flat_map (cutting_planes_at ts i) (range_with_len 0 j)
    ++ cutting_planes_at ts i j
cutting_planes_more ts i j =
    ap (flat_map (cutting_planes_at ts i)) (range_more j)
    ∙ flat_map-append (cutting_planes_at ts i) (range_with_len 0 j) (j ∷ [])
    ∙ ap (λ (l : List regions.CuttingPlane). flat_map (cutting_planes_at ts i) (range_with_len 0 j) ++ l)
    (append-nil (cutting_planes_at ts i j))

-- the triangle itself has no cutting planes
own_cutting_planes : (ts : List Tri) (i j : ℕ) → j ≡ i → cutting_planes_at ts i j ≡ []
own_cutting_planes ts i j e =
    ap (λ (b : Bool). elim b as (λ x. List regions.CuttingPlane) [ true ↦ [] | false ↦ cutting_planes_of (tri_at ts i) (tri_at ts j) ]) (nat_eq-same e)

other_cutting_planes : (ts : List Tri) (i j : ℕ) → (j ≡ i → ⊥) → cutting_planes_at ts i j ≡ cutting_planes_of (tri_at ts i) (tri_at ts j)
other_cutting_planes ts i j n =
    ap (λ (b : Bool). elim b as (λ x. List regions.CuttingPlane) [ true ↦ [] | false ↦ cutting_planes_of (tri_at ts i) (tri_at ts j) ]) (nat_eq-other n)

module _ {W M : Type 0} {G : Ghosts W M} {P : Face → Type 0} (ts : List Tri) (i j : ℕ) (old : List (Cutter W M G))
    (r : OmitsUnmet P (flat_map (cutting_planes_at ts i) (range_with_len 0 j)) (cutting_planes_in old)) where
  -- t itself adds no cutting planes
  pub own_next : j ≡ i → OmitsUnmet P (flat_map (cutting_planes_at ts i) (range_with_len 0 (j + 1))) (cutting_planes_in old)
  own_next e =
      subst (λ (l : List regions.CuttingPlane). OmitsUnmet P l (cutting_planes_in old))
      (sym (cutting_planes_more ts i j ∙ ap (λ (l : List regions.CuttingPlane). flat_map (cutting_planes_at ts i)
      (range_with_len 0 j) ++ l) (own_cutting_planes ts i j e)
      ∙ append-nil (flat_map (cutting_planes_at ts i) (range_with_len 0 j)))) r

  -- one more triangle adds its cutting planes
  pub other_next : (new : List (Cutter W M G)) (t u : Tri) → (j ≡ i → ⊥) → t ≡ tri_at ts i → u ≡ tri_at ts j →
      AddsCuttingPlanes P (cutting_planes_of t u) old new →
      OmitsUnmet P (flat_map (cutting_planes_at ts i) (range_with_len 0 (j + 1))) (cutting_planes_in new)
  other_next new t u n e q a =
      subst (λ (l : List regions.CuttingPlane). OmitsUnmet P l (cutting_planes_in new))
      (sym (cutting_planes_more ts i j ∙ ap (λ (l : List regions.CuttingPlane). flat_map (cutting_planes_at ts i)
      (range_with_len 0 j) ++ l) (other_cutting_planes ts i j n ∙ (λ k. cutting_planes_of (sym e k) (sym q k)))))
      (a (flat_map (cutting_planes_at ts i) (range_with_len 0 j)) r)
