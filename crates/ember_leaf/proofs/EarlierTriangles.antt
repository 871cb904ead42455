-- The triangles that are listed before another one in its plane decide which of its regions it owns.
use Rattle.std.proofs.Common.{◌≡◌, ◌⊎◌, inl, inr, refl, sym, ap, subst, ◌∙◌, arith, ℕ, zero, suc, ◌+◌, ◌<◌}
use Rattle.std.proofs.Common.{Bool, true, false, None, Some, slice_get, List, [], ◌∷◌, ◌++◌, length, All}
use Rattle.std.proofs.lemmas.Option.{slice_get_within, get_or_from_slice_get, slice_get-get_or}
use Rattle.std.proofs.lemmas.List.Elements.{All-nil, All-push}
use Rattle.ember_model.specs.declared.tri.Tri.{Tri}
use Rattle.ember_model.specs.declared.face.Face.{Face}
use Rattle.ember_model.specs.Faces.{is_inside, is_flat, face_of, Meets, Contains}
use Rattle.ember_model.specs.Owners.{is_coplanar}
use Rattle.ember_model.proofs.SignTests.{clash}
use Rattle.ember_width.specs.declared.width.Width.{Ghosts}
use Rattle.ember_box.specs.declared.aabb.Aabb.{Aabb}
use Rattle.ember_algebra.specs.Relations.{Every}
use Rattle.ember_algebra.proofs.Relations.{every_append}
use Rattle.std.proofs.lemmas.List.{append-nil}
use Rattle.ember_algebra.proofs.Lists.{all_at}
use Rattle.ember_model.proofs.Hits.{inside_closed}
use Rattle.ember_box.specs.Regions.{cutting_planes_of}
use Rattle.ember_box.specs.Near.{tri_at, no_tri}
use Rattle.ember_box.specs.Aabbs.{aabb_of_tri, aabbs_meet}
use Rattle.ember_poly.specs.Cuts.{HasInside}
use Rattle.ember_trace.proofs.FlatPlanes.{lies_flat, shared_face}
use Rattle.ember_leaf.specs.declared.cutter.Cutter.{Cutter}
use Rattle.ember_leaf.specs.declared.cutter.Role.{Role}
use Rattle.ember_leaf.specs.declared.cutter.Role.TheVariants.{OtherPlane, Later, Earlier}
use Rattle.ember_leaf.specs.Cutters.{role_if, owner_as, owners_by, owners_in, LiesAs, IsCutterOf, IsAdded, AddsCuttingPlanes, IsBounded}
use Rattle.ember_leaf.specs.TriRelations.{MissesClosedFace, IsCoplanarWith, HasContaining}
use Rattle.ember_leaf.specs.EarlierTriangles.{IsListedBefore, ContainsPart, AddsEarlier, covers, joins, misses, follows, AreEarlier, HasCover, DecidesOwner}
use Rattle.ember_leaf.specs.Written.{IsCovered}
use Rattle.ember_leaf.proofs.TriRelations.{coplanar_flats}
use Rattle.ember_leaf.proofs.RegionOrder.{face_support}
use Rattle.ember_leaf.proofs.Cutting.{all_every}
use Rattle.ember_leaf.proofs.OwnedRegions.{every_all}
use Rattle.ember_leaf.proofs.CoplanarFaces.{coplanar_turned}
use Rattle.ember_leaf.proofs.UnmetPlanes.{away_unmet, added_cutting_planes, added_owners, adds_all, edge_cutting_planes}

-- ---- one triangle
module _ (t u : Tri) (b : Aabb) (f : Face) (h : ContainsPart t b u f) where
  abbrev meets : Meets f (face_of u)
  meets =
      let s = h.somewhere in
      record { at = s.at; inside = s.inside; holds = inside_closed (face_of u) s.at (h.within.holds s.at s.inside) }

  held_inside : is_inside (face_of t) h.somewhere.at ≡ true
  held_inside = h.bounded.within.holds h.somewhere.at h.somewhere.inside

  -- the other way round
  coplanar_too : is_coplanar t u ≡ true
  coplanar_too =
      let n = coplanar_flats u t h.coplanar in
      lies_flat t u (face_of t) h.somewhere.at (face_support t) n.1 n.0 held_inside
      (record { holds = λ v i. shared_face u t v h.coplanar (inside_closed (face_of t) v i) })

-- a flat triangle contains no part of t
pub flat_misses : (t u : Tri) (b : Aabb) → is_flat u ≡ true → (f : Face) → ContainsPart t b u f → ⊥
flat_misses t u b e f h = clash e (coplanar_flats u t h.coplanar).0

-- a triangle that is disjoint from t contains no part of t
pub apart_misses : (t u : Tri) (b : Aabb) → MissesClosedFace t u → (f : Face) → ContainsPart t b u f → ⊥
apart_misses t u b a f h =
    clash (meets t u b f h).holds (a.holds h.somewhere.at (held_inside t u b f h))

other_plane_misses : (t u : Tri) (b : Aabb) → is_coplanar t u ≡ false → (f : Face) → ContainsPart t b u f → ⊥
other_plane_misses t u b e f h = clash (coplanar_too t u b f h) e

-- a triangle whose bounding box doesn't meet the bounds contains no part of t within them
pub away_misses : (t u : Tri) (b s : Aabb) → s ≡ aabb_of_tri u → aabbs_meet b s ≡ false → (f : Face) → ContainsPart t b u f → ⊥
away_misses t u b s e q f h =
    away_unmet t u b s e q (coplanar_flats u t h.coplanar).0 f h.bounded (meets t u b f h)

-- ---- what a triangle of one plane adds
pub coplanar_added : {W M : Type 0} {G : Ghosts W M} (t u : Tri) (is_before : Bool) {old new : List (Cutter W M G)} → is_coplanar t u ≡ true →
    IsAdded u (role_if is_before) old new → (b : Aabb) → AddsEarlier t u b is_before (owners_in old) false (owners_in new)
coplanar_added t u true {old} {new} e a b =
    subst (λ (l : List Tri). AddsEarlier t u b true (owners_in old) false l) (sym (added_owners a)) (joins refl (coplanar_turned u t e))
coplanar_added t u false {old} {new} e a b =
    subst (λ (l : List Tri). AddsEarlier t u b false (owners_in old) false l) (sym (added_owners a ∙ append-nil (owners_in old))) (follows refl)

-- a triangle in another plane adds no owner
pub other_plane_added : {W M : Type 0} {G : Ghosts W M} (t u : Tri) (is_before : Bool) {old new : List (Cutter W M G)} → is_coplanar t u ≡ false →
    IsAdded u OtherPlane old new → (b : Aabb) → AddsEarlier t u b is_before (owners_in old) false (owners_in new)
other_plane_added t u is_before {old} {new} e a b =
    subst (λ (l : List Tri). AddsEarlier t u b is_before (owners_in old) false l)
    (sym (added_owners a ∙ append-nil (owners_in old))) (misses (other_plane_misses t u b e))

-- a coplanar triangle lies relative to t as its role says, whether it comes before t or not
pub coplanar_lies : (is_before : Bool) (t u : Tri) → is_coplanar t u ≡ true → LiesAs (role_if is_before) t u
coplanar_lies true t u e = e
coplanar_lies false t u e = e

-- a coplanar triangle, once added, has its cutting planes in the list
pub coplanar_cutting_planes : {W M : Type 0} {G : Ghosts W M} (t u : Tri) (is_before : Bool) {old new : List (Cutter W M G)} (b : Aabb) → is_flat u ≡ false →
    is_coplanar t u ≡ true → IsAdded u (role_if is_before) old new →
    AddsCuttingPlanes (IsBounded t b) (cutting_planes_of t u) old new
coplanar_cutting_planes t u true {old} {new} b n e a = adds_all old new (edge_cutting_planes t u n e) (added_cutting_planes a)
coplanar_cutting_planes t u false {old} {new} b n e a = adds_all old new (edge_cutting_planes t u n e) (added_cutting_planes a)

-- an owner that a cutter gives is valid and lies in the plane of t
owner_coplanar : {W M : Type 0} {G : Ghosts W M} (t : Tri) (c : Cutter W M G) → IsCutterOf t c → Every (IsCoplanarWith t) (owners_by c)
owner_coplanar t c h = by c.role h.lies
  where
    by : (k : Role) → LiesAs k t c.tri → Every (IsCoplanarWith t) (owner_as k c.tri)
    by OtherPlane l = tt
    by Later l = tt
    by Earlier l = (record { coplanar = coplanar_turned c.tri t l }, tt)

-- the owners in a list of cutters are valid triangles in the plane of t
pub owners_coplanar : {W M : Type 0} {G : Ghosts W M} (t : Tri) (cs : List (Cutter W M G)) → All (IsCutterOf t) cs → All (IsCoplanarWith t) (owners_in cs)
owners_coplanar t cs h = every_all (IsCoplanarWith t) (owners_in cs) (by cs (all_every (IsCutterOf t) cs h))
  where
    by : {W M : Type 0} {G : Ghosts W M} (cs : List (Cutter W M G)) → Every (IsCutterOf t) cs → Every (IsCoplanarWith t) (owners_in cs)
    by [] e = tt
    by (c ∷ cs) e =
        every_append (IsCoplanarWith t) (owners_by c) (owners_in cs) (owner_coplanar t c e.0) (by cs e.1)

-- ---- lists

get_push : {X : Type 0} (xs : List X) (x : X) (i : ℕ) (y : X) → slice_get xs i ≡ Some y → slice_get (xs ++ x ∷ []) i ≡ Some y
get_push [] x i y e = absurd (by e)
  where
    by : None ≡ Some y → ⊥
    by e = cc
get_push (z ∷ zs) x zero y e = e
get_push (z ∷ zs) x (suc i) y e = get_push zs x i y e

get_last : {X : Type 0} (xs : List X) (x : X) → slice_get (xs ++ x ∷ []) (length xs) ≡ Some x
get_last [] x = refl
get_last (z ∷ zs) x = get_last zs x

below_next : (m n : ℕ) → m < n + 1 → (m < n) ⊎ (m ≡ n)
below_next zero zero l = inr refl
below_next zero (suc n) l = inl (omega arith)
below_next (suc m) zero l = absurd (omega (arith, l))
below_next (suc m) (suc n) l = up (below_next m n (omega (arith, l)))
  where
    up : (m < n) ⊎ (m ≡ n) → (suc m < suc n) ⊎ (suc m ≡ suc n)
    up (inl k) = inl (omega (arith, k))
    up (inr e) = inr (ap suc e)

-- ---- one triangle more
module _ (ts : List Tri) (i : ℕ) (t : Tri) (b : Aabb) where
  -- before the first triangle the list is empty
  pub none_listed : (earlier : List Tri) → earlier ≡ [] → AreEarlier ts i t b 0 earlier
  none_listed earlier e =
      record { listed = subst (All (IsListedBefore ts i)) (sym e) (All-nil (IsListedBefore ts i)); one_contains = λ m l k f h. absurd (omega (arith, l)) }

  -- a list that is as it was
  kept_list : (j : ℕ) (earlier : List Tri) → AreEarlier ts i t b j earlier →
      (j < i → (f : Face) → ContainsPart t b (tri_at ts j) f → ⊥) → AreEarlier ts i t b (j + 1) earlier
  kept_list j earlier a n =
      record { listed = a.listed; one_contains = λ m l k f h. by m k f h (below_next m j l) }
    where
      by : (m : ℕ) → m < i → (f : Face) → ContainsPart t b (tri_at ts m) f → (m < j) ⊎ (m ≡ j) → HasContaining earlier f
      by m k f h (inl l) = a.one_contains m l k f h
      by m k f h (inr e) =
          absurd (n (omega (arith, e, k)) f (subst (λ (n : ℕ). ContainsPart t b (tri_at ts n) f) e h))

  -- t itself adds nothing
  pub own_listed : (j : ℕ) (earlier : List Tri) → AreEarlier ts i t b j earlier → j ≡ i → AreEarlier ts i t b (j + 1) earlier
  own_listed j earlier a e = kept_list j earlier a (λ l f h. omega (arith, l, e))

  joined_list : (j : ℕ) (u : Tri) (earlier : List Tri) → AreEarlier ts i t b j earlier → j < i → j < length ts →
      u ≡ tri_at ts j → AreEarlier ts i t b (j + 1) (earlier ++ u ∷ [])
  joined_list j u earlier a l w e =
      record {
        listed = All-push (IsListedBefore ts i) earlier u a.listed
            (record { index = j; before = l; here = slice_get-get_or ts j no_tri w ∙ ap (λ (v : Tri). Some v) (sym e) });
        one_contains = λ m n k f h. by m k f h (below_next m j n);
      }
    where
      by : (m : ℕ) → m < i → (f : Face) → ContainsPart t b (tri_at ts m) f → (m < j) ⊎ (m ≡ j) → HasContaining (earlier ++ u ∷ []) f
      by m k f h (inl n) =
          let r = a.one_contains m n k f h in
          record { index = r.index; tri = r.tri; here = get_push earlier u r.index r.tri r.here; holds = r.holds }
      by m k f h (inr q) =
          record {
            index = length earlier;
            tri = u;
            here = get_last earlier u;
            holds =
                (subst (λ (v : Tri). ContainsPart t b v f) (ap (tri_at ts) q ∙ sym e) h).within;
          }

  -- one more triangle that isn't known to cover t
  pub other_listed : (j : ℕ) (u : Tri) (is_before : Bool) (old new : List Tri) {covered : Bool} →
      AreEarlier ts i t b j old → (is_before ≡ true → j < i) → (j < i → is_before ≡ true) → j < length ts →
      u ≡ tri_at ts j → covered ≡ false → AddsEarlier t u b is_before old covered new → AreEarlier ts i t b (j + 1) new
  other_listed j u is_before old new a f g w e q (covers x y z) = absurd (clash refl q)
  other_listed j u is_before old new a f g w e q (joins x y) = joined_list j u old a (f x) w e
  other_listed j u is_before old new a f g w e q (misses n) =
      kept_list j old a (λ l r h. n r (subst (λ (v : Tri). ContainsPart t b v r) (sym e) h))
  other_listed j u is_before old new a f g w e q (follows x) =
      kept_list j old a (λ l r h. absurd (clash (g l) x))

  -- one more triangle that covers t
  pub cover_found : (j : ℕ) (u : Tri) (is_before : Bool) (old new : List Tri) {covered : Bool} →
      (is_before ≡ true → j < i) → j < length ts → u ≡ tri_at ts j → covered ≡ true →
      AddsEarlier t u b is_before old covered new → HasCover ts i t
  cover_found j u is_before old new f w e q (covers x y z) =
      record {
        cover = u;
        listed = record {
          index = j;
          before = f x;
          here =
              slice_get-get_or ts j no_tri w ∙ ap (λ (v : Tri). Some v) (sym e);
        };
        coplanar = y;
        contains = z;
      }
  cover_found j u is_before old new f w e q (joins x y) = absurd (clash q refl)
  cover_found j u is_before old new f w e q (misses n) = absurd (clash q refl)
  cover_found j u is_before old new f w e q (follows x) = absurd (clash q refl)

  -- ---- owners
  module _ (e : t ≡ tri_at ts i) (w : i < length ts) where
    there : slice_get ts i ≡ Some t
    there = slice_get-get_or ts i no_tri w ∙ ap (λ (v : Tri). Some v) (sym e)

    pub tells_owner : (earlier : List Tri) (f : Face) → All (IsCoplanarWith t) earlier →
        AreEarlier ts i t b (length ts) earlier → IsBounded t b f → HasInside f → DecidesOwner earlier ts i f
    tells_owner earlier f k a d s =
        record {
          free = λ n. record {
            first = λ j v u l at own c q. let h = by j u at v own c q l in
                all_at (λ r. Contains (face_of r) f → ⊥) earlier h.index h.tri n h.here h.holds;
          };
          contained = λ h o. let r = all_at (IsListedBefore ts i) earlier h.index h.tri a.listed h.here in
              o.first r.index t h.tri r.before r.here there
              (all_at (IsCoplanarWith t) earlier h.index h.tri k h.here).coplanar h.holds;
        }
      where
        by : (j : ℕ) (u : Tri) → slice_get ts j ≡ Some u → (v : Tri) → slice_get ts i ≡ Some v →
            is_coplanar u v ≡ true → Contains (face_of u) f → j < i → HasContaining earlier f
        by j u at v own c q l =
            let x = get_or_from_slice_get ts j u no_tri at in let y = sym (get_or_from_slice_get ts i v no_tri own) ∙ sym e in
            a.one_contains j (slice_get_within ts j u at) l f
            (subst (λ (r : Tri). ContainsPart t b r f) (sym x)
            (record {
              coplanar = subst (λ (r : Tri). is_coplanar u r ≡ true) y c;
              bounded = d;
              somewhere = s;
              within =
                  q;
            }))

    pub is_covered : HasCover ts i t → IsCovered ts i
    is_covered h =
        record {
          index = h.listed.index;
          cover = h.cover;
          own = t;
          before = h.listed.before;
          here =
              h.listed.here;
          there = there;
          coplanar = h.coplanar;
          contains = h.contains;
        }
