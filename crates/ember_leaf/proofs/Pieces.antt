-- What a triangle leaves of one region.
use Rattle.std.proofs.Common.{◌≡◌, ◌≢◌, ℕ, suc, ◌+◌, ◌-◌, ◌<◌, ◌≤◌, length, take, drop, get_or, refl, sym, ap, subst}
use Rattle.std.proofs.Common.{◌∙◌, arith, pos, ◌<ℤ◌, true, false, List, [], ◌∷◌, ◌++◌, append_assoc, All}
use Rattle.std.specs.List.{AllByRecursion}
use Rattle.std.proofs.lemmas.List.{append-nil, take_more}
use Rattle.ember_algebra.specs.Relations.{Each, none, more, done, step}
use Rattle.ember_algebra.proofs.Laws.{linear}
use Rattle.ember_model.specs.declared.plane.Plane.{Plane}
use Rattle.ember_model.specs.declared.point.Spot.{Spot}
use Rattle.ember_model.specs.declared.tri.Tri.{Tri}
use Rattle.ember_model.specs.declared.face.Face.{Face}
use Rattle.ember_model.specs.Planes.{value_at, support_of, opposite}
use Rattle.ember_model.specs.Faces.{face_of, edges_of, is_flat, is_inside, Contains, Cuts, Meets, below, above}
use Rattle.ember_model.proofs.SignTests.{negative_in, negative_out, positive_out, zero_out}
use Rattle.ember_model.proofs.Hits.{inside_closed}
use Rattle.ember_width.specs.declared.width.Width.{Ghosts}
use Rattle.ember_box.specs.Regions.{AreLeftByCuttingPlane, splits, whole}
use Rattle.ember_poly.specs.Rings.{IsBelow}
use Rattle.ember_poly.specs.Cuts.{HasInside, IsWhole, AreParts, IsReach}
use Rattle.ember_poly.specs.declared.reach_and_cut.Reach.{Reach}
use Rattle.ember_poly.specs.declared.reach_and_cut.Reach.TheVariants.{Below, Above, On, Both}
use Rattle.ember_poly.proofs.Chains.{each-push}
use Rattle.ember_poly.proofs.FaceTests.{inside_in, inside_out, closed_out}
use Rattle.ember_poly.proofs.ReachBySigns.{over_from_opposite}
use Rattle.ember_trace.proofs.FilledFaces.{inside_below}
use Rattle.ember_leaf.specs.declared.cutter.Cutter.{Cutter}
use Rattle.ember_leaf.specs.declared.cutter.Role.{Role}
use Rattle.ember_leaf.specs.declared.cutter.Role.TheVariants.{OtherPlane, Later, Earlier}
use Rattle.ember_leaf.specs.TriRelations.{HasContaining}
use Rattle.ember_leaf.specs.Written.{HasGrown}
use Rattle.ember_leaf.specs.Cutters.{planes_as, owner_as, cutting_planes_with, owners_by, ended, left, dropped}
use Rattle.ember_leaf.specs.Cutters.{AreDisjoint, IsFree, AreLeft, AreLeftByCutter, SplitsIfCut, in_parts, in_one}
use Rattle.ember_leaf.specs.Cutters.{IsUncut, AreLeftByEdges, AreAround, CutOutTriangle, ShareAPlane, SharesAs, CanCut}
use Rattle.ember_leaf.proofs.WallClips.{inside_in_below}
use Rattle.ember_leaf.proofs.RegionCuts.{take_all, region_parts, not_cut, region_whole}
use Rattle.ember_leaf.proofs.OwnedRegions.{cuts_both, cuts_unmet, without_append, none_dropped}
use Rattle.ember_leaf.proofs.CoplanarFaces.{unmet_disjoint, meets_inside}

-- ---- a region that the triangle doesn't meet
free_as : (k : Role) (t : Tri) (f : Face) → AreDisjoint (face_of t) f → IsFree (owner_as k t) f
free_as OtherPlane t f d = record { free = tt }
free_as Later t f d = record { free = tt }
free_as Earlier t f d = record { free = (d, tt) }

-- a region that a triangle doesn't meet is left as it is
pub unmet_left : {W M : Type 0} {G : Ghosts W M} (c : Cutter W M G) (f : Face) → (Meets f (face_of c.tri) → ⊥) → AreLeftByCutter c f (f ∷ [])
unmet_left c f n =
    record { all = f ∷ []; cuts = cuts_unmet c.tri (planes_as c.role c.tri) f n; without = left (free_as c.role c.tri f (unmet_disjoint c.tri f n)) ended }

-- ---- a triangle in another plane
-- what a plane leaves of a region that meets a face is what it leaves as a cutting plane of that face
cutting_plane_left : (g : Face) (p : Plane) (f : Face) {gs : List Face} → Meets f g → SplitsIfCut p f gs →
    AreLeftByCuttingPlane (record { face = g; plane = p }) f gs
cutting_plane_left g p f m (in_parts c) = splits m c
cutting_plane_left g p f m (in_one n) = whole (λ k c. n c)

plane_left : (t : Tri) (p : Plane) (f : Face) {gs : List Face} → Meets f (face_of t) → SplitsIfCut p f gs →
    AreLeft (cutting_planes_with t (p ∷ [])) [] (f ∷ []) gs
plane_left t p f {gs} m h =
    record {
      all = gs;
      cuts = step (subst (λ (l : List Face). Each
          (AreLeftByCuttingPlane (record { face = face_of t; plane = p })) (f ∷ []) l) (append-nil gs)
          (more (cutting_plane_left (face_of t) p f m h) none)) done;
      without =
          none_dropped gs (λ g. record { free = tt });
    }

-- what the support plane of a triangle in another plane leaves of a region is what the triangle leaves
pub other_plane_left : {W M : Type 0} {G : Ghosts W M} (c : Cutter W M G) (p : Plane) (f : Face) {old new : List Face} → c.role ≡ OtherPlane →
    p ≡ support_of c.tri → Meets f (face_of c.tri) → HasGrown (SplitsIfCut p f) old new →
    HasGrown (AreLeftByCutter c f) old new
other_plane_left c p f {old} {new} e q m g =
    record {
      more = g.more;
      is = g.is;
      holds = subst
          (λ (k : Role). AreLeft (cutting_planes_with c.tri (planes_as k c.tri)) (owner_as k c.tri) (f ∷ []) g.more) (sym e)
          (plane_left c.tri (support_of c.tri) f m (subst (λ (p : Plane). SplitsIfCut p f g.more) q g.holds));
    }

-- the two parts of a region that a plane cuts
cut_in_parts : (p : Plane) (f low high : Face) → AreParts f p low high → SplitsIfCut p f (low ∷ high ∷ [])
cut_in_parts p f low high a =
    subst (λ (l : List Face). SplitsIfCut p f l) (sym (λ i. a.is_low i ∷ a.is_high i ∷ [])) (in_parts a.cuts)

-- a plane that cuts a region leaves its two parts
pub plane_parts : (p : Plane) (f low high : Face) (old mid new : List Face) → AreParts f p low high →
    mid ≡ old ++ low ∷ [] → new ≡ mid ++ high ∷ [] → HasGrown (SplitsIfCut p f) old new
plane_parts p f low high old mid new a e q =
    record {
      more = low ∷ high ∷ [];
      is = q ∙ ap (λ (l : List Face). l ++ high ∷ []) e
          ∙ append_assoc old (low ∷ []) (high ∷ []);
      holds = cut_in_parts p f low high a;
    }

-- a plane that doesn't cut a region leaves it whole
pub plane_whole : (p : Plane) (f : Face) (k : Reach) (old new : List Face) → IsReach f p k → (k ≡ Both → ⊥) →
    new ≡ old ++ f ∷ [] → HasGrown (SplitsIfCut p f) old new
plane_whole p f k old new r n e =
    record { more = f ∷ []; is = e; holds = in_one (not_cut f p k r n) }

-- ---- a triangle in the same plane, which has inside points in common with the region
module _ (t : Tri) (p : Plane) (ps : List Plane) (f : Face) (h : CutOutTriangle t (p ∷ ps) f) where
  abbrev rest_around : AreAround t ps
  rest_around =
      record { inside = λ v i. (h.around.inside v i).1; closed = λ v i. (h.around.closed v i).1 }

  shared_under : IsBelow p h.shared.at
  shared_under = (h.around.inside h.shared.at h.shared.holds).0

  meets_too : Meets f (face_of t)
  meets_too =
      record { at = h.shared.at; inside = h.shared.inside; holds = inside_closed (face_of t) h.shared.at h.shared.holds }

  low_cuts_out : CutOutTriangle t ps (below f p)
  low_cuts_out =
      record {
        around = rest_around;
        shared = record { at = h.shared.at; inside = inside_in_below f p h.shared.at h.shared.inside (negative_in shared_under.under); holds = h.shared.holds };
        within = λ v i us. let k = inside_below f p v i in h.within v k.0 (record { under = negative_out (value_at p v) k.1 }, us);
      }

  high_over : (v : Spot) → is_inside (above f p) v ≡ true → pos 0 <ℤ value_at p v
  high_over v i =
      (over_from_opposite p v (record { under = negative_out (value_at (opposite p) v) (inside_below f (opposite p) v i).1 })).over

  high_unmet : Meets (above f p) (face_of t) → ⊥
  high_unmet m =
      let o = high_over m.at m.inside in let a = (h.around.closed m.at m.holds).0.at_most in omega (arith, linear, o, a)

  -- if the plane doesn't cut the region, all of the region is below it
  pub all_under : (k : Reach) → IsReach f p k → (k ≡ Both → ⊥) → CutOutTriangle t ps f
  all_under Below r n =
      record {
        around = rest_around;
        shared = h.shared;
        within =
            λ v i us. h.within v i (record { under = negative_out (value_at p v) (r.everywhere.holds v i) }, us);
      }
  all_under Above r n =
      let u = shared_under.under in let o = positive_out (value_at p h.shared.at) (r.everywhere.holds h.shared.at h.shared.inside) in
      absurd (omega (arith, linear, u, o))
  all_under On r n =
      let u = shared_under.under in let o = zero_out (value_at p h.shared.at) (r.everywhere.holds h.shared.at h.shared.inside) in
      absurd (omega (arith, linear, u, o))
  all_under Both r n = absurd (n refl)

  whole_left : (ts : List Tri) (k : Reach) {gs : List Face} → IsReach f p k → (k ≡ Both → ⊥) →
      AreLeft (cutting_planes_with t ps) ts (f ∷ []) gs → AreLeft (cutting_planes_with t (p ∷ ps)) ts (f ∷ []) gs
  whole_left ts k r n l =
      record { all = l.all; cuts = step (more (region_whole (record { face = face_of t; plane = p }) f k r n) none) l.cuts; without = l.without }

  parts_left : (k : Role) (low high : Face) {gs : List Face} → AreParts f p low high →
      AreLeft (cutting_planes_with t ps) (owner_as k t) (low ∷ []) gs →
      AreLeft (cutting_planes_with t (p ∷ ps)) (owner_as k t) (f ∷ []) (gs ++ high ∷ [])
  parts_left k low high a l =
      let n : Meets high (face_of t) → ⊥ = subst (λ (g : Face). Meets g (face_of t) → ⊥) (sym a.is_high) high_unmet in
      record {
        all = l.all ++ high ∷ [];
        cuts = step (more (region_parts (record { face = face_of t; plane = p }) f low high meets_too a) none) (cuts_both l.cuts (cuts_unmet t ps high n));
        without = without_append l.without (left (free_as k t high (unmet_disjoint t high n)) ended);
      }

-- if the planes cut out what lies in the triangle, the rest of them do so from the part below the first
pub low_is_cut_out : (t : Tri) (p : Plane) (ps : List Plane) (f low high : Face) → CutOutTriangle t (p ∷ ps) f → AreParts f p low high → CutOutTriangle t ps low
low_is_cut_out t p ps f low high h a = subst (CutOutTriangle t ps) (sym a.is_low) (low_cuts_out t p ps f h)

-- ---- after the last edge plane
none_held : (t : Tri) (f : Face) → CutOutTriangle t [] f → HasContaining (t ∷ []) f
none_held t f h = record { index = 0; tri = t; here = refl; holds = record { holds = λ v i. h.within v i tt } }

-- after all planes, an owner leaves nothing of the part inside it
pub cut_out_dropped : {W M : Type 0} {G : Ghosts W M} (c : Cutter W M G) (f : Face) (old : List Face) → c.role ≡ Earlier → CutOutTriangle c.tri [] f → HasGrown (AreLeftByEdges c [] f) old old
cut_out_dropped c f old e h =
    record {
      more = [];
      is = sym (append-nil old);
      holds =
          subst (λ (k : Role). AreLeft [] (owner_as k c.tri) (f ∷ []) []) (sym e)
          (record { all = f ∷ []; cuts = done; without = dropped (none_held c.tri f h) ended });
    }

-- after all planes, a triangle that isn't an owner leaves the part inside it
pub cut_out_left : {W M : Type 0} {G : Ghosts W M} (c : Cutter W M G) (f : Face) (old new : List Face) → (c.role ≡ Earlier → ⊥) → new ≡ old ++ f ∷ [] → HasGrown (AreLeftByEdges c [] f) old new
cut_out_left c f old new n e =
    record { more = f ∷ []; is = e; holds = record { all = f ∷ []; cuts = done; without = left (none c.role n) ended } }
  where
    none : (k : Role) → (k ≡ Earlier → ⊥) → IsFree (owner_as k c.tri) f
    none OtherPlane m = record { free = tt }
    none Later m = record { free = tt }
    none Earlier m = absurd (m refl)

-- a plane that doesn't cut the region leaves it to the planes after it
pub whole_grown : {W M : Type 0} {G : Ghosts W M} (c : Cutter W M G) (p : Plane) (ps : List Plane) (f : Face) (k : Reach) (old new : List Face) →
    CutOutTriangle c.tri (p ∷ ps) f → IsReach f p k → (k ≡ Both → ⊥) → HasGrown (AreLeftByEdges c ps f) old new →
    HasGrown (AreLeftByEdges c (p ∷ ps) f) old new
whole_grown c p ps f k old new h r n g =
    record { more = g.more; is = g.is; holds = whole_left c.tri p ps f h (owners_by c) k r n g.holds }

-- a plane that cuts the region leaves the part below to the planes after it, and then the part above
pub parts_grown : {W M : Type 0} {G : Ghosts W M} (c : Cutter W M G) (p : Plane) (ps : List Plane) (f low high : Face) (old mid new : List Face) →
    CutOutTriangle c.tri (p ∷ ps) f → AreParts f p low high → HasGrown (AreLeftByEdges c ps low) old mid →
    new ≡ mid ++ high ∷ [] → HasGrown (AreLeftByEdges c (p ∷ ps) f) old new
parts_grown c p ps f low high old mid new h a g e =
    record {
      more = g.more ++ high ∷ [];
      is = e ∙ ap (λ (l : List Face). l ++ high ∷ []) g.is
          ∙ append_assoc old g.more (high ∷ []);
      holds = parts_left c.tri p ps f h c.role low high a g.holds;
    }

-- ---- planes that don't cut the region
abbrev pub AreUncut : Face → List Plane → Type 0
AreUncut f ps = AllByRecursion (IsUncut f) ps

uncut_part : (f g : Face) (p : Plane) → Contains f g → HasInside g → IsUncut f p → IsUncut g p
uncut_part f g p w s u = record { side = u.side; lies = by u.side u.lies u.uncut; uncut = u.uncut }
  where
    part : {P : Spot → Type 0} → IsWhole f P → IsWhole g P
    part k =
        record {
          somewhere = record {
            at = s.at;
            inside = s.inside;
            holds =
                k.everywhere.holds s.at (w.holds s.at s.inside);
          };
          everywhere =
              record { holds = λ v i. k.everywhere.holds v (w.holds v i) };
        }

    by : (k : Reach) → IsReach f p k → (k ≡ Both → ⊥) → IsReach g p k
    by Below r n = part r
    by Above r n = part r
    by On r n = part r
    by Both r n = absurd (n refl)

uncut_parts : (f g : Face) (ps : List Plane) → Contains f g → HasInside g → AreUncut f ps → AreUncut g ps
uncut_parts f g [] w s u = tt
uncut_parts f g (p ∷ ps) w s u = (uncut_part f g p w s u.0, uncut_parts f g ps w s u.1)

-- one more plane that doesn't cut the region
pub uncut_more : (f : Face) (ps : List Plane) (i : ℕ) (d : Plane) → i < length ps → AreUncut f (take i ps) →
    IsUncut f (get_or ps i d) → AreUncut f (take (i + 1) ps)
uncut_more f ps i d l h u =
    subst (AreUncut f) (sym (take_more ps i d l)) (each-push (IsUncut f) (take i ps) (get_or ps i d) h u)

-- after the last plane, no plane of the list cuts the region
pub all_uncut : (f : Face) (ps : List Plane) (i : ℕ) → length ps ≤ i → AreUncut f (take i ps) → AreUncut f ps
all_uncut f ps i l h = subst (AreUncut f) (take_all i ps l) h

-- what the owner contains is left out
owned_dropped : {W M : Type 0} {G : Ghosts W M} (c : Cutter W M G) (ps : List Plane) (f : Face) (old : List Face) → c.role ≡ Earlier →
    CutOutTriangle c.tri ps f → AreUncut f ps → HasGrown (AreLeftByEdges c ps f) old old
owned_dropped c [] f old e h u = cut_out_dropped c f old e h
owned_dropped c (p ∷ ps) f old e h u =
    whole_grown c p ps f u.0.side old old h u.0.lies u.0.uncut (owned_dropped c ps f old e (all_under c.tri p ps f h u.0.side u.0.lies u.0.uncut) u.1)

-- a plane cuts the region, and its part below is the owner's
pub above_grown : {W M : Type 0} {G : Ghosts W M} (c : Cutter W M G) (p : Plane) (ps : List Plane) (f high : Face) (old new : List Face) → c.role ≡ Earlier →
    CutOutTriangle c.tri (p ∷ ps) f → Cuts f p → AreUncut f ps → high ≡ above f p → new ≡ old ++ high ∷ [] →
    HasGrown (AreLeftByEdges c (p ∷ ps) f) old new
above_grown c p ps f high old new e h k u a q =
    parts_grown c p ps f (below f p) high old old new h (record { cuts = k; is_low = refl; is_high = a })
    (owned_dropped c ps (below f p) old e (low_cuts_out c.tri p ps f h) (uncut_parts f (below f p) ps within some u))
    q
  where
    within : Contains f (below f p)
    within = record { holds = λ v i. (inside_below f p v i).0 }

    some : HasInside (below f p)
    some =
        record { at = k.some_below.at; inside = inside_in_below f p k.some_below.at k.some_below.inside k.some_below.holds; holds = tt }

-- ---- all edge planes
around : (t : Tri) → AreAround t (edges_of t)
unfolding face_of
around t =
    record { inside = λ v i. (inside_out (face_of t) v i).within; closed = λ v i. (closed_out (face_of t) v i).within }

inside_all : (t : Tri) (v : Spot) → value_at (support_of t) v ≡ pos 0 → pos 0 <ℤ v.w →
    AllByRecursion (λ p. IsBelow p v) (edges_of t) → is_inside (face_of t) v ≡ true
unfolding face_of
inside_all t v e w us = inside_in (face_of t) v (record { flat = e; weight = w; within = us })

all_cut_out : (t : Tri) (f : Face) → is_flat t ≡ false → ShareAPlane t f → Meets f (face_of t) → CutOutTriangle t (edges_of t) f
all_cut_out t f n s m =
    record { around = around t; shared = meets_inside t f n s m; within = λ v i us. inside_all t v (s.face v i) (inside_out f v i).weight us }

-- a coplanar cutter and the region lie in one plane
pub cutter_shares_plane : {W M : Type 0} {G : Ghosts W M} (c : Cutter W M G) (f : Face) → CanCut c f → c.role ≢ OtherPlane → ShareAPlane c.tri f
cutter_shares_plane c f h n = by c.role n h.shares
  where
    by : (k : Role) → (k ≡ OtherPlane → ⊥) → SharesAs k c.tri f → ShareAPlane c.tri f
    by OtherPlane n s = absurd (n refl)
    by Later n s = s
    by Earlier n s = s

-- the edge planes of a coplanar triangle that meets a region cut out of it what lies in the triangle
pub edges_cut_out : {W M : Type 0} {G : Ghosts W M} (c : Cutter W M G) (es : List Plane) (f : Face) → CanCut c f → c.role ≢ OtherPlane → es ≡ edges_of c.tri →
    Meets f (face_of c.tri) → CutOutTriangle c.tri es f
edges_cut_out c es f h n e m =
    subst (λ (ps : List Plane). CutOutTriangle c.tri ps f) (sym e) (all_cut_out c.tri f c.normal (cutter_shares_plane c f h n) m)

-- ---- the first plane of a list and the rest
abbrev rest_of : {A : Type 0} → List A → List A
rest_of xs = take (length xs - 1) (drop 1 xs)

-- a list that isn't empty is its first member and the rest
pub first_rest : {A : Type 0} (xs : List A) (d : A) → 1 ≤ length xs → get_or xs 0 d ∷ take (length xs - 1) (drop 1 xs) ≡ xs
first_rest [] d l = absurd (omega (arith, l))
first_rest (x ∷ xs) d l = ap (λ ys. x ∷ ys) (take_all (length (x ∷ xs) - 1) xs (omega arith))

-- the rest of a list is shorter
pub rest_shorter : {A : Type 0} (xs : List A) → 1 ≤ length xs → length (take (length xs - 1) (drop 1 xs)) < length xs
rest_shorter [] l = absurd (omega (arith, l))
rest_shorter (x ∷ xs) l =
    let e = ap length (take_all (length (x ∷ xs) - 1) xs (omega arith)) in omega (arith, e)

-- what holds of all members holds of all behind the first
pub rest_all : {A : Type 0} (P : A → Type 0) (xs : List A) (d : A) → 1 ≤ length xs → All P xs → All P (take (length xs - 1) (drop 1 xs))
rest_all {A} P xs d l h = tail (get_or xs 0 d) (rest_of xs) (subst (All P) (sym (first_rest xs d l)) h)
  where
    tail : (y : A) (ys : List A) → All P (y ∷ ys) → All P ys
    tail y ys h = λ k d l. h (suc k) d (omega (arith, l))

-- a list without a first member is empty
pub no_first : {A : Type 0} (xs : List A) → length xs < 1 → xs ≡ []
no_first [] l = refl
no_first (x ∷ xs) l = absurd (omega (arith, l))
