-- The start that the walls leave, cut by the cutting planes that are found: the regions of the triangle.
use Rattle.std.proofs.Common.{◌≡◌, ◌⊎◌, inl, inr, refl, sym, subst, arith, ℕ, true, false, List, [], ◌∷◌, map, length}
use Rattle.std.proofs.Common.{get_or, All, ◌<◌, ℤ, pos, ◌-ℤ◌, ◌*ℤ◌, ◌≤ℤ◌}
use Rattle.std.specs.Int.{int_min, int_max}
use Rattle.std.proofs.lemmas.Int.{clamps, by_lt_z}
use Rattle.std.proofs.lemmas.Option.{slice_get-get_or}
use borrow.Author.Differences.{ints}
use Rattle.std.specs.List.{AllByRecursion}
use Rattle.std.proofs.lemmas.List.Elements.{All-nil, All-cons}
use Rattle.ember_algebra.specs.Relations.{Each, Chain, done, Every}
use Rattle.ember_algebra.proofs.Laws.{linear}
use Rattle.ember_algebra.proofs.Ring.{◌⊕◌, ◌⊖◌, ◌⊗◌, ◌≈◌, num, solve, cancels}
use Rattle.ember_model.specs.declared.point.Axis.{Axis}
use Rattle.ember_model.specs.declared.point.Axis.TheVariants.{X, Y, Z}
use Rattle.ember_model.specs.declared.point.Spot.{Spot}
use Rattle.ember_model.specs.declared.tri.Tri.{Tri}
use Rattle.ember_model.specs.declared.face.Face.{Face}
use Rattle.ember_model.specs.Planes.{value_at, opposite}
use Rattle.ember_model.specs.Faces.{is_inside, is_flat, face_of, Contains}
use Rattle.ember_model.specs.Owners.{IsOwner}
use Rattle.ember_model.proofs.SignTests.{clash}
use Rattle.ember_model.proofs.Hits.{inside_closed}
use Rattle.ember_width.specs.declared.width.Width.{Ghosts}
use Rattle.ember_box.specs.declared.aabb.Interval.{Interval}
use Rattle.ember_box.specs.declared.aabb.Aabb.{Aabb}
use Rattle.ember_box.specs.Boxes.{Cell, low, high}
use Rattle.ember_box.specs.Near.{tri_at}
use Rattle.ember_box.specs.Aabbs.{aabb_of_cell, interval_between}
use Rattle.ember_box.specs.Regions.{level, walls, IsStart, AreLeftByCuttingPlane, splits, whole, cutting_planes, IsRegions}
use Rattle.ember_box.specs.Regions as regions
use Rattle.ember_ref.proofs.NearPoints.{coordinate}
use Rattle.ember_poly.specs.Rings.{IsNotAbove}
use Rattle.ember_poly.proofs.FaceTests.{all_out}
use Rattle.ember_poly.proofs.ReachBySigns.{least_from_opposite}
use Rattle.ember_trace.specs.Boxed.{LiesIn}
use Rattle.ember_trace.proofs.FilledFaces.{inside_below}
use Rattle.ember_trace.proofs.BoxedRegions.{every_at, regions_lie_in}
use Rattle.ember_leaf.specs.declared.wall.Wall as leaf
use Rattle.ember_leaf.specs.declared.cutter.Cutter.{Cutter}
use Rattle.ember_trace.specs.declared.near_triangle.NearTriangle.{NearTriangle}
use Rattle.ember_leaf.specs.Walls.{wall_of, IsPartOf, IsClippedBy}
use Rattle.ember_leaf.specs.TriRelations.{IsCoplanarWith}
use Rattle.ember_leaf.specs.declared.cutter.Role.{Role}
use Rattle.ember_leaf.specs.declared.cutter.Role.TheVariants.{OtherPlane, Later, Earlier}
use Rattle.ember_leaf.specs.KeptRegions.{LiesInPlaneOf}
use Rattle.ember_leaf.specs.EarlierTriangles.{AreEarlier, DecidesOwner}
use Rattle.ember_leaf.specs.Written.{AreOwned}
use Rattle.ember_poly.specs.Cuts.{HasInside}
use Rattle.ember_leaf.specs.Cutters.{cutting_planes_in, owners_in, IsCutterOf, AreDisjoint, IsFree, AreCut, CanCut}
use Rattle.ember_leaf.specs.Cutters.{LiesAs, SharesAs, LiesInInterval, LiesInAabb, IsBounded, OmitsUnmet, common}
use Rattle.ember_leaf.specs.Cutters.{common_of}
use Rattle.ember_leaf.proofs.WallClips.{left_parts}
use Rattle.ember_leaf.proofs.TriRelations.{bounds}
use Rattle.ember_leaf.proofs.UnmetPlanes.{unmet_planes_change_nothing}
use Rattle.ember_leaf.proofs.EarlierTriangles.{tells_owner, owners_coplanar}
use Rattle.ember_leaf.proofs.OwnedRegions.{without_map, left_every, left_have, every_all, regions_left}
use Rattle.ember_leaf.proofs.Cutting.{all_every}
use Rattle.ember_leaf.proofs.RegionCuts.{cuts_keep, parts_regions}
use Rattle.ember_leaf.proofs.CoplanarFaces.{share_a_plane}
use Rattle.ember_leaf.proofs.WrittenRegions.{all_lie_in}

-- ---- points of boxes
max_is : (a b : ℤ) → (int_max a b ≡ a) ⊎ (int_max a b ≡ b)
max_is a b = by_lt_z a b (λ l. inr (omega (arith, ints, clamps, l))) (λ l. inl (omega (arith, ints, clamps, l)))

min_is : (a b : ℤ) → (int_min a b ≡ a) ⊎ (int_min a b ≡ b)
min_is a b = by_lt_z a b (λ l. inl (omega (arith, ints, clamps, l))) (λ l. inr (omega (arith, ints, clamps, l)))

one_of : (P : ℤ → Type 0) {a b m : ℤ} → (m ≡ a) ⊎ (m ≡ b) → P a → P b → P m
one_of P (inl e) p q = subst P (sym e) p
one_of P (inr e) p q = subst P (sym e) q

held_common : (a b : Interval) (x w : ℤ) → LiesInInterval a x w → LiesInInterval b x w → LiesInInterval (common a b) x w
held_common a b x w p q =
    record { low = one_of (λ m. (m *ℤ w) ≤ℤ x) (max_is a.low b.low) p.low q.low; high = one_of (λ m. x ≤ℤ (m *ℤ w)) (min_is a.high b.high) p.high q.high }

are_common : (a b : Aabb) (v : Spot) → LiesInAabb a v → LiesInAabb b v → LiesInAabb (common_of a b) v
are_common a b v p q =
    record { x = held_common a.x b.x v.x v.w p.x q.x; y = held_common a.y b.y v.y v.w p.y q.y; z = held_common a.z b.z v.z v.w p.z q.z }

level_value : (k : Axis) (h : ℤ) (v : Spot) → value_at (level k h) v ≡ coordinate k v -ℤ h *ℤ v.w
level_value X h v =
    solve 5 (λ x y z h w. num (pos 1) ⊗ x ⊕ num (pos 0) ⊗ y ⊕ num (pos 0) ⊗ z ⊖ h ⊗ w ≈ x ⊖ h ⊗ w) cancels v.x v.y v.z h v.w
level_value Y h v =
    solve 5 (λ x y z h w. num (pos 0) ⊗ x ⊕ num (pos 1) ⊗ y ⊕ num (pos 0) ⊗ z ⊖ h ⊗ w ≈ y ⊖ h ⊗ w) cancels v.x v.y v.z h v.w
level_value Z h v =
    solve 5 (λ x y z h w. num (pos 0) ⊗ x ⊕ num (pos 0) ⊗ y ⊕ num (pos 1) ⊗ z ⊖ h ⊗ w ≈ z ⊖ h ⊗ w) cancels v.x v.y v.z h v.w

between : (k : Axis) (l h : ℤ) (v : Spot) → IsNotAbove (opposite (level k l)) v → IsNotAbove (level k h) v →
    LiesInInterval (interval_between l h) (coordinate k v) v.w
between k l h v p q =
    let a = (least_from_opposite (level k l) v p).at_least in let b = q.at_most in let d = level_value k l v in let e = level_value k h v in
    record { low = omega (arith, linear, a, d); high = omega (arith, linear, b, e) }

in_cell : (c : Cell) (f : Face) (v : Spot) → LiesIn c f → is_inside f v ≡ true → LiesInAabb (aabb_of_cell c) v
in_cell c f v l i =
    let h = all_out (map (λ w. w.plane) (walls c)) v (l.holds v i) in
    record {
      x = between X (low c X) (high c X) v h.0 h.1.0;
      y = between Y (low c Y) (high c Y) v h.1.1.0 h.1.1.1.0;
      z =
          between Z (low c Z) (high c Z) v h.1.1.1.1.0 h.1.1.1.1.1.0;
    }

-- a start is the one region of a triangle that is alone
start_lies_in : (c : Cell) (t : Tri) (f : Face) → IsStart c t (f ∷ []) → LiesIn c f
start_lies_in c t f s =
    regions_lie_in c (t ∷ []) 0 0 (f ∷ []) f (record { start = f ∷ []; is_start = s; cuts = done }) refl

-- ---- regions
bounded_keeps : (t : Tri) (s : Aabb) (b : regions.CuttingPlane) (f : Face) (fs : List Face) → IsBounded t s f →
    AreLeftByCuttingPlane b f fs → Every (IsBounded t s) fs
bounded_keeps t s b f fs h (splits m c) = (
  record {
    within = record { holds = λ v i. h.within.holds v (inside_below f b.plane v i).0 };
    bounds =
        record { holds = λ v i. h.bounds.holds v (inside_below f b.plane v i).0 };
  },
  (
    record {
      within = record { holds = λ v i. h.within.holds v (inside_below f (opposite b.plane) v i).0 };
      bounds =
          record { holds = λ v i. h.bounds.holds v (inside_below f (opposite b.plane) v i).0 };
    },
    tt,
  ),
)
bounded_keeps t s b f fs h (whole n) = (h, tt)

module _ {W M : Type 0} {G : Ghosts W M} (c : Cell) (f : NearTriangle W M G) (ring : Face) where
  part_bounded : (s : Aabb) → s ≡ common_of f.aabb (aabb_of_cell c) → IsPartOf f.tri ring → LiesIn c ring → IsBounded f.tri s ring
  part_bounded s q p l =
      record {
        within = p.within;
        bounds = record {
          holds =
              λ v i. subst (λ (b : Aabb). LiesInAabb b v) (sym q)
              (are_common f.aabb (aabb_of_cell c) v (own p.plane.normal v (p.within.holds v i)) (in_cell c ring v l i));
        };
      }
    where
      own : is_flat f.tri ≡ false → (v : Spot) → is_inside (face_of f.tri) v ≡ true → LiesInAabb f.aabb v
      own n v i =
          let k = inside_closed (face_of f.tri) v i in
          subst (λ (b : Aabb). LiesInAabb b v) (sym f.bounds) (record { x = bounds X f.tri v n k; y = bounds Y f.tri v n k; z = bounds Z f.tri v n k })

  leaf_regions : (ts : List Tri) (i : ℕ) (ws : List leaf.Wall) (bs : List regions.CuttingPlane) (s : Aabb)
      (list : List Face) → f.tri ≡ tri_at ts i → map wall_of ws ≡ walls c → s ≡ common_of f.aabb (aabb_of_cell c) →
      IsClippedBy (map wall_of ws) f.tri (ring ∷ []) → OmitsUnmet (IsBounded f.tri s) (cutting_planes ts i) bs →
      Chain (λ b. Each (AreLeftByCuttingPlane b)) bs (ring ∷ []) list → IsRegions c ts i list
  leaf_regions ts i ws bs s list e w q l h k =
      let start : IsStart c f.tri (ring ∷ []) = subst (λ (vs : List regions.Wall). IsClippedBy vs f.tri (ring ∷ [])) w l in
      record {
        start = ring ∷ [];
        is_start = subst (λ (t : Tri). IsStart c t (ring ∷ [])) e start;
        cuts =
            unmet_planes_change_nothing (bounded_keeps f.tri s) h
            (part_bounded s q (left_parts f.tri start).0 (start_lies_in c f.tri ring start), tt) k;
      }

-- the list of triangles before a triangle decides whether it owns each of its regions
owners_told : {W M : Type 0} {G : Ghosts W M} (c : Cell) (f : NearTriangle W M G) (ts : List Tri) (i : ℕ) (earlier : List Tri) (s : Aabb) (list : List Face) →
    f.tri ≡ tri_at ts i → i < length ts → s ≡ common_of f.aabb (aabb_of_cell c) → IsRegions c ts i list →
    Every (IsPartOf f.tri) list → All (IsCoplanarWith f.tri) earlier → AreEarlier ts i f.tri s (length ts) earlier →
    All (DecidesOwner earlier ts i) list
owners_told c f ts i earlier s list e w q r p k a j d l =
    let g = get_or list j d in let at = slice_get-get_or list j d l in let part = every_at (IsPartOf f.tri) list j g p at in
    tells_owner ts i f.tri s e w earlier g k a (part_bounded c f g s q part (regions_lie_in c ts i j list g r at)) part.somewhere

-- ---- the regions that the triangle owns
-- none of the triangles contains a face that is free of them
free_uncontained : (ts : List Tri) (f : Face) → HasInside f → IsFree ts f → All (λ u. Contains (face_of u) f → ⊥) ts
free_uncontained ts f s h = by ts h.free
  where
    by : (ts : List Tri) → AllByRecursion (λ u. AreDisjoint (face_of u) f) ts → All (λ u. Contains (face_of u) f → ⊥) ts
    by [] a = All-nil (λ u. Contains (face_of u) f → ⊥)
    by (t ∷ ts) a =
        All-cons (λ u. Contains (face_of u) f → ⊥) t ts (λ k. clash (k.holds s.at s.inside) (a.0.holds s.at s.inside)) (by ts a.1)

record IsTold (earlier ts : List Tri) (i : ℕ) (f : Face) : Type 0 where
  tells : DecidesOwner earlier ts i f
  somewhere : HasInside f

all_told : (earlier ts : List Tri) (i : ℕ) (t : Tri) (fs : List Face) → Every (DecidesOwner earlier ts i) fs →
    Every (IsPartOf t) fs → Every (IsTold earlier ts i) fs
all_told earlier ts i t [] h k = tt
all_told earlier ts i t (f ∷ fs) h k =
    (record { tells = h.0; somewhere = k.0.somewhere }, all_told earlier ts i t fs h.1 k.1)

-- what the triangles leave of the start are the regions that the triangle owns
pub leaf_owned : {W M : Type 0} {G : Ghosts W M} (c : Cell) (f : NearTriangle W M G) (ring : Face) (ts : List Tri) (i : ℕ) (ws : List leaf.Wall)
    (cs : List (Cutter W M G)) (s : Aabb) (list : List Face) → f.tri ≡ tri_at ts i → i < length ts → map wall_of ws ≡ walls c →
    s ≡ common_of f.aabb (aabb_of_cell c) → IsClippedBy (map wall_of ws) f.tri (ring ∷ []) →
    OmitsUnmet (IsBounded f.tri s) (cutting_planes ts i) (cutting_planes_in cs) → All (IsCutterOf f.tri) cs →
    AreEarlier ts i f.tri s (length ts) (owners_in cs) → AreCut cs (ring ∷ []) list → AreOwned c ts i list
leaf_owned c f ring ts i ws cs s list e l w q h sheds lies earlier k =
    let r = regions_left cs ring list k in let are = leaf_regions c f ring ts i ws (cutting_planes_in cs) s r.all e w q h sheds r.cuts in
    let parts = cuts_keep f.tri r.cuts ((left_parts f.tri h).0, tt) in let us = owners_in cs in
    let told = all_every (DecidesOwner us ts i) r.all (owners_told c f ts i us s r.all e l q are parts (owners_coplanar f.tri cs lies) earlier) in
    record {
      all = r.all;
      are_regions = are;
      owned =
          without_map (IsTold us ts i) (λ g t p. t.tells.contained p)
          (λ g t p. t.tells.free (free_uncontained us g t.somewhere p)) (all_told us ts i f.tri r.all told parts) r.without;
    }

module _ (c : Cell) (ts : List Tri) (i : ℕ) (list : List Face) (o : AreOwned c ts i list) where
  -- owned regions are regions of their triangle
  pub owned_planes : All (LiesInPlaneOf (tri_at ts i)) list
  owned_planes =
      let t = tri_at ts i in let r = o.are_regions in
      parts_regions t list (left_every (IsPartOf t) o.owned (cuts_keep t r.cuts (left_parts t r.is_start)))

  -- owned regions lie in the box
  pub owned_inside : All (LiesIn c) list
  owned_inside =
      every_all (LiesIn c) list (left_every (LiesIn c) o.owned (all_every (LiesIn c) o.all (all_lie_in c ts i o.all o.are_regions)))

  -- the triangle owns each of them
  pub owned_each : All (IsOwner ts i) list
  owned_each = every_all (IsOwner ts i) list (left_have o.owned)

-- each of the triangles can cut the start
pub all_can : {W M : Type 0} {G : Ghosts W M} (t : Tri) (ring : Face) (cs : List (Cutter W M G)) → IsPartOf t ring → All (IsCutterOf t) cs → All (λ u. CanCut u ring) cs
all_can t ring cs r h =
    λ k d l. record { shares = by (get_or cs k d).tri (get_or cs k d).role (h k d l).lies; somewhere = r.somewhere }
  where
    by : (u : Tri) (k : Role) → LiesAs k t u → SharesAs k u ring
    by u OtherPlane l = tt
    by u Later l = share_a_plane t u ring r.plane l
    by u Earlier l = share_a_plane t u ring r.plane l
