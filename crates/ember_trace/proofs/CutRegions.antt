-- What the cuts leave: no inside point of a region lies in the closed face of a triangle near the
-- box, but for those in the region's plane.
use Rattle.std.proofs.Common.{◌≡◌, refl, sym, ap, subst, ◌∙◌, arith, ℕ, zero, suc, ◌+◌, ◌<◌, Bool, true, false, nat_eq}
use Rattle.std.proofs.Common.{List, [], ◌∷◌, map, flat_map, length, Some, slice_get}
use Rattle.std.specs.List.{AllByRecursion, range_with_len}
use Rattle.std.proofs.lemmas.Bool.{eqb-true}
use Rattle.ember_algebra.specs.Relations.{Each, Chain, done, step, Every}
use Rattle.ember_algebra.proofs.Laws.{linear}
use Rattle.ember_model.specs.declared.plane.Plane.{Plane}
use Rattle.ember_model.specs.declared.point.Spot.{Spot}
use Rattle.ember_model.specs.declared.face.Face.{Face}
use Rattle.ember_model.specs.declared.tri.Tri.{Tri}
use Rattle.ember_model.specs.Planes.{value_at, support_of, opposite}
use Rattle.ember_model.specs.Faces.{is_inside, is_in_closed, below, is_flat, face_of, edges_of, Cuts}
use Rattle.ember_model.specs.Owners.{is_coplanar}
use Rattle.ember_model.proofs.SignTests.{clash, negative_out, positive_out}
use Rattle.ember_model.proofs.Hits.{closed_parts}
use Rattle.ember_model.proofs.PlaneValues.{value-opposite}
use Rattle.ember_box.specs.Boxes.{Cell}
use Rattle.ember_box.specs.Near.{tri_at}
use Rattle.ember_box.specs.Regions.{Wall, AreLeftByWall, cut, outside, in_high, stays, CuttingPlane, cutting_planes_at}
use Rattle.ember_box.specs.Regions.{cutting_planes, AreLeftByCuttingPlane, splits, whole, IsRegions}
use Rattle.ember_poly.proofs.Chains.{each-front, each-back}
use Rattle.ember_trace.proofs.FilledFaces.{inside_below, uncut_flat}
use Rattle.ember_trace.proofs.FlatPlanes.{lies_flat, self_coplanar}
use Rattle.ember_trace.proofs.SharedPlanes.{on_plane, shared_inside}
use Rattle.ember_trace.proofs.BoxedRegions.{each_every, every_at, region_inside}

-- ---- what every cut keeps
-- what holds of a face still holds below each plane
abbrev pub Keeps : (Face → Type 0) → Type 0
Keeps P = (f : Face) (p : Plane) → P f → P (below f p)

wall_keeps : (P : Face → Type 0) → Keeps P → (w : Wall) (f : Face) (fs : List Face) → P f → AreLeftByWall w f fs → Every P fs
wall_keeps P k w f fs h (cut c) = (k f w.plane h, tt)
wall_keeps P k w f fs h (outside a) = tt
wall_keeps P k w f fs h (in_high b o) = tt
wall_keeps P k w f fs h (stays c a o) = (h, tt)

-- what every cut keeps holds of all faces that walls leave
pub walls_keep : (P : Face → Type 0) → Keeps P → {ws : List Wall} {fs gs : List Face} → Chain (λ w. Each (AreLeftByWall w)) ws fs gs → Every P fs → Every P gs
walls_keep P k done h = h
walls_keep P k (step {x = w} r c) h = walls_keep P k c (each_every P P (λ f fs e a. wall_keeps P k w f fs e a) r h)

cutting_plane_keeps : (P : Face → Type 0) → Keeps P → (b : CuttingPlane) (f : Face) (fs : List Face) → P f → AreLeftByCuttingPlane b f fs → Every P fs
cutting_plane_keeps P k b f fs h (splits m c) = (k f b.plane h, (k f (opposite b.plane) h, tt))
cutting_plane_keeps P k b f fs h (whole m) = (h, tt)

-- and of all that cutting planes leave
pub cutting_planes_keep : (P : Face → Type 0) → Keeps P → {bs : List CuttingPlane} {fs gs : List Face} →
    Chain (λ b. Each (AreLeftByCuttingPlane b)) bs fs gs → Every P fs → Every P gs
cutting_planes_keep P k done h = h
cutting_planes_keep P k (step {x = b} r c) h = cutting_planes_keep P k c (each_every P P (λ f fs e a. cutting_plane_keeps P k b f fs e a) r h)

-- ---- after the turn of a cutting plane
-- if an inside point of g lies in the closed face of the cutting plane, its plane doesn't cut g
abbrev pub IsUncut : CuttingPlane → Face → Type 0
IsUncut b g = (v : Spot) → is_inside g v ≡ true → is_in_closed b.face v ≡ true → Cuts g b.plane → ⊥

uncut_kept : (b : CuttingPlane) → Keeps (IsUncut b)
uncut_kept b f p h v i c k =
    h v (inside_below f p v i).0 c (record {
      some_below =
          record {
            at = k.some_below.at;
            inside = (inside_below f p k.some_below.at k.some_below.inside).0;
            holds =
                k.some_below.holds;
          };
      some_above = record {
        at = k.some_above.at;
        inside =
            (inside_below f p k.some_above.at k.some_above.inside).0;
        holds = k.some_above.holds;
      };
    })

after_turn : (b : CuttingPlane) (f : Face) (fs : List Face) → AreLeftByCuttingPlane b f fs → Every (IsUncut b) fs
after_turn b f fs (splits m c) = (
  λ v i c k. let l = negative_out (value_at b.plane k.some_above.at)
      (inside_below f b.plane k.some_above.at k.some_above.inside).1 in let h =
      positive_out (value_at b.plane k.some_above.at) k.some_above.holds in
      absurd (omega (arith, linear, l, h)),
  (
    λ v i c k. let l =
        negative_out (value_at (opposite b.plane) k.some_below.at)
        (inside_below f (opposite b.plane) k.some_below.at k.some_below.inside).1 in let h =
        negative_out (value_at b.plane k.some_below.at) k.some_below.holds in let e =
        value-opposite b.plane k.some_below.at in absurd (omega (arith, linear, l, h, e)),
    tt,
  ),
)
after_turn b f fs (whole m) = (λ v i c k. m (record { at = v; inside = i; holds = c }) k, tt)

-- after all turns
after_all : {bs : List CuttingPlane} {fs gs : List Face} → Chain (λ b. Each (AreLeftByCuttingPlane b)) bs fs gs →
    Every (λ g. AllByRecursion (λ b. IsUncut b g) bs) gs
after_all (done {a = fs}) = none_yet fs
  where
    none_yet : (fs : List Face) → Every (λ g. Unit {0}) fs
    none_yet [] = tt
    none_yet (f ∷ fs) = (tt, none_yet fs)
after_all (step {x = b} {a = fs} {c = gs} r c) =
    both (IsUncut b) _ gs (cutting_planes_keep (IsUncut b) (uncut_kept b) c
    (each_every (λ f. Unit {0}) (IsUncut b) (λ f fs e a. after_turn b f fs a) r (any fs))) (after_all c)
  where
    any : (fs : List Face) → Every (λ g. Unit {0}) fs
    any [] = tt
    any (f ∷ fs) = (tt, any fs)

    both : (P Q : Face → Type 0) (gs : List Face) → Every P gs → Every Q gs → Every (λ g. P g × Q g) gs
    both P Q [] h k = tt
    both P Q (g ∷ gs) h k = ((h.0, k.0), both P Q gs h.1 k.1)

-- ---- the cutting planes of one triangle
at_range : (P : CuttingPlane → Type 0) (g : ℕ → List CuttingPlane) (n a d : ℕ) →
    AllByRecursion P (flat_map g (range_with_len a n)) → d < n → AllByRecursion P (g (a + d))
at_range P g zero a d h l = absurd (omega arith)
at_range P g (suc n) a zero h l =
    let e : a ≡ a + zero = omega arith in
    subst (λ (i : ℕ). AllByRecursion P (g i)) e (each-front P (g a) (flat_map g (range_with_len (a + 1) n)) h)
at_range P g (suc n) a (suc d) h l =
    let e : (a + 1) + d ≡ a + suc d = omega arith in
    subst (λ (i : ℕ). AllByRecursion P (g i)) e (at_range P g n (a + 1) d (each-back P (g a) (flat_map g (range_with_len (a + 1) n)) h) (omega arith))

cutting_planes_in : (P : CuttingPlane → Type 0) (ts : List Tri) (i m : ℕ) → AllByRecursion P (cutting_planes ts i) →
    m < length ts → AllByRecursion P (cutting_planes_at ts i m)
cutting_planes_in P ts i m h l =
    let e : 0 + m ≡ m = omega arith in
    subst (λ (j : ℕ). AllByRecursion P (cutting_planes_at ts i j)) e (at_range P (λ j. cutting_planes_at ts i j) (length ts) 0 m h l)

abbrev cutting_plane_of : Tri → CuttingPlane
cutting_plane_of u = record { face = face_of u; plane = support_of u }

-- a triangle that isn't in the plane of triangle i has its own plane for a cutting plane
own_cutting_plane : (P : CuttingPlane → Type 0) (ts : List Tri) (i m : ℕ) → is_flat (tri_at ts i) ≡ false →
    is_flat (tri_at ts m) ≡ false → is_coplanar (tri_at ts i) (tri_at ts m) ≡ false →
    AllByRecursion P (cutting_planes_at ts i m) → P (cutting_plane_of (tri_at ts m))
own_cutting_plane P ts i m fi fm apart h = by (nat_eq m i) (is_flat (tri_at ts m)) (is_coplanar (tri_at ts i) (tri_at ts m)) refl fm apart h
  where
    by : (s f c : Bool) → nat_eq m i ≡ s → f ≡ false → c ≡ false →
        AllByRecursion P (elim s [
          | true ↦ []
          | false ↦ elim f [
            | true ↦ []
            | false ↦ map (λ p. record { face = face_of (tri_at ts m); plane = p })
                (elim c [ true ↦ edges_of (tri_at ts m) | false ↦ support_of (tri_at ts m) ∷ [] ])
          ]
        ]) →
        P (cutting_plane_of (tri_at ts m))
    by true f c e ef ec h =
        let same = eqb-true m i e in
        absurd (clash (self_coplanar (tri_at ts i) fi) (ap (λ (j : ℕ). is_coplanar (tri_at ts i) (tri_at ts j)) (sym same) ∙ apart))
    by false true c e ef ec h = absurd (clash refl ef)
    by false false true e ef ec h = absurd (clash refl ec)
    by false false false e ef ec h = h.0

-- a triangle in the plane of triangle i has its edge planes
own_edges : (P : CuttingPlane → Type 0) (ts : List Tri) (i m : ℕ) → nat_eq m i ≡ false → is_flat (tri_at ts m) ≡ false →
    is_coplanar (tri_at ts i) (tri_at ts m) ≡ true → AllByRecursion P (cutting_planes_at ts i m) →
    AllByRecursion P (map (λ p. record { face = face_of (tri_at ts m); plane = p }) (edges_of (tri_at ts m)))
own_edges P ts i m other fm within h = by (nat_eq m i) (is_flat (tri_at ts m)) (is_coplanar (tri_at ts i) (tri_at ts m)) other fm within h
  where
    by : (s f c : Bool) → s ≡ false → f ≡ false → c ≡ true →
        AllByRecursion P (elim s [
          | true ↦ []
          | false ↦ elim f [
            | true ↦ []
            | false ↦ map (λ p. record { face = face_of (tri_at ts m); plane = p })
                (elim c [ true ↦ edges_of (tri_at ts m) | false ↦ support_of (tri_at ts m) ∷ [] ])
          ]
        ]) →
        AllByRecursion P (map (λ p. record { face = face_of (tri_at ts m); plane = p }) (edges_of (tri_at ts m)))
    by true f c e ef ec h = absurd (clash refl e)
    by false true c e ef ec h = absurd (clash refl ef)
    by false false true e ef ec h = h
    by false false false e ef ec h = absurd (clash ec refl)

-- ---- a region
pub record IsCutOut (ts : List Tri) (t : Tri) (f : Face) : Type 0 where
  pub support : f.support ≡ support_of t
  pub normal : is_flat t ≡ false
  pub misses : (m : ℕ) → m < length ts → is_flat (tri_at ts m) ≡ false → is_coplanar t (tri_at ts m) ≡ false →
      (v : Spot) → is_inside f v ≡ true → is_in_closed (face_of (tri_at ts m)) v ≡ true → ⊥
  pub shares : (m : ℕ) → m < length ts → is_coplanar t (tri_at ts m) ≡ true → (v w : Spot) → is_inside f v ≡ true →
      is_in_closed (face_of (tri_at ts m)) v ≡ true → is_inside f w ≡ true → is_inside (face_of (tri_at ts m)) w ≡ true

-- a region of a triangle is cut out by the other triangles
pub region_cut : (c : Cell) (ts : List Tri) (i j : ℕ) (fs : List Face) (f : Face) → IsRegions c ts i fs → slice_get fs j ≡ Some f → IsCutOut ts (tri_at ts i) f
unfolding face_of
region_cut c ts i j fs f r e = record { support = own.0; normal = own.1; misses = missed; shares = shared }
  where
    t : Tri
    t = tri_at ts i

    P : Face → Type 0
    P g = (g.support ≡ support_of t) × (is_flat t ≡ false)

    begun : (b : Bool) → is_flat t ≡ b → Every P (elim b [ true ↦ [] | false ↦ face_of t ∷ [] ])
    begun true e = tt
    begun false e = ((refl, e), tt)

    own : P f
    own = every_at P fs j f (cutting_planes_keep P (λ f p h. h) r.cuts (walls_keep P (λ f p h. h) r.is_start (begun (is_flat t) refl))) e

    after : AllByRecursion (λ b. IsUncut b f) (cutting_planes ts i)
    after = every_at (λ g. AllByRecursion (λ b. IsUncut b g) (cutting_planes ts i)) fs j f (after_all r.cuts) e

    missed : (m : ℕ) → m < length ts → is_flat (tri_at ts m) ≡ false → is_coplanar t (tri_at ts m) ≡ false →
        (v : Spot) → is_inside f v ≡ true → is_in_closed (face_of (tri_at ts m)) v ≡ true → ⊥
    missed m l fm apart v h x =
        let u = tri_at ts m in let b = own_cutting_plane (λ b. IsUncut b f) ts i m own.1 fm apart (cutting_planes_in (λ b. IsUncut b f) ts i m after l) in
        clash (lies_flat t u f v own.0 own.1 fm h (uncut_flat f (support_of u) (b v h x) v h (closed_parts (face_of u) v x).1)) apart

    shared : (m : ℕ) → m < length ts → is_coplanar t (tri_at ts m) ≡ true → (v w : Spot) → is_inside f v ≡ true →
        is_in_closed (face_of (tri_at ts m)) v ≡ true → is_inside f w ≡ true → is_inside (face_of (tri_at ts m)) w ≡ true
    shared m l within v w h x k = by (nat_eq m i) refl
      where
        by : (s : Bool) → nat_eq m i ≡ s → is_inside (face_of (tri_at ts m)) w ≡ true
        by true o = subst (λ (n : ℕ). is_inside (face_of (tri_at ts n)) w ≡ true) (sym (eqb-true m i o)) (region_inside c ts i j fs f r e w k)
        by false o =
            let b = own_edges (λ b. IsUncut b f) ts i m o (on_plane t (tri_at ts m) within).normal_u within
            (cutting_planes_in (λ b. IsUncut b f) ts i m after l) in
            shared_inside t (tri_at ts m) f v w own.0 within (b.0 v h x) (b.1.0 v h x) (b.1.1.0 v h x) h x k
