-- The regions of a triangle in a box lie in the closed box.
use Rattle.std.proofs.Common.{◌≡◌, refl, subst, arith, ℕ, zero, suc, Bool, true, false, not, ◌&&◌, List, [], ◌∷◌, map, None, Some, slice_get, pos, ◌<ℤ◌}
use Rattle.ember_algebra.specs.Relations.{Each, Chain, none, more, done, step, Every}
use Rattle.ember_algebra.specs.Sign.{is_positive}
use Rattle.ember_algebra.proofs.Relations.{every_append, every_map}
use Rattle.ember_algebra.proofs.Laws.{linear}
use Rattle.ember_algebra.proofs.Order.{by_sign}
use Rattle.ember_model.specs.declared.plane.Plane.{Plane}
use Rattle.ember_model.specs.declared.point.Spot.{Spot}
use Rattle.ember_model.specs.declared.face.Face.{Face}
use Rattle.ember_model.specs.declared.tri.Tri.{Tri}
use Rattle.ember_model.specs.Planes.{value_at, opposite}
use Rattle.ember_model.specs.Faces.{is_inside, is_flat, face_of, Everywhere, Cuts}
use Rattle.ember_model.specs.ClearTest.{none_positive}
use Rattle.ember_model.proofs.SignTests.{negative_out, negative_in, positive_in, not_positive_in}
use Rattle.ember_box.specs.Boxes.{Cell}
use Rattle.ember_box.specs.Near.{tri_at}
use Rattle.ember_box.specs.Regions.{Wall, walls, AreLeftByWall, cut, outside, in_high, stays, CuttingPlane, AreLeftByCuttingPlane, splits, whole, IsRegions}
use Rattle.ember_trace.specs.Boxed.{LiesIn}
use Rattle.ember_trace.proofs.FilledFaces.{inside_below, plane_at_inside_point_cuts}

-- what holds of what each member gives, if the member has a property
pub each_every : {X Y : Type 0} {R : X → List Y → Type 0} (P : X → Type 0) (Q : Y → Type 0) →
    ((x : X) (ys : List Y) → P x → R x ys → Every Q ys) → {xs : List X} {ys : List Y} → Each R xs ys → Every P xs →
    Every Q ys
each_every P Q f none h = tt
each_every P Q f (more {x = x} {xs = xs} {ys = ys} {zs = zs} r e) h = every_append Q ys zs (f x ys h.0 r) (each_every P Q f e h.1)

-- ---- walls
abbrev NotPast : Wall → Spot → Type 0
NotPast w v = not (is_positive (value_at w.plane v)) ≡ true

-- what isn't cut and doesn't lie above a plane isn't past it anywhere
not_past : (f : Face) (p : Plane) → (Cuts f p → ⊥) → (Everywhere f (λ v. is_positive (value_at p v) ≡ true) → ⊥) →
    (v : Spot) → is_inside f v ≡ true → not (is_positive (value_at p v)) ≡ true
not_past f p uncut aside v i =
    by_sign (value_at p v) (λ l. absurd (aside (record { holds = λ u j. all u j l })))
    (λ z. not_positive_in (value_at p v) (omega (arith, linear, z)))
    (λ l. not_positive_in (value_at p v) (omega (arith, linear, l)))
  where
    all : (u : Spot) → is_inside f u ≡ true → pos 0 <ℤ value_at p v → is_positive (value_at p u) ≡ true
    all u j l =
        by_sign (value_at p u) (λ m. positive_in m) (λ z. absurd (uncut (plane_at_inside_point_cuts f p v u i j l z)))
        (λ m. absurd (uncut (record {
          some_below = record { at = u; inside = j; holds = negative_in m };
          some_above =
              record { at = v; inside = i; holds = positive_in l };
        })))

at_wall : (w : Wall) (Q : Spot → Type 0) (f : Face) (fs : List Face) → Everywhere f Q → AreLeftByWall w f fs →
    Every (λ g. Everywhere g (λ v. Q v × NotPast w v)) fs
at_wall w Q f fs h (cut c) = (
  record {
    holds = λ v i. let j = inside_below f w.plane v i in let n = negative_out (value_at w.plane v) j.1 in
        (h.holds v j.0, not_positive_in (value_at w.plane v) (omega (arith, linear, n)));
  },
  tt,
)
at_wall w Q f fs h (outside a) = tt
at_wall w Q f fs h (in_high b o) = tt
at_wall w Q f fs h (stays c a o) = (record { holds = λ v i. (h.holds v i, not_past f w.plane c a v i) }, tt)

abbrev PastNone : List Wall → Spot → Type 0
PastNone ws v = none_positive (map (λ w. w.plane) ws) v ≡ true

at_walls : {ws : List Wall} {fs gs : List Face} (Q : Spot → Type 0) → Chain (λ w. Each (AreLeftByWall w)) ws fs gs →
    Every (λ f. Everywhere f Q) fs → Every (λ g. Everywhere g (λ v. Q v × PastNone ws v)) gs
at_walls Q (done {a = fs}) h =
    every_map (λ f. Everywhere f Q) (λ f. Everywhere f (λ v. Q v × PastNone [] v)) (λ f e. record { holds = λ v i. (e.holds v i, refl) }) fs h
at_walls Q (step {x = w} {xs = ws} {c = gs} r c) h =
    every_map (λ g. Everywhere g (λ v. (Q v × NotPast w v) × PastNone ws v))
    (λ g. Everywhere g (λ v. Q v × PastNone (w ∷ ws) v))
    (λ g e. record { holds = λ v i. let a = e.holds v i in (a.0.0, both a.0.1 a.1) }) gs
    (at_walls (λ v. Q v × NotPast w v) c (each_every (λ f. Everywhere f Q)
    (λ g. Everywhere g (λ v. Q v × NotPast w v)) (λ f fs e a. at_wall w Q f fs e a) r h))
  where
    both : {a b : Bool} → a ≡ true → b ≡ true → a && b ≡ true
    both x y = λ i. x i && y i

-- ---- cutting planes
at_cutting_plane : (b : CuttingPlane) (Q : Spot → Type 0) (f : Face) (fs : List Face) → Everywhere f Q →
    AreLeftByCuttingPlane b f fs → Every (λ g. Everywhere g Q) fs
at_cutting_plane b Q f fs h (splits m c) =
    (record { holds = λ v i. h.holds v (inside_below f b.plane v i).0 }, (record { holds = λ v i. h.holds v (inside_below f (opposite b.plane) v i).0 }, tt))
at_cutting_plane b Q f fs h (whole m) = (h, tt)

at_cutting_planes : {bs : List CuttingPlane} {fs gs : List Face} (Q : Spot → Type 0) →
    Chain (λ b. Each (AreLeftByCuttingPlane b)) bs fs gs → Every (λ f. Everywhere f Q) fs → Every (λ g. Everywhere g Q) gs
at_cutting_planes Q done h = h
at_cutting_planes Q (step {x = b} r c) h =
    at_cutting_planes Q c (each_every (λ f. Everywhere f Q) (λ g. Everywhere g Q) (λ f fs e a. at_cutting_plane b Q f fs e a) r h)

-- ---- regions
pub every_at : {X : Type 0} (P : X → Type 0) (xs : List X) (i : ℕ) (x : X) → Every P xs → slice_get xs i ≡ Some x → P x
every_at P [] i x h e = absurd (by e)
  where
    by : None ≡ Some x → ⊥
    by e = cc
every_at P (y ∷ ys) zero x h e = subst P (by e) h.0
  where
    by : Some y ≡ Some x → y ≡ x
    by e = cc
every_at P (y ∷ ys) (suc i) x h e = every_at P ys i x h.1 e

-- an inside point of a region is inside the face of its triangle, and past no wall
region_point : (c : Cell) (ts : List Tri) (i j : ℕ) (fs : List Face) (f : Face) → IsRegions c ts i fs →
    slice_get fs j ≡ Some f → (v : Spot) → is_inside f v ≡ true →
    (is_inside (face_of (tri_at ts i)) v ≡ true) × PastNone (walls c) v
region_point c ts i j fs f r e v h = (every_at (λ g. Everywhere g (λ v. Q v × PastNone (walls c) v)) fs j f all e).holds v h
  where
    Q : Spot → Type 0
    Q v = is_inside (face_of (tri_at ts i)) v ≡ true

    begun : (b : Bool) → Every (λ f. Everywhere f Q) (elim b [ true ↦ [] | false ↦ face_of (tri_at ts i) ∷ [] ])
    begun true = tt
    begun false = (record { holds = λ v h. h }, tt)

    all : Every (λ g. Everywhere g (λ v. Q v × PastNone (walls c) v)) fs
    all = at_cutting_planes (λ v. Q v × PastNone (walls c) v) r.cuts (at_walls Q r.is_start (begun (is_flat (tri_at ts i))))

-- the inside of a region lies in that of its triangle
pub region_inside : (c : Cell) (ts : List Tri) (i j : ℕ) (fs : List Face) (f : Face) → IsRegions c ts i fs →
    slice_get fs j ≡ Some f → (v : Spot) → is_inside f v ≡ true → is_inside (face_of (tri_at ts i)) v ≡ true
region_inside c ts i j fs f r e v h = (region_point c ts i j fs f r e v h).0

-- the regions of a box lie in it
pub regions_lie_in : (c : Cell) (ts : List Tri) (i j : ℕ) (fs : List Face) (f : Face) → IsRegions c ts i fs → slice_get fs j ≡ Some f → LiesIn c f
regions_lie_in c ts i j fs f r e = record { holds = λ v h. (region_point c ts i j fs f r e v h).1 }
