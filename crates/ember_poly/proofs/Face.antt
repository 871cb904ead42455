-- A ring and its face: one inside, one closed face, and the same after a cut.
use Rattle.std.proofs.Common.{refl, subst, ℕ, ◌<◌, length, List, [], ◌∷◌, ◌++◌, ◌∙◌, arith, pos, zero, suc, ◌<ℤ◌, ◌≤ℤ◌}
use lib.ListN.{get_or}
use Rattle.std.proofs.lemmas.List.{get_or_append_left, get_or_push, length_push, append-nil}
use Rattle.std.specs.List.{AllByRecursion}
use Rattle.ember_model.specs.declared.plane.Plane.{Plane}
use Rattle.ember_model.specs.declared.point.Spot.{Spot}
use Rattle.ember_model.specs.Planes.{value_at}
use Rattle.ember_poly.specs.Rings.{IsMeet, with_start, closing_side, Side, IsBelow, IsNotAbove, IsInsideRing}
use Rattle.ember_poly.specs.Rings.{IsInClosedRing, IsConvexRing, InFace, InClosedFace, IsInPlanes, Represents}
use Rattle.ember_poly.proofs.Chains.{each_map, each-front, each-push}
use Rattle.ember_poly.proofs.Rotations.{each-join, each-turned, turned_by}
use Rattle.ember_poly.proofs.RingBelow.{below_some, below_all}
use Rattle.ember_poly.proofs.Hull.{closed_turned}
use Rattle.ember_poly.proofs.InsidePoints.{head_closed, corner_closed}
use Rattle.ember_poly.proofs.InsideBelow.{Part, part_of}

-- what holds of all members holds of the one at an index
pub each_at : {X : Type 0} (P : X → Type 0) (xs : List X) (i : ℕ) (d : X) → i < length xs → AllByRecursion P xs → P (get_or xs i d)
each_at P [] i d l h = absurd (omega (arith, l))
each_at P (x ∷ xs) zero d l h = h.0
each_at P (x ∷ xs) (suc i) d l h = each_at P xs i d (omega (arith, l)) h.1

-- ---- one inside, one closed face
-- an inside point of the face is inside the ring
pub inside_from_face : (n : Plane) (gs : List Plane) (xs : List Side) (v : Spot) → Represents n gs xs → InFace n gs v → IsInsideRing n xs v
inside_from_face n gs xs v s f =
    record {
      flat = f.flat;
      weight = f.weight;
      within =
          each_map (λ r. IsInPlanes gs r) (λ r. IsBelow r.plane v) xs
          (λ r l. subst (λ g. IsBelow g v) l.here (each_at (λ g. IsBelow g v) gs r.plane_index r.plane l.index f.within))
          s.listed;
    }

-- an inside point of the ring is inside the face
pub face_from_inside : (n : Plane) (gs : List Plane) (xs : List Side) (v : Spot) → Represents n gs xs → IsInsideRing n xs v → InFace n gs v
face_from_inside n gs xs v s i = record { flat = i.flat; weight = i.weight; within = s.follow v i }

-- a point of the closed face is in the closed ring
pub closed_from_face : (n : Plane) (gs : List Plane) (xs : List Side) (v : Spot) → Represents n gs xs → InClosedFace n gs v → IsInClosedRing n xs v
closed_from_face n gs xs v s f =
    record {
      flat = f.flat;
      weight = f.weight;
      within =
          each_map (λ r. IsInPlanes gs r) (λ r. IsNotAbove r.plane v) xs
          (λ r l. subst (λ g. IsNotAbove g v) l.here
          (each_at (λ g. IsNotAbove g v) gs r.plane_index r.plane l.index f.within)) s.listed;
    }

-- a point of the closed ring is in the closed face
pub face_from_closed : (n : Plane) (gs : List Plane) (xs : List Side) (v : Spot) → Represents n gs xs → IsInClosedRing n xs v → InClosedFace n gs v
face_from_closed n gs xs v s i = record { flat = i.flat; weight = i.weight; within = s.follow_closed v i }

-- ---- turned
-- a ring begun at another side represents the same face
pub stands_turned : (n : Plane) (gs : List Plane) (xs ys : List Side) → Represents n gs (xs ++ ys) → Represents n gs (ys ++ xs)
stands_turned n gs xs ys s =
    record {
      sound = turned_by n xs ys s.sound;
      listed = each-turned (λ r. IsInPlanes gs r) xs ys s.listed;
      follow = λ v i. s.follow v (record { flat = i.flat; weight = i.weight; within = each-turned (λ r. IsBelow r.plane v) ys xs i.within });
      follow_closed = λ v i. s.follow_closed v (closed_turned n v ys xs i);
    }

-- ---- cut
side_is_in_more_planes : (gs : List Plane) (p : Plane) (s : Side) → IsInPlanes gs s → IsInPlanes (gs ++ p ∷ []) s
side_is_in_more_planes gs p s l =
    record { index = rw (length_push gs p) (omega (arith, l.index)); here = get_or_append_left gs (p ∷ []) s.plane s.plane_index l.index ∙ l.here }

closing_side_is_in_planes : (gs : List Plane) (p : Plane) (y : Spot) → IsInPlanes (gs ++ p ∷ []) (closing_side p y (length gs))
closing_side_is_in_planes gs p y =
    record { index = rw (length_push gs p) (omega arith); here = get_or_push gs p p (length gs) refl }

module _ (n p : Plane) (gs : List Plane) (f l : Side) (ks : List Side) (y z : Spot) (my : IsMeet n l.plane p y) (mz : IsMeet n f.plane p z) where
  abbrev part : List Side
  part = with_start f z ∷ (ks ++ l ∷ []) ++ closing_side p y (length gs) ∷ []

  part_stands : (ds : List Side) → Represents n gs (f ∷ (ks ++ l ∷ []) ++ ds) → IsConvexRing n part →
      Part n p (f ∷ (ks ++ l ∷ []) ++ ds) part → Represents n (gs ++ p ∷ []) part
  part_stands ds s h q =
      let old = each_map (λ r. IsInPlanes gs r) (λ r. IsInPlanes (gs ++ p ∷ []) r) (f ∷ (ks ++ l ∷ []) ++ ds)
      (λ r l. side_is_in_more_planes gs p r l) s.listed in
      record {
        sound = h;
        listed = (
          record { index = old.0.index; here = old.0.here },
          each-join (λ r. IsInPlanes (gs ++ p ∷ []) r) (ks ++ l ∷ []) (closing_side p y (length gs) ∷ [])
              (each-front (λ r. IsInPlanes (gs ++ p ∷ []) r) (ks ++ l ∷ []) ds old.1) (
                closing_side_is_in_planes gs p y,
                tt,
              ),
        );
        follow = λ v i. let o = q.out v i in each-push (λ g. IsBelow g v) gs p (s.follow v o.0) o.1;
        follow_closed = λ v i. let o = q.out_closed v i in each-push (λ g. IsNotAbove g v) gs p (s.follow_closed v o.0) o.1;
      }

  -- some sides are dropped
  pub cut_some : (d : Side) (ds : List Side) → Represents n gs (f ∷ (ks ++ l ∷ []) ++ d ∷ ds) →
      pos 0 ≤ℤ value_at p f.corner → pos 0 ≤ℤ value_at p d.corner →
      AllByRecursion (λ r. IsBelow p r.corner) (ks ++ l ∷ []) → Represents n (gs ++ p ∷ []) part
  cut_some d ds s pf pd q =
      let o = below_some n p f l d ds y z (length gs) pf pd my mz ks s.sound q in
      part_stands (d ∷ ds) s o.sound (part_of n p f l ks (d ∷ ds) y z (length gs) d.corner s.sound (corner_closed n (f ∷ (ks ++ l ∷ [])) d ds s.sound) o)

  -- all others are kept
  pub cut_all : Represents n gs (f ∷ (ks ++ l ∷ []) ++ []) → pos 0 <ℤ value_at p f.corner →
      AllByRecursion (λ r. IsBelow p r.corner) (ks ++ l ∷ []) → Represents n (gs ++ p ∷ []) part
  cut_all s pf q =
      let o = below_all n p f l y z (length gs) pf my mz ks (rw (← append-nil (ks ++ l ∷ [])) s.sound) q in
      part_stands [] s o.sound (part_of n p f l ks [] y z (length gs) f.corner s.sound (head_closed n f ((ks ++ l ∷ []) ++ []) s.sound) o)
