-- On which sides of a plane the inside points lie, from the signs at the corners.
use Rattle.std.proofs.Common.{◌≡◌, true, ℕ, length, List, [], ◌∷◌, arith, ℤ, pos, ◌+ℤ◌, ◌*ℤ◌, neg_ℤ, ◌<ℤ◌, ◌≤ℤ◌}
use Rattle.std.specs.List.{AllByRecursion}
use Rattle.ember_algebra.specs.Sign.{is_negative, is_zero, is_positive}
use Rattle.ember_algebra.specs.Large.{Eventually}
use Rattle.ember_algebra.proofs.Large.{eventually_pos}
use Rattle.ember_algebra.proofs.Laws.{linear}
use Rattle.ember_algebra.proofs.Ring.{◌⊕◌, ◌⊗◌, neg, num, ◌≈◌, solve, cancels}
use Rattle.ember_model.specs.declared.plane.Plane.{Plane}
use Rattle.ember_model.specs.declared.point.Spot.{Spot}
use Rattle.ember_model.specs.declared.face.Face.{Face}
use Rattle.ember_model.specs.Planes.{value_at, opposite}
use Rattle.ember_model.specs.Faces.{is_inside, Cuts}
use Rattle.ember_model.proofs.SignTests.{negative_in, negative_out, positive_in, positive_out, zero_in}
use Rattle.ember_model.proofs.PlaneValues.{value-opposite}
use Rattle.ember_poly.specs.declared.reach_and_cut.Reach.{Reach}
use Rattle.ember_poly.specs.declared.reach_and_cut.Reach.TheVariants.{Below, Above, On, Both}
use Rattle.ember_poly.specs.Rings.{Side, IsBelow, IsAbove, IsOnPlane, IsNotAbove, IsNotBelow, IsInsideRing, IsInClosedRing, IsConvexRing, Represents}
use Rattle.ember_poly.specs.Sides.{sides_of}
use Rattle.ember_poly.specs.Chords.{combination}
use Rattle.ember_poly.specs.Passages.{HasMember, AreSigns}
use Rattle.ember_poly.specs.Cuts.{IsWhole, IsReach}
use Rattle.ember_poly.proofs.Chains.{each_map}
use Rattle.ember_poly.proofs.Members.{has_map, has_pick}
use Rattle.ember_poly.proofs.RingBelow.{Rooted}
use Rattle.ember_poly.proofs.Hull.{ring-rooted, corners_at_most}
use Rattle.ember_poly.proofs.InsideSigns.{combination_value, corners_under}
use Rattle.ember_poly.proofs.InsidePoints.{below_is_not_above, inside_sum, corner_sum_is_inside}
use Rattle.ember_poly.proofs.InsideBelow.{ring-closed}
use Rattle.ember_poly.proofs.Face.{inside_from_face, face_from_inside}
use Rattle.ember_poly.proofs.FaceTests.{inside_in, inside_out}
use Rattle.ember_poly.proofs.SideLists.{each_corner, has_corner}

-- ---- the opposite plane
-- a point above a plane is below the opposite one
pub over_opposite : (p : Plane) (v : Spot) → IsAbove p v → IsBelow (opposite p) v
over_opposite p v o = record { under = rw (value-opposite p v) (flip o.over) }
  where
    flip : {a : ℤ} → pos 0 <ℤ a → neg_ℤ a <ℤ pos 0
    flip q = omega (arith, linear, q)

-- what is below a plane is above the opposite one
pub under_opposite : (p : Plane) (v : Spot) → IsBelow p v → IsAbove (opposite p) v
under_opposite p v o = record { over = rw (value-opposite p v) (flip o.under) }
  where
    flip : {a : ℤ} → a <ℤ pos 0 → pos 0 <ℤ neg_ℤ a
    flip q = omega (arith, linear, q)

-- what is below the opposite plane is above the plane
pub over_from_opposite : (p : Plane) (v : Spot) → IsBelow (opposite p) v → IsAbove p v
over_from_opposite p v u =
    let h : neg_ℤ (value_at p v) <ℤ pos 0 = rw (← value-opposite p v) u.under in record { over = flip h }
  where
    flip : {a : ℤ} → neg_ℤ a <ℤ pos 0 → pos 0 <ℤ a
    flip q = omega (arith, linear, q)

-- what isn't below a plane isn't above the opposite one
pub most_opposite : (p : Plane) (v : Spot) → IsNotBelow p v → IsNotAbove (opposite p) v
most_opposite p v o = record { at_most = rw (value-opposite p v) (flip o.at_least) }
  where
    flip : {a : ℤ} → pos 0 ≤ℤ a → neg_ℤ a ≤ℤ pos 0
    flip q = omega (arith, linear, q)

-- what isn't above the opposite plane isn't below the plane
pub least_from_opposite : (p : Plane) (v : Spot) → IsNotAbove (opposite p) v → IsNotBelow p v
least_from_opposite p v u =
    let h : neg_ℤ (value_at p v) ≤ℤ pos 0 = rw (← value-opposite p v) u.at_most in
    record { at_least = flip h }
  where
    flip : {a : ℤ} → neg_ℤ a ≤ℤ pos 0 → pos 0 ≤ℤ a
    flip q = omega (arith, linear, q)

-- ---- no corner is above, and one is below
-- if no corner is above a plane and some corner is below, each inside point is below
pub all_below : (n p : Plane) (x : Spot) (xs : List Side) → IsConvexRing n xs →
    AllByRecursion (λ r. IsNotAbove p r.corner) xs → HasMember (λ r. IsBelow p r.corner) xs → IsInsideRing n xs x →
    IsBelow p x
all_below n p x xs h a u k =
    let f = has_pick (λ r. IsBelow p r.corner) (λ r. Rooted n r) xs u (ring-rooted n xs h) in
    corners_under n p x f.member.corner xs h a f.also.flat f.holds k

has_opposite : (p : Plane) (xs : List Side) → HasMember (λ r. IsAbove p r.corner) xs → HasMember (λ r. IsBelow (opposite p) r.corner) xs
has_opposite p xs u =
    has_map (λ r. IsAbove p r.corner) (λ r. IsBelow (opposite p) r.corner) xs (λ r o. over_opposite p r.corner o) u

-- if no corner is below a plane and one is above, the inside is above
pub all_above : (n p : Plane) (x : Spot) (xs : List Side) → IsConvexRing n xs →
    AllByRecursion (λ r. IsNotBelow p r.corner) xs → HasMember (λ r. IsAbove p r.corner) xs → IsInsideRing n xs x →
    IsAbove p x
all_above n p x xs h a u k =
    over_from_opposite p x (all_below n (opposite p) x xs h
    (each_map (λ r. IsNotBelow p r.corner) (λ r. IsNotAbove (opposite p) r.corner) xs
    (λ r q. most_opposite p r.corner q) a) (has_opposite p xs u) k)

-- if all corners are on a plane, each closed point is
pub all_on : (n p : Plane) (x : Spot) (xs : List Side) → IsConvexRing n xs →
    AllByRecursion (λ r. IsOnPlane p r.corner) xs → IsInClosedRing n xs x → IsOnPlane p x
all_on n p x xs h a k =
    let u = corners_at_most n p x xs h (each_map (λ r. IsOnPlane p r.corner) (λ r. IsNotAbove p r.corner) xs
    (λ r o. record { at_most = most o.on_plane }) a) k in
    let v = corners_at_most n (opposite p) x xs h
    (each_map (λ r. IsOnPlane p r.corner) (λ r. IsNotAbove (opposite p) r.corner) xs
    (λ r o. most_opposite p r.corner (record { at_least = least o.on_plane })) a) k in
    record { on_plane = squeeze u.at_most (least_from_opposite p x v).at_least }
  where
    most : {a : ℤ} → a ≡ pos 0 → a ≤ℤ pos 0
    most q = omega (arith, linear, q)

    least : {a : ℤ} → a ≡ pos 0 → pos 0 ≤ℤ a
    least q = omega (arith, linear, q)

    squeeze : {a : ℤ} → a ≤ℤ pos 0 → pos 0 ≤ℤ a → a ≡ pos 0
    squeeze p q = omega (arith, linear, p, q)

-- ---- an inside point near a closed one
pub record Within (n : Plane) (xs : List Side) (P : Spot → Type 0) : Type 0 where
  pub point : Spot
  pub inside : IsInsideRing n xs point
  pub holds : P point

-- a ring has an inside point
pub some_inside : (n : Plane) (xs : List Side) → IsConvexRing n xs → Within n xs (λ x. Unit {0})
some_inside n [] h = absurd h
some_inside n (s ∷ []) h = absurd h
some_inside n (s ∷ t ∷ []) h = absurd h.0
some_inside n (s ∷ t ∷ u ∷ xs) h =
    let one : pos 0 <ℤ pos 1 = omega (arith, linear) in
    record {
      point = combination (pos 1) (pos 1) s.corner (combination (pos 1) (pos 1) t.corner u.corner);
      inside =
          corner_sum_is_inside (pos 1) (pos 1) (pos 1) n s t u xs one one one h;
      holds = tt;
    }

near_below : (n p : Plane) (c : Spot) (xs : List Side) → IsConvexRing n xs → IsInClosedRing n xs c → IsBelow p c → Within n xs (λ x. IsBelow p x)
near_below n p c xs h k u =
    let q = some_inside n xs h in
    let e : Eventually (λ m. pos 0 <ℤ (neg_ℤ (value_at p c) *ℤ pos m +ℤ neg_ℤ (value_at p q.point))) =
    eventually_pos (neg_ℤ (value_at p q.point)) (flip u.under) in
    let m = e.from in let one : pos 0 <ℤ pos 1 = omega (arith, linear) in
    record {
      point = combination (pos m) (pos 1) c q.point;
      inside = inside_sum (pos m) (pos 1) n xs c q.point (nonneg m) one k q.inside;
      holds = record {
        under = rw (combination_value (pos m) (pos 1) c q.point p)
            (last (value_at p c) (pos m) (value_at p q.point) (e.holds m (omega arith)));
      };
    }
  where
    flip : {a : ℤ} → a <ℤ pos 0 → pos 0 <ℤ neg_ℤ a
    flip q = omega (arith, linear, q)

    nonneg : (m : ℕ) → pos 0 ≤ℤ pos m
    nonneg m = omega (arith, linear)

    last : (a m b : ℤ) → pos 0 <ℤ (neg_ℤ a *ℤ m +ℤ neg_ℤ b) → (m *ℤ a +ℤ pos 1 *ℤ b) <ℤ pos 0
    last a m b p =
        omega (arith, linear, p, solve 3 (λ a m b. neg a ⊗ m ⊕ neg b ≈ neg (m ⊗ a ⊕ num (pos 1) ⊗ b)) cancels a m b)

some_below : (n p : Plane) (xs : List Side) → IsConvexRing n xs → HasMember (λ r. IsBelow p r.corner) xs → Within n xs (λ x. IsBelow p x)
some_below n p xs h u =
    let f = has_pick (λ r. IsBelow p r.corner) (λ r. IsInClosedRing n xs r.corner) xs u (ring-closed n xs h) in
    near_below n p f.member.corner xs h f.also f.holds

some_above : (n p : Plane) (xs : List Side) → IsConvexRing n xs → HasMember (λ r. IsAbove p r.corner) xs → Within n xs (λ x. IsAbove p x)
some_above n p xs h u =
    let s = some_below n (opposite p) xs h (has_opposite p xs u) in
    record { point = s.point; inside = s.inside; holds = over_from_opposite p s.point s.holds }

-- ---- the answers
-- an inside point is a closed point
pub closed_from_inside : (n : Plane) (xs : List Side) (x : Spot) → IsInsideRing n xs x → IsInClosedRing n xs x
closed_from_inside n xs x i =
    record {
      flat = i.flat;
      weight = i.weight;
      within =
          each_map (λ r. IsBelow r.plane x) (λ r. IsNotAbove r.plane x) xs (λ r u. below_is_not_above u) i.within;
    }

module _ (n p : Plane) (gs : List Plane) (xs : List Side) (s : Represents n gs xs) where
  abbrev face : Face
  face = record { support = n; edges = gs }

  pub seen_inside : (v : Spot) → IsInsideRing n xs v → is_inside face v ≡ true
  seen_inside v i = inside_in face v (face_from_inside n gs xs v s i)

  pub inside_seen : (v : Spot) → is_inside face v ≡ true → IsInsideRing n xs v
  inside_seen v e = inside_from_face n gs xs v s (inside_out face v e)

  whole : (P : Spot → Type 0) → ((v : Spot) → IsInsideRing n xs v → P v) → IsWhole face P
  whole P h =
      let q = some_inside n xs s.sound in
      record {
        somewhere = record { at = q.point; inside = seen_inside q.point q.inside; holds = h q.point q.inside };
        everywhere = record { holds = λ v e. h v (inside_seen v e) };
      }

  corners_on_both_sides_are_cut : HasMember (λ r. IsBelow p r.corner) xs → HasMember (λ r. IsAbove p r.corner) xs → Cuts face p
  corners_on_both_sides_are_cut a b =
      let u = some_below n p xs s.sound a in let o = some_above n p xs s.sound b in
      record {
        some_below = record {
          at = u.point;
          inside = seen_inside u.point u.inside;
          holds =
              negative_in u.holds.under;
        };
        some_above =
            record { at = o.point; inside = seen_inside o.point o.inside; holds = positive_in o.holds.over };
      }

-- a plane that corners_on_both_sides_are_cut a face does so with the opposite front
pub cuts_opposite : (f : Face) (p : Plane) → Cuts f p → Cuts f (opposite p)
cuts_opposite f p c =
    record {
      some_below = record {
        at = c.some_above.at;
        inside = c.some_above.inside;
        holds =
            negative_in (over_opposite p c.some_above.at
            (record { over = positive_out (value_at p c.some_above.at) c.some_above.holds })).under;
      };
      some_above =
          record {
            at = c.some_below.at;
            inside = c.some_below.inside;
            holds =
                positive_in (under_opposite p c.some_below.at
                (record { under = negative_out (value_at p c.some_below.at) c.some_below.holds })).over;
          };
    }

module _ {M : Type 0} (spot : M → Spot) where
  -- the signs of the corners give the reach of the face
  pub reach_is : (n p : Plane) (gs es : List Plane) (ms : List M) (bs : List ℕ) (r : Reach) → length ms ≡ length es →
      length bs ≡ length es → Represents n gs (sides_of spot es ms bs) → AreSigns spot p ms r →
      IsReach (record { support = n; edges = gs }) p r
  reach_is n p gs es ms bs Below em eb s q =
      let xs = sides_of spot es ms bs in
      whole n p gs xs s (λ v. is_negative (value_at p v) ≡ true)
      (λ v i. negative_in (all_below n p v xs s.sound (each_corner spot (λ v. IsNotAbove p v) es ms bs q.0)
      (has_corner spot (λ v. IsBelow p v) es ms bs em eb q.1) i).under)
  reach_is n p gs es ms bs Above em eb s q =
      let xs = sides_of spot es ms bs in
      whole n p gs xs s (λ v. is_positive (value_at p v) ≡ true)
      (λ v i. positive_in (all_above n p v xs s.sound (each_corner spot (λ v. IsNotBelow p v) es ms bs q.0)
      (has_corner spot (λ v. IsAbove p v) es ms bs em eb q.1) i).over)
  reach_is n p gs es ms bs On em eb s q =
      let xs = sides_of spot es ms bs in
      whole n p gs xs s (λ v. is_zero (value_at p v) ≡ true)
      (λ v i. zero_in (all_on n p v xs s.sound (each_corner spot (λ v. IsOnPlane p v) es ms bs q)
      (closed_from_inside n xs v i)).on_plane)
  reach_is n p gs es ms bs Both em eb s q =
      corners_on_both_sides_are_cut n p gs (sides_of spot es ms bs) s (has_corner spot (λ v. IsBelow p v) es ms bs em eb q.0)
      (has_corner spot (λ v. IsAbove p v) es ms bs em eb q.1)
