-- The part of a ring below a plane: its sides, and what it keeps.
use Rattle.std.proofs.Common.{◌≡◌, ◌⊎◌, ⊎_elim, inl, inr, refl, sym, ap, subst, ◌∙◌, arith, ℕ, ◌<◌, ◌≤◌, ◌+◌, Some}
use Rattle.std.proofs.Common.{List, [], ◌∷◌, ◌++◌, length, take, drop, slice_get, All, ℤ, pos, ◌*ℤ◌}
use lib.ListN.{get_or}
use Rattle.std.proofs.lemmas.List.{take-append-drop, append-nil, length_push, get_or_append_left}
use Rattle.std.proofs.lemmas.Bool.{cases_lt}
use Rattle.std.proofs.lemmas.List.Elements.{All-push}
use Rattle.std.proofs.lemmas.Option.{slice_get_within, get_or_from_slice_get, slice_get-get_or}
use Rattle.std.specs.List.{AllByRecursion}
use Rattle.ember_algebra.proofs.Ring.{◌⊕◌, ◌⊖◌, ◌⊗◌, ◌≈◌, num, solve, cancels}
use Rattle.ember_model.specs.declared.plane.Plane.{Plane}
use Rattle.ember_model.specs.declared.point.Spot.{Spot}
use Rattle.ember_model.specs.Planes.{value_at}
use Rattle.ember_model.specs.Edges.{SamePoint}
use Rattle.ember_poly.specs.declared.passage.Passage.{Passage}
use Rattle.ember_poly.specs.Rings.{with_start, closing_side, Side, IsBelow, IsNotAbove, IsNotBelow, IsBelowAllButOne}
use Rattle.ember_poly.specs.Rings.{IsMeet, IsConvexRing, IsInClosedRing, IsInPlanes, Represents}
use Rattle.ember_poly.specs.Sides.{sides_of, HasPlaneIndex, IsZeroAtOnePoint, EachHasSideOrNoEdge, IsRing}
use Rattle.ember_poly.specs.Boundaries.{rotated, part_sides, with_first_start, LeastFirst}
use Rattle.ember_poly.specs.Passages.{HasMember, Leaves, IsPassage}
use Rattle.ember_poly.proofs.Chains.{each_map, each_both, each-back}
use Rattle.ember_poly.proofs.RingBelow.{below_some, below_all}
use Rattle.ember_poly.proofs.Hull.{closed_turned}
use Rattle.ember_poly.proofs.InsidePoints.{head_closed, corner_closed}
use Rattle.ember_poly.proofs.InsideBelow.{part_of, each_swap, ring-closed}
use Rattle.ember_poly.proofs.Face.{stands_turned, cut_some, cut_all}
use Rattle.ember_poly.proofs.OnePoint.{one_place}
use Rattle.ember_poly.proofs.DroppedEdges.{dropped_lone}
use Rattle.ember_poly.proofs.Members.{has-front, has-back, has-split, has-turned, born_has, has_born, Found, has_pick}
use Rattle.ember_poly.proofs.SideLists.{oldest_first}
use Rattle.ember_poly.proofs.PassageFound.{plane_has_corners_above}

-- ---- the sides of the part
take_front : {X : Type 0} (xs ys : List X) (k : ℕ) → k ≡ length xs → take k (xs ++ ys) ≡ xs
take_front xs ys k e = ap (λ j. take j (xs ++ ys)) e ∙ by xs ys
  where
    by : {X : Type 0} (xs ys : List X) → take (length xs) (xs ++ ys) ≡ xs
    by [] ys = refl
    by (x ∷ xs) ys = ap (λ zs. x ∷ zs) (by xs ys)

module _ {W M : Type 0} (spot : M → Spot) where
  -- the kept sides
  kept_sides : (n p : Plane) (xs : List Side) (at : Passage W M) (q : IsPassage spot n p xs at) →
      take (at.below_count + 1) (rotated at.entry_edge xs) ≡ q.head ∷ (q.firsts ++ q.last ∷ [])
  kept_sides n p xs at q =
      ap (λ zs. take (at.below_count + 1) zs) q.turned
      ∙ take_front (q.head ∷ (q.firsts ++ q.last ∷ [])) q.others (at.below_count + 1)
      (omega (arith, q.count, length_push q.firsts q.last))

  part_is : (n p : Plane) (xs : List Side) (at : Passage W M) (q : IsPassage spot n p xs at) (b : ℕ) →
      part_sides spot xs at p b ≡ with_start q.head (spot at.entry) ∷ (q.firsts ++ q.last ∷ [])
      ++ closing_side p (spot at.exit) b ∷ []
  part_is n p xs at q b =
      ap (λ zs. with_first_start (spot at.entry) zs ++ closing_side p (spot at.exit) b ∷ []) (kept_sides n p xs at q)

-- ---- one place
same_from : (u v : Spot) → ((e : Plane) → u.w *ℤ value_at e v ≡ v.w *ℤ value_at e u) → SamePoint u v
same_from u v h =
    record {
      x = first v.w u.x u.y u.z u.w ∙ sym (h (record { a = pos 1; b = pos 0; c = pos 0; d = pos 0 })) ∙ sym (first u.w v.x v.y v.z v.w);
      y = second v.w u.x u.y u.z u.w ∙ sym (h (record { a = pos 0; b = pos 1; c = pos 0; d = pos 0 })) ∙ sym (second u.w v.x v.y v.z v.w);
      z = third v.w u.x u.y u.z u.w ∙ sym (h (record { a = pos 0; b = pos 0; c = pos 1; d = pos 0 })) ∙ sym (third u.w v.x v.y v.z v.w);
    }
  where
    first : (k x y z w : ℤ) → k *ℤ x ≡ k *ℤ value_at (record { a = pos 1; b = pos 0; c = pos 0; d = pos 0 }) (record { x = x; y = y; z = z; w = w })
    first = solve 5 (λ k x y z w. k ⊗ x ≈ k ⊗ (num (pos 1) ⊗ x ⊕ num (pos 0) ⊗ y ⊕ num (pos 0) ⊗ z ⊖ num (pos 0) ⊗ w)) cancels

    second : (k x y z w : ℤ) → k *ℤ y ≡ k *ℤ value_at (record { a = pos 0; b = pos 1; c = pos 0; d = pos 0 }) (record { x = x; y = y; z = z; w = w })
    second = solve 5 (λ k x y z w. k ⊗ y ≈ k ⊗ (num (pos 0) ⊗ x ⊕ num (pos 1) ⊗ y ⊕ num (pos 0) ⊗ z ⊖ num (pos 0) ⊗ w)) cancels

    third : (k x y z w : ℤ) → k *ℤ z ≡ k *ℤ value_at (record { a = pos 0; b = pos 0; c = pos 1; d = pos 0 }) (record { x = x; y = y; z = z; w = w })
    third = solve 5 (λ k x y z w. k ⊗ z ≈ k ⊗ (num (pos 0) ⊗ x ⊕ num (pos 0) ⊗ y ⊕ num (pos 1) ⊗ z ⊖ num (pos 0) ⊗ w)) cancels

-- ---- what is counted, after a turn
counted_turned : (n : Plane) (gs : List Plane) (xs ys : List Side) → EachHasSideOrNoEdge n gs (xs ++ ys) → EachHasSideOrNoEdge n gs (ys ++ xs)
counted_turned n gs xs ys c =
    λ i h e. ⊎_elim (λ b. inl (has_born i (ys ++ xs)
    (has-turned (λ s. s.plane_index ≡ i) xs ys (born_has i (xs ++ ys) b))))
    (λ s. inr (λ u v ku kv. s u v (closed_turned n u ys xs ku) (closed_turned n v ys xs kv))) (c i h e)

-- ---- the sides that are dropped
module _ (n p : Plane) (gs : List Plane) (f l : Side) (ks : List Side) (y z : Spot) (mz : IsMeet n f.plane p z)
    (my : IsMeet n l.plane p y) (under : AllByRecursion (λ s. IsBelow p s.corner) (ks ++ l ∷ []))
    (enters : IsNotBelow p f.corner) where
  abbrev part : List Side
  part = with_start f z ∷ (ks ++ l ∷ []) ++ closing_side p y (length gs) ∷ []

  record Gone (d : Side) : Type 0 where
    pub listed : IsInPlanes gs d
    pub lone : IsBelowAllButOne d.plane part
    pub at_most : AllByRecursion (λ s. IsNotAbove d.plane s.corner) part

  record Division (ds : List Side) : Type 0 where
    pub represents : Represents n (gs ++ p ∷ []) part
    pub out : (v : Spot) → IsInClosedRing n part v → IsInClosedRing n (f ∷ (ks ++ l ∷ []) ++ ds) v
    pub gone : AllByRecursion (λ d. Gone d) ds

  divide : (ds : List Side) → Represents n gs (f ∷ (ks ++ l ∷ []) ++ ds) → Leaves p f ds → Division ds
  divide [] s q =
      let o = below_all n p f l y z (length gs) q.over my mz ks (subst (λ zs. IsConvexRing n (f ∷ zs)) (append-nil (ks ++ l ∷ [])) s.sound) under in
      let r = part_of n p f l ks [] y z (length gs) f.corner s.sound (head_closed n f ((ks ++ l ∷ []) ++ []) s.sound) o in
      record { represents = cut_all n p gs f l ks y z my mz s q.over under; out = λ v k. (r.out_closed v k).0; gone = tt }
  divide (d ∷ ds) s q =
      let o = below_some n p f l d ds y z (length gs) enters.at_least q.0.at_least my mz ks s.sound under in
      let r = part_of n p f l ks (d ∷ ds) y z (length gs) d.corner s.sound (corner_closed n (f ∷ (ks ++ l ∷ [])) d ds s.sound) o in
      let lone = dropped_lone n p f l d ks ds y z (length gs) s.sound o.exit o.entry (plane_has_corners_above p f d ds q) in
      let most = each_swap (λ (s t : Side). IsNotAbove t.plane s.corner) part (d ∷ ds)
      (each_map (λ s. IsInClosedRing n part s.corner)
      (λ s. AllByRecursion (λ t. IsNotAbove t.plane s.corner) (d ∷ ds)) part
      (λ s k. each-back (λ t. IsNotAbove t.plane s.corner) (ks ++ l ∷ []) (d ∷ ds)
      (r.out_closed s.corner k).0.within.1) (ring-closed n part o.sound)) in
      let listed = each-back (λ t. IsInPlanes gs t) (ks ++ l ∷ []) (d ∷ ds) s.listed.1 in
      record {
        represents = cut_some n p gs f l ks y z my mz d ds s enters.at_least q.0.at_least under;
        out = λ v k. (r.out_closed v k).0;
        gone = each_both (λ t. IsInPlanes gs t) (λ t. IsBelowAllButOne t.plane part × AllByRecursion
            (λ s. IsNotAbove t.plane s.corner) part) (λ t. Gone t) (d ∷ ds)
            (λ t a b. record { listed = a; lone = b.0; at_most = b.1 }) listed
            (each_both (λ t. IsBelowAllButOne t.plane part) (λ t. AllByRecursion (λ s. IsNotAbove t.plane s.corner) part)
            (λ t. IsBelowAllButOne t.plane part × AllByRecursion (λ s. IsNotAbove t.plane s.corner) part) (d ∷ ds)
            (λ t a b. (a, b)) lone most);
      }

  -- a dropped side's plane is 0 at one place of the part at most
  gone_single : (d : Side) (h : Plane) → IsConvexRing n part → Gone d → d.plane ≡ h → IsZeroAtOnePoint n part h
  gone_single d h s g e =
      subst (λ k. IsZeroAtOnePoint n part k) e (λ u v ku kv zu zv. same_from u v (λ k. one_place n d.plane part s g.at_most g.lone u v k ku kv zu zv))

  divide_counted : (ds : List Side) → EachHasSideOrNoEdge n gs (f ∷ (ks ++ l ∷ []) ++ ds) → Division ds → EachHasSideOrNoEdge n (gs ++ p ∷ []) part
  divide_counted ds ct dv =
      λ i h e. ⊎_elim (λ b. before i h (within i h b e)) (λ b. inl (newest i (last i h b e))) (cases_lt i (length gs))
    where
      within : (i : ℕ) (h : Plane) → i < length gs → slice_get (gs ++ p ∷ []) i ≡ Some h → slice_get gs i ≡ Some h
      within i h b e =
          slice_get-get_or gs i h b ∙ ap (λ g. Some g) (sym (get_or_append_left gs (p ∷ []) h i b) ∙ get_or_from_slice_get (gs ++ p ∷ []) i h h e)

      last : (i : ℕ) (h : Plane) → length gs ≤ i → slice_get (gs ++ p ∷ []) i ≡ Some h → length gs ≡ i
      last i h b e = omega (arith, b, slice_get_within (gs ++ p ∷ []) i h e, length_push gs p)

      newest : (i : ℕ) → length gs ≡ i → HasPlaneIndex i part
      newest i e = has_born i part (inr (has-back (λ s. s.plane_index ≡ i) (ks ++ l ∷ []) (closing_side p y (length gs) ∷ []) (inl e)))

      lost : (i : ℕ) (h : Plane) → slice_get gs i ≡ Some h → Found (λ s. s.plane_index ≡ i) (λ d. Gone d) → IsZeroAtOnePoint n part h
      lost i h e t =
          gone_single t.member h dv.represents.sound t.also
          (sym t.also.listed.here ∙ ap (λ j. get_or gs j t.member.plane) t.holds
          ∙ get_or_from_slice_get gs i h t.member.plane e)

      born : (i : ℕ) (h : Plane) → slice_get gs i ≡ Some h →
          HasMember (λ s. s.plane_index ≡ i) (f ∷ (ks ++ l ∷ []) ++ ds) → HasPlaneIndex i part ⊎ IsZeroAtOnePoint n part h
      born i h e (inl b) = inl (has_born i part (inl b))
      born i h e (inr b) =
          ⊎_elim (λ a. inl (has_born i part (inr
          (has-front (λ s. s.plane_index ≡ i) (ks ++ l ∷ []) (closing_side p y (length gs) ∷ []) a))))
          (λ a. inr (lost i h e (has_pick (λ s. s.plane_index ≡ i) (λ d. Gone d) ds a dv.gone)))
          (has-split (λ s. s.plane_index ≡ i) (ks ++ l ∷ []) ds b)

      before : (i : ℕ) (h : Plane) → slice_get gs i ≡ Some h → HasPlaneIndex i part ⊎ IsZeroAtOnePoint n part h
      before i h e =
          ⊎_elim (λ b. born i h e (born_has i (f ∷ (ks ++ l ∷ []) ++ ds) b)) (λ s. inr (λ u v ku kv. s u v (dv.out u ku) (dv.out v kv))) (ct i h e)

-- ---- the ring below
-- begun at another side
begun_stands : (n : Plane) (gs : List Plane) (k : ℕ) (xs : List Side) → Represents n gs xs → Represents n gs (drop k xs ++ take k xs)
begun_stands n gs k xs s =
    stands_turned n gs (take k xs) (drop k xs) (subst (λ zs. Represents n gs zs) (sym (take-append-drop k xs)) s)

begun_counted : (n : Plane) (gs : List Plane) (k : ℕ) (xs : List Side) → EachHasSideOrNoEdge n gs xs → EachHasSideOrNoEdge n gs (drop k xs ++ take k xs)
begun_counted n gs k xs c =
    counted_turned n gs (take k xs) (drop k xs) (subst (λ zs. EachHasSideOrNoEdge n gs zs) (sym (take-append-drop k xs)) c)

module _ {W M : Type 0} (spot : M → Spot) where
  module _ (n p : Plane) (gs : List Plane) (xs : List Side) (at : Passage W M) (q : IsPassage spot n p xs at)
      (st : Represents n gs xs) (ct : EachHasSideOrNoEdge n gs xs) where
    abbrev below_sides : List Side
    below_sides = with_start q.head (spot at.entry) ∷ (q.firsts ++ q.last ∷ []) ++ closing_side p (spot at.exit) (length gs) ∷ []

    division : Division n p gs q.head q.last q.firsts (spot at.exit) (spot at.entry) q.entry q.exit q.under q.enters q.others
    division =
        divide n p gs q.head q.last q.firsts (spot at.exit) (spot at.entry) q.entry q.exit q.under q.enters q.others
        (subst (λ zs. Represents n gs zs) q.turned (begun_stands n gs at.entry_edge xs st)) q.leaves

    pub below_ring : {IsPlane : Plane → Type 0} (es : List Plane) (ms : List M) (bs : List ℕ) (k j : ℕ) (hs : List Plane) →
        sides_of spot es ms bs ≡ rotated j (rotated k (part_sides spot xs at p (length gs))) → LeastFirst bs → length ms ≡ length es →
        length bs ≡ length es → hs ≡ gs ++ p ∷ [] → IsPlane n → All IsPlane gs → IsPlane p →
        IsRing IsPlane spot n hs es ms bs
    below_ring {IsPlane} es ms bs k j hs et least em el eh vn vs vp =
        let e : sides_of spot es ms bs ≡ rotated j (rotated k below_sides) = et ∙ ap (λ zs. rotated j (rotated k zs)) (part_is spot n p xs at q (length gs)) in
        let s = begun_stands n (gs ++ p ∷ []) j (rotated k below_sides) (begun_stands n (gs ++ p ∷ []) k below_sides division.represents) in
        let c = begun_counted n (gs ++ p ∷ []) j (rotated k below_sides)
        (begun_counted n (gs ++ p ∷ []) k below_sides
        (divide_counted n p gs q.head q.last q.firsts (spot at.exit) (spot at.entry) q.entry q.exit q.under
        q.enters q.others (subst (λ zs. EachHasSideOrNoEdge n gs zs) q.turned (begun_counted n gs at.entry_edge xs ct))
        division)) in
        record {
          represents = subst (λ us. Represents n us (sides_of spot es ms bs)) (sym eh) (subst (λ us. Represents n (gs ++ p ∷ []) us) (sym e) s);
          oldest = oldest_first spot es ms bs least;
          counted = subst (λ us. EachHasSideOrNoEdge n us (sides_of spot es ms bs)) (sym eh) (subst (λ us. EachHasSideOrNoEdge n (gs ++ p ∷ []) us) (sym e) c);
          corners = em;
          plane_indices = el;
          support = vn;
          planes = subst (λ us. All IsPlane us) (sym eh) (All-push IsPlane gs p vs vp);
        }
