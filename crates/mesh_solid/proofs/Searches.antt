-- The search for faces of one plane that overlap
use Rattle.std.proofs.Common.{◌≡◌, ◌≢◌, ◌⊎◌, inl, inr, ℕ, zero, suc, ◌<◌, ◌≤◌, Bool, true, false}
use Rattle.std.proofs.Common.{not, ◌&&◌, ◌||◌, List, [], ◌∷◌, length, map, Option, Some, slice_get, get_or}
use Rattle.std.proofs.Common.{refl, sym, ap, subst, ◌∙◌, arith, eqb}
use Rattle.std.specs.List.{All, AllByRecursion, AllZip, Contains, list_all, list_any}
use Rattle.std.specs.List.Sorted.{IsPermutation, IsNonDecreasing}
use Rattle.std.proofs.lemmas.Bool.{and_parts, or_parts, both_ways, eqb-true, eqb-false, eq-eqb, ne_eqb, false≢true}
use Rattle.std.proofs.lemmas.List.Folds.{list_all-map}
use Rattle.std.proofs.lemmas.List.Sorted.{Contains-permutation, IsPermutation-sym}
use Rattle.std.proofs.lemmas.Option.{none-some, same_Some, slice_get-get_or, slice_get_within, get_or_from_slice_get}
use Rattle.ember_algebra.specs.Sign.{is_negative}
use Rattle.ember_model.specs.declared.plane.Plane.{Plane}
use Rattle.ember_model.specs.Edges.{RingEdge}
use Rattle.ember_model.specs.FaceFiles.{WrittenFace}
use Rattle.ember_model.specs.Planes.{value_at}
use Rattle.ember_reread.specs.declared.cornered_face.CorneredEdge.{CorneredEdge}
use Rattle.ember_reread.specs.Cornered.{edge_of}
use Rattle.mesh_certificate.specs.Key.PlaneKeys.{IsPlaneKey, IsSameOriented}
use Rattle.mesh_certificate.proofs.PlaneLaws.{plane_keys_decide}
use Rattle.mesh_solid.specs.Refusal.Overlaps.{are_apart, has_outer, HaveOverlap, Overlap}
use Rattle.mesh_solid.specs.Refusal.Searches.{any_pair, are_overlaid, has_outer_edge, index_in, not_apart, overlap, plane_in, AreNumbered, HasPlane}
use Rattle.mesh_solid.specs.Tables.Numberings.{HasEntry}

-- ---- numbers in order
pub order_behind : (n : ℕ) (ns : List ℕ) → IsNonDecreasing (n ∷ ns) → IsNonDecreasing ns
order_behind n ns h = λ i j d p l. h (suc i) (suc j) d (omega (arith, p)) (omega (arith, l))

pub first_is_least : (n : ℕ) (ns : List ℕ) → IsNonDecreasing (n ∷ ns) → All (λ m. n ≤ m) ns
first_is_least n ns h = λ k d l. h 0 (suc k) d (omega arith) (omega (arith, l))

-- behind a number of a later plane there is none of the plane
pub none_behind : (ws : List WrittenFace) (m k : ℕ) → m ≤ k → plane_in k ≢ plane_in m → (ns : List ℕ) →
    AllByRecursion (λ n. k ≤ n) ns → list_any (overlap ws m) ns ≡ false
none_behind ws m k l p [] h = refl
none_behind ws m k l p (n ∷ ns) h =
    rw (ne_eqb (plane_in m) (plane_in n) (λ q. p (omega (arith, l, h.0, q)))) (none_behind ws m k l p ns h.1)

-- ---- members
abbrev IsIn : ℕ → List ℕ → Type 0
IsIn m [] = ⊥
IsIn m (n ∷ ns) = (m ≡ n) ⊎ IsIn m ns

is_in : (ns : List ℕ) (m : ℕ) → Contains ns m → IsIn m ns
is_in [] m h = absurd (omega (arith, h.1))
is_in (n ∷ ns) m h = by h.0 h.1 h.2 (is_in ns m)
  where
    by : (k : ℕ) → k < length (n ∷ ns) → get_or (n ∷ ns) k m ≡ m → (Contains ns m → IsIn m ns) → IsIn m (n ∷ ns)
    by zero l e r = inl (sym e)
    by (suc k) l e r = inr (r (k, omega (arith, l), e))

contains : (ns : List ℕ) (m : ℕ) → IsIn m ns → Contains ns m
contains [] m h = absurd h
contains (n ∷ ns) m (inl e) = (0, omega arith, sym e)
contains (n ∷ ns) m (inr h) = let c = contains ns m h in (suc c.0, omega (arith, c.1), c.2)

-- ---- pairs
pub record Pair (p : ℕ → ℕ → Bool) (ns : List ℕ) : Type 0 where
  pub first : ℕ
  pub second : ℕ
  pub first_in : IsIn first ns
  pub second_in : IsIn second ns
  pub holds : p first second ≡ true

one_of : (p : ℕ → Bool) (ns : List ℕ) → list_any p ns ≡ true → (m : ℕ) × IsIn m ns × (p m ≡ true)
one_of p [] e = absurd (false≢true e)
one_of p (n ∷ ns) e = by (p n) refl e (one_of p ns)
  where
    by : (b : Bool) → p n ≡ b → b || list_any p ns ≡ true →
        (list_any p ns ≡ true → (m : ℕ) × IsIn m ns × (p m ≡ true)) → (m : ℕ) × IsIn m (n ∷ ns) × (p m ≡ true)
    by true q e r = (n, inl refl, q)
    by false q e r = let o = r e in (o.0, inr o.1, o.2)

-- a pair that passes the test
pair_found : (p : ℕ → ℕ → Bool) (ns : List ℕ) → any_pair p ns ≡ true → Pair p ns
pair_found p [] e = absurd (false≢true e)
pair_found p (m ∷ ns) e = by (list_any (p m) ns) refl e (pair_found p ns)
  where
    by : (b : Bool) → list_any (p m) ns ≡ b → b || any_pair p ns ≡ true → (any_pair p ns ≡ true → Pair p ns) → Pair p (m ∷ ns)
    by true q e r =
        let o = one_of (p m) ns q in
        record { first = m; second = o.0; first_in = inl refl; second_in = inr o.1; holds = o.2 }
    by false q e r =
        let o = r e in
        record { first = o.first; second = o.second; first_in = inr o.first_in; second_in = inr o.second_in; holds = o.holds }

none_of : (p : ℕ → Bool) (ns : List ℕ) (m : ℕ) → list_any p ns ≡ false → IsIn m ns → p m ≡ false
none_of p [] m e h = absurd h
none_of p (n ∷ ns) m e (inl q) = ap p q ∙ (or_parts (p n) (list_any p ns) e).0
none_of p (n ∷ ns) m e (inr h) = none_of p ns m (or_parts (p n) (list_any p ns) e).1 h

-- if there is none, two members don't pass it in both orders
no_pair : (p : ℕ → ℕ → Bool) (ns : List ℕ) (m n : ℕ) → any_pair p ns ≡ false → IsIn m ns → IsIn n ns → m ≢ n →
    (p m n ≡ false) ⊎ (p n m ≡ false)
no_pair p [] m n e h k d = absurd h
no_pair p (l ∷ ns) m n e (inl a) (inl b) d = absurd (d (a ∙ sym b))
no_pair p (l ∷ ns) m n e (inl a) (inr k) d =
    inl (ap (λ (z : ℕ). p z n) a ∙ none_of (p l) ns n (or_parts (list_any (p l) ns) (any_pair p ns) e).0 k)
no_pair p (l ∷ ns) m n e (inr h) (inl b) d =
    inr (ap (λ (z : ℕ). p z m) b ∙ none_of (p l) ns m (or_parts (list_any (p l) ns) (any_pair p ns) e).0 h)
no_pair p (l ∷ ns) m n e (inr h) (inr k) d =
    no_pair p ns m n (or_parts (list_any (p l) ns) (any_pair p ns) e).1 h k d

-- ---- faces and their numbers
pub record Numbered (planes : List Plane) (ws : List WrittenFace) (i n : ℕ) : Type 0 where
  pub face : WrittenFace
  pub here : slice_get ws i ≡ Some face
  pub has : HasPlane planes face n

module _ (planes : List Plane) where
  -- the face of a number
  face_at : (ws : List WrittenFace) (ns : List ℕ) (i n : ℕ) → AllZip (HasPlane planes) ws ns → slice_get ns i ≡ Some n → Numbered planes ws i n
  face_at [] [] i n h e = absurd (none-some n e)
  face_at [] (m ∷ ns) i n h e = absurd h
  face_at (w ∷ ws) [] i n h e = absurd h
  face_at (w ∷ ws) (m ∷ ns) zero n h e = record { face = w; here = refl; has = subst (HasPlane planes w) (same_Some m n e) h.0 }
  face_at (w ∷ ws) (m ∷ ns) (suc i) n h e =
      let f = face_at ws ns i n h.1 e in record { face = f.face; here = f.here; has = f.has }

  -- the number of a face
  number_at : (ws : List WrittenFace) (ns : List ℕ) (i : ℕ) (w : WrittenFace) → AllZip (HasPlane planes) ws ns →
      slice_get ws i ≡ Some w → (n : ℕ) × (slice_get ns i ≡ Some n) × HasPlane planes w n
  number_at [] [] i w h e = absurd (none-some w e)
  number_at [] (m ∷ ns) i w h e = absurd h
  number_at (v ∷ ws) [] i w h e = absurd h
  number_at (v ∷ ws) (m ∷ ns) zero w h e =
      (m, refl, subst (λ (u : WrittenFace). HasPlane planes u m) (same_Some v w e) h.0)
  number_at (v ∷ ws) (m ∷ ns) (suc i) w h e = number_at ws ns i w h.1 e

-- the entry of one number is one
same_entry_at : (planes : List Plane) (i j : ℕ) (P Q : Plane → Type 0) (h : HasEntry planes i P) (k : HasEntry planes j Q) → i ≡ j → h.entry ≡ k.entry
same_entry_at planes i j P Q h k e = same_Some h.entry k.entry (sym h.here ∙ ap (slice_get planes) e ∙ k.here)

module _ (ws : List WrittenFace) (ns sorted : List ℕ) (numbered : AreNumbered ws ns) (order : IsPermutation ns sorted) where
  -- the place of a member before it was sorted is its index
  place_of : (n : ℕ) → IsIn n sorted → slice_get ns (index_in n) ≡ Some n
  place_of n h =
      let c = Contains-permutation sorted ns n (IsPermutation-sym ns sorted order) (contains sorted n h) in
      let at = slice_get-get_or ns c.0 n c.1 ∙ ap Some c.2 in
      subst (λ (i : ℕ). slice_get ns i ≡ Some n) (sym (numbered.indices c.0 n at)) at

  member : (i n : ℕ) → slice_get ns i ≡ Some n → IsIn n sorted
  member i n e =
      is_in sorted n (Contains-permutation ns sorted n order (i, slice_get_within ns i n e, get_or_from_slice_get ns i n n e))

  -- a pair that is found is one of faces that overlap
  pair_overlaps : Pair (overlap ws) sorted → HaveOverlap ws
  pair_overlaps pair =
      let m = pair.first in let n = pair.second in
      let f = face_at numbered.planes ws ns (index_in m) m numbered.each (place_of m pair.first_in) in
      let g = face_at numbered.planes ws ns (index_in n) n numbered.each (place_of n pair.second_in) in
      let one = and_parts (eqb (plane_in m) (plane_in n)) (are_overlaid ws m n) pair.holds in
      let two = and_parts (not (eqb (index_in m) (index_in n))) (not_apart (slice_get ws (index_in m)) (slice_get ws (index_in n))) one.1 in
      let same = same_entry_at numbered.planes (plane_in m) (plane_in n) _ _ f.has g.has (eqb-true (plane_in m) (plane_in n) one.0) in (
        index_in m,
        index_in n,
        record {
          two = eqb-false (index_in m) (index_in n) (negated (eqb (index_in m) (index_in n)) two.0);
          first = f.face;
          second = g.face;
          first_is = f.here;
          second_is = g.here;
          plane = (plane_keys_decide f.has.holds g.has.holds).0 same;
          not_apart = negated (are_apart f.face g.face)
              (subst (λ (o : Option WrittenFace). not_apart (Some f.face) o ≡ true) g.here
              (subst (λ (o : Option WrittenFace). not_apart o (slice_get ws (index_in n)) ≡ true) f.here two.1));
        },
      )
    where
      negated : (b : Bool) → not b ≡ true → b ≡ false
      negated true e = absurd (false≢true e)
      negated false e = refl

  pub overlap_from_pair : any_pair (overlap ws) sorted ≡ true → HaveOverlap ws
  overlap_from_pair e = pair_overlaps (pair_found (overlap ws) sorted e)

  -- faces that overlap pass the test in both orders
  passes : (m n : ℕ) (v w : WrittenFace) → plane_in m ≡ plane_in n → index_in m ≢ index_in n →
      slice_get ws (index_in m) ≡ Some v → slice_get ws (index_in n) ≡ Some w → are_apart v w ≡ false → overlap ws m n ≡ true
  passes m n v w p d a b e =
      rw (eq-eqb (plane_in m) (plane_in n) p, ne_eqb (index_in m) (index_in n) d, a, b, e) refl

  turned : (v w : WrittenFace) → are_apart v w ≡ false → are_apart w v ≡ false
  turned v w e = let h = or_parts (has_outer v w) (has_outer w v) e in rw (h.1, h.0) refl

  pub pair_from_overlap : HaveOverlap ws → any_pair (overlap ws) sorted ≡ true
  pair_from_overlap h = by (any_pair (overlap ws) sorted) refl
    where
      i : ℕ
      i = h.0

      j : ℕ
      j = h.1

      o : Overlap ws h.0 h.1
      o = h.2

      at_i : (n : ℕ) × (slice_get ns i ≡ Some n) × HasPlane numbered.planes o.first n
      at_i = number_at numbered.planes ws ns i o.first numbered.each o.first_is

      at_j : (n : ℕ) × (slice_get ns j ≡ Some n) × HasPlane numbered.planes o.second n
      at_j = number_at numbered.planes ws ns j o.second numbered.each o.second_is

      one : plane_in at_i.0 ≡ plane_in at_j.0
      one =
          let h = at_i.2 in let k = at_j.2 in
          numbered.distinct.each (plane_in at_i.0) (plane_in at_j.0) h.entry k.entry h.here k.here
          ((plane_keys_decide h.holds k.holds).1 o.plane)

      is_i : index_in at_i.0 ≡ i
      is_i = numbered.indices i at_i.0 at_i.1

      is_j : index_in at_j.0 ≡ j
      is_j = numbered.indices j at_j.0 at_j.1

      two : index_in at_i.0 ≢ index_in at_j.0
      two e = o.two (sym is_i ∙ e ∙ is_j)

      first_is : slice_get ws (index_in at_i.0) ≡ Some o.first
      first_is = ap (slice_get ws) is_i ∙ o.first_is

      second_is : slice_get ws (index_in at_j.0) ≡ Some o.second
      second_is = ap (slice_get ws) is_j ∙ o.second_is

      onward : overlap ws at_i.0 at_j.0 ≡ true
      onward = passes at_i.0 at_j.0 o.first o.second one two first_is second_is o.not_apart

      back : overlap ws at_j.0 at_i.0 ≡ true
      back =
          passes at_j.0 at_i.0 o.second o.first (sym one) (λ e. two (sym e)) second_is first_is
          (turned o.first o.second o.not_apart)

      by : (b : Bool) → any_pair (overlap ws) sorted ≡ b → b ≡ true
      by true e = refl
      by false e =
          neither (no_pair (overlap ws) sorted at_i.0 at_j.0 e (member i at_i.0 at_i.1) (member j at_j.0 at_j.1)
          (λ q. two (ap index_in q)))
        where
          neither : (overlap ws at_i.0 at_j.0 ≡ false) ⊎ (overlap ws at_j.0 at_i.0 ≡ false) → false ≡ true
          neither (inl f) = absurd (both_ways (overlap ws at_i.0 at_j.0) f onward)
          neither (inr f) = absurd (both_ways (overlap ws at_j.0 at_i.0) f back)

-- ---- edges as they are read
-- an edge of the written face has all of another one on its outer side, if it has so as it is read
pub outer_edges : (es others : List CorneredEdge) → has_outer_edge es others ≡ list_any (λ (e : RingEdge). list_all
    (λ (d : RingEdge). not (is_negative (value_at e.plane d.start))) (map edge_of others)) (map edge_of es)
outer_edges [] others = refl
outer_edges (e ∷ es) others =
    λ i. sym (list_all-map (λ (d : RingEdge). not (is_negative (value_at e.plane d.start))) edge_of others) i
    || outer_edges es others i
