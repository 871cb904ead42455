-- What a ring's lists are: the outline of its face.
use Rattle.std.proofs.Common.{◌≡◌, refl, ap, subst, arith, ℕ, suc, ◌≤◌, List, [], ◌∷◌, length, map, All}
use Rattle.std.specs.List.{AllByRecursion}
use Rattle.ember_model.specs.declared.point.Spot.{Spot}
use Rattle.ember_model.specs.declared.plane.Plane.{Plane}
use Rattle.ember_model.specs.declared.face.Face.{Face}
use Rattle.ember_model.specs.Edges.{IsOutline}
use Rattle.ember_poly.specs.Rings.{Side, IsConvexRing, IsInPlanes}
use Rattle.ember_poly.specs.Sides.{sides_of, ring_edges, IsRing, AreEdges, AreCorners}
use Rattle.ember_poly.proofs.Chains.{each_map}
use Rattle.ember_poly.proofs.Face.{each_at}
use Rattle.ember_poly.proofs.RingOutline.{edge_of, outline, ring_outline}

module _ {M : Type 0} (spot : M → Spot) where
  outline-sides_of : (es : List Plane) (ms : List M) (bs : List ℕ) → length ms ≡ length es → length bs ≡ length es →
      outline (sides_of spot es ms bs) ≡ ring_edges spot es ms
  outline-sides_of [] ms bs p q = refl
  outline-sides_of (e ∷ es) [] bs p q = absurd (omega (arith, p))
  outline-sides_of (e ∷ es) (m ∷ ms) [] p q = absurd (omega (arith, q))
  outline-sides_of (e ∷ es) (m ∷ ms) (b ∷ bs) p q =
      ap (λ zs. edge_of (record { plane = e; corner = spot m; plane_index = b }) ∷ zs) (outline-sides_of es ms bs (omega (arith, p)) (omega (arith, q)))

  planes-sides_of : (es : List Plane) (ms : List M) (bs : List ℕ) → length ms ≡ length es → length bs ≡ length es →
      map (λ (s : Side). s.plane) (sides_of spot es ms bs) ≡ es
  planes-sides_of [] ms bs p q = refl
  planes-sides_of (e ∷ es) [] bs p q = absurd (omega (arith, p))
  planes-sides_of (e ∷ es) (m ∷ ms) [] p q = absurd (omega (arith, q))
  planes-sides_of (e ∷ es) (m ∷ ms) (b ∷ bs) p q =
      ap (λ zs. e ∷ zs) (planes-sides_of es ms bs (omega (arith, p)) (omega (arith, q)))

each_plane : (P : Plane → Type 0) (xs : List Side) → AllByRecursion (λ s. P s.plane) xs → AllByRecursion P (map (λ (s : Side). s.plane) xs)
each_plane P [] h = tt
each_plane P (x ∷ xs) h = (h.0, each_plane P xs h.1)

module _ {M : Type 0} (spot : M → Spot) where
  -- there are as many sides as edges
  pub length-sides_of : (es : List Plane) (ms : List M) (bs : List ℕ) → length ms ≡ length es → length bs ≡ length es →
      length (sides_of spot es ms bs) ≡ length es
  length-sides_of [] ms bs p q = refl
  length-sides_of (e ∷ es) [] bs p q = absurd (omega (arith, p))
  length-sides_of (e ∷ es) (m ∷ ms) [] p q = absurd (omega (arith, q))
  length-sides_of (e ∷ es) (m ∷ ms) (b ∷ bs) p q =
      ap (λ n. suc n) (length-sides_of es ms bs (omega (arith, p)) (omega (arith, q)))

sound_three : (n : Plane) (xs : List Side) → IsConvexRing n xs → 3 ≤ length xs
sound_three n [] h = absurd h
sound_three n (s ∷ []) h = absurd h
sound_three n (s ∷ t ∷ []) h = absurd h.0
sound_three n (s ∷ t ∷ u ∷ xs) h = omega arith

module _ {M : Type 0} {IsPlane : Plane → Type 0} (spot : M → Spot) where
  module _ (n : Plane) (gs es : List Plane) (ms : List M) (bs : List ℕ) (r : IsRing IsPlane spot n gs es ms bs) where
    lists_are_outline : IsOutline (record { support = n; edges = gs }) (ring_edges spot es ms)
    lists_are_outline =
        subst (λ zs. IsOutline (record { support = n; edges = gs }) zs)
        (outline-sides_of spot es ms bs r.corners r.plane_indices)
        (ring_outline n gs (sides_of spot es ms bs) r.represents r.counted r.oldest)

    pub lists_have_three : 3 ≤ length es
    lists_have_three =
        subst (λ k. 3 ≤ k) (length-sides_of spot es ms bs r.corners r.plane_indices) (sound_three n (sides_of spot es ms bs) r.represents.sound)

    -- the planes that are lent are valid
    pub lent_valid : All IsPlane es
    lent_valid = λ k d l. each_at IsPlane es k d l
        (subst (λ ps. AllByRecursion IsPlane ps) (planes-sides_of spot es ms bs r.corners r.plane_indices)
        (each_plane IsPlane (sides_of spot es ms bs) (each_map (λ s. IsInPlanes gs s) (λ s. IsPlane s.plane) (sides_of spot es ms bs)
        (λ s l. subst IsPlane l.here (r.planes s.plane_index s.plane l.index)) r.represents.listed)))

  -- as the calls see the ring
  module _ (n : Plane) (gs es : List Plane) (ms : List M) (bs : List ℕ) (r : IsRing IsPlane spot n gs es ms bs) (f : Face)
      (seen : f ≡ record { support = n; edges = gs }) where
    pub outline_of : {us : List Plane} {cs : List M} → us ≡ es → cs ≡ ms → IsOutline f (ring_edges spot us cs)
    outline_of ea ec = rw (seen, ea, ec) (lists_are_outline n gs es ms bs r)

    pub are_edges : {us : List Plane} → us ≡ es → AreEdges spot f us
    are_edges ea =
        rw ea (record { starts = ms; outline = outline_of refl refl; paired = r.corners; three = lists_have_three n gs es ms bs r })

    pub are_corners : {cs : List M} → cs ≡ ms → AreCorners spot f cs
    are_corners ec =
        rw ec (record { planes = es; outline = outline_of refl refl; paired = r.corners; three = rw r.corners (lists_have_three n gs es ms bs r) })
