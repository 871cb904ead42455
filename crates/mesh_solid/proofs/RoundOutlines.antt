-- Edges that lead around a convex polygon are the outline of its face.
use Rattle.std.proofs.Common.{◌≡◌, ℕ, zero, suc, ◌+◌, ◌≤◌, List, [], ◌∷◌, ◌++◌, map, length, length-append}
use Rattle.std.proofs.Common.{append_assoc, Some, None, inl, refl, sym, ap, ◌∙◌, subst, arith}
use Rattle.std.specs.List.{AllByRecursion, slice_get}
use Rattle.std.proofs.lemmas.List.{map-append}
use Rattle.ember_meaning.specs.Closed.Chains.{IsOutlined}
use Rattle.ember_model.specs.declared.plane.Plane.{Plane}
use Rattle.ember_model.specs.declared.point.Spot.{Spot}
use Rattle.ember_model.specs.Edges.{RingEdge, IsOutline}
use Rattle.ember_model.specs.FaceFiles.{WrittenFace}
use Rattle.ember_poly.specs.Rings.{Side, IsBelow, IsNotAbove, IsSideChain, IsConvexRing, IsInPlanes, Represents}
use Rattle.ember_poly.specs.Sides.{OldestFirst, EachHasSideOrNoEdge}
use Rattle.ember_poly.proofs.RingOutline.{outline, ring_outline}
use Rattle.mesh_solid.specs.Outline.Rounds.{side_of, IsRound}
use lib.ListN.{get_or}

-- ---- sides with indices
abbrev side_from : ℕ → RingEdge → Side
side_from index e = record { plane = e.plane; corner = e.start; plane_index = index }

abbrev sides_from : ℕ → List RingEdge → List Side
sides_from index [] = []
sides_from index (e ∷ es) = side_from index e ∷ sides_from (index + 1) es

abbrev bare : Side → Side
bare s = record s { plane_index = 0 }

bare_sides : (index : ℕ) (es : List RingEdge) → map bare (sides_from index es) ≡ map side_of es
bare_sides index [] = refl
bare_sides index (e ∷ es) = ap (λ (xs : List Side). side_of e ∷ xs) (bare_sides (index + 1) es)

each_bare : (P : Plane → Spot → Type 0) (xs : List Side) → AllByRecursion (λ s. P s.plane s.corner) (map bare xs) → AllByRecursion (λ s. P s.plane s.corner) xs
each_bare P [] h = tt
each_bare P (x ∷ xs) h = (h.0, each_bare P xs h.1)

-- a chain doesn't depend on the indices
chain_bare : (n g : Plane) (xs : List Side) → IsSideChain n g (map bare xs) → IsSideChain n g xs
chain_bare n g [] h = tt
chain_bare n g (x ∷ xs) h = (
  record { flat = h.0.flat; weight = h.0.weight; before = h.0.before; after = h.0.after; turns = h.0.turns },
  each_bare (λ p v. IsBelow g v) xs h.1,
  each_bare (λ p v. IsBelow p x.corner) xs h.2,
  chain_bare n x.plane xs h.3,
)

-- nor does a ring
ring_bare : (n : Plane) (xs : List Side) → IsConvexRing n (map bare xs) → IsConvexRing n xs
ring_bare n [] h = absurd h
ring_bare n (s ∷ []) h = absurd h
ring_bare n (s ∷ t ∷ []) h = absurd h.0
ring_bare n (s ∷ t ∷ x ∷ xs) h = (
  tt,
  chain_bare n s.plane (t ∷ x ∷ xs) h.1,
  chain_bare n t.plane ((x ∷ xs) ++ s ∷ []) (subst (IsSideChain n t.plane) (sym (map-append bare (x ∷ xs) (s ∷ []))) h.2),
)

-- ---- the face of the planes
abbrev planes : List RingEdge → List Plane
planes es = map (λ (e : RingEdge). e.plane) es

-- the plane of each side is in the list at its index
here_after : (before : List Plane) (p : Plane) (after : List Plane) → get_or (before ++ p ∷ after) (length before) p ≡ p
here_after [] p after = refl
here_after (b ∷ before) p after = here_after before p after

in_planes : (before : List Plane) (p : Plane) (after : List Plane) (s : Side) → s.plane ≡ p → s.plane_index ≡ length before → IsInPlanes (before ++ p ∷ after) s
in_planes before p after s e q =
    record {
      index = omega (arith, q, length-append before (p ∷ after));
      here = (λ k. get_or (before ++ p ∷ after) (q k) (e k)) ∙ here_after before p after ∙ sym e;
    }

listed : (gs before : List Plane) (index : ℕ) (es : List RingEdge) → before ++ planes es ≡ gs → index ≡ length before →
    AllByRecursion (λ s. IsInPlanes gs s) (sides_from index es)
listed gs before index [] q n = tt
listed gs before index (e ∷ es) q n = (
  subst (λ (ps : List Plane). IsInPlanes ps (side_from index e)) q (in_planes before e.plane (planes es) (side_from index e) refl n),
  listed gs (before ++ e.plane ∷ []) (index + 1) es (append_assoc before (e.plane ∷ []) (planes es) ∙ q)
      (omega (arith, n, length-append before (e.plane ∷ []))),
)

-- a fact of the sides' planes is one of the planes
each_plane : (P : Plane → Type 0) (index : ℕ) (es : List RingEdge) → AllByRecursion (λ s. P s.plane) (sides_from index es) → AllByRecursion P (planes es)
each_plane P index [] h = tt
each_plane P index (e ∷ es) h = (h.0, each_plane P (index + 1) es h.1)

-- each plane has its side
side_with_index : (index i : ℕ) (es : List RingEdge) (h : Plane) → slice_get (planes es) i ≡ Some h →
    (s : Side) × (slice_get (sides_from index es) i ≡ Some s) × (s.plane_index ≡ index + i)
side_with_index index i [] h q = absurd (none q)
  where
    none : None ≡ Some h → ⊥
    none e = cc
side_with_index index zero (e ∷ es) h q = (side_from index e, refl, omega arith)
side_with_index index (suc i) (e ∷ es) h q =
    let t = side_with_index (index + 1) i es h q in (t.0, t.1, omega (arith, t.2))

later : (index : ℕ) (es : List RingEdge) → AllByRecursion (λ s. 0 ≤ s.plane_index) (sides_from index es)
later index [] = tt
later index (e ∷ es) = (omega arith, later (index + 1) es)

oldest : (es : List RingEdge) → OldestFirst (sides_from 0 es)
oldest [] = tt
oldest (e ∷ es) = later 1 es

outline_of_sides : (index : ℕ) (es : List RingEdge) → outline (sides_from index es) ≡ es
outline_of_sides index [] = refl
outline_of_sides index (e ∷ es) = ap (λ (ds : List RingEdge). e ∷ ds) (outline_of_sides (index + 1) es)

-- edges that lead around are the outline of the face that their planes bound
pub round_is_outlined : (w : WrittenFace) → IsRound w → IsOutlined w
round_is_outlined w round =
    let n = w.support in
    let es = w.edges in
    let gs = planes es in
    let xs = sides_from 0 es in
    let sound : IsConvexRing n xs = ring_bare n xs (subst (IsConvexRing n) (sym (bare_sides 0 es)) round) in
    let represents : Represents n gs xs = record {
      sound = sound;
      listed = listed gs [] 0 es refl refl;
      follow = λ v h. each_plane (λ g. IsBelow g v) 0 es h.within;
      follow_closed = λ v h. each_plane (λ g. IsNotAbove g v) 0 es h.within;
    } in
    let counted : EachHasSideOrNoEdge n gs xs = λ i h q. let s = side_with_index 0 i es h q in
    inl (record { at = i; side = s.0; here = s.1; plane_index = omega (arith, s.2) }) in
    subst (λ (ds : List RingEdge). IsOutline (record { support = n; edges = gs }) ds) (outline_of_sides 0 es)
    (ring_outline n gs xs represents counted (oldest es))
