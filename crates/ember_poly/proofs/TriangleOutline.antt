-- Each outline of a triangle's face lists its three edge planes in their order.
use Rattle.std.proofs.Common.{◌≡◌, ◌⊎◌, inl, inr, ⊎_elim, refl, sym, subst, ◌∙◌, arith, ℕ, zero, suc, ◌≤◌, Some, None}
use Rattle.std.proofs.Common.{true, false, List, [], ◌∷◌, map, slice_get, pos, ◌<ℤ◌}
use Rattle.std.specs.List.{AllByRecursion}
use Rattle.ember_algebra.proofs.Laws.{linear}
use Rattle.ember_model.specs.declared.plane.Plane.{Plane}
use Rattle.ember_model.specs.declared.point.Spot.{Spot}
use Rattle.ember_model.specs.declared.face.Face.{Face}
use Rattle.ember_model.specs.declared.tri.Tri.{Tri}
use Rattle.ember_algebra.specs.Sign.{sign}
use Rattle.ember_model.specs.Planes.{along, unit, main_axis, support_of}
use Rattle.ember_model.specs.Faces.{is_flat, edges_of, face_of}
use Rattle.ember_model.specs.Edges.{is_on_edge, HasEdge, SameEdge, IsBefore, IsNotAfter, IsEarliest, RingEdge, IsEdge}
use Rattle.ember_model.specs.Edges.{IsEdgeChain, HaveDistinctEdges, IsOutline}
use Rattle.ember_poly.specs.Rings.{IsNotAbove, orientation}
use Rattle.ember_poly.proofs.EdgeEnds.{no_earlier, not_after}
use Rattle.ember_poly.proofs.FaceTests.{edge_out}
use Rattle.ember_poly.proofs.RingOutline.{ring_outline}
use Rattle.ember_poly.proofs.Triangle.{edge_along}
use Rattle.ember_poly.proofs.TriangleRing.{tri_sides, stands, counted}

-- ---- the edge after an edge
not_both : {n g : Plane} {u v : Spot} → IsBefore n g u v → IsNotAfter n g v u → ⊥
not_both p q = absurd (omega (arith, linear, p.before, q.not_after))

-- it isn't that of the same plane
not_again : (f : Face) (e d : RingEdge) (end : Spot) → IsEdge f e d.start → IsEdge f d end → d.plane ≡ e.plane → ⊥
not_again f e d end h k p =
    not_both h.leads (subst (λ (g : Plane). IsNotAfter f.support g d.start e.start) p
    (k.from_start e.start (subst (λ (g : Plane). is_on_edge f g e.start ≡ true) (sym p) h.starts)))

-- nor that of a plane that turns to it
not_back : (f : Face) (e d : RingEdge) (end : Spot) → pos 0 <ℤ orientation f.support d.plane e.plane →
    IsNotAbove d.plane e.start → IsEdge f e d.start → IsEdge f d end → ⊥
not_back f e d end t m h k =
    let u = edge_out f e.plane d.start h.ends in
    let x = edge_out f e.plane e.start h.starts in
    not_both h.leads (not_after f.support e.plane d.start e.start
    (no_earlier f.support d.plane e.plane d.start e.start t u.closed.flat x.closed.flat u.zero x.zero
    (edge_out f d.plane d.start k.starts).zero m.at_most u.closed.weight))

head_edge : (f : Face) (end : Spot) (d : RingEdge) (ds : List RingEdge) → IsEdgeChain f end (d ∷ ds) → (stop : Spot) × IsEdge f d stop
head_edge f end d [] h = (end, h)
head_edge f end d (c ∷ ds) h = (c.start, h.0)

-- ---- three planes, each of which turns to the next
module _ (n a b c : Plane) where
  abbrev face : Face
  face = record { support = n; edges = a ∷ b ∷ c ∷ [] }

  abbrev IsOne : Plane → Type 0
  IsOne g = (g ≡ a) ⊎ ((g ≡ b) ⊎ (g ≡ c))

  one_at : (i : ℕ) (g : Plane) → slice_get (a ∷ b ∷ c ∷ []) i ≡ Some g → IsOne g
  one_at zero g e = inl cc
  one_at (suc zero) g e = inr (inl cc)
  one_at (suc (suc zero)) g e = inr (inr cc)
  one_at (suc (suc (suc i))) g e = absurd (none e)
    where
      none : None ≡ Some g → ⊥
      none e = cc

  one_of : (d : RingEdge) (end : Spot) → IsEdge face d end → IsOne d.plane
  one_of d end h = one_at h.is_earliest.index d.plane h.is_earliest.here

  first_plane : (g : Plane) → HasEdge face a → IsEarliest (λ h. HasEdge face h) (a ∷ b ∷ c ∷ []) g → g ≡ a
  first_plane g k e = by e.index e.here e.earliest
    where
      same : Some a ≡ Some g → g ≡ a
      same e = cc

      by : (i : ℕ) → slice_get (a ∷ b ∷ c ∷ []) i ≡ Some g →
          ((j : ℕ) (h : Plane) → suc j ≤ i → slice_get (a ∷ b ∷ c ∷ []) j ≡ Some h → HasEdge face h → ⊥) → g ≡ a
      by zero h f = same h
      by (suc i) h f = absurd (f 0 a (omega arith) refl k)

  -- p turns to q: after the edge of q comes neither that of p nor of q
  not_p : (p q : Plane) (e d : RingEdge) (end : Spot) → pos 0 <ℤ orientation n p q →
      (AllByRecursion (λ g. IsNotAbove g e.start) (a ∷ b ∷ c ∷ []) → IsNotAbove p e.start) → e.plane ≡ q →
      IsEdge face e d.start → IsEdge face d end → d.plane ≡ p → ⊥
  not_p p q e d end t m eq h k dp =
      not_back face e d end (rw (dp, eq) t) (subst (λ (g : Plane). IsNotAbove g e.start) (sym dp)
      (m (edge_out face e.plane e.start h.starts).closed.within)) h k

  module _ (ab : pos 0 <ℤ orientation n a b) (bc : pos 0 <ℤ orientation n b c) (ca : pos 0 <ℤ orientation n c a) where
    second : (e d : RingEdge) (end : Spot) → e.plane ≡ a → IsEdge face e d.start → IsEdge face d end → d.plane ≡ b
    second e d end p h k =
        ⊎_elim (λ q. absurd (not_again face e d end h k (q ∙ sym p)))
        (λ r. ⊎_elim (λ q. q) (λ q. absurd (not_p c a e d end ca (λ w. w.1.1.0) p h k q)) r) (one_of d end k)

    third : (e d : RingEdge) (end : Spot) → e.plane ≡ b → IsEdge face e d.start → IsEdge face d end → d.plane ≡ c
    third e d end p h k =
        ⊎_elim (λ q. absurd (not_p a b e d end ab (λ w. w.0) p h k q))
        (λ r. ⊎_elim (λ q. absurd (not_again face e d end h k (q ∙ sym p))) (λ q. q) r) (one_of d end k)

    same_edge : (e d : RingEdge) (g : Plane) → e.plane ≡ g → d.plane ≡ g → SameEdge face e.plane d.plane
    same_edge e d g p q = rw (p, q) (λ v. refl)

    once_round : (first : RingEdge) (rest : List RingEdge) → first.plane ≡ a →
        IsEdgeChain face first.start (first ∷ rest) → HaveDistinctEdges face (first ∷ rest) →
        map (λ (e : RingEdge). e.plane) (first ∷ rest) ≡ a ∷ b ∷ c ∷ []
    once_round first [] p h o = absurd (not_again face first first first.start h h refl)
    once_round first (d ∷ []) p h o =
        let q = second first d first.start p h.0 h.1 in
        absurd (not_p a b d first d.start ab (λ w. w.0) q h.1 h.0 p)
    once_round first (d ∷ e ∷ []) p h o =
        let q = second first d e.start p h.0 h.1.0 in
        let r = third d e first.start q h.1.0 h.1.1 in
        λ i. p i ∷ q i ∷ r i ∷ []
    once_round first (d ∷ e ∷ g ∷ gs) p h o =
        let q = second first d e.start p h.0 h.1.0 in
        let r = third d e g.start q h.1.0 h.1.1.0 in
        let k = head_edge face first.start g gs h.1.1.1 in
        absurd (⊎_elim (λ s. o.0.1.1.0 (same_edge first g a p s))
        (λ t. ⊎_elim (λ s. o.1.0.1.0 (same_edge d g b q s)) (λ s. o.1.1.0.0 (same_edge e g c r s)) t)
        (one_of g k.0 k.1))

    in_order : (es : List RingEdge) → HasEdge face a → IsOutline face es → map (λ (e : RingEdge). e.plane) es ≡ a ∷ b ∷ c ∷ []
    in_order es k o =
        rw o.begins (once_round o.first o.rest (first_plane o.first.plane k o.earliest)
        (subst (λ zs. IsEdgeChain face o.first.start zs) o.begins o.round)
        (subst (λ zs. HaveDistinctEdges face zs) o.begins o.once))

-- ---- the triangle
first_of : {x y : RingEdge} {xs ys : List RingEdge} → x ∷ xs ≡ y ∷ ys → x ≡ y
first_of e = cc

-- each outline of the face lists the three edge planes in their order
pub triangle_outline : (t : Tri) (es : List RingEdge) → is_flat t ≡ false → IsOutline (face_of t) es → map (λ (e : RingEdge). e.plane) es ≡ edges_of t
unfolding face_of
triangle_outline t es e o =
    let k = main_axis (support_of t) in let s = sign (along (support_of t) k) in
    let st = stands t e in
    let ring = ring_outline (support_of t) (edges_of t) (tri_sides t) st (counted t) (omega arith, (omega arith, tt)) in
    let first : HasEdge (face_of t) (edge_along s (unit k) t.a t.b) =
    subst (λ (d : RingEdge). HasEdge (face_of t) d.plane) (sym (first_of ring.begins)) ring.earliest.holds in
    in_order (support_of t) (edge_along s (unit k) t.a t.b) (edge_along s (unit k) t.b t.c)
    (edge_along s (unit k) t.c t.a) st.sound.1.0.turns st.sound.1.3.0.turns st.sound.2.3.0.turns es first o
