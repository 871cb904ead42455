-- An outline with each start corner written by other numbers of the same point.
use Rattle.std.proofs.Common.{◌≡◌, inl, inr, refl, sym, ap, subst, ◌∙◌, arith, true, List, [], ◌∷◌, ℤ, pos, ◌*ℤ◌, ◌<ℤ◌, ◌≤ℤ◌}
use Rattle.std.specs.List.{AllByRecursion}
use Rattle.ember_algebra.proofs.Laws.{linear}
use Rattle.ember_algebra.proofs.Ring.{◌⊗◌, ◌≈◌, num, solve, cancels}
use Rattle.ember_algebra.proofs.Order.{pos_mul, mul_lt, mul_le, cancel_lt, cancel_le, cancel_eq}
use Rattle.ember_model.specs.declared.plane.Plane.{Plane}
use Rattle.ember_model.specs.declared.point.Spot.{Spot}
use Rattle.ember_model.specs.declared.face.Face.{Face}
use Rattle.ember_model.specs.Planes.{value_at}
use Rattle.ember_model.specs.Edges.{SamePoint, is_on_edge, HasEdge, IsEarliest, SameEdge, position_along, IsBefore}
use Rattle.ember_model.specs.Edges.{IsNotAfter, RingEdge, IsEdge, IsEdgeChain, HasEdgeOf, HaveDistinctEdges, IsOutline}
use Rattle.ember_model.proofs.SignTests.{positive_nonzero}
use Rattle.ember_poly.specs.Rings.{IsNotAbove, edge_direction}
use Rattle.ember_poly.proofs.Chains.{each_map}
use Rattle.ember_poly.proofs.EdgeEnds.{position_is_value_along}
use Rattle.ember_poly.proofs.FaceTests.{edge_in, edge_out}
use Rattle.ember_poly.proofs.RingOutline.{same_value}

-- ---- numbers
zero_moved : (u v a b : ℤ) → pos 0 <ℤ u → v *ℤ a ≡ u *ℤ b → a ≡ pos 0 → b ≡ pos 0
zero_moved u v a b p e z =
    cancel_eq (positive_nonzero p) (sym e ∙ rw z (solve 2 (λ u v. v ⊗ num (pos 0) ≈ u ⊗ num (pos 0)) cancels u v))

most_moved : (u v a b : ℤ) → pos 0 <ℤ u → pos 0 <ℤ v → v *ℤ a ≡ u *ℤ b → a ≤ℤ pos 0 → b ≤ℤ pos 0
most_moved u v a b p q e l =
    let w : pos 0 ≤ℤ v = omega (arith, linear, q) in
    cancel_le p (rw (← e) (omega (arith, linear, mul_le w l, solve 2 (λ u v. v ⊗ num (pos 0) ≈ u ⊗ num (pos 0)) cancels u v)))

first_moved : (p q p' q' a a' : ℤ) → p' *ℤ a ≡ p *ℤ a' → (p *ℤ q) *ℤ (q' *ℤ a') ≡ (q' *ℤ p') *ℤ (q *ℤ a)
first_moved p q p' q' a a' e =
    solve 4 (λ p q r b. (p ⊗ q) ⊗ (r ⊗ b) ≈ (q ⊗ r) ⊗ (p ⊗ b)) cancels p q q' a' ∙ ap (λ x. (q *ℤ q') *ℤ x) (sym e)
    ∙ solve 4 (λ q r s a. (q ⊗ r) ⊗ (s ⊗ a) ≈ (r ⊗ s) ⊗ (q ⊗ a)) cancels q q' p' a

lt_moved : (p q p' q' a b a' b' : ℤ) → pos 0 <ℤ p → pos 0 <ℤ q → pos 0 <ℤ p' → pos 0 <ℤ q' → p' *ℤ a ≡ p *ℤ a' →
    q' *ℤ b ≡ q *ℤ b' → (q *ℤ a) <ℤ (p *ℤ b) → (q' *ℤ a') <ℤ (p' *ℤ b')
lt_moved p q p' q' a b a' b' hp hq hp' hq' ea eb l =
    let m = mul_lt (pos_mul hq' hp') l in
    cancel_lt (pos_mul hp hq) (rw (first_moved p q p' q' a a' ea, second) m)
  where
    second : (p *ℤ q) *ℤ (p' *ℤ b') ≡ (q' *ℤ p') *ℤ (p *ℤ b)
    second =
        solve 4 (λ p q r b. (p ⊗ q) ⊗ (r ⊗ b) ≈ (q ⊗ p) ⊗ (r ⊗ b)) cancels p q p' b' ∙ first_moved q p q' p' b b' eb
        ∙ solve 4 (λ r s p b. (r ⊗ s) ⊗ (p ⊗ b) ≈ (s ⊗ r) ⊗ (p ⊗ b)) cancels p' q' p b

le_moved : (p q p' q' a b a' b' : ℤ) → pos 0 <ℤ p → pos 0 <ℤ q → pos 0 <ℤ p' → pos 0 <ℤ q' → p' *ℤ a ≡ p *ℤ a' →
    q' *ℤ b ≡ q *ℤ b' → (q *ℤ a) ≤ℤ (p *ℤ b) → (q' *ℤ a') ≤ℤ (p' *ℤ b')
le_moved p q p' q' a b a' b' hp hq hp' hq' ea eb l =
    let m = mul_le (weaken (pos_mul hq' hp')) l in
    cancel_le (pos_mul hp hq) (rw (first_moved p q p' q' a a' ea, second) m)
  where
    weaken : {x : ℤ} → pos 0 <ℤ x → pos 0 ≤ℤ x
    weaken q = omega (arith, linear, q)

    second : (p *ℤ q) *ℤ (p' *ℤ b') ≡ (q' *ℤ p') *ℤ (p *ℤ b)
    second =
        solve 4 (λ p q r b. (p ⊗ q) ⊗ (r ⊗ b) ≈ (q ⊗ p) ⊗ (r ⊗ b)) cancels p q p' b' ∙ first_moved q p q' p' b b' eb
        ∙ solve 4 (λ r s p b. (r ⊗ s) ⊗ (p ⊗ b) ≈ (s ⊗ r) ⊗ (p ⊗ b)) cancels p' q' p b

-- ---- points
-- u and v are one point, and both weights are positive
pub record SameWithWeights (u v : Spot) : Type 0 where
  pub same : SamePoint u v
  pub from : pos 0 <ℤ u.w
  pub to : pos 0 <ℤ v.w

stays : (v : Spot) → pos 0 <ℤ v.w → SameWithWeights v v
stays v p = record { same = record { x = refl; y = refl; z = refl }; from = p; to = p }

reach_moved : {u v : Spot} (n g : Plane) → SameWithWeights u v → v.w *ℤ position_along n g u ≡ u.w *ℤ position_along n g v
reach_moved {u} {v} n g m = rw (position_is_value_along n g u, position_is_value_along n g v) (same_value m.same (edge_direction n g))

edge_moved : {u v : Spot} (f : Face) (g : Plane) → SameWithWeights u v → is_on_edge f g u ≡ true → is_on_edge f g v ≡ true
edge_moved {u} {v} f g m e =
    let o = edge_out f g u e in
    edge_in f g v (record {
      flat = zero_moved u.w v.w (value_at f.support u) (value_at f.support v) m.from
          (same_value m.same f.support) o.closed.flat;
      weight = m.to;
      within =
          each_map (λ h. IsNotAbove h u) (λ h. IsNotAbove h v) f.edges
          (λ h l. record {
            at_most = most_moved u.w v.w (value_at h u) (value_at h v) m.from m.to (same_value m.same h)
                l.at_most;
          }) o.closed.within;
    }) (zero_moved u.w v.w (value_at g u) (value_at g v) m.from (same_value m.same g)
    o.zero)

before_moved : {u u' v v' : Spot} (n g : Plane) → SameWithWeights u u' → SameWithWeights v v' → IsBefore n g u v → IsBefore n g u' v'
before_moved {u} {u'} {v} {v'} n g a b h =
    record {
      before = lt_moved u.w v.w u'.w v'.w (position_along n g u) (position_along n g v) (position_along n g u')
          (position_along n g v') a.from b.from a.to b.to (reach_moved n g a) (reach_moved n g b) h.before;
    }

not_after_moved : {u u' v v' : Spot} (n g : Plane) → SameWithWeights u u' → SameWithWeights v v' → IsNotAfter n g u v → IsNotAfter n g u' v'
not_after_moved {u} {u'} {v} {v'} n g a b h =
    record {
      not_after = le_moved u.w v.w u'.w v'.w (position_along n g u) (position_along n g v)
          (position_along n g u') (position_along n g v') a.from b.from a.to b.to (reach_moved n g a) (reach_moved n g b)
          h.not_after;
    }

-- ---- edges
abbrev pub at_start : RingEdge → Spot → RingEdge
at_start e v = record e { start = v }

is_edge_moved : {end end' start' : Spot} (f : Face) (e : RingEdge) → SameWithWeights e.start start' →
    SameWithWeights end end' → IsEdge f e end → IsEdge f (at_start e start') end'
is_edge_moved {end} {end'} {start'} f e a b h =
    record {
      is_earliest = h.is_earliest;
      starts = edge_moved f e.plane a h.starts;
      ends = edge_moved f e.plane b h.ends;
      leads = before_moved f.support e.plane a b h.leads;
      from_start = λ v o. not_after_moved f.support e.plane a (stays v (edge_out f e.plane v o).closed.weight) (h.from_start v o);
      to_end = λ v o. not_after_moved f.support e.plane (stays v (edge_out f e.plane v o).closed.weight) b (h.to_end v o);
    }

-- ---- outlines
-- the same planes and the same start corners, these by other numbers
abbrev pub HaveSameStarts : List RingEdge → List RingEdge → Type 0
HaveSameStarts [] [] = Unit {0}
HaveSameStarts [] (e ∷ es) = ⊥
HaveSameStarts (d ∷ ds) [] = ⊥
HaveSameStarts (d ∷ ds) (e ∷ es) = (d.plane ≡ e.plane) × SameWithWeights d.start e.start × HaveSameStarts ds es

is_edge_of : {end end' : Spot} (f : Face) (d e : RingEdge) → d.plane ≡ e.plane → SameWithWeights d.start e.start →
    SameWithWeights end end' → IsEdge f d end → IsEdge f e end'
is_edge_of {end} {end'} f d e p a b h =
    subst (λ (c : RingEdge). IsEdge f c end') (λ i. record { plane = p i; start = e.start }) (is_edge_moved f d a b h)

path_moved : {end end' : Spot} (f : Face) (ds es : List RingEdge) → HaveSameStarts ds es → SameWithWeights end end' →
    IsEdgeChain f end ds → IsEdgeChain f end' es
path_moved f [] [] m k h = tt
path_moved f [] (e ∷ es) m k h = absurd m
path_moved f (d ∷ ds) [] m k h = absurd m
path_moved f (d ∷ []) (e ∷ []) m k h = is_edge_of f d e m.0 m.1 k h
path_moved f (d ∷ []) (e ∷ e' ∷ es) m k h = absurd m.2
path_moved f (d ∷ d' ∷ ds) (e ∷ []) m k h = absurd m.2
path_moved f (d ∷ d' ∷ ds) (e ∷ e' ∷ es) m k h =
    (is_edge_of f d e m.0 m.1 m.2.1 h.0, path_moved f (d' ∷ ds) (e' ∷ es) m.2 k h.1)

among_moved : (f : Face) (h : Plane) (ds es : List RingEdge) → HaveSameStarts ds es → HasEdgeOf f h ds → HasEdgeOf f h es
among_moved f h [] es m a = absurd a
among_moved f h (d ∷ ds) [] m a = absurd m
among_moved f h (d ∷ ds) (e ∷ es) m (inl s) = inl (subst (λ p. SameEdge f h p) m.0 s)
among_moved f h (d ∷ ds) (e ∷ es) m (inr a) = inr (among_moved f h ds es m.2 a)

other_moved : (f : Face) (p : Plane) (ds es : List RingEdge) → HaveSameStarts ds es →
    AllByRecursion (λ d. SameEdge f p d.plane → ⊥) ds → AllByRecursion (λ d. SameEdge f p d.plane → ⊥) es
other_moved f p [] [] m h = tt
other_moved f p [] (e ∷ es) m h = absurd m
other_moved f p (d ∷ ds) [] m h = absurd m
other_moved f p (d ∷ ds) (e ∷ es) m h =
    (subst (λ q. SameEdge f p q → ⊥) m.0 h.0, other_moved f p ds es m.2 h.1)

apart_moved : (f : Face) (ds es : List RingEdge) → HaveSameStarts ds es → HaveDistinctEdges f ds → HaveDistinctEdges f es
apart_moved f [] [] m h = tt
apart_moved f [] (e ∷ es) m h = absurd m
apart_moved f (d ∷ ds) [] m h = absurd m
apart_moved f (d ∷ ds) (e ∷ es) m h =
    (subst (λ q. AllByRecursion (λ c. SameEdge f q c.plane → ⊥) es) m.0 (other_moved f d.plane ds es m.2 h.0), apart_moved f ds es m.2 h.1)

-- an outline stays one if its start corners are written by other numbers
pub outline_moved : (f : Face) (ds es : List RingEdge) → HaveSameStarts ds es → IsOutline f ds → IsOutline f es
outline_moved f ds [] m o = absurd (by ds o.begins m)
  where
    by : (xs : List RingEdge) → xs ≡ o.first ∷ o.rest → HaveSameStarts xs [] → ⊥
    by [] e m = cc
    by (x ∷ xs) e m = m
outline_moved f [] (e ∷ es) m o = absurd m
outline_moved f (d ∷ ds) (e ∷ es) m o =
    let q : o.first ≡ d = first o.begins in
    record {
      first = e;
      rest = es;
      begins = refl;
      earliest = subst (λ p. IsEarliest (λ h. HasEdge f h) f.edges p) (ap (λ (c : RingEdge). c.plane) q ∙ m.0) o.earliest;
      round = path_moved f (d ∷ ds) (e ∷ es) m (subst (λ (c : RingEdge). SameWithWeights c.start e.start) (sym q) m.1) o.round;
      all = λ i h g c. among_moved f h (d ∷ ds) (e ∷ es) m (o.all i h g c);
      once = apart_moved f (d ∷ ds) (e ∷ es) m o.once;
    }
  where
    first : {x : RingEdge} {xs : List RingEdge} → d ∷ ds ≡ x ∷ xs → x ≡ d
    first e = cc
