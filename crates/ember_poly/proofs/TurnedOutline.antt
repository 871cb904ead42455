-- The outline of a face seen from the other side.
use Rattle.std.proofs.Common.{◌≡◌, inl, inr, refl, sym, ap, subst, ◌∙◌, arith, not, ◌&&◌, List, [], ◌∷◌, ◌++◌}
use Rattle.std.proofs.Common.{ℤ, ◌*ℤ◌, neg_ℤ, ◌<ℤ◌, ◌≤ℤ◌}
use Rattle.std.specs.List.{AllByRecursion, list_all}
use Rattle.ember_algebra.specs.Sign.{is_zero, is_positive}
use Rattle.ember_algebra.proofs.Laws.{linear}
use Rattle.ember_algebra.proofs.Ring.{◌⊗◌, neg, ◌≈◌, solve, cancels}
use Rattle.ember_algebra.proofs.Vectors.{tuple, identity, dotE, crossE}
use Rattle.ember_model.specs.declared.plane.Plane.{Plane}
use Rattle.ember_model.specs.declared.point.Spot.{Spot}
use Rattle.ember_model.specs.declared.face.Face.{Face}
use Rattle.ember_model.specs.Planes.{value_at, opposite}
use Rattle.ember_model.specs.Faces.{flipped_face}
use Rattle.ember_model.specs.Edges.{is_on_edge, HasEdge, SameEdge, IsEarliest, position_along, IsBefore, IsNotAfter}
use Rattle.ember_model.specs.Edges.{RingEdge, IsEdge, IsEdgeChain, HasEdgeOf, HaveDistinctEdges, IsOutline}
use Rattle.ember_model.proofs.Tuples.{plane_tuple, spot_tuple, normalE}
use Rattle.ember_model.proofs.SignTests.{is_zero-neg}
use Rattle.ember_model.proofs.PlaneValues.{value-opposite}
use Rattle.ember_poly.proofs.Chains.{each-push}
use Rattle.ember_poly.proofs.InsideSigns.{oppositeE}

-- ---- the same points, the opposite way
on_turned : (f : Face) (g : Plane) (v : Spot) → is_on_edge (flipped_face f) g v ≡ is_on_edge f g v
on_turned f g v =
    ap (λ b. (is_positive v.w && (b && list_all (λ e. not (is_positive (value_at e v))) f.edges))
    && is_zero (value_at g v)) (ap is_zero (value-opposite f.support v) ∙ is_zero-neg (value_at f.support v))

same_turned : (f : Face) (g h : Plane) → SameEdge f g h → SameEdge (flipped_face f) g h
same_turned f g h e v = on_turned f g v ∙ e v ∙ sym (on_turned f h v)

same_back : (f : Face) (g h : Plane) → SameEdge (flipped_face f) g h → SameEdge f g h
same_back f g h e v = sym (on_turned f g v) ∙ e v ∙ on_turned f h v

counts_turned : (f : Face) (g : Plane) → HasEdge f g → HasEdge (flipped_face f) g
counts_turned f g c =
    record {
      one = c.one;
      other = c.other;
      holds_one = on_turned f g c.one ∙ c.holds_one;
      holds_other =
          on_turned f g c.other ∙ c.holds_other;
      different = c.different;
    }

counts_back : (f : Face) (g : Plane) → HasEdge (flipped_face f) g → HasEdge f g
counts_back f g c =
    record {
      one = c.one;
      other = c.other;
      holds_one = sym (on_turned f g c.one) ∙ c.holds_one;
      holds_other =
          sym (on_turned f g c.other) ∙ c.holds_other;
      different = c.different;
    }

reach_turned : (n g : Plane) (v : Spot) → position_along (opposite n) g v ≡ neg_ℤ (position_along n g v)
reach_turned n g v =
    identity (tuple ∷ tuple ∷ tuple ∷ []) (λ n g v. dotE (crossE (normalE (oppositeE n)) (normalE g)) (normalE v) ≈ neg
    (dotE (crossE (normalE n) (normalE g)) (normalE v))) cancels (plane_tuple n) (plane_tuple g) (spot_tuple v)

before_turned : (n g : Plane) (u v : Spot) → IsBefore n g u v → IsBefore (opposite n) g v u
before_turned n g u v h =
    record { before = rw (reach_turned n g u, reach_turned n g v) (flip v.w (position_along n g u) u.w (position_along n g v) h.before) }
  where
    flip : (p a q b : ℤ) → (p *ℤ a) <ℤ (q *ℤ b) → (q *ℤ neg_ℤ b) <ℤ (p *ℤ neg_ℤ a)
    flip p a q b l =
        omega (arith, linear, l, solve 2 (λ p a. p ⊗ neg a ≈ neg (p ⊗ a)) cancels p a, solve 2 (λ p a. p ⊗ neg a ≈ neg (p ⊗ a)) cancels q b)

not_after_turned : (n g : Plane) (u v : Spot) → IsNotAfter n g u v → IsNotAfter (opposite n) g v u
not_after_turned n g u v h =
    record { not_after = rw (reach_turned n g u, reach_turned n g v) (flip v.w (position_along n g u) u.w (position_along n g v) h.not_after) }
  where
    flip : (p a q b : ℤ) → (p *ℤ a) ≤ℤ (q *ℤ b) → (q *ℤ neg_ℤ b) ≤ℤ (p *ℤ neg_ℤ a)
    flip p a q b l =
        omega (arith, linear, l, solve 2 (λ p a. p ⊗ neg a ≈ neg (p ⊗ a)) cancels p a, solve 2 (λ p a. p ⊗ neg a ≈ neg (p ⊗ a)) cancels q b)

-- the edge from its end to its start
abbrev pub from_end : RingEdge → Spot → RingEdge
from_end e end = record e { start = end }

edge_turned : (f : Face) (e : RingEdge) (end : Spot) → IsEdge f e end → IsEdge (flipped_face f) (from_end e end) e.start
edge_turned f e end h =
    record {
      is_earliest = record {
        index = h.is_earliest.index;
        here = h.is_earliest.here;
        holds =
            same_turned f e.plane e.plane h.is_earliest.holds;
        earliest =
            λ i g l k s. h.is_earliest.earliest i g l k (same_back f g e.plane s);
      };
      starts = on_turned f e.plane end ∙ h.ends;
      ends = on_turned f e.plane e.start ∙ h.starts;
      leads = before_turned f.support e.plane e.start end h.leads;
      from_start = λ v o. not_after_turned f.support e.plane v end (h.to_end v (sym (on_turned f e.plane v) ∙ o));
      to_end = λ v o. not_after_turned f.support e.plane e.start v (h.from_start v (sym (on_turned f e.plane v) ∙ o));
    }

-- ---- a path backwards
abbrev pub turn_back : Spot → List RingEdge → List RingEdge
turn_back end [] = []
turn_back end (e ∷ []) = from_end e end ∷ []
turn_back end (e ∷ d ∷ es) = turn_back end (d ∷ es) ++ from_end e d.start ∷ []

abbrev StartsAt : Spot → List RingEdge → Type 0
StartsAt v [] = ⊥
StartsAt v (e ∷ es) = e.start ≡ v

starts_push : (v : Spot) (xs ys : List RingEdge) → StartsAt v xs → StartsAt v (xs ++ ys)
starts_push v [] ys h = absurd h
starts_push v (x ∷ xs) ys h = h

back_starts : (end : Spot) (e : RingEdge) (es : List RingEdge) → StartsAt end (turn_back end (e ∷ es))
back_starts end e [] = refl
back_starts end e (d ∷ es) =
    starts_push end (turn_back end (d ∷ es)) (from_end e d.start ∷ []) (back_starts end d es)

path_push : (f : Face) (end : Spot) (xs : List RingEdge) (d : RingEdge) → IsEdgeChain f d.start xs → IsEdge f d end → IsEdgeChain f end (xs ++ d ∷ [])
path_push f end [] d p h = h
path_push f end (x ∷ []) d p h = (p, h)
path_push f end (x ∷ y ∷ xs) d p h = (p.0, path_push f end (y ∷ xs) d p.1 h)

path_cons : (f : Face) (end at : Spot) (d : RingEdge) (xs : List RingEdge) → IsEdge f d at → StartsAt at xs → IsEdgeChain f end xs → IsEdgeChain f end (d ∷ xs)
path_cons f end at d [] h s p = absurd s
path_cons f end at d (x ∷ xs) h s p = (subst (λ v. IsEdge f d v) (sym s) h, p)

path_back : (f : Face) (end : Spot) (e : RingEdge) (es : List RingEdge) → IsEdgeChain f end (e ∷ es) →
    IsEdgeChain (flipped_face f) e.start (turn_back end (e ∷ es))
path_back f end e [] p = edge_turned f e end p
path_back f end e (d ∷ es) p =
    path_push (flipped_face f) e.start (turn_back end (d ∷ es)) (from_end e d.start) (path_back f end d es p.1) (edge_turned f e d.start p.0)

-- ---- members
among_turned : (f : Face) (h : Plane) (es : List RingEdge) → HasEdgeOf f h es → HasEdgeOf (flipped_face f) h es
among_turned f h [] a = absurd a
among_turned f h (e ∷ es) (inl s) = inl (same_turned f h e.plane s)
among_turned f h (e ∷ es) (inr a) = inr (among_turned f h es a)

among_left : (f : Face) (h : Plane) (xs ys : List RingEdge) → HasEdgeOf f h xs → HasEdgeOf f h (xs ++ ys)
among_left f h [] ys a = absurd a
among_left f h (x ∷ xs) ys (inl s) = inl s
among_left f h (x ∷ xs) ys (inr a) = inr (among_left f h xs ys a)

among_last : (f : Face) (h : Plane) (xs : List RingEdge) (e : RingEdge) → SameEdge f h e.plane → HasEdgeOf f h (xs ++ e ∷ [])
among_last f h [] e s = inl s
among_last f h (x ∷ xs) e s = inr (among_last f h xs e s)

among_back : (f : Face) (h : Plane) (end : Spot) (es : List RingEdge) → HasEdgeOf f h es → HasEdgeOf f h (turn_back end es)
among_back f h end [] a = a
among_back f h end (e ∷ []) (inl s) = inl s
among_back f h end (e ∷ []) (inr a) = absurd a
among_back f h end (e ∷ d ∷ es) (inl s) = among_last f h (turn_back end (d ∷ es)) (from_end e d.start) s
among_back f h end (e ∷ d ∷ es) (inr a) =
    among_left f h (turn_back end (d ∷ es)) (from_end e d.start ∷ []) (among_back f h end (d ∷ es) a)

each_edge_back : (P : Plane → Type 0) (end : Spot) (es : List RingEdge) → AllByRecursion (λ e. P e.plane) es →
    AllByRecursion (λ e. P e.plane) (turn_back end es)
each_edge_back P end [] h = tt
each_edge_back P end (e ∷ []) h = (h.0, tt)
each_edge_back P end (e ∷ d ∷ es) h =
    each-push (λ e. P e.plane) (turn_back end (d ∷ es)) (from_end e d.start) (each_edge_back P end (d ∷ es) h.1) h.0

each_swap : (f : Face) (p : Plane) (es : List RingEdge) → AllByRecursion (λ d. SameEdge f p d.plane → ⊥) es → AllByRecursion (λ d. SameEdge f d.plane p → ⊥) es
each_swap f p [] h = tt
each_swap f p (e ∷ es) h = (λ s. h.0 (λ v. sym (s v)), each_swap f p es h.1)

each_turned : (f : Face) (p : Plane) (es : List RingEdge) → AllByRecursion (λ d. SameEdge f p d.plane → ⊥) es →
    AllByRecursion (λ d. SameEdge (flipped_face f) p d.plane → ⊥) es
each_turned f p [] h = tt
each_turned f p (e ∷ es) h = (λ s. h.0 (same_back f p e.plane s), each_turned f p es h.1)

apart_turned : (f : Face) (es : List RingEdge) → HaveDistinctEdges f es → HaveDistinctEdges (flipped_face f) es
apart_turned f [] h = tt
apart_turned f (e ∷ es) h = (each_turned f e.plane es h.0, apart_turned f es h.1)

apart_push : (f : Face) (xs : List RingEdge) (e : RingEdge) → HaveDistinctEdges f xs →
    AllByRecursion (λ d. SameEdge f d.plane e.plane → ⊥) xs → HaveDistinctEdges f (xs ++ e ∷ [])
apart_push f [] e h k = (tt, tt)
apart_push f (x ∷ xs) e h k =
    (each-push (λ d. SameEdge f x.plane d.plane → ⊥) xs e h.0 k.0, apart_push f xs e h.1 k.1)

apart_back : (f : Face) (end : Spot) (es : List RingEdge) → HaveDistinctEdges f es → HaveDistinctEdges f (turn_back end es)
apart_back f end [] h = tt
apart_back f end (e ∷ []) h = (tt, tt)
apart_back f end (e ∷ d ∷ es) h =
    apart_push f (turn_back end (d ∷ es)) (from_end e d.start) (apart_back f end (d ∷ es) h.1)
    (each_edge_back (λ p. SameEdge f p e.plane → ⊥) end (d ∷ es) (each_swap f e.plane (d ∷ es) h.0))

-- ---- the outline
-- the first edge first, and then the others from the last to the second, each from its end to its start
abbrev pub turned_outline : RingEdge → RingEdge → List RingEdge → List RingEdge
turned_outline e d es = from_end e d.start ∷ turn_back e.start (d ∷ es)

-- the outline of a face, turned back, is that of the flipped face
pub outline_turned : (f : Face) (e d : RingEdge) (es : List RingEdge) → IsOutline f (e ∷ d ∷ es) → IsOutline (flipped_face f) (turned_outline e d es)
outline_turned f e d es o =
    let q : o.first ≡ e = first o.begins in
    let round : IsEdgeChain f e.start (e ∷ d ∷ es) = subst (λ (c : RingEdge). IsEdgeChain f c.start (e ∷ d ∷ es)) q o.round in
    record {
      first = from_end e d.start;
      rest = turn_back e.start (d ∷ es);
      begins = refl;
      earliest = early (subst (λ (c : RingEdge). IsEarliest (λ h. HasEdge f h) f.edges c.plane) q o.earliest);
      round = path_cons (flipped_face f) d.start e.start (from_end e d.start) (turn_back e.start (d ∷ es))
          (edge_turned f e d.start round.0) (back_starts e.start d es) (path_back f e.start d es round.1);
      all = λ i h k c. member h (among_turned f h (e ∷ d ∷ es) (o.all i h k (counts_back f h c)));
      once = (
        each_edge_back (λ p. SameEdge (flipped_face f) e.plane p →
            ⊥) e.start (d ∷ es) (each_turned f e.plane (d ∷ es) o.once.0),
        apart_back (flipped_face f) e.start (d ∷ es) (apart_turned f (d ∷ es) o.once.1),
      );
    }
  where
    first : {x : RingEdge} {xs : List RingEdge} → e ∷ d ∷ es ≡ x ∷ xs → x ≡ e
    first e = cc

    early : IsEarliest (λ h. HasEdge f h) f.edges e.plane → IsEarliest (λ h. HasEdge (flipped_face f) h) f.edges e.plane
    early s =
        record { index = s.index; here = s.here; holds = counts_turned f e.plane s.holds; earliest = λ i h l k c. s.earliest i h l k (counts_back f h c) }

    member : (h : Plane) → HasEdgeOf (flipped_face f) h (e ∷ d ∷ es) → HasEdgeOf (flipped_face f) h (turned_outline e d es)
    member h (inl s) = inl s
    member h (inr a) = inr (among_back (flipped_face f) h e.start (d ∷ es) a)
