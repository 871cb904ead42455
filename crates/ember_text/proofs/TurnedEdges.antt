-- The edges of an outline as they go round seen from the other side, edge by edge from the last one back.
use Rattle.std.proofs.Common.{◌≡◌, refl, sym, ap, subst, ◌∙◌, arith, ℕ, zero, suc, ◌<◌, ◌≤◌, List, [], ◌∷◌, ◌++◌, length, drop}
use Rattle.std.proofs.lemmas.List.{length-append}
use lib.ListN.{get_or}
use Rattle.ember_algebra.specs.Relations.{Each}
use Rattle.ember_leaf.specs.Written.{HasGrown}
use Rattle.ember_model.specs.declared.plane.Plane.{Plane}
use Rattle.ember_model.specs.declared.point.Spot.{Spot}
use Rattle.ember_model.specs.declared.face.Face.{Face}
use Rattle.ember_model.specs.Faces.{flipped_face}
use Rattle.ember_model.specs.Edges.{RingEdge, IsOutline}
use Rattle.ember_model.specs.Planes.{zero_plane}
use Rattle.ember_point.specs.declared.meet_point.Meet.{Meet}
use Rattle.ember_point.specs.Points.{spot_of}
use Rattle.ember_poly.specs.Sides.{ring_edges}
use Rattle.ember_poly.proofs.TurnedOutline.{from_end, turn_back, outline_turned}
use Rattle.ember_text.specs.Texts.{IsEdgeText, edge_with, turned}
use Rattle.ember_text.proofs.GrownBytes.{grown_none, grown_push}

-- the first edge, and those from the last one back to place n
abbrev pub turned_from : List RingEdge → ℕ → List RingEdge
turned_from [] n = []
turned_from (e ∷ []) n = []
turned_from (e ∷ d ∷ es) n = from_end e d.start ∷ turn_back e.start (drop n (e ∷ d ∷ es))

-- turned edges, counted down to 1, are all of them
pub turned_all : (rs : List RingEdge) → 2 ≤ length rs → turned_from rs 1 ≡ turned rs
turned_all [] t = absurd (omega (arith, t))
turned_all (e ∷ []) t = absurd (omega (arith, t))
turned_all (e ∷ d ∷ es) t = refl

-- ---- the last edge
back_last : (end : Spot) (e : Plane) (es : List Plane) (u : Meet) (ms : List Meet) → length ms ≡ length es →
    turn_back end (drop (length es) (ring_edges spot_of (e ∷ es) (u ∷ ms))) ≡ record {
      plane =
          get_or (e ∷ es) (length es) zero_plane;
      start = end;
    } ∷ []
back_last end e [] u [] p = refl
back_last end e [] u (v ∷ ms) p = absurd (omega (arith, p))
back_last end e (f ∷ es) u [] p = absurd (omega (arith, p))
back_last end e (f ∷ es) u (v ∷ ms) p = back_last end f es v ms (omega (arith, p))

two_turned : (es : List Plane) (ms : List Meet) (n : ℕ) (u v : Meet) → length ms ≡ length es → 2 ≤ length es →
    suc n ≡ length es → u ≡ get_or ms 0 u → v ≡ get_or ms 1 v →
    turned_from (ring_edges spot_of es ms) n ≡ edge_with (get_or es 0 zero_plane) v ∷ edge_with (get_or es n zero_plane) u ∷ []
two_turned [] ms n u v p t s a b = absurd (omega (arith, t))
two_turned (e ∷ []) ms n u v p t s a b = absurd (omega (arith, t))
two_turned (e ∷ f ∷ es) [] n u v p t s a b = absurd (omega (arith, p))
two_turned (e ∷ f ∷ es) (x ∷ []) n u v p t s a b = absurd (omega (arith, p))
two_turned (e ∷ f ∷ es) (x ∷ y ∷ ms) n u v p t s a b =
    let q : n ≡ length (f ∷ es) = omega (arith, s) in
    rw (q, a, b) (ap (λ xs. edge_with e y ∷ xs) (back_last (spot_of x) e (f ∷ es) x (y ∷ ms) (omega (arith, p))))

-- the first two turned edges: the first edge, and the last one
pub turned_begun : (es : List Plane) (ms : List Meet) (n : ℕ) (u v : Meet) (old : List ℕ) {mid new : List ℕ} →
    length ms ≡ length es → 2 ≤ length es → suc n ≡ length es → u ≡ get_or ms 0 u → v ≡ get_or ms 1 v →
    HasGrown (IsEdgeText (edge_with (get_or es 0 zero_plane) v)) old mid →
    HasGrown (IsEdgeText (edge_with (get_or es n zero_plane) u)) mid new →
    HasGrown (Each IsEdgeText (turned_from (ring_edges spot_of es ms) n)) old new
turned_begun es ms n u v old {mid} {new} p t s a b g h =
    let one = edge_with (get_or es 0 zero_plane) v in let two = edge_with (get_or es n zero_plane) u in
    subst (λ rs. HasGrown (Each IsEdgeText rs) old new) (sym (two_turned es ms n u v p t s a b))
    (grown_push (one ∷ []) two old (grown_push [] one old (grown_none old) g) h)

-- ---- one edge more
back_more : (end : Spot) (es : List Plane) (ms : List Meet) (k : ℕ) (m : Meet) → length ms ≡ length es →
    suc k < length es → m ≡ get_or ms (suc k) m → turn_back end (drop k (ring_edges spot_of es ms)) ≡ turn_back end
    (drop (suc k) (ring_edges spot_of es ms)) ++ edge_with (get_or es k zero_plane) m ∷ []
back_more end [] ms k m p l h = absurd (omega (arith, l))
back_more end (e ∷ []) ms k m p l h = absurd (omega (arith, l))
back_more end (e ∷ f ∷ es) [] k m p l h = absurd (omega (arith, p))
back_more end (e ∷ f ∷ es) (u ∷ []) k m p l h = absurd (omega (arith, p))
back_more end (e ∷ f ∷ es) (u ∷ v ∷ ms) zero m p l h =
    ap (λ (x : Meet). turn_back end (ring_edges spot_of (f ∷ es) (v ∷ ms)) ++ edge_with e x ∷ []) (sym h)
back_more end (e ∷ f ∷ es) (u ∷ v ∷ ms) (suc k) m p l h =
    back_more end (f ∷ es) (v ∷ ms) k m (omega (arith, p)) (omega (arith, l)) h

more_turned : (es : List Plane) (ms : List Meet) (k : ℕ) (m : Meet) → length ms ≡ length es → suc k < length es →
    m ≡ get_or ms (suc k) m → turned_from (ring_edges spot_of es ms) k ≡ turned_from (ring_edges spot_of es ms) (suc k)
    ++ edge_with (get_or es k zero_plane) m ∷ []
more_turned [] ms k m p l h = absurd (omega (arith, l))
more_turned (e ∷ []) ms k m p l h = absurd (omega (arith, l))
more_turned (e ∷ f ∷ es) [] k m p l h = absurd (omega (arith, p))
more_turned (e ∷ f ∷ es) (u ∷ []) k m p l h = absurd (omega (arith, p))
more_turned (e ∷ f ∷ es) (u ∷ v ∷ ms) k m p l h =
    ap (λ xs. edge_with e v ∷ xs) (back_more (spot_of u) (e ∷ f ∷ es) (u ∷ v ∷ ms) k m p l h)

-- one more turned edge
pub turned_more : (es : List Plane) (ms : List Meet) (n k j : ℕ) (m : Meet) (old : List ℕ) {mid new : List ℕ} →
    length ms ≡ length es → n < length es → n ≡ suc k → j ≡ suc k → m ≡ get_or ms j m →
    HasGrown (Each IsEdgeText (turned_from (ring_edges spot_of es ms) n)) old mid →
    HasGrown (IsEdgeText (edge_with (get_or es k zero_plane) m)) mid new →
    HasGrown (Each IsEdgeText (turned_from (ring_edges spot_of es ms) k)) old new
turned_more es ms n k j m old {mid} {new} p l en ej h a b =
    let at : m ≡ get_or ms (suc k) m = subst (λ i. m ≡ get_or ms i m) ej h in
    let begun = subst (λ i. HasGrown (Each IsEdgeText (turned_from (ring_edges spot_of es ms) i)) old mid) en a in
    subst (λ rs. HasGrown (Each IsEdgeText rs) old new) (sym (more_turned es ms k m p (omega (arith, l, en)) at))
    (grown_push (turned_from (ring_edges spot_of es ms) (suc k)) (edge_with (get_or es k zero_plane) m) old begun b)

-- ---- all of them
length-back : (end : Spot) (rs : List RingEdge) → length (turn_back end rs) ≡ length rs
length-back end [] = refl
length-back end (e ∷ []) = refl
length-back end (e ∷ d ∷ rs) =
    length-append (turn_back end (d ∷ rs)) (from_end e d.start ∷ []) ∙ omega (arith, length-back end (d ∷ rs))

-- turning keeps the number of edges
pub length-turned : (rs : List RingEdge) → length (turned rs) ≡ length rs
length-turned [] = refl
length-turned (e ∷ []) = refl
length-turned (e ∷ d ∷ rs) = ap (λ n. suc n) (length-back e.start (d ∷ rs))

-- the turned outline of a face is an outline of the flipped face
pub outline_of_turned : (f : Face) (rs : List RingEdge) → 2 ≤ length rs → IsOutline f rs → IsOutline (flipped_face f) (turned rs)
outline_of_turned f [] t o = absurd (omega (arith, t))
outline_of_turned f (e ∷ []) t o = absurd (omega (arith, t))
outline_of_turned f (e ∷ d ∷ rs) t o = outline_turned f e d rs o
