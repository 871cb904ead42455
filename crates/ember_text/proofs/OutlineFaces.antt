-- The face of a ring's outline, and that of the flipped face.
use Rattle.std.proofs.Common.{◌≡◌, ℕ, ◌+◌, ◌<◌, ◌≤◌, refl, sym, ap, subst, ◌∙◌, arith, List, [], ◌∷◌, ◌++◌, length, map, take, drop, reverse, get_or, All}
use Rattle.std.specs.List.{AllByRecursion}
use Rattle.std.proofs.lemmas.List.{length-map, map-append, reverse-append, take_more}
use Rattle.std.proofs.lemmas.List.Elements.{AllZip-push, recursion_from_All}
use Rattle.ember_leaf.specs.declared.kept.Kept.{Kept}
use Rattle.ember_model.specs.declared.plane.Plane.{Plane}
use Rattle.ember_model.specs.declared.point.Spot.{Spot}
use Rattle.ember_model.specs.declared.face.Face.{Face}
use Rattle.ember_model.specs.Faces.{flipped_face}
use Rattle.ember_model.specs.Planes.{opposite}
use Rattle.ember_model.specs.Edges.{RingEdge, IsOutline}
use Rattle.ember_width.specs.declared.width.Width.{Ghosts}
use Rattle.ember_poly.specs.Sides.{ring_edges}
use Rattle.ember_poly.proofs.Chains.{each-push}
use Rattle.ember_poly.proofs.TurnedOutline.{from_end, turn_back}
use Rattle.ember_text.specs.OutlineFaces.{IsPointOf, IsEdgeOf, IsOutlineFace, AreOutlineFaces}
use Rattle.ember_text.specs.Documents.{written_face}
use Rattle.ember_text.specs.Texts.{turned}
use Rattle.ember_text.proofs.TurnedEdges.{length-turned, outline_of_turned}

abbrev pub planes_of : List RingEdge → List Plane
planes_of es = map (λ (e : RingEdge). e.plane) es

-- ---- the edges of a ring
-- have its planes
ring_planes : {M : Type 0} (spot : M → Spot) (es : List Plane) (ms : List M) → length ms ≡ length es → planes_of (ring_edges spot es ms) ≡ es
ring_planes spot [] ms p = refl
ring_planes spot (e ∷ es) [] p = absurd (omega (arith, p))
ring_planes spot (e ∷ es) (m ∷ ms) p = let rest = ring_planes spot es ms (omega (arith, p)) in λ i. e ∷ rest i

-- and are of the grid
ring_edges_of : {W M : Type 0} (G : Ghosts W M) (es : List Plane) (ms : List M) → length ms ≡ length es →
    AllByRecursion G.IsPlane es → AllByRecursion (IsEdgeOf G) (ring_edges G.spot es ms)
ring_edges_of G [] ms p v = tt
ring_edges_of G (e ∷ es) [] p v = absurd (omega (arith, p))
ring_edges_of G (e ∷ es) (m ∷ ms) p v =
    (record { plane = v.0; start = record { point = m; is = refl } }, ring_edges_of G es ms (omega (arith, p)) v.1)

-- ---- the other way round
planes_back : (end : Spot) (es : List RingEdge) → planes_of (turn_back end es) ≡ reverse (planes_of es)
planes_back end [] = refl
planes_back end (e ∷ []) = refl
planes_back end (e ∷ d ∷ es) =
    map-append (λ (e : RingEdge). e.plane) (turn_back end (d ∷ es)) (from_end e d.start ∷ [])
    ∙ ap (λ (ps : List Plane). ps ++ e.plane ∷ []) (planes_back end (d ∷ es))
    ∙ sym (reverse-append (e.plane ∷ []) (planes_of (d ∷ es)))

edges_back : {W M : Type 0} (G : Ghosts W M) (end : Spot) (es : List RingEdge) → IsPointOf G end →
    AllByRecursion (IsEdgeOf G) es → AllByRecursion (IsEdgeOf G) (turn_back end es)
edges_back G end [] c w = tt
edges_back G end (e ∷ []) c w = (record { plane = w.0.plane; start = c }, tt)
edges_back G end (e ∷ d ∷ es) c w =
    each-push (IsEdgeOf G) (turn_back end (d ∷ es)) (from_end e d.start) (edges_back G end (d ∷ es) c w.1)
    (record { plane = w.0.plane; start = w.1.0.start })

-- the planes of a turned outline: the first one first, and then the others from the last one on
abbrev pub turned_planes : List Plane → List Plane
turned_planes ps = take 1 ps ++ reverse (drop 1 ps)

planes_turned : (es : List RingEdge) → planes_of (turned es) ≡ turned_planes (planes_of es)
planes_turned [] = refl
planes_turned (e ∷ []) = refl
planes_turned (e ∷ d ∷ es) = ap (λ (ps : List Plane). e.plane ∷ ps) (planes_back e.start (d ∷ es))

edges_turned : {W M : Type 0} (G : Ghosts W M) (es : List RingEdge) → AllByRecursion (IsEdgeOf G) es → AllByRecursion (IsEdgeOf G) (turned es)
edges_turned G [] w = tt
edges_turned G (e ∷ []) w = w
edges_turned G (e ∷ d ∷ es) w =
    (record { plane = w.0.plane; start = w.1.0.start }, edges_back G e.start (d ∷ es) w.0.start w.1)

-- ---- the face of a ring
module _ {W M : Type 0} (G : Ghosts W M) (f : Face) (n : Plane) (es : List Plane) (ms : List M) (support : n ≡ f.support)
    (outline : IsOutline f (ring_edges G.spot es ms)) (paired : length ms ≡ length es) (three : 3 ≤ length es)
    (valid : All G.IsPlane es) where
  abbrev edges : List RingEdge
  edges = ring_edges G.spot es ms

  are_of : AllByRecursion (IsEdgeOf G) edges
  are_of = ring_edges_of G es ms paired (recursion_from_All G.IsPlane es valid)

  same_planes : planes_of edges ≡ es
  same_planes = ring_planes G.spot es ms paired

  long : length edges ≡ length es
  long = sym (length-map edges (λ (e : RingEdge). e.plane)) ∙ ap (λ (ps : List Plane). length ps) same_planes

  -- the planes of a ring's outline, in order
  pub ring_outline_face : (planes : List Plane) → G.IsPlane n → planes ≡ es → IsOutlineFace G f (record { support = n; edges = planes })
  ring_outline_face planes v e = record {
    outline = edges;
    is_outline = outline;
    edges = are_of;
    at_least_three = omega (arith, long, three);
    support = subst G.IsPlane support v;
    is = λ i. record { support = support i; edges = (e ∙ sym same_planes) i };
  }

  -- the face with the opposite front has the planes in the turned order
  pub flipped_outline_face : (m : Plane) (planes : List Plane) → m ≡ opposite n → G.IsPlane m →
      planes ≡ turned_planes es → IsOutlineFace G (flipped_face f) (record { support = m; edges = planes })
  flipped_outline_face m planes turned_over v e =
      let front : m ≡ opposite f.support = turned_over ∙ ap opposite support in
      record {
        outline = turned edges;
        is_outline = outline_of_turned f edges (omega (arith, long, three)) outline;
        edges = edges_turned G edges are_of;
        at_least_three = omega (arith, length-turned edges, long, three);
        support = subst G.IsPlane front v;
        is = λ i. record {
          support = front i;
          edges = (e ∙ ap turned_planes (sym same_planes) ∙ sym (planes_turned edges)) i;
        };
      }

-- ---- region by region
-- one more region's face
pub one_more_face : {W M : Type 0} (G : Ghosts W M) (ks : List (Kept W M)) (i : ℕ) (d : Kept W M) (gs : List Face) (g : Face) {hs : List Face} →
    i < length ks → AreOutlineFaces G (map written_face (take i ks)) gs → IsOutlineFace G (written_face (get_or ks i d)) g →
    hs ≡ gs ++ g ∷ [] → AreOutlineFaces G (map written_face (take (i + 1) ks)) hs
one_more_face {W} {M} G ks i d gs g {hs} l so_far one e =
    let k = get_or ks i d in
    let f : map written_face (take (i + 1) ks) ≡ map written_face (take i ks) ++ written_face k ∷ [] =
    ap (λ (xs : List (Kept W M)). map written_face xs) (take_more ks i d l)
    ∙ map-append written_face (take i ks) (k ∷ []) in
    rw (e, f) (AllZip-push (IsOutlineFace G) (map written_face (take i ks)) gs (written_face k) g so_far one)
