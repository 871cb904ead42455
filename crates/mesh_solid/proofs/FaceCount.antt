-- The edges of an outlined face, as a ray from a point of its plane passes them: once in sum if the point is inside.
use Rattle.std.proofs.Common.{◌≡◌, ◌≢◌, refl, ap, subst, ◌∙◌, arith, Bool, true, false, not, cond, ◌&&◌, List, [], ◌∷◌, map, ℤ, pos, ◌+ℤ◌, ◌*ℤ◌, ◌<ℤ◌}
use Rattle.std.specs.Bool.{⊤}
use Rattle.std.specs.List.{AllByRecursion}
use Rattle.std.proofs.lemmas.Bool.{and_parts}
use Rattle.ember_algebra.specs.Vector.{Vector, zero_v, scale_v, dot, cross}
use Rattle.ember_algebra.specs.Sign.{is_negative, is_positive, sign}
use Rattle.ember_algebra.specs.Sums.{total}
use Rattle.ember_algebra.proofs.Laws.{linear}
use Rattle.ember_algebra.proofs.Ring.{◌≈◌, num, cancels}
use Rattle.ember_algebra.proofs.Vectors.{scalar, vector, identity, dotE, crossE, scaleE}
use Rattle.ember_model.specs.declared.plane.Plane.{Plane}
use Rattle.ember_model.specs.declared.point.Spot.{Spot}
use Rattle.ember_model.specs.declared.face.Face.{Face}
use Rattle.ember_model.specs.ClearTest.{none_positive, all_negative}
use Rattle.ember_model.specs.Edges.{RingEdge, IsEdge, IsEdgeChain, HaveDistinctEdges, SameEdge, normal}
use Rattle.ember_model.specs.FaceFiles.{WrittenFace}
use Rattle.ember_model.specs.Faces.{between}
use Rattle.ember_model.specs.Planes.{value_at}
use Rattle.ember_model.proofs.Legs.{value_between}
use Rattle.ember_model.proofs.SignTests.{negative_out}
use Rattle.ember_poly.proofs.Chains.{each_map}
use Rattle.ember_meaning.specs.Closed.Chains.{DirectedEdge, edges_to, directed_edges, face_from, IsOutlined}
use Rattle.ember_meaning.proofs.RectangleRound.{IsGeneral, IsGeneralFace}
use Rattle.ember_meaning.proofs.EdgeForm.{once_round}
use Rattle.ember_meaning.specs.Regions.Meaning.{one_if}
use Rattle.mesh_solid.proofs.Halves.{AtEnds, none_above, leaving, all_at_first, all_at_last, AreApart, leaving_tells}
use Rattle.mesh_solid.proofs.Seen.{height, passing_at}
use Rattle.mesh_solid.proofs.EdgeCount.{far, edge_count}
use Rattle.mesh_solid.proofs.Skew.{IsSkew, skew_is_general, skew_apart}
use Rattle.mesh_solid.proofs.Bounded.{some_edge_climbs}

-- each two edges are skew, in their order
abbrev pub ArePairsSkew : Plane → Vector → Spot → List RingEdge → Type 0
ArePairsSkew n e x [] = ⊤
ArePairsSkew n e x (k ∷ es) = AllByRecursion (λ d. IsSkew n e x k.plane d.plane) es × ArePairsSkew n e x es

abbrev pub planes_of : List RingEdge → List Plane
planes_of es = map (λ (k : RingEdge). k.plane) es

-- x is on no edge's line and no edge is parallel to e, no two edges' lines meet on the ray, and no corner is on it
pub record IsGeneralHit (w : WrittenFace) (e : Vector) (x : Spot) : Type 0 where
  pub weight : pos 0 <ℤ x.w
  pub flat : value_at w.support x ≡ pos 0
  pub level : dot (normal w.support) e ≡ pos 0
  pub some : normal w.support ≢ zero_v
  pub values : AllByRecursion (λ k. (value_at k.plane x ≢ pos 0) × (value_at k.plane (far e) ≢ pos 0)) w.edges
  pub rows : AllByRecursion (λ k. AllByRecursion (λ h. IsSkew w.support e x k.plane h) (planes_of w.edges)) w.edges
  pub pairs : ArePairsSkew w.support e x w.edges
  pub heights : AllByRecursion (λ k. height w.support e x k.start ≢ pos 0) w.edges

-- the values of an edge's plane at x and along e
abbrev pub at_ends : Vector → Spot → RingEdge → AtEnds
at_ends e x k = record { first = value_at k.plane x; last = value_at k.plane (far e) }

-- ---- lists of planes, and lists of their values
same_tests : (e : Vector) (x : Spot) (k : RingEdge) (es : List RingEdge) →
    none_positive (planes_of es) (between k.plane x (far e)) ≡ none_above (map (at_ends e x) es) (at_ends e x k)
same_tests e x k [] = refl
same_tests e x k (d ∷ es) =
    let a = ap (λ (z : ℤ). not (is_positive z)) (value_between d.plane k.plane x (far e)) in let b = same_tests e x k es in λ i. a i && b i

inside_tests : (e : Vector) (x : Spot) (es : List RingEdge) → all_at_first (map (at_ends e x) es) ≡ all_negative (planes_of es) x
inside_tests e x [] = refl
inside_tests e x (k ∷ es) = ap (λ (b : Bool). is_negative (value_at k.plane x) && b) (inside_tests e x es)

all_fall : (e : Vector) (x : Spot) (es : List RingEdge) → all_at_last (map (at_ends e x) es) ≡ true → AllByRecursion (λ k. value_at k.plane (far e) <ℤ pos 0) es
all_fall e x [] t = tt
all_fall e x (k ∷ es) t =
    let p = and_parts (is_negative (value_at k.plane (far e))) (all_at_last (map (at_ends e x) es)) t in
    (negative_out (value_at k.plane (far e)) p.0, all_fall e x es p.1)

-- ---- one face
module _ (w : WrittenFace) (e : Vector) (x : Spot) (line : IsOutlined w) (general : IsGeneralHit w e x) where
  abbrev f : Face
  f = face_from w

  abbrev ends : List AtEnds
  ends = map (at_ends e x) w.edges

  -- what is known of one edge
  record IsKnown (k : RingEdge) : Type 0 where
    values : (value_at k.plane x ≢ pos 0) × (value_at k.plane (far e) ≢ pos 0)
    row : AllByRecursion (λ h. IsSkew w.support e x k.plane h) (planes_of w.edges)
    high : height w.support e x k.start ≢ pos 0

  known : (es : List RingEdge) → AllByRecursion (λ k. (value_at k.plane x ≢ pos 0) × (value_at k.plane (far e) ≢ pos 0))
      es → AllByRecursion (λ k. AllByRecursion (λ h. IsSkew w.support e x k.plane h) (planes_of w.edges)) es →
      AllByRecursion (λ k. height w.support e x k.start ≢ pos 0) es → AllByRecursion IsKnown es
  known [] v r h = tt
  known (k ∷ es) v r h = (record { values = v.0; row = r.0; high = h.0 }, known es v.1 r.1 h.1)

  -- the planes of the face are general where the ray meets an edge's line
  general_face : (k : RingEdge) → IsKnown k → is_negative (value_at k.plane x *ℤ value_at k.plane (far e)) ≡ true →
      IsGeneralFace (scale_v (value_at k.plane (far e)) (cross (normal w.support) (normal k.plane)))
      (between k.plane x (far e)) f
  general_face k i c =
      let d = scale_v (value_at k.plane (far e)) (cross (normal w.support) (normal k.plane)) in
      record {
        support = record { contains = λ z. in_plane };
        edges = each_map (λ h. IsSkew w.support e x k.plane h) (λ h. IsGeneral d (between k.plane x (far e)) h)
            (planes_of w.edges) (λ h s. skew_is_general w.support e x k.plane h c s) i.row;
      }
    where
      in_plane : dot (normal w.support) (scale_v (value_at k.plane (far e)) (cross (normal w.support) (normal k.plane))) ≡ pos 0
      in_plane =
          identity (vector ∷ scalar ∷ vector ∷ []) (λ n b g. dotE n (scaleE b (crossE n g)) ≈ num (pos 0)) cancels
          (normal w.support) (value_at k.plane (far e)) (normal k.plane)

  edge_leaves : (k : RingEdge) (end : Spot) → IsEdge f k end → IsKnown k → height w.support e x end ≢ pos 0 →
      passing_at w.support e x k.start end ≡ leaving ends (at_ends e x k)
  edge_leaves k end edge i he =
      edge_count f k end edge e x general.weight general.flat general.level i.high he (general_face k i)
      ∙ (let t = same_tests e x k w.edges in λ j. cond
      (is_negative (value_at k.plane x *ℤ value_at k.plane (far e)) && t j) (sign (value_at k.plane (far e))) (pos 0))

  abbrev passed : DirectedEdge → ℤ
  passed d = passing_at w.support e x d.from d.to

  path_leaves : (end : Spot) (es : List RingEdge) → height w.support e x end ≢ pos 0 → IsEdgeChain f end es →
      AllByRecursion IsKnown es → total passed (edges_to end es) ≡ total (leaving ends) (map (at_ends e x) es)
  path_leaves end [] he c i = refl
  path_leaves end (k ∷ []) he c i = ap (λ (z : ℤ). z +ℤ pos 0) (edge_leaves k end c i.0 he)
  path_leaves end (k ∷ d ∷ es) he c i =
      let a = edge_leaves k d.start c.0 i.0 i.1.0.high in let b = path_leaves end (d ∷ es) he c.1 i.1 in λ j. a j +ℤ b j

  -- different edges are apart
  apart_others : (k : RingEdge) → IsKnown k → (es : List RingEdge) → AllByRecursion IsKnown es →
      AllByRecursion (λ d. SameEdge f k.plane d.plane → ⊥) es →
      AllByRecursion (λ d. IsSkew w.support e x k.plane d.plane) es →
      AllByRecursion (λ q. value_at k.plane x *ℤ q.last ≢ q.first *ℤ value_at k.plane (far e)) (map (at_ends e x) es)
  apart_others k i [] is ds ss = tt
  apart_others k i (d ∷ es) is ds ss =
      (skew_apart f e x general.weight general.flat general.some k.plane d.plane i.values.1 is.0.values.1 ss.0 ds.0, apart_others k i es is.1 ds.1 ss.1)

  apart : (es : List RingEdge) → AllByRecursion IsKnown es → HaveDistinctEdges f es → ArePairsSkew w.support e x es → AreApart (map (at_ends e x) es)
  apart [] is ds ss = tt
  apart (k ∷ es) is ds ss =
      (is.0.values.0, is.0.values.1, apart_others k is.0 es is.1 ds.0 ss.0, apart es is.1 ds.1 ss.1)

  -- the ray leaves the face
  none_last : one_if (all_at_last ends) ≡ pos 0
  none_last = by (all_at_last ends) refl
    where
      by : (b : Bool) → all_at_last ends ≡ b → one_if (all_at_last ends) ≡ pos 0
      by true t = absurd (some_edge_climbs f e x general.weight general.flat general.level w.edges line (all_fall e x w.edges t))
      by false t = ap one_if t

  -- a ray from a point of the plane passes the outline once in sum if the point is inside, and otherwise not at all
  pub face_count : total passed (directed_edges w.edges) ≡ one_if (all_negative (planes_of w.edges) x)
  face_count =
      let is = known w.edges general.values general.rows general.heights in
      let first = subst (λ (es : List RingEdge). AllByRecursion (λ k. height w.support e x k.start ≢ pos 0) es) line.begins general.heights in
      let a = ap (total passed) (once_round f w.edges line) ∙ path_leaves line.first.start w.edges first.0 line.round is in
      let b = leaving_tells ends (apart w.edges is line.once general.pairs) in
      let c = ap one_if (inside_tests e x w.edges) in
      let d = none_last in omega (arith, linear, a, b, c, d)
