-- Triangles whose edges over vertices are in pairs are closed by the positions of their corners
use Rattle.std.proofs.Common.{◌≡◌, ℕ, ◌+◌, Bool, true, false, not, ◌&&◌, cond, List, [], ◌∷◌, map, Option, Some, None}
use Rattle.std.proofs.Common.{slice_get, refl, sym, ap, ◌∙◌, arith, eqb, ltb}
use Rattle.std.specs.List.{AllZip, sum_by}
use Rattle.std.proofs.Math.Bool.{and_comm}
use Rattle.std.proofs.lemmas.Bool.{and_parts, eqb-true, false≢true}
use Rattle.std.proofs.lemmas.List.Sorted.{sum_by-IsPermutation}
use Rattle.std.proofs.lemmas.List.Sums.{sum_by-cons}
use Rattle.mesh_write.specs.declared.vertices.point.DecimalPoint.{DecimalPoint}
use Rattle.mesh_write.specs.declared.vertices.point.DecimalTriangle.{DecimalTriangle}
use Rattle.mesh_write.specs.declared.vertices.point.IndexedTriangle.{IndexedTriangle}
use Rattle.mesh_write.specs.Vertices.Vertices.{indexed, over, point_at, same_point, vertices_of}
use Rattle.mesh_write.proofs.Meshes.{corners_are_back}
use Rattle.mesh_written.specs.Closed.{Positions, one_if_edge, edges_between, decimal_positions, AreDecimalsClosed}
use Rattle.mesh_manifold.specs.declared.edges.HalfEdge.{HalfEdge}
use Rattle.mesh_manifold.specs.Edges.{half_edge, edges_from}
use Rattle.mesh_manifold.specs.Paired.{is_pair, is_earlier_than_all, is_first_pair, is_paired, IsManifold}
use Rattle.mesh_manifold.specs.Splits.{IsSplitOf, AreSplitOf}
use Rattle.mesh_manifold.specs.declared.split.SplitMesh.{SplitMesh}

-- ---- edges of triangles whose vertices are at positions
abbrev positions : (ℕ → DecimalPoint) → IndexedTriangle → Positions DecimalPoint
positions at t = record { a = at t.a; b = at t.b; c = at t.c }

module _ (at : ℕ → DecimalPoint) (p q : DecimalPoint) where
  -- 1 if an edge from vertex m to vertex n runs from p to q
  abbrev from_to : ℕ → ℕ → ℕ
  from_to m n = one_if_edge same_point p q (at m) (at n)

  -- where an edge starts and ends
  abbrev runs : Bool → ℕ → ℕ → ℕ
  runs back low high = cond back (from_to high low) (from_to low high)

  abbrev leads : HalfEdge → ℕ
  leads e = runs e.is_back e.low e.high

  leads_of : (m n corner : ℕ) → leads (half_edge m n corner) ≡ from_to m n
  leads_of m n corner = by (ltb m n) refl
    where
      by : (b : Bool) → ltb m n ≡ b → leads (half_edge m n corner) ≡ from_to m n
      by true e = rw e refl
      by false e = rw e refl

  sum_cons : (e : HalfEdge) (es : List HalfEdge) → sum_by leads (e ∷ es) ≡ leads e + sum_by leads es
  sum_cons e es = sum_by-cons leads e es

  -- the edges from p to q are counted by half edges
  edges_are_led : (first : ℕ) (ts : List IndexedTriangle) →
      edges_between same_point p q (map (positions at) ts) ≡ sum_by leads (edges_from first ts)
  edges_are_led first [] = refl
  edges_are_led first (t ∷ ts) =
      let e = half_edge t.a t.b first in
      let f = half_edge t.b t.c (first + 1) in
      let g = half_edge t.c t.a (first + 2) in
      let rest = edges_from (first + 3) ts in
      let a = leads_of t.a t.b first in let b = leads_of t.b t.c (first + 1) in let c = leads_of t.c t.a (first + 2) in
      let r = edges_are_led (first + 3) ts in
      omega (arith, a, b, c, r, sum_cons e (f ∷ g ∷ rest), sum_cons f (g ∷ rest), sum_cons g rest)

-- ---- edges in pairs
module _ (at : ℕ → DecimalPoint) (p q : DecimalPoint) where
  turned : (m n : ℕ) → from_to at p q m n ≡ from_to at q p n m
  turned m n = ap (λ (b : Bool). cond b 1 0) (and_comm (same_point p (at m)) (same_point q (at n)))

  pair_turned : (e f : HalfEdge) → is_pair e f ≡ true → leads at p q e + leads at p q f ≡ leads at q p e + leads at q p f
  pair_turned e f h =
      let one = and_parts (eqb e.low f.low) (eqb e.high f.high && (not e.is_back && f.is_back)) h in
      let two = and_parts (eqb e.high f.high) (not e.is_back && f.is_back) one.1 in
      let ways = and_parts (not e.is_back) f.is_back two.1 in
      let low = eqb-true e.low f.low one.0 in let high = eqb-true e.high f.high two.0 in
      let on = negated e.is_back ways.0 in
      let a : leads at p q e ≡ from_to at p q e.low e.high = ap (λ (b : Bool). runs at p q b e.low e.high) on in
      let b : leads at q p e ≡ from_to at q p e.low e.high = ap (λ (b : Bool). runs at q p b e.low e.high) on in
      let c : leads at p q f ≡ from_to at p q e.high e.low = λ i. runs at p q (ways.1 i) (sym low i) (sym high i) in
      let d : leads at q p f ≡ from_to at q p e.high e.low = λ i. runs at q p (ways.1 i) (sym low i) (sym high i) in
      let u = turned e.low e.high in let v = turned e.high e.low in
      omega (arith, a, b, c, d, u, v)
    where
      negated : (b : Bool) → not b ≡ true → b ≡ false
      negated true e = absurd (false≢true e)
      negated false e = refl

  paired_are_turned : (es : List HalfEdge) → is_paired es ≡ true → sum_by (leads at p q) es ≡ sum_by (leads at q p) es
  paired_are_turned [] h = refl
  paired_are_turned (e ∷ []) h = absurd (false≢true h)
  paired_are_turned (e ∷ f ∷ es) h =
      let one = and_parts (is_first_pair e f es) (is_paired es) h in
      let pair = pair_turned e f (and_parts (is_pair e f) (is_earlier_than_all e es) one.0).0 in
      let rest = paired_are_turned es one.1 in
      omega (arith, pair, rest, sum_cons at p q e (f ∷ es), sum_cons at p q f es, sum_cons at q p e (f ∷ es), sum_cons at q p f es)

  -- so are the edges of triangles of which each has two
  manifold_is_turned : (ts : List IndexedTriangle) → IsManifold ts →
      edges_between same_point p q (map (positions at) ts) ≡ edges_between same_point q p (map (positions at) ts)
  manifold_is_turned ts h =
      let es = edges_from 0 ts in
      edges_are_led at p q 0 ts ∙ sym (sum_by-IsPermutation (leads at p q) es h.edges h.all)
      ∙ paired_are_turned h.edges h.paired
      ∙ sum_by-IsPermutation (leads at q p) es h.edges h.all ∙ sym (edges_are_led at q p 0 ts)

-- ---- split triangles
abbrev spot : List DecimalPoint → Option ℕ → DecimalPoint
spot ps (Some n) = point_at ps n
spot ps None = point_at ps 0

-- where a vertex is
abbrev spot_of : List DecimalPoint → List ℕ → ℕ → DecimalPoint
spot_of ps origins n = spot ps (slice_get origins n)

module _ (ps : List DecimalPoint) (origins : List ℕ) where
  split_positions : (news olds : List IndexedTriangle) → AllZip (IsSplitOf origins) news olds →
      map (positions (spot_of ps origins)) news ≡ map decimal_positions (map (over ps) olds)
  split_positions [] [] h = refl
  split_positions [] (o ∷ olds) h = absurd h
  split_positions (n ∷ news) [] h = absurd h
  split_positions (n ∷ news) (o ∷ olds) h =
      λ i. record { a = spot ps (h.0.a i); b = spot ps (h.0.b i); c = spot ps (h.0.c i) } ∷ split_positions news olds h.1 i

-- triangles are closed if each edge of a split of them has two
pub split_is_closed : (split : SplitMesh) (ts : List DecimalTriangle) → AreSplitOf split (map (indexed (vertices_of ts)) ts) →
    IsManifold split.triangles.items → AreDecimalsClosed ts
split_is_closed split ts are manifold = record { each = at_each }
  where
    same : map (positions (spot_of (vertices_of ts) split.origins.items)) split.triangles.items ≡ map decimal_positions ts
    same =
        split_positions (vertices_of ts) split.origins.items split.triangles.items (map (indexed (vertices_of ts)) ts) are
        ∙ ap (map decimal_positions) (corners_are_back ts)

    at_each : (p q : DecimalPoint) → edges_between same_point p q (map decimal_positions ts) ≡ edges_between same_point q p (map decimal_positions ts)
    at_each p q =
        ap (edges_between same_point p q) (sym same)
        ∙ manifold_is_turned (spot_of (vertices_of ts) split.origins.items) p q split.triangles.items manifold
        ∙ ap (edges_between same_point q p) same
