-- Outlined faces: their crossings are those of their segments in the tables, added up.
use Rattle.std.proofs.Common.{◌≡◌, ◌≢◌, ⊎_elim, refl, sym, ap, subst, ◌∙◌, arith, List, [], ◌∷◌, ◌++◌, map, ℕ, ◌+◌, ℤ, pos, ◌+ℤ◌, ◌-ℤ◌, ◌*ℤ◌, ◌<ℤ◌}
use Rattle.std.specs.Bool.{⊤}
use Rattle.std.specs.List.{AllByRecursion, AllZip}
use lib.IntN.{*ℤ-zero, zero-*ℤ}
use Rattle.ember_algebra.specs.Vector.{Vector, zero_v}
use Rattle.ember_algebra.specs.Sums.{total}
use Rattle.ember_algebra.proofs.Laws.{linear, *ℤ-+ℤ}
use Rattle.ember_model.specs.declared.plane.Plane.{Plane}
use Rattle.ember_model.specs.declared.point.Spot.{Spot}
use Rattle.ember_model.specs.declared.point.Axis.{Axis}
use Rattle.ember_model.specs.declared.face.Face.{Face}
use Rattle.ember_model.specs.ClearTest.{all_negative}
use Rattle.ember_model.specs.Edges.{RingEdge, IsEdgeChain, normal}
use Rattle.ember_model.specs.FaceFiles.{WrittenFace}
use Rattle.ember_model.specs.Faces.{hit, crossing}
use Rattle.ember_model.specs.Meshes.{wind}
use Rattle.ember_model.specs.Planes.{value_at}
use Rattle.ember_model.specs.Points.{displacement}
use Rattle.ember_poly.proofs.OutlinePoints.{Ended, edge_has_end}
use Rattle.ember_meaning.specs.Closed.Chains.{DirectedEdge, edges_to, directed_edges, face_from, IsOutlined}
use Rattle.ember_meaning.proofs.EdgeForm.{start_on, end_on, has_normal}
use Rattle.mesh_certificate.specs.declared.key.lines.LineKey.{LineKey}
use Rattle.mesh_certificate.specs.declared.certificate.segment.Segment.{Segment}
use Rattle.mesh_point.specs.declared.space_point.SpacePoint.{SpacePoint}
use Rattle.mesh_certificate.specs.Certificate.Facing.{spot_of}
use Rattle.ember_meaning.specs.Regions.Meaning.{one_if}
use Rattle.mesh_solid.specs.declared.tables.face_edge.FaceEdge.{FaceEdge}
use Rattle.mesh_solid.specs.Tables.Edges.{last_or, edges_behind, edges_round, face_edges_of}
use Rattle.mesh_solid.specs.Tables.Tables.{IsCorner, IsSegmentOf}
use Rattle.mesh_solid.proofs.OneCorner.{meet_weight, is_the_corner, corner_on_three, same_passing}
use Rattle.mesh_solid.proofs.SamePlane.{front_sign, level_with, ray_passing, same_front_sign, same_ray_passing}
use Rattle.mesh_solid.proofs.FaceCount.{planes_of, face_count}
use Rattle.mesh_solid.proofs.GeneralPoints.{IsAcross, ClimbsEach, IsOffFaceHits, hit_weight, general_hit}
use Rattle.mesh_solid.proofs.Crossings.{crossing_is, front_or_along, passing_found, passing_of}

-- ---- lists in pairs
-- what the pairs with each of two lists add up to
sum_of_pairs : {A B : Type 0} (R : A → B → Type 0) (f : B → ℤ) (xs ys : List A) (zs : List B) (s t : ℤ) →
    AllZip R (xs ++ ys) zs → ((us : List B) → AllZip R xs us → total f us ≡ s) →
    ((us : List B) → AllZip R ys us → total f us ≡ t) → total f zs ≡ s +ℤ t
sum_of_pairs R f [] ys zs s t h g k = let a = g [] tt in let b = k zs h in omega (arith, linear, a, b)
sum_of_pairs R f (x ∷ xs) ys [] s t h g k = absurd h
sum_of_pairs R f (x ∷ xs) ys (z ∷ zs) s t h g k =
    let r = sum_of_pairs R f xs ys zs (s -ℤ f z) t h.1 (λ us i. let e = g (z ∷ us) (h.0, i) in omega (arith, linear, e)) k in omega (arith, linear, r)

-- ---- one segment
-- the plane of an outlined face has a normal
outlined_normal : (w : WrittenFace) → IsOutlined w → normal w.support ≢ zero_v
outlined_normal w line z =
    let ends = subst (λ (es : List RingEdge). AllByRecursion (λ k. Ended (face_from w) k) es) line.begins
    (edge_has_end (face_from w) line.first.start w.edges line.round) in
    has_normal (face_from w) line.first ends.0 (ap (λ (v : Vector). v.x) z, ap (λ (v : Vector). v.y) z, ap (λ (v : Vector). v.z) z)

-- a point on the planes of a corner of the table is this corner
entry_is : (p q r : Plane) (c : SpacePoint) (u : Spot) → IsCorner p q r (spot_of c) → value_at p u ≡ pos 0 →
    value_at q u ≡ pos 0 → value_at r u ≡ pos 0 → displacement u (spot_of c) ≡ zero_v
entry_is p q r c u k pu qu ru =
    let o = corner_on_three p q r (spot_of c) k (meet_weight p q r k.one) in is_the_corner p q r (spot_of c) u k o.first o.second o.third pu qu ru

module _ (ps : List Plane) (ls : List LineKey) (cs : List SpacePoint) (a : Axis) (q : Vector) (p : Spot) (wp : pos 0 <ℤ p.w) where
  abbrev of_segment : Segment → ℤ
  of_segment s = passing_of ps cs a p q s

  -- what a ray in the plane m does, with the sign of the ray
  abbrev in_plane : Plane → Spot → Spot → ℤ
  in_plane m u v = front_sign m a p *ℤ ray_passing m a p q u v

  -- a segment adds what the way between the corners of its edge does
  segment_adds : (edge : FaceEdge) (s : Segment) (u v : Spot) → IsSegmentOf ps ls cs edge s → pos 0 <ℤ u.w →
      pos 0 <ℤ v.w → value_at edge.support u ≡ pos 0 → value_at edge.before u ≡ pos 0 → value_at edge.plane u ≡ pos 0 →
      value_at edge.support v ≡ pos 0 → value_at edge.plane v ≡ pos 0 → value_at edge.after v ≡ pos 0 →
      of_segment s ≡ in_plane edge.support u v
  segment_adds edge s u v h wu wv mu bu gu mv gv av =
      let m = edge.support in let n = h.plane.entry in let c = h.start.entry in let d = h.end.entry in
      let o = h.plane.holds.same in
      let sc = entry_is m edge.before edge.plane c u h.start.holds mu bu gu in
      let sd = entry_is m edge.plane edge.after d v h.end.holds mv gv av in
      let e : of_segment s ≡ in_plane n (spot_of c) (spot_of d) = (λ i. passing_found a p q (h.plane.here i) (h.start.here i) (h.end.here i)) in
      let f : in_plane n (spot_of c) (spot_of d) ≡ in_plane m (spot_of c) (spot_of d) =
      sym (let x = same_front_sign m n o a p in let y = same_ray_passing m n o a p q (spot_of c) (spot_of d) in
      λ i. x i *ℤ y i) in
      e ∙ f ∙ ⊎_elim (λ z. (λ i. z i *ℤ ray_passing m a p q (spot_of c) (spot_of d))
      ∙ zero-*ℤ (ray_passing m a p q (spot_of c) (spot_of d))
      ∙ sym ((λ i. z i *ℤ ray_passing m a p q u v) ∙ zero-*ℤ (ray_passing m a p q u v)))
      (λ nz. ap (λ (z : ℤ). front_sign m a p *ℤ z)
      (sym (same_passing m (level_with m q) (hit m a p) u v (spot_of c) (spot_of d) (hit_weight m a p nz wp) wu wv
      c.valid.positive d.valid.positive sc sd))) (front_or_along m a p)

  -- ---- the segments of a face
  module _ (w : WrittenFace) (line : IsOutlined w) where
    abbrev f : Face
    f = face_from w

    abbrev m : Plane
    m = w.support

    abbrev passed : DirectedEdge → ℤ
    passed d = ray_passing m a p q d.from d.to

    -- the plane is 0 where the first of the edges starts
    abbrev IsBeforeChain : Plane → List RingEdge → Type 0
    IsBeforeChain g [] = ⊤
    IsBeforeChain g (k ∷ es) = value_at g k.start ≡ pos 0

    -- those from the edge behind `before` on; the last edge ends at `end`, where `first` is 0
    behind_add : (face : ℕ) (first before : Plane) (end : Spot) (es : List RingEdge) → IsEdgeChain f end es →
        IsBeforeChain before es → value_at first end ≡ pos 0 → (ss : List Segment) →
        AllZip (IsSegmentOf ps ls cs) (edges_behind face m first before (planes_of es)) ss →
        total of_segment ss ≡ front_sign m a p *ℤ total passed (edges_to end es)
    behind_add face first before end [] c b z [] h = sym (*ℤ-zero (front_sign m a p))
    behind_add face first before end [] c b z (s ∷ ss) h = absurd h
    behind_add face first before end (k ∷ es) c b z [] h = absurd h
    behind_add face first before end (k ∷ []) c b z (s ∷ []) h =
        let u = start_on f k end c in let v = end_on f k end c in
        let e = segment_adds (record { face = face; support = m; before = before; plane = k.plane; after = first }) s
        k.start end h.0 u.closed.weight v.closed.weight u.closed.flat b u.zero v.closed.flat v.zero z in
        omega (arith, linear, e, *ℤ-+ℤ (front_sign m a p) (passed (record { from = k.start; to = end })) (pos 0), *ℤ-zero (front_sign m a p))
    behind_add face first before end (k ∷ []) c b z (s ∷ t ∷ ss) h = absurd h.1
    behind_add face first before end (k ∷ d ∷ es) c b z (s ∷ ss) h =
        let u = start_on f k d.start c.0 in let v = end_on f k d.start c.0 in
        let next = next_start d es c.1 in
        let e = segment_adds (record { face = face; support = m; before = before; plane = k.plane; after = d.plane }) s
        k.start d.start h.0 u.closed.weight v.closed.weight u.closed.flat b u.zero v.closed.flat v.zero next in
        let r = behind_add face first k.plane end (d ∷ es) c.1 v.zero z ss h.1 in
        omega (arith, linear, e, r, *ℤ-+ℤ (front_sign m a p) (passed (record { from = k.start; to = d.start })) (total passed (edges_to end (d ∷ es))))
      where
        -- d's plane is 0 where it starts
        next_start : (d : RingEdge) (es : List RingEdge) → IsEdgeChain f end (d ∷ es) → value_at d.plane d.start ≡ pos 0
        next_start d [] c = (start_on f d end c).zero
        next_start d (g ∷ es) c = (start_on f d g.start c.0).zero

    -- the last plane is 0 where the last edge ends
    last_ends : (end : Spot) (k : RingEdge) (es : List RingEdge) → IsEdgeChain f end (k ∷ es) → value_at (last_or k.plane (planes_of es)) end ≡ pos 0
    last_ends end k [] c = (end_on f k end c).zero
    last_ends end k (d ∷ es) c = last_ends end d es c.1

    -- those of the whole face
    face_adds : (face : ℕ) (ss : List Segment) →
        AllZip (IsSegmentOf ps ls cs) (edges_round face m (planes_of w.edges)) ss →
        total of_segment ss ≡ front_sign m a p *ℤ total passed (directed_edges w.edges)
    face_adds face ss h =
        by line.first line.rest line.begins line.round h
      where
        starts : (k : RingEdge) (rest : List RingEdge) → IsEdgeChain f k.start (k ∷ rest) → value_at k.plane k.start ≡ pos 0
        starts k [] c = (start_on f k k.start c).zero
        starts k (d ∷ rest) c = (start_on f k d.start c.0).zero

        by : (k : RingEdge) (rest : List RingEdge) → w.edges ≡ k ∷ rest → IsEdgeChain f k.start w.edges →
            AllZip (IsSegmentOf ps ls cs) (edges_round face m (planes_of w.edges)) ss →
            total of_segment ss ≡ front_sign m a p *ℤ total passed (directed_edges w.edges)
        by k rest e c h =
            let c' = subst (λ (es : List RingEdge). IsEdgeChain f k.start es) e c in
            let h' = subst (λ (es : List RingEdge). AllZip (IsSegmentOf ps ls cs) (edges_round face m (planes_of es)) ss) e h in
            behind_add face k.plane (last_or k.plane (planes_of rest)) k.start (k ∷ rest) c'
            (last_ends k.start k rest c') (starts k rest c') ss h'
            ∙ ap (λ (es : List RingEdge). front_sign m a p *ℤ total passed (directed_edges es)) (sym e)

    -- a face's crossing is what its edges add
    face_crosses : IsAcross q m → ClimbsEach q w → IsOffFaceHits w a q p → normal m ≢ zero_v →
        crossing f a p ≡ front_sign m a p *ℤ total passed (directed_edges w.edges)
    face_crosses across climbs off some =
        crossing_is f a p wp ∙ ⊎_elim (λ z. (λ i. z i *ℤ one_if (all_negative f.edges (hit m a p)))
        ∙ zero-*ℤ (one_if (all_negative f.edges (hit m a p)))
        ∙ sym ((λ i. z i *ℤ total passed (directed_edges w.edges)) ∙ zero-*ℤ (total passed (directed_edges w.edges))))
        (λ nz. ap (λ (z : ℤ). front_sign m a p *ℤ z)
        (sym (face_count w (level_with m q) (hit m a p) line
        (general_hit w a q p line wp nz some across climbs off)))) (front_or_along m a p)

  -- ---- all faces
  pub faces_sum : (face : ℕ) (ws : List WrittenFace) (ss : List Segment) → AllByRecursion IsOutlined ws →
      AllByRecursion (λ w. IsAcross q w.support) ws → AllByRecursion (λ w. ClimbsEach q w) ws →
      AllByRecursion (λ w. IsOffFaceHits w a q p) ws →
      AllZip (IsSegmentOf ps ls cs) (face_edges_of face (map face_from ws)) ss →
      total of_segment ss ≡ wind a (map face_from ws) p
  faces_sum face [] [] lines across climbs off h = refl
  faces_sum face [] (s ∷ ss) lines across climbs off h = absurd h
  faces_sum face (w ∷ ws) ss lines across climbs off h =
      sum_of_pairs (IsSegmentOf ps ls cs) of_segment (edges_round face w.support (planes_of w.edges))
      (face_edges_of (face + 1) (map face_from ws)) ss (crossing (face_from w) a p) (wind a (map face_from ws) p) h
      (λ us i. face_adds w lines.0 face us i ∙ sym (face_crosses w lines.0 across.0 climbs.0 off.0 (outlined_normal w lines.0)))
      (λ us i. faces_sum (face + 1) ws us lines.1 across.1 climbs.1 off.1 i)
