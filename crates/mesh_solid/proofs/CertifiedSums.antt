-- Certified triangles: their edges add what the segments of the faces add.
use Rattle.std.proofs.Common.{◌≡◌, ◌≢◌, ⊎_elim, refl, sym, ap, ◌∙◌, arith, nat_eq, ◌&&◌, Bool, true, false, cond}
use Rattle.std.proofs.Common.{Option, Some, None, List, [], ◌∷◌, slice_get, length, ℕ, zero, suc, ◌<◌, ℤ, pos, neg_ℤ}
use Rattle.std.proofs.Common.{◌+ℤ◌, ◌-ℤ◌, ◌*ℤ◌, ◌<ℤ◌}
use Rattle.std.specs.List.{All, AllByRecursion, AllZip}
use borrow.Author.Differences.{ints}
use Rattle.std.proofs.lemmas.Bool.{eqb-true, leb-true, leb-false, and_parts}
use Rattle.std.proofs.lemmas.List.Elements.{All-head, All-tail}
use Rattle.std.proofs.lemmas.Option.{slice_get_past}
use lib.IntN.{zero-*ℤ}
use Rattle.ember_algebra.specs.Large.{first_sign}
use Rattle.ember_algebra.specs.declared.Sign.{Sign}
use Rattle.ember_algebra.specs.Sign.{sgn}
use Rattle.ember_algebra.specs.Vector.{Vector, zero_v}
use Rattle.ember_algebra.specs.Sums.{total}
use Rattle.ember_algebra.proofs.Laws.{linear, *ℤ-+ℤ, *ℤ-neg}
use Rattle.ember_algebra.proofs.Signs.{sgn-neg}
use Rattle.ember_model.specs.declared.plane.Plane.{Plane}
use Rattle.ember_model.specs.declared.point.Spot.{Spot}
use Rattle.ember_model.specs.declared.point.Axis.{Axis}
use Rattle.ember_model.specs.declared.point.Axis.TheVariants.{X, Y, Z}
use Rattle.ember_model.specs.Edges.{normal}
use Rattle.ember_model.specs.Faces.{hit}
use Rattle.ember_model.specs.Planes.{along}
use Rattle.ember_law.proofs.Generic.{at_hit_of}
use Rattle.ember_poly.proofs.RingOutline.{each_get}
use Rattle.mesh_certificate.specs.declared.key.lines.LineKey.{LineKey}
use Rattle.mesh_certificate.specs.Key.LineKeys.{direction, IsLineKey}
use Rattle.mesh_certificate.proofs.LineLaws.{points_of_key}
use Rattle.mesh_certificate.specs.declared.certificate.segment.Segment.{Segment}
use Rattle.mesh_point.specs.declared.space_point.SpacePoint.{SpacePoint}
use Rattle.mesh_certificate.specs.declared.certificate.triangle.Triangle.{Triangle}
use Rattle.mesh_certificate.specs.Certificate.Certificate.{leads_round, is_in_one_plane, IsProper, FacesFrontOf, edges_in}
use Rattle.mesh_certificate.specs.Certificate.Chains.{HaveSameChains}
use Rattle.mesh_certificate.specs.Certificate.Facing.{spot_of}
use Rattle.mesh_certificate.specs.Certificate.OnLines.{IsCornerOnLine, IsOnItsLine, AreFreePaired, is_free}
use Rattle.mesh_certificate.proofs.Boundaries.{boundary_from_chains}
use Rattle.mesh_certificate.proofs.PlaceSums.{places_agree}
use Rattle.mesh_certificate.proofs.FreePairs.{free_cancel}
use Rattle.mesh_solid.specs.declared.tables.face_edge.FaceEdge.{FaceEdge}
use Rattle.mesh_solid.specs.Tables.Tables.{IsSegmentOf}
use Rattle.mesh_solid.proofs.Passings.{passing, passing_back}
use Rattle.mesh_solid.proofs.Seen.{height, turn_at, passing_at, turn_back}
use Rattle.mesh_solid.proofs.LineForm.{below_on, passing_by_line}
use Rattle.mesh_solid.proofs.OneCorner.{meet_weight, corner_on_three}
use Rattle.mesh_solid.proofs.SamePlane.{front_sign, level_with, ray_passing}
use Rattle.mesh_solid.proofs.GeneralPoints.{IsAcross, IsOffPlane, IsOffTables, level_plane, hit_weight, height_nonzero, level_is}
use Rattle.mesh_solid.proofs.Crossings.{front_or_along, passing_found, passing_in, passing_of, below_found, below_in}

-- ---- small facts
-- a plane with an entry along an axis has a normal
along_normal : (n : Plane) (a : Axis) → along n a ≢ pos 0 → normal n ≢ zero_v
along_normal n X nz z = nz (ap (λ (v : Vector). v.x) z)
along_normal n Y nz z = nz (ap (λ (v : Vector). v.y) z)
along_normal n Z nz z = nz (ap (λ (v : Vector). v.z) z)

-- a key of a line has a direction
key_directed : {p q : Plane} {k : LineKey} → IsLineKey p q k → direction k ≢ zero_v
key_directed {k = k} h z =
    let e : pos 1 ≡ pos 0 = sym h.forward ∙ ap (λ (v : Vector). first_sign (v.x ∷ v.y ∷ v.z ∷ [])) z in omega (arith, ints)

-- a number below the length of a list is that of an entry
some_entry : {U : Type 0} (us : List U) (i : ℕ) → i < length us → (u : U) × (slice_get us i ≡ Some u)
some_entry [] i l = absurd (omega (arith, l))
some_entry (u ∷ us) zero l = (u, refl)
some_entry (u ∷ us) (suc i) l = some_entry us i (omega (arith, l))

-- the way back is passed the other way
passing_odd : (n : Plane) (e : Vector) (x u v : Spot) → passing_at n e x v u ≡ neg_ℤ (passing_at n e x u v)
passing_odd n e x u v =
    let h = sgn (height n e x u) in let k = sgn (height n e x v) in
    ap (λ (s : Sign). passing k h s) (ap sgn (turn_back n x u v) ∙ sgn-neg (turn_at n x u v)) ∙ passing_back h k (sgn (turn_at n x u v))

found_odd : (a : Axis) (p : Spot) (q : Vector) (n : Option Plane) (u v : Option SpacePoint) → passing_found a p q n v u ≡ neg_ℤ (passing_found a p q n u v)
found_odd a p q (Some n) (Some u) (Some v) =
    ap (λ (z : ℤ). front_sign n a p *ℤ z) (passing_odd n (level_with n q) (hit n a p) (spot_of u) (spot_of v))
    ∙ *ℤ-neg (front_sign n a p) (ray_passing n a p q (spot_of u) (spot_of v))
found_odd a p q None u v = refl
found_odd a p q (Some n) None None = refl
found_odd a p q (Some n) None (Some v) = refl
found_odd a p q (Some n) (Some u) None = refl

module _ (ps : List Plane) (ls : List LineKey) (cs : List SpacePoint) (a : Axis) (q : Vector) (p : Spot)
    (wp : pos 0 <ℤ p.w) (across : AllByRecursion (λ n. IsAcross q n) ps) (off : IsOffTables ps cs a q p) where
  abbrev of_segment : Segment → ℤ
  of_segment s = passing_of ps cs a p q s

  abbrev place : ℕ → ℕ → ℕ → ℤ
  place plane line u = below_in ps ls cs a p q plane line u

  -- what the ends of a segment on a line of the table add
  abbrev of_ends : Segment → ℤ
  of_ends s = place s.plane s.line s.start -ℤ place s.plane s.line s.end

  -- ---- by entries of the tables
  module _ (n : Plane) (i : ℕ) (en : slice_get ps i ≡ Some n) where
    high : along n a ≢ pos 0 → (c : SpacePoint) (j : ℕ) → slice_get cs j ≡ Some c → height n (level_with n q) (hit n a p) (spot_of c) ≢ pos 0
    high nz c j e =
        let some = along_normal n a nz in
        height_nonzero n a p nz some (level_with n q) (spot_of c) c.valid.positive (level_is n q)
        (each_get (λ n. IsAcross q n) ps i n across en some)
        (each_get (λ c. IsOffPlane (at_hit_of (level_plane n (level_with n q) (spot_of c)) n a) p) cs j c
        (each_get (λ n. AllByRecursion (λ c. IsOffPlane (at_hit_of (level_plane n (level_with n q) (spot_of c)) n a)
        p) cs) ps i n off.heights en) e)

    -- two corners on a line
    entries_by_line : (k : LineKey) (u v : SpacePoint) (iu iv : ℕ) → slice_get cs iu ≡ Some u →
        slice_get cs iv ≡ Some v → IsCornerOnLine k u → IsCornerOnLine k v →
        passing_found a p q (Some n) (Some u) (Some v) ≡ below_found a p q (Some n) (Some k) (Some u) -ℤ below_found a p q
        (Some n) (Some k) (Some v)
    entries_by_line k u v iu iv eu ev on_u on_v = ⊎_elim none some (front_or_along n a p)
      where
        e : Vector
        e = level_with n q

        x : Spot
        x = hit n a p

        none : front_sign n a p ≡ pos 0 → passing_found a p q (Some n) (Some u) (Some v) ≡ below_found a p q (Some n)
            (Some k) (Some u) -ℤ below_found a p q (Some n) (Some k) (Some v)
        none z =
            let f = λ (y : ℤ). ap (λ (s : ℤ). s *ℤ y) z ∙ zero-*ℤ y in
            let b = f (ray_passing n a p q (spot_of u) (spot_of v)) in let c = f (below_on n e x k (spot_of u)) in let d = f (below_on n e x k (spot_of v)) in
            omega (arith, linear, b, c, d)

        some : along n a ≢ pos 0 → passing_found a p q (Some n) (Some u) (Some v) ≡ below_found a p q (Some n) (Some k)
            (Some u) -ℤ below_found a p q (Some n) (Some k) (Some v)
        some nz =
            ap (λ (z : ℤ). front_sign n a p *ℤ z)
            (passing_by_line n e x (spot_of u) (spot_of v) k (hit_weight n a p nz wp) u.valid.positive
            v.valid.positive on_u.directed on_u.on on_v.on (high nz u iu eu) (high nz v iv ev))
            ∙ product_difference (front_sign n a p) (below_on n e x k (spot_of u)) (below_on n e x k (spot_of v))
          where
            product_difference : (s y z : ℤ) → s *ℤ (y -ℤ z) ≡ s *ℤ y -ℤ s *ℤ z
            product_difference s y z = let c = *ℤ-+ℤ s y (neg_ℤ z) in let d = *ℤ-neg s z in omega (arith, linear, c, d)

  -- ---- segments of the faces
  segment_by_line : (edge : FaceEdge) (s : Segment) → IsSegmentOf ps ls cs edge s → of_segment s ≡ of_ends s
  segment_by_line edge s h =
      let n = h.plane.entry in let k = h.line.entry in let u = h.start.entry in let v = h.end.entry in
      let ou = corner_on_three edge.support edge.before edge.plane (spot_of u) h.start.holds
      (meet_weight edge.support edge.before edge.plane h.start.holds.one) in
      let ov = corner_on_three edge.support edge.plane edge.after (spot_of v) h.end.holds (meet_weight edge.support edge.plane edge.after h.end.holds.one) in
      let directed = key_directed h.line.holds in
      let on_u : IsCornerOnLine k u = record { directed = directed; on = (points_of_key h.line.holds (spot_of u)).1 (ou.first, ou.third) } in
      let on_v : IsCornerOnLine k v = record { directed = directed; on = (points_of_key h.line.holds (spot_of v)).1 (ov.first, ov.second) } in
      (λ i. passing_found a p q (h.plane.here i) (h.start.here i) (h.end.here i))
      ∙ entries_by_line n s.plane h.plane.here k u v s.start s.end h.start.here h.end.here on_u on_v
      ∙ sym (λ i. below_found a p q (h.plane.here i) (h.line.here i) (h.start.here i) -ℤ below_found a p q
      (h.plane.here i) (h.line.here i) (h.end.here i))

  segments_by_lines : (edges : List FaceEdge) (ss : List Segment) → AllZip (IsSegmentOf ps ls cs) edges ss → total of_segment ss ≡ total of_ends ss
  segments_by_lines [] [] h = refl
  segments_by_lines [] (s ∷ ss) h = absurd h
  segments_by_lines (edge ∷ edges) [] h = absurd h
  segments_by_lines (edge ∷ edges) (s ∷ ss) h =
      let x = segment_by_line edge s h.0 in let y = segments_by_lines edges ss h.1 in λ i. x i +ℤ y i

  -- ---- edges of triangles
  -- what an edge on a free line adds
  abbrev of_free : Segment → ℤ
  of_free s = cond (is_free ls s) (passing_in ps cs a p q s.plane s.start s.end) (pos 0)

  -- the plane and the corners of a segment are in the tables
  record HasEntries (s : Segment) : Type 0 where
    plane : Plane
    start : SpacePoint
    end : SpacePoint
    plane_here : slice_get ps s.plane ≡ Some plane
    start_here : slice_get cs s.start ≡ Some start
    end_here : slice_get cs s.end ≡ Some end

  edge_parts : (s : Segment) → HasEntries s → IsOnItsLine ls cs s → of_segment s ≡ of_ends s +ℤ of_free s
  edge_parts s h on = by (is_free ls s) refl
    where
      by : (b : Bool) → is_free ls s ≡ b → of_segment s ≡ of_ends s +ℤ of_free s
      by true e =
          let z = slice_get_past ls s.line (leb-true (length ls) s.line e) in
          let c : of_ends s ≡ pos 0 = (λ i. below_found a p q (h.plane_here i) (z i) (slice_get cs s.start) -ℤ
          below_found a p q (h.plane_here i) (z i) (slice_get cs s.end)) in
          let d : of_free s ≡ of_segment s = (λ i. cond (e i) (of_segment s) (pos 0)) in omega (arith, linear, c, d)
      by false e =
          let k = some_entry ls s.line (leb-false (length ls) s.line e) in
          let on_u = on.start k.0 h.start k.1 h.start_here in let on_v = on.end k.0 h.end k.1 h.end_here in
          let c : of_segment s ≡ of_ends s = (λ i. passing_found a p q (h.plane_here i) (h.start_here i) (h.end_here i))
          ∙ entries_by_line h.plane s.plane h.plane_here k.0 h.start h.end s.start s.end h.start_here h.end_here on_u
          on_v ∙ sym (λ i. below_found a p q (h.plane_here i) (k.1 i) (h.start_here i) -ℤ below_found a p q
          (h.plane_here i) (k.1 i) (h.end_here i)) in
          let d : of_free s ≡ pos 0 = (λ i. cond (e i) (of_segment s) (pos 0)) in omega (arith, linear, c, d)

  -- the edges of a proper triangle have entries
  record HaveEntries (t : Triangle) : Type 0 where
    first : HasEntries t.first
    second : HasEntries t.second
    third : HasEntries t.third

  front_entries : (n : Option Plane) (u v w : Option SpacePoint) → FacesFrontOf n u v w →
      (n' : Plane) × (u' : SpacePoint) × (v' : SpacePoint) × (w' : SpacePoint) × (n ≡ Some n') × (u ≡ Some u') ×
      (v ≡ Some v') × (w ≡ Some w')
  front_entries (Some n) (Some u) (Some v) (Some w) f = (n, u, v, w, refl, refl, refl, refl)
  front_entries None u v w f = absurd f
  front_entries (Some n) None v w f = absurd f
  front_entries (Some n) (Some u) None w f = absurd f
  front_entries (Some n) (Some u) (Some v) None f = absurd f

  proper_entries : (t : Triangle) → IsProper ps cs t → HaveEntries t
  proper_entries t proper =
      let r = and_parts (leads_round t) (is_in_one_plane t) proper.round in
      let l = and_parts (nat_eq t.first.end t.second.start) (nat_eq t.second.end t.third.start && nat_eq t.third.end t.first.start) r.0 in
      let m = and_parts (nat_eq t.second.end t.third.start) (nat_eq t.third.end t.first.start) l.1 in
      let b = and_parts (nat_eq t.first.plane t.second.plane) (nat_eq t.first.plane t.third.plane) r.1 in
      let e1 = eqb-true t.first.end t.second.start l.0 in let e2 = eqb-true t.second.end t.third.start m.0 in let e3 = eqb-true t.third.end t.first.start m.1 in
      let p2 = eqb-true t.first.plane t.second.plane b.0 in let p3 = eqb-true t.first.plane t.third.plane b.1 in
      let h = front_entries (slice_get ps t.first.plane) (slice_get cs t.first.start) (slice_get cs t.second.start) (slice_get cs t.third.start) proper.front in
      record {
        first = record { plane = h.0; start = h.1; end = h.2; plane_here = h.4; start_here = h.5; end_here = ap (slice_get cs) e1 ∙ h.6 };
        second = record {
          plane = h.0;
          start = h.2;
          end = h.3;
          plane_here =
              ap (slice_get ps) (sym p2) ∙ h.4;
          start_here = h.6;
          end_here = ap (slice_get cs) e2 ∙ h.7;
        };
        third = record {
          plane = h.0;
          start = h.3;
          end = h.1;
          plane_here =
              ap (slice_get ps) (sym p3) ∙ h.4;
          start_here = h.7;
          end_here = ap (slice_get cs) e3 ∙ h.5;
        };
      }

  edges_parts : (ts : List Triangle) → All (IsProper ps cs) ts → All (IsOnItsLine ls cs) (edges_in ts) →
      total of_segment (edges_in ts) ≡ total of_ends (edges_in ts) +ℤ total of_free (edges_in ts)
  edges_parts [] h on = refl
  edges_parts (t ∷ ts) h on =
      let es = edges_in ts in let i = proper_entries t (All-head (IsProper ps cs) t ts h) in
      let P = IsOnItsLine ls cs in
      let on1 = All-tail P t.first (t.second ∷ t.third ∷ es) on in let on2 = All-tail P t.second (t.third ∷ es) on1 in let on3 = All-tail P t.third es on2 in
      let x = edge_parts t.first i.first (All-head P t.first (t.second ∷ t.third ∷ es) on) in
      let y = edge_parts t.second i.second (All-head P t.second (t.third ∷ es) on1) in
      let z = edge_parts t.third i.third (All-head P t.third es on2) in
      let r = edges_parts ts (All-tail (IsProper ps cs) t ts h) on3 in
      omega (arith, linear, x, y, z, r)

  -- the edges of certified triangles add what the segments of the faces add
  pub certified_sum : (edges : List FaceEdge) (ss : List Segment) (ts : List Triangle) →
      AllZip (IsSegmentOf ps ls cs) edges ss → All (IsProper ps cs) ts → HaveSameChains ss (edges_in ts) →
      All (IsOnItsLine ls cs) (edges_in ts) → AreFreePaired ls (edges_in ts) →
      total of_segment ss ≡ total of_segment (edges_in ts)
  certified_sum edges ss ts segments proper chains on_lines free_paired =
      let b = segments_by_lines edges ss segments in
      let c = places_agree place ss (edges_in ts) (boundary_from_chains ss (edges_in ts) chains) in
      let d = edges_parts ts proper on_lines in
      let e = free_cancel (passing_in ps cs a p q)
      (λ plane u v. found_odd a p q (slice_get ps plane) (slice_get cs u) (slice_get cs v)) ls (edges_in ts)
      free_paired in
      omega (arith, linear, b, c, d, e)
