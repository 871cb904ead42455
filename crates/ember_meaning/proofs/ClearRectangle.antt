-- What a point ahead on a line has, and then the corners round it: clear of all faces.
use Rattle.std.proofs.Common.{◌≡◌, ◌≢◌, arith, false, List, [], ◌∷◌, map, ℕ, ℤ, pos, ◌<ℤ◌}
use Rattle.std.specs.List.{AllByRecursion}
use borrow.Author.Differences.{ints}
use Rattle.ember_algebra.specs.Vector.{Vector}
use Rattle.ember_algebra.specs.Large.{Eventually}
use Rattle.ember_algebra.proofs.Order.{pos_mul}
use Rattle.ember_algebra.proofs.Large.{eventually_both, eventually_map}
use Rattle.ember_model.specs.declared.plane.Plane.{Plane}
use Rattle.ember_model.specs.declared.point.Spot.{Spot}
use Rattle.ember_model.specs.declared.point.Axis.{Axis}
use Rattle.ember_model.specs.declared.point.Axis.TheVariants.{X, Y, Z}
use Rattle.ember_model.specs.declared.tri.Tri.{Tri}
use Rattle.ember_model.specs.Planes.{value_at, unit, support_of, edge_through, HasNoNormal}
use Rattle.ember_model.specs.Clear.{IsClear, IsClearOf, AreClear}
use Rattle.ember_model.specs.Meshes.{faces_of}
use Rattle.ember_model.specs.FaceFiles.{WrittenFace}
use Rattle.ember_law.proofs.Generic.{IsOff, at_hit_of}
use Rattle.ember_law.proofs.GenericClear.{off_clear, clear_faces}
use Rattle.ember_poly.proofs.Chains.{each_map}
use Rattle.ember_poly.proofs.InsideSigns.{eventually_each}
use Rattle.ember_meaning.specs.Closed.Chains.{is_zero_vector, coverage, directed_edges, face_from, IsOutlined}
use Rattle.ember_meaning.proofs.RectangleRound.{ahead, IsGeneral, IsGeneralFace, IsOffEnds, component, corner}
use Rattle.ember_meaning.proofs.PointAhead.{general_ahead, coverage_ahead}
use Rattle.ember_meaning.proofs.Rectangle.{off_corner, weight_corner}
use Rattle.ember_meaning.proofs.ClearCorners.{off_face_is_clear}
use Rattle.ember_meaning.proofs.EdgeForm.{outline_weights}

-- ---- lists and axes
-- what holds of everything holds of each member
pub all_of : {X : Type 0} (P : X → Type 0) (xs : List X) → ((x : X) → P x) → AllByRecursion P xs
all_of P [] f = tt
all_of P (x ∷ xs) f = (f x, all_of P xs f)

-- what holds eventually for each axis holds eventually for all of them at once
pub each_axis : {P : Axis → ℕ → Type 0} → ((a : Axis) → Eventually (P a)) → Eventually (λ m. (a : Axis) → P a m)
each_axis {P} f = eventually_map (λ m h. by m h.0 h.1.0 h.1.1) (eventually_both (f X) (eventually_both (f Y) (f Z)))
  where
    by : (m : ℕ) → P X m → P Y m → P Z m → (a : Axis) → P a m
    by m x y z X = x
    by m x y z Y = y
    by m x y z Z = z

-- ---- ahead on the line
-- the planes that a point has to miss to be clear of a triangle
abbrev pub planes_along : Tri → Vector → List Plane
planes_along u f =
    support_of u ∷ edge_through u.a u.b f ∷ edge_through u.b u.c f ∷ edge_through u.c u.a f ∷ []

-- these planes contain the line through t along d, or miss t
pub record IsReadyTri (d : Vector) (t : Spot) (u : Tri) : Type 0 where
  pub planes : (a : Axis) → AllByRecursion (λ h. IsGeneral d t h) (planes_along u (unit a))

-- so do the planes of a face, as rays meet them, and t is covered by its edges as x is
pub record IsReadyFace (x : Spot) (d : Vector) (t : Spot) (w : WrittenFace) : Type 0 where
  pub planes : IsGeneralFace d t (face_from w)
  pub hits : (a : Axis) → AllByRecursion (λ g. IsGeneral d t (at_hit_of g w.support a)) (map (λ e. e.plane) w.edges)
  pub edges : AllByRecursion (λ e. (coverage x d e ≡ coverage t d e) × IsOffEnds d t e) (directed_edges w.edges)

-- t is a point on all of them
pub record IsReady (x : Spot) (d : Vector) (ts : List Tri) (ws : List WrittenFace) (t : Spot) : Type 0 where
  pub weight : pos 0 <ℤ t.w
  pub tris : AllByRecursion (λ u. IsReadyTri d t u) ts
  pub faces : AllByRecursion (λ w. IsReadyFace x d t w) ws

module _ (x : Spot) (d : Vector) (weight : pos 0 <ℤ x.w) (direction : is_zero_vector d ≡ false) where
  general_all : (hs : List Plane) → Eventually (λ m. AllByRecursion (λ h. IsGeneral d (ahead x d (pos m)) h) hs)
  general_all hs =
      eventually_each (λ h m. IsGeneral d (ahead x d (pos m)) h) hs
      (all_of (λ h. Eventually (λ m. IsGeneral d (ahead x d (pos m)) h)) hs (λ h. general_ahead h x d))

  ready_tri : (u : Tri) → Eventually (λ m. IsReadyTri d (ahead x d (pos m)) u)
  ready_tri u =
      eventually_map (λ m h. record { planes = h }) (each_axis (λ a. general_all (planes_along u (unit a))))

  ready_face : (w : WrittenFace) → IsOutlined w → Eventually (λ m. IsReadyFace x d (ahead x d (pos m)) w)
  ready_face w line =
      let gs = map (λ e. e.plane) w.edges in
      eventually_map (λ m h. record { planes = record { support = h.0.0; edges = h.0.1 }; hits = h.1.0; edges = h.1.1 })
      (eventually_both (general_all (w.support ∷ gs)) (eventually_both (each_axis hits) covers))
    where
      hits : (a : Axis) → Eventually (λ m. AllByRecursion (λ g. IsGeneral d (ahead x d (pos m)) (at_hit_of g w.support a)) (map (λ e. e.plane) w.edges))
      hits a =
          eventually_each (λ g m. IsGeneral d (ahead x d (pos m)) (at_hit_of g w.support a))
          (map (λ e. e.plane) w.edges) (all_of
          (λ g. Eventually (λ m. IsGeneral d (ahead x d (pos m)) (at_hit_of g w.support a)))
          (map (λ e. e.plane) w.edges) (λ g. general_ahead (at_hit_of g w.support a) x d))

      covers : Eventually (λ m. AllByRecursion (λ e. (coverage x d e ≡ coverage (ahead x d (pos m)) d e) × IsOffEnds d
          (ahead x d (pos m)) e) (directed_edges w.edges))
      covers =
          eventually_each (λ e m. (coverage x d e ≡ coverage (ahead x d (pos m)) d e) × IsOffEnds d (ahead x d (pos m))
          e) (directed_edges w.edges) (each_map (λ e. (pos 0 <ℤ e.from.w) × (pos 0 <ℤ e.to.w))
          (λ e. Eventually (λ m. (coverage x d e ≡ coverage (ahead x d (pos m)) d e) × IsOffEnds d (ahead x d (pos m))
          e)) (directed_edges w.edges) (λ e p. coverage_ahead x d e p.0 p.1 direction) (outline_weights w line))

  -- a point far enough ahead, that is close enough to x, is ready
  pub ready_ahead : (ts : List Tri) (ws : List WrittenFace) → AllByRecursion IsOutlined ws → Eventually (λ m. IsReady x d ts ws (ahead x d (pos m)))
  ready_ahead ts ws lines =
      eventually_map (λ m h. record { weight = h.0; tris = h.1.0; faces = h.1.1 })
      (eventually_both heavy (eventually_both (eventually_each (λ u m. IsReadyTri d (ahead x d (pos m)) u) ts
      (all_of (λ u. Eventually (λ m. IsReadyTri d (ahead x d (pos m)) u)) ts ready_tri))
      (eventually_each (λ w m. IsReadyFace x d (ahead x d (pos m)) w) ws
      (each_map IsOutlined (λ w. Eventually (λ m. IsReadyFace x d (ahead x d (pos m)) w)) ws ready_face lines))))
    where
      heavy : Eventually (λ m. pos 0 <ℤ (ahead x d (pos m)).w)
      heavy = record { from = 1; holds = λ m l. let p : pos 0 <ℤ pos m = omega (arith, ints) in pos_mul p weight }

-- ---- the corners
-- p is a point clear of the triangles and of the faces
pub record IsClearCorner (ts : List Tri) (ws : List WrittenFace) (p : Spot) : Type 0 where
  pub weight : pos 0 <ℤ p.w
  pub scene : AreClear (faces_of ts) p
  pub faces : AreClear (map face_from ws) p

module _ (x : Spot) (d : Vector) (t : Spot) (c : Axis) (sa sb : ℤ) (heavy : pos 0 <ℤ t.w) (nc : component d c ≢ pos 0) (na : sa ≢ pos 0) (nb : sb ≢ pos 0) where
  weights : Eventually (λ m. pos 0 <ℤ (corner c t (pos m) sa sb).w)
  weights = weight_corner c t sa sb heavy

  -- the planes are missed
  off_all : (hs : List Plane) → AllByRecursion (λ h. IsGeneral d t h) hs →
      Eventually (λ m. AllByRecursion (λ h. value_at h (corner c t (pos m) sa sb) ≡ pos 0 → HasNoNormal h) hs)
  off_all hs g =
      eventually_each (λ h m. value_at h (corner c t (pos m) sa sb) ≡ pos 0 →
      HasNoNormal h) hs (each_map (λ h. IsGeneral d t h)
      (λ h. Eventually (λ m. value_at h (corner c t (pos m) sa sb) ≡ pos 0 → HasNoNormal h)) hs
      (λ h. off_corner h c d t sa sb nc na nb) g)

  clear_tri : (u : Tri) → IsReadyTri d t u → Eventually (λ m. IsClearOf u (corner c t (pos m) sa sb))
  clear_tri u r =
      eventually_map (λ m h. off_clear (corner c t (pos m) sa sb) u (h X) (h Y) (h Z)) (each_axis (λ a. off_tri a))
    where
      off_tri : (a : Axis) → Eventually (λ m. IsOff (unit a) (corner c t (pos m) sa sb) u)
      off_tri a =
          eventually_map (λ m h. record {
            weight = h.0;
            plane = h.1.0;
            first = h.1.1.0;
            second = h.1.1.1.0;
            third =
                h.1.1.1.1.0;
          }) (eventually_both weights (off_all (planes_along u (unit a)) (r.planes a)))

  clear_face : (w : WrittenFace) → IsOutlined w → IsReadyFace x d t w → Eventually (λ m. IsClear (face_from w) (corner c t (pos m) sa sb))
  clear_face w line r =
      eventually_map (λ m h. off_face_is_clear w (corner c t (pos m) sa sb) line
      (record { weight = h.0; support = h.1.0; hits = h.1.1 }))
      (eventually_both weights (eventually_both (off_corner w.support c d t sa sb nc na nb r.planes.support)
      (each_axis off_hits)))
    where
      off_hits : (a : Axis) → Eventually (λ m. AllByRecursion
          (λ g. value_at (at_hit_of g w.support a) (corner c t (pos m) sa sb) ≡ pos 0 →
          HasNoNormal (at_hit_of g w.support a)) (map (λ e. e.plane) w.edges))
      off_hits a =
          eventually_each (λ g m. value_at (at_hit_of g w.support a) (corner c t (pos m) sa sb) ≡ pos 0 →
          HasNoNormal (at_hit_of g w.support a)) (map (λ e. e.plane) w.edges)
          (each_map (λ g. IsGeneral d t (at_hit_of g w.support a))
          (λ g. Eventually (λ m. value_at (at_hit_of g w.support a) (corner c t (pos m) sa sb) ≡ pos 0 →
          HasNoNormal (at_hit_of g w.support a))) (map (λ e. e.plane) w.edges)
          (λ g. off_corner (at_hit_of g w.support a) c d t sa sb nc na nb) (r.hits a))

  clear_all : (ws : List WrittenFace) → AllByRecursion IsOutlined ws → AllByRecursion (λ w. IsReadyFace x d t w) ws →
      Eventually (λ m. AreClear (map face_from ws) (corner c t (pos m) sa sb))
  clear_all [] lines r = record { from = 0; holds = λ m l. tt }
  clear_all (w ∷ ws) lines r = eventually_map (λ m h. (h.0, h.1)) (eventually_both (clear_face w lines.0 r.0) (clear_all ws lines.1 r.1))

  -- if t is ready, its corners are clear
  pub clear_corner : (ts : List Tri) (ws : List WrittenFace) → AllByRecursion IsOutlined ws → IsReady x d ts ws t →
      Eventually (λ m. IsClearCorner ts ws (corner c t (pos m) sa sb))
  clear_corner ts ws lines r =
      eventually_map (λ m h. record {
        weight = h.0;
        scene = clear_faces (corner c t (pos m) sa sb) ts h.1.0;
        faces =
            h.1.1;
      }) (eventually_both weights (eventually_both
      (eventually_each (λ u m. IsClearOf u (corner c t (pos m) sa sb)) ts
      (each_map (λ u. IsReadyTri d t u) (λ u. Eventually (λ m. IsClearOf u (corner c t (pos m) sa sb))) ts clear_tri
      r.tris)) (clear_all ws lines r.faces)))
