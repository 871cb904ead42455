-- Beside every point there are general lines: a line meets two planes at one place only where one
-- is a multiple of the other.
use Rattle.std.proofs.Common.{◌≡◌, ◌≢◌, ℕ, zero, suc, ◌<◌, refl, ap, ◌∙◌, sym, List, [], ◌∷◌, length, Bool, true, false}
use Rattle.std.proofs.Common.{not, ◌⊎◌, inl, inr, arith, ℤ, pos, negsuc, neg_ℤ, ◌+ℤ◌, ◌*ℤ◌, ◌<ℤ◌}
use borrow.Author.Differences.{ints}
use lib.IntN.{*ℤ_comm}
use Rattle.std.specs.List.{AllByRecursion}
use Rattle.std.proofs.lemmas.Bool.{cases_Bool, and_parts, false≢true, not-true}
use Rattle.ember_algebra.specs.Large.{Eventually}
use Rattle.ember_algebra.specs.Relations.{Every}
use Rattle.ember_algebra.specs.Sign.{sign, is_zero}
use Rattle.ember_algebra.proofs.Large.{eventually_both, eventually_map, eventually_pos}
use Rattle.ember_algebra.proofs.Laws.{linear, same_from_difference}
use Rattle.ember_algebra.proofs.Order.{by_sign, zero_product, zero_from_sign}
use Rattle.ember_algebra.proofs.Ring.{◌⊕◌, ◌⊖◌, ◌⊗◌, ◌≈◌, neg, num, solve, cancels}
use Rattle.ember_model.specs.declared.tri.Tri.{Tri}
use Rattle.ember_model.specs.declared.plane.Plane.{Plane}
use Rattle.ember_model.specs.declared.point.Spot.{Spot}
use Rattle.ember_model.specs.declared.point.Axis.{Axis}
use Rattle.ember_model.specs.declared.point.Axis.TheVariants.{X, Y, Z}
use Rattle.ember_model.specs.Planes.{value_at, along, unit, support_of, edge_through, HasNoNormal}
use Rattle.ember_model.specs.Points.{scaled, moved, offset_by}
use Rattle.ember_model.specs.Faces.{size, hit, is_inside, is_flat, face_of}
use Rattle.ember_model.specs.Clear.{AreClear, IsClearOf}
use Rattle.ember_model.specs.Meshes.{faces_of}
use Rattle.ember_model.proofs.Hits.{value_ray, ray_weight}
use Rattle.ember_model.proofs.PlaneValues.{value_hit}
use Rattle.ember_model.proofs.SignTests.{clash, zero_out, nonzero_out, zero_scaled, zero_times, size_positive, positive_out}
use Rattle.ember_law.proofs.FlatTriangles.{flat_in}
use Rattle.ember_law.proofs.Generic.{cancel_zero, at_hit_of}
use Rattle.ember_law.proofs.Generic.{IsOff as IsOffEdges, value_at_hit}
use Rattle.ember_law.proofs.GenericClear.{off_clear, clear_faces}
use Rattle.ember_law.proofs.Shifted.{off_shifted, weight_shifted}
use Rattle.ember_box.specs.Boxes.{Cell}
use Rattle.ember_box.specs.Near.{near, tri_at}
use Rattle.ember_box.specs.Regions.{walls, cutting_planes}
use Rattle.ember_meaning.proofs.CountedPoints.{IsOff, IsFair, IsFairAt}
use Rattle.ember_meaning.proofs.Lines.{In, is_hit, is_tri_hit, tri_hits}
use Rattle.ember_meaning.proofs.HitConditions.{IsGeneralAt, IsGeneralLine}
use Rattle.ember_meaning.proofs.Members.{in_filter, of_filter, every_in}

-- ---- what holds for every large number
eventually_every : {X : Type 0} (P : X → ℕ → Type 0) (xs : List X) → ((x : X) → Eventually (P x)) → Eventually (λ m. Every (λ x. P x m) xs)
eventually_every P [] f = record { from = 0; holds = λ m l. tt }
eventually_every P (x ∷ xs) f = eventually_both (f x) (eventually_every P xs f)

eventually_below : (P : ℕ → ℕ → Type 0) (n : ℕ) → ((i : ℕ) → Eventually (P i)) → Eventually (λ m. (i : ℕ) → i < n → P i m)
eventually_below P zero f = record { from = 0; holds = λ m l i h. absurd (omega arith) }
eventually_below P (suc n) f =
    eventually_map (λ m h. join m h.0 h.1) (eventually_both (f 0) (eventually_below (λ i. P (suc i)) n (λ i. f (suc i))))
  where
    join : (m : ℕ) → P 0 m → ((i : ℕ) → i < n → P (suc i) m) → (i : ℕ) → i < suc n → P i m
    join m a b zero l = a
    join m a b (suc i) l = b i (omega arith)

eventually_where : {P : ℕ → Type 0} (b : Bool) → (b ≡ false → Eventually P) → Eventually (λ m. b ≡ false → P m)
eventually_where true f = record { from = 0; holds = λ m l e. absurd (false≢true (sym e)) }
eventually_where false f = eventually_map (λ m h e. h) (f refl)

-- ---- planes that meet a line where another does
-- wherever a line along a meets n, g is 0
record IsMultiple (a : Axis) (n g : Plane) : Type 0 where
  pub zero : (v : Spot) → value_at g (hit n a v) ≡ pos 0

-- the line through q along a meets g and n at two places, or g is a multiple of n
abbrev IsGeneralTo : Axis → Spot → Plane → Plane → Type 0
IsGeneralTo a q n g = value_at g (hit n a q) ≡ pos 0 → IsMultiple a n g

module _ (a : Axis) (n g : Plane) (m : IsMultiple a n g) (crosses : along n a ≢ pos 0) where
  told : (v : Spot) → size (along n a) *ℤ value_at g v ≡ sign (along n a) *ℤ value_at n v *ℤ along g a
  told v =
      same_from_difference (size (along n a) *ℤ value_at g v) (sign (along n a) *ℤ value_at n v *ℤ along g a) (sym (value_hit g n a v) ∙ m.zero v)

  none : (v : Spot) → sign (along n a) *ℤ value_at n v *ℤ along g a ≡ pos 0 → value_at g v ≡ pos 0
  none v z =
      cancel_zero (size (along n a)) (value_at g v) (size_positive (along n a) crosses) (told v ∙ z)

  follows : (v : Spot) → value_at n v ≡ pos 0 → value_at g v ≡ pos 0
  follows v z =
      none v (zero_times (sign (along n a) *ℤ value_at n v) (along g a) (zero_scaled (sign (along n a)) (value_at n v) z))

  level : along g a ≡ pos 0 → (v : Spot) → value_at g v ≡ pos 0
  level z v = none v (zero_scaled (sign (along n a) *ℤ value_at n v) (along g a) z)

  leads : along g a ≢ pos 0 → (v : Spot) → value_at g v ≡ pos 0 → value_at n v ≡ pos 0
  leads s v z =
      outer (zero_product (sym (told v) ∙ zero_scaled (size (along n a)) (value_at g v) z))
    where
      inner : (sign (along n a) ≡ pos 0) ⊎ (value_at n v ≡ pos 0) → value_at n v ≡ pos 0
      inner (inl e) = absurd (crosses (zero_from_sign (along n a) e))
      inner (inr e) = e

      outer : (sign (along n a) *ℤ value_at n v ≡ pos 0) ⊎ (along g a ≡ pos 0) → value_at n v ≡ pos 0
      outer (inl e) = inner (zero_product e)
      outer (inr e) = absurd (s e)

-- a plane that is 0 everywhere has no normal
no_normal : (g : Plane) → ((v : Spot) → value_at g v ≡ pos 0) → HasNoNormal g
no_normal g z = (
  sym (solve 4 (λ a b c d. a ⊗ num (pos 1) ⊕ b ⊗ num (pos 0) ⊕ c ⊗ num (pos 0) ⊖ d ⊗ num (pos 0) ≈ a) cancels g.a g.b
      g.c g.d) ∙ z (record { x = pos 1; y = pos 0; z = pos 0; w = pos 0 }),
  sym (solve 4 (λ a b c d. a ⊗ num (pos 0) ⊕ b ⊗ num (pos 1) ⊕ c ⊗ num (pos 0) ⊖ d ⊗ num (pos 0) ≈ b) cancels g.a
      g.b g.c g.d) ∙ z (record { x = pos 0; y = pos 1; z = pos 0; w = pos 0 }),
  sym (solve 4 (λ a b c d. a ⊗ num (pos 0) ⊕ b ⊗ num (pos 0) ⊕ c ⊗ num (pos 1) ⊖ d ⊗ num (pos 0) ≈ c) cancels g.a
      g.b g.c g.d) ∙ z (record { x = pos 0; y = pos 0; z = pos 1; w = pos 0 }),
)

-- a plane with no normal that is 0 at one point is 0 everywhere
constant : (h : Plane) → HasNoNormal h → (v : Spot) → value_at h v ≡ neg_ℤ (v.w *ℤ h.d)
constant h n v =
    rw (n.0, n.1, n.2) (solve 5 (λ d x y z w. num (pos 0) ⊗ x ⊕ num (pos 0) ⊗ y ⊕ num (pos 0) ⊗ z ⊖ d ⊗ w ≈ neg (w ⊗ d)) cancels h.d v.x v.y v.z v.w)

all_zero : (h : Plane) (q : Spot) → pos 0 <ℤ q.w → HasNoNormal h → value_at h q ≡ pos 0 → (v : Spot) → value_at h v ≡ pos 0
all_zero h q w n e v =
    constant h n v ∙ ap neg_ℤ (zero_scaled v.w h.d (cancel_zero q.w h.d w (none (q.w *ℤ h.d) (sym (constant h n q) ∙ e))))
  where
    none : (x : ℤ) → neg_ℤ x ≡ pos 0 → x ≡ pos 0
    none x e = omega (arith, linear, e)

-- the lines through points directly beside p are general to any two planes
general_to : (a : Axis) (p : Spot) → pos 0 <ℤ p.w → (n g : Plane) → Eventually (λ m. IsGeneralTo a (offset_by p (pos m)) n g)
general_to a p w n g =
    eventually_map (λ m h e. let q = offset_by p (pos m) in let z = value_at_hit g n a q ∙ e in
    record { zero = λ v. sym (value_at_hit g n a v) ∙ all_zero (at_hit_of g n a) q h.0 (h.1 z) z v })
    (eventually_both (weight_shifted p w) (off_shifted p (at_hit_of g n a)))

-- ---- beside a place where a plane is met
-- the planes of a triangle, and along an axis its edges
abbrev AreGeneralAlong : Axis → Spot → Plane → Tri → Axis → Type 0
AreGeneralAlong k q n u a =
    IsGeneralTo k q n (edge_through u.a u.b (unit a)) × (IsGeneralTo k q n (edge_through u.b u.c (unit a)) × IsGeneralTo k q n (edge_through u.c u.a (unit a)))

record IsGeneralFor (k : Axis) (q : Spot) (n : Plane) (u : Tri) : Type 0 where
  pub plane : IsGeneralTo k q n (support_of u)
  pub edges : (a : Axis) → AreGeneralAlong k q n u a

general_for : (k : Axis) (p : Spot) → pos 0 <ℤ p.w → (n : Plane) (u : Tri) → Eventually (λ m. IsGeneralFor k (offset_by p (pos m)) n u)
general_for k p w n u =
    eventually_map (λ m h. record { plane = h.0; edges = axes m h.1.0 h.1.1.0 h.1.1.1 })
    (eventually_both (general_to k p w n (support_of u))
    (eventually_both (edges X) (eventually_both (edges Y) (edges Z))))
  where
    edges : (a : Axis) → Eventually (λ m. AreGeneralAlong k (offset_by p (pos m)) n u a)
    edges a =
        eventually_both (general_to k p w n (edge_through u.a u.b (unit a)))
        (eventually_both (general_to k p w n (edge_through u.b u.c (unit a)))
        (general_to k p w n (edge_through u.c u.a (unit a))))

    axes : (m : ℕ) → AreGeneralAlong k (offset_by p (pos m)) n u X → AreGeneralAlong k (offset_by p (pos m)) n u Y →
        AreGeneralAlong k (offset_by p (pos m)) n u Z → (a : Axis) → AreGeneralAlong k (offset_by p (pos m)) n u a
    axes m x y z X = x
    axes m x y z Y = y
    axes m x y z Z = z

-- where the line through q along k meets the plane n
module _ (k : Axis) (q : Spot) (n : Plane) (crosses : along n k ≢ pos 0) where
  abbrev hit_point : Spot
  hit_point = hit n k q

  -- a triangle's plane that is a multiple of n doesn't hold the line
  slope : (u : Tri) → is_flat u ≡ false → IsMultiple k n (support_of u) → along (support_of u) k ≢ pos 0
  slope u f m z =
      let h = no_normal (support_of u) (level k n (support_of u) m crosses z) in
      clash (flat_in u (record { a = h.0; b = h.1; c = h.2 })) f

  -- a plane that is 0 at the place where a triangle's is, is 0 wherever that is
  off_plane : (u : Tri) (g : Plane) → is_flat u ≡ false → IsGeneralTo k q n (support_of u) → IsGeneralTo k q n g → IsOff hit_point (support_of u) g
  off_plane u g f hs hg =
      by (cases_Bool (is_zero (value_at (support_of u) hit_point))) (cases_Bool (is_zero (value_at g hit_point)))
    where
      meets : is_zero (value_at (support_of u) hit_point) ≡ true → is_zero (value_at g hit_point) ≡ true → (v : Spot) →
          is_zero (value_at (support_of u) v) ≡ true → is_zero (value_at g v) ≡ true
      meets e d v z =
          let m = hs (zero_out (value_at (support_of u) hit_point) e) in
          ap is_zero (follows k n g (hg (zero_out (value_at g hit_point) d)) crosses v
          (leads k n (support_of u) m crosses (slope u f m) v (zero_out (value_at (support_of u) v) z)))

      by : (is_zero (value_at (support_of u) hit_point) ≡ true) ⊎ (is_zero (value_at (support_of u) hit_point) ≡ false)
          → (is_zero (value_at g hit_point) ≡ true) ⊎ (is_zero (value_at g hit_point) ≡ false) →
          IsOff hit_point (support_of u) g
      by (inr e) d = inl (λ a b. clash a e)
      by (inl e) (inr d) = inl (λ a b. clash b d)
      by (inl e) (inl d) = inr (record { zero = meets e d })

not_up : (m v c : ℤ) → pos 0 <ℤ (v *ℤ m +ℤ c) → m *ℤ v +ℤ c ≡ pos 0 → ⊥
not_up m v c p z = let e = *ℤ_comm m v in omega (arith, linear, p, z, e)

not_down : (m v c : ℤ) → pos 0 <ℤ (neg_ℤ v *ℤ m +ℤ neg_ℤ c) → m *ℤ v +ℤ c ≡ pos 0 → ⊥
not_down m v c p z =
    let e = solve 2 (λ m v. neg v ⊗ m ≈ neg (m ⊗ v)) cancels m v in omega (arith, linear, p, z, e)

module _ (k : Axis) (q : Spot) (weight : pos 0 <ℤ q.w) (n : Plane) (crosses : along n k ≢ pos 0) (e : ℤ) (steps : e ≢ pos 0) where
  abbrev at : ℕ → Spot
  at m = moved (scaled (pos m) (hit n k q)) k e

  -- directly beside the place no plane with a normal is met
  off_beside : (g : Plane) → IsGeneralTo k q n g → Eventually (λ m. value_at g (at m) ≡ pos 0 → HasNoNormal g)
  off_beside g h = by_sign (value_at g (hit n k q)) above on under
    where
      ray : (m : ℕ) → value_at g (at m) ≡ pos 0 → pos m *ℤ value_at g (hit n k q) +ℤ e *ℤ along g k ≡ pos 0
      ray m z = sym (value_ray g k (hit n k q) (pos m) e) ∙ z

      above : pos 0 <ℤ value_at g (hit n k q) → Eventually (λ m. value_at g (at m) ≡ pos 0 → HasNoNormal g)
      above l =
          eventually_map (λ m p z. absurd (not_up (pos m) (value_at g (hit n k q)) (e *ℤ along g k) p (ray m z))) (eventually_pos (e *ℤ along g k) l)

      under : value_at g (hit n k q) <ℤ pos 0 → Eventually (λ m. value_at g (at m) ≡ pos 0 → HasNoNormal g)
      under l =
          eventually_map (λ m p z. absurd (not_down (pos m) (value_at g (hit n k q)) (e *ℤ along g k) p (ray m z)))
          (eventually_pos {a = neg_ℤ (value_at g (hit n k q))} (neg_ℤ (e *ℤ along g k)) (omega (arith, linear, l)))

      rest : (x y : ℤ) → x ≡ pos 0 → x +ℤ y ≡ pos 0 → y ≡ pos 0
      rest x y a b = omega (arith, linear, a, b)

      flat : (e ≡ pos 0) ⊎ (along g k ≡ pos 0) → along g k ≡ pos 0
      flat (inl z) = absurd (steps z)
      flat (inr z) = z

      on : value_at g (hit n k q) ≡ pos 0 → Eventually (λ m. value_at g (at m) ≡ pos 0 → HasNoNormal g)
      on l =
          record {
            from = 0;
            holds = λ m b z. no_normal g
                (level k n g (h l) crosses (flat (zero_product
                (rest (pos m *ℤ value_at g (hit n k q)) (e *ℤ along g k) (zero_scaled (pos m) (value_at g (hit n k q)) l)
                (ray m z)))));
          }

  weights : Eventually (λ m. pos 0 <ℤ (at m).w)
  weights =
      record {
        from = 1;
        holds = λ m l. positive_out (at m).w
            (ray_weight k (hit n k q) (pos m) e (omega (arith, ints))
            (positive_out (hit n k q).w (ray_weight k q (size (along n k)) (neg_ℤ (sign (along n k) *ℤ value_at n q))
            (size_positive (along n k) crosses) weight)));
      }

  off_edges : (u : Tri) → IsGeneralFor k q n u → (a : Axis) → Eventually (λ m. IsOffEdges (unit a) (at m) u)
  off_edges u h a =
      let s = h.edges a in
      eventually_map (λ m r. record {
        weight = r.0;
        plane = r.1.0;
        first = r.1.1.0;
        second = r.1.1.1.0;
        third =
            r.1.1.1.1;
      }) (eventually_both weights (eventually_both (off_beside (support_of u) h.plane)
      (eventually_both (off_beside (edge_through u.a u.b (unit a)) s.0)
      (eventually_both (off_beside (edge_through u.b u.c (unit a)) s.1.0)
      (off_beside (edge_through u.c u.a (unit a)) s.1.1)))))

  all_clear : (us : List Tri) → Every (IsGeneralFor k q n) us → Eventually (λ m. AllByRecursion (λ u. IsClearOf u (at m)) us)
  all_clear [] h = record { from = 0; holds = λ m l. tt }
  all_clear (u ∷ us) h =
      eventually_both (eventually_map (λ m r. off_clear (at m) u r.0 r.1.0 r.1.1)
      (eventually_both (off_edges u h.0 X) (eventually_both (off_edges u h.0 Y) (off_edges u h.0 Z))))
      (all_clear us h.1)

  clear_beside : (us : List Tri) → Every (IsGeneralFor k q n) us → Eventually (λ m. AreClear (faces_of us) (at m))
  clear_beside us h = eventually_map (λ m c. clear_faces (at m) us c) (all_clear us h)

-- ---- general lines
-- an index whose triangle isn't flat is in range
stands_in : (ts : List Tri) (i : ℕ) → is_flat (tri_at ts i) ≡ false → i < length ts
unfolding is_flat
stands_in [] i f = absurd (false≢true (sym f))
stands_in (t ∷ ts) zero f = omega arith
stands_in (t ∷ ts) (suc i) f = let l = stands_in ts i f in omega (arith, l)

module _ (scene : List Tri) (all : List Cell) (k : Axis) (p : Spot) (weight : pos 0 <ℤ p.w) where
  abbrev near_p : ℕ → Spot
  near_p m = offset_by p (pos m)

  module _ (n : Plane) (crosses : along n k ≢ pos 0) where
    abbrev met : ℕ → Spot
    met m = hit n k (near_p m)

    off : (u : Tri) → is_flat u ≡ false → (g : Plane) → Eventually (λ m. IsOff (met m) (support_of u) g)
    off u f g =
        eventually_map (λ m h. off_plane k (near_p m) n crosses u g f h.0 h.1)
        (eventually_both (general_to k p weight n (support_of u)) (general_to k p weight n g))

    fair_in : (c : Cell) (ts : List Tri) (i : ℕ) → Eventually (λ m. is_flat (tri_at ts i) ≡ false → IsFair c ts i (met m))
    fair_in c ts i =
        eventually_where (is_flat (tri_at ts i))
        (λ f. eventually_map (λ m h. record { walls = h.0; cutting_planes = h.1 })
        (eventually_both (eventually_every (λ w m. IsOff (met m) (support_of (tri_at ts i)) w.plane) (walls c)
        (λ w. off (tri_at ts i) f w.plane)) (eventually_every
        (λ b m. IsOff (met m) (support_of (tri_at ts i)) b.plane) (cutting_planes ts i)
        (λ b. off (tri_at ts i) f b.plane))))

    fair_at : (c : Cell) → Eventually (λ m. IsFairAt scene (met m) c)
    fair_at c =
        eventually_map (λ m h i f. h i (stands_in (near scene c) i f) f)
        (eventually_below (λ i m. is_flat (tri_at (near scene c) i) ≡ false →
        IsFair c (near scene c) i (met m)) (length (near scene c)) (fair_in c (near scene c)))

    general_at : Eventually (λ m. IsGeneralAt scene all k (met m))
    general_at =
        eventually_map (λ m h. record {
          fair = h.1.0;
          slopes = slopes m h.1.1;
          clear_before =
              clear_beside k (near_p m) h.0 n crosses (negsuc 0) (λ z. omega (arith, ints, z)) scene h.1.1;
          clear_after =
              clear_beside k (near_p m) h.0 n crosses (pos 1) (λ z. omega (arith, ints, z)) scene h.1.1;
        })
        (eventually_both (weight_shifted p weight)
        (eventually_both (eventually_every (λ c m. IsFairAt scene (met m) c) all fair_at)
        (eventually_every (λ u m. IsGeneralFor k (near_p m) n u) scene (general_for k p weight n))))
      where
        slopes : (m : ℕ) → Every (IsGeneralFor k (near_p m) n) scene → (u : Tri) → In u scene → is_flat u ≡ false →
            value_at (support_of u) (met m) ≡ pos 0 → is_zero (along (support_of u) k) ≡ false
        slopes m h u i f z =
            nonzero (along (support_of u) k) (slope k (near_p m) n crosses u f ((every_in (IsGeneralFor k (near_p m) n) scene u h i).plane z))
          where
            nonzero : (z : ℤ) → z ≢ pos 0 → is_zero z ≡ false
            nonzero (pos zero) n = absurd (n refl)
            nonzero (pos (suc m)) n = refl
            nonzero (negsuc m) n = refl

  -- the lines along k through points directly beside p are general
  pub general_line : Eventually (λ m. IsGeneralLine scene all k (near_p m))
  unfolding face_of
  general_line =
      eventually_map (λ m h t i. every_in (λ t. is_zero (along (support_of t) k) ≡ false →
      IsGeneralAt scene all k (hit (support_of t) k (near_p m))) scene t h (of_filter (is_tri_hit k (near_p m)) scene t i)
      (crossed m t i)) (eventually_every (λ t m. is_zero (along (support_of t) k) ≡ false →
      IsGeneralAt scene all k (hit (support_of t) k (near_p m))) scene
      (λ t. eventually_where (is_zero (along (support_of t) k))
      (λ z. general_at (support_of t) (nonzero_out (along (support_of t) k) z))))
    where
      crossed : (m : ℕ) (t : Tri) → In t (tri_hits k (near_p m) scene) → is_zero (along (support_of t) k) ≡ false
      crossed m t i =
          let h = and_parts (not (is_flat t)) (is_hit k (near_p m) (face_of t)) (in_filter (is_tri_hit k (near_p m)) scene t i) in
          not-true (is_zero (along (support_of t) k))
          (and_parts (not (is_zero (along (support_of t) k)))
          (is_inside (face_of t) (hit (support_of t) k (near_p m))) h.1).0
