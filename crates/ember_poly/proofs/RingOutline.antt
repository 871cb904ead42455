-- The sides of a ring are the outline of its face.
use Rattle.std.proofs.Common.{◌≡◌, ◌⊎◌, inl, inr, ⊎_elim, refl, sym, ap, subst, ◌∙◌, arith, ℕ, zero, suc, ◌<◌, ◌≤◌}
use Rattle.std.proofs.Common.{Some, None, true, List, [], ◌∷◌, ◌++◌, length, map, slice_get, ℤ, pos, ◌*ℤ◌, ◌<ℤ◌}
use Rattle.std.specs.List.{AllByRecursion}
use Rattle.std.proofs.lemmas.Option.{slice_get-get_or}
use Rattle.std.proofs.lemmas.List.{append_assoc}
use Rattle.ember_algebra.proofs.Laws.{linear}
use Rattle.ember_algebra.proofs.Ring.{◌⊕◌, ◌⊖◌, ◌⊗◌, ◌≈◌, num, solve, cancels}
use Rattle.ember_algebra.proofs.Order.{mul_pos_neg}
use Rattle.ember_model.specs.declared.plane.Plane.{Plane}
use Rattle.ember_model.specs.declared.point.Spot.{Spot}
use Rattle.ember_model.specs.declared.face.Face.{Face}
use Rattle.ember_model.specs.Planes.{value_at}
use Rattle.ember_model.specs.Edges.{SamePoint, is_on_edge, HasEdge, SameEdge, IsEarliest, RingEdge, IsEdge, IsEdgeChain}
use Rattle.ember_model.specs.Edges.{HasEdgeOf, HaveDistinctEdges, IsOutline}
use Rattle.ember_poly.specs.Rings.{Side, IsBelow, IsNotAbove, IsConvexRing, IsInClosedRing, IsInPlanes, Represents}
use Rattle.ember_poly.specs.Sides.{OldestFirst, HasPlaneIndex, IsZeroAtOnePoint, EachHasSideOrNoEdge}
use Rattle.ember_poly.proofs.Chains.{each-front, each-back, each_map}
use Rattle.ember_poly.proofs.Rotations.{turned_by, each-turned}
use Rattle.ember_poly.proofs.RingBelow.{head_or}
use Rattle.ember_poly.proofs.Hull.{last_of}
use Rattle.ember_poly.proofs.InsidePoints.{corner_closed}
use Rattle.ember_poly.proofs.Face.{closed_from_face, face_from_closed}
use Rattle.ember_poly.proofs.EdgeEnds.{edge_start, edge_end, edge_leads, not_after}
use Rattle.ember_poly.proofs.FaceTests.{edge_in, edge_out}

-- ---- members of lists
-- what holds of all members holds of the one at an index
pub each_get : {X : Type 0} (P : X → Type 0) (xs : List X) (i : ℕ) (x : X) → AllByRecursion P xs → slice_get xs i ≡ Some x → P x
each_get P [] i x h e = absurd (by e)
  where
    by : {X : Type 0} {x : X} → None ≡ Some x → ⊥
    by e = cc
each_get P (y ∷ xs) zero x h e = subst P (by e) h.0
  where
    by : Some y ≡ Some x → y ≡ x
    by e = cc
each_get P (y ∷ xs) (suc i) x h e = each_get P xs i x h.1 e

-- a member of a list with c in it is c, or has what all others have
member_is_here_or_else : {X : Type 0} (P : X → Type 0) (us : List X) (c : X) (ws : List X) (i : ℕ) (x : X) →
    AllByRecursion P us → AllByRecursion P ws → slice_get (us ++ c ∷ ws) i ≡ Some x → P x ⊎ ((x ≡ c) × (i ≡ length us))
member_is_here_or_else P [] c ws zero x h k e = inr (by e, refl)
  where
    by : Some c ≡ Some x → x ≡ c
    by e = cc
member_is_here_or_else P [] c ws (suc i) x h k e = inl (each_get P ws i x k e)
member_is_here_or_else P (y ∷ us) c ws zero x h k e = inl (subst P (by e) h.0)
  where
    by : Some y ≡ Some x → y ≡ x
    by e = cc
member_is_here_or_else P (y ∷ us) c ws (suc i) x h k e =
    ⊎_elim (λ p. inl p) (λ q. inr (q.0, ap (λ n. suc n) q.1)) (member_is_here_or_else P us c ws i x h.1 k e)

-- ---- the ring begun before a side
pub record Begun (n : Plane) (us : List Side) (c : Side) (ws : List Side) : Type 1 where
  pub before : Side
  pub behind : Side
  pub others : List Side
  pub sound : IsConvexRing n (before ∷ c ∷ behind ∷ others)
  pub move : (P : Side → Type 0) → AllByRecursion P (us ++ c ∷ ws) → AllByRecursion P (before ∷ c ∷ behind ∷ others)
  pub rest : (P : Side → Type 0) → AllByRecursion P (before ∷ behind ∷ others) → AllByRecursion P (ws ++ us)
  pub next : head_or c (ws ++ us) ≡ behind

begin : (n : Plane) (us : List Side) (c : Side) (ws : List Side) → IsConvexRing n (us ++ c ∷ ws) → Begun n us c ws
begin n us c ws s = by (ws ++ us) (turned_by n us (c ∷ ws) s) (λ P e. each-turned P us (c ∷ ws) e) (λ P e. e) refl
  where
    third : (q : Side) (front : List Side) → IsConvexRing n (q ∷ c ∷ front) →
        ((P : Side → Type 0) → AllByRecursion P (us ++ c ∷ ws) → AllByRecursion P (q ∷ c ∷ front)) →
        ((P : Side → Type 0) → AllByRecursion P (q ∷ front) → AllByRecursion P (ws ++ us)) →
        head_or c (ws ++ us) ≡ head_or q front → Begun n us c ws
    third q [] s m r e = absurd s.0
    third q (y ∷ ys) s m r e = record { before = q; behind = y; others = ys; sound = s; move = m; rest = r; next = e }

    front_head : (y : Side) (ys : List Side) (front : List Side) (q : Side) → y ∷ ys ≡ front ++ q ∷ [] → y ≡ head_or q front
    front_head y ys [] q e = cc
    front_head y ys (z ∷ zs) q e = cc

    by : (all : List Side) → IsConvexRing n (c ∷ all) →
        ((P : Side → Type 0) → AllByRecursion P (us ++ c ∷ ws) → AllByRecursion P (c ∷ all)) →
        ((P : Side → Type 0) → AllByRecursion P all → AllByRecursion P (ws ++ us)) →
        head_or c (ws ++ us) ≡ head_or c all → Begun n us c ws
    by [] s m r e = absurd s
    by (y ∷ ys) s m r e =
        let l = last_of y ys in
        third l.last l.front (turned_by n (c ∷ l.front) (l.last ∷ []) (subst (λ zs. IsConvexRing n (c ∷ zs)) l.split s))
        (λ P a. each-turned P (c ∷ l.front) (l.last ∷ []) (subst (λ zs. AllByRecursion P (c ∷ zs)) l.split (m P a)))
        (λ P a. r P (subst (λ zs. AllByRecursion P zs) (sym l.split) (each-turned P (l.last ∷ []) l.front a)))
        (e ∙ front_head y ys l.front l.last l.split)

-- ---- one place has one sign
-- a plane has the same value at two tuples of one point, up to their weights
pub same_value : {u v : Spot} → SamePoint u v → (e : Plane) → v.w *ℤ value_at e u ≡ u.w *ℤ value_at e v
same_value {u} {v} s e =
    solve 9 (λ a b c d x y z w k. k ⊗ (a ⊗ x ⊕ b ⊗ y ⊕ c ⊗ z ⊖ d ⊗ w) ≈ a ⊗ (k ⊗ x) ⊕ b ⊗ (k ⊗ y) ⊕ c ⊗ (k ⊗ z) ⊖ d ⊗
    (k ⊗ w)) cancels e.a e.b e.c e.d u.x u.y u.z u.w v.w
    ∙ rw (s.x, s.y, s.z) (solve 9 (λ a b c d x y z w k. a ⊗ (k ⊗ x) ⊕ b ⊗ (k ⊗ y) ⊕ c ⊗ (k ⊗ z) ⊖ d ⊗ (w ⊗ k) ≈ k ⊗
    (a ⊗ x ⊕ b ⊗ y ⊕ c ⊗ z ⊖ d ⊗ w)) cancels e.a e.b e.c e.d v.x v.y v.z v.w u.w)

apart_places : {u v : Spot} (q : Plane) → pos 0 <ℤ u.w → value_at q u ≡ pos 0 → IsBelow q v → SamePoint u v → ⊥
apart_places {u} {v} q w z l s =
    let m = mul_pos_neg w l.under in
    let e : v.w *ℤ value_at q u ≡ pos 0 = rw z (solve 1 (λ k. k ⊗ num (pos 0) ≈ num (pos 0)) cancels v.w) in
    none (u.w *ℤ value_at q v) m (sym (same_value s q) ∙ e)
  where
    none : (a : ℤ) → a <ℤ pos 0 → a ≡ pos 0 → ⊥
    none a p e = absurd (omega (arith, linear, p, e))

-- ---- the outline
abbrev pub edge_of : Side → RingEdge
edge_of s = record { plane = s.plane; start = s.corner }

abbrev pub outline : List Side → List RingEdge
outline xs = map edge_of xs

each_outline : (P : RingEdge → Type 0) (xs : List Side) → AllByRecursion (λ s. P (edge_of s)) xs → AllByRecursion P (outline xs)
each_outline P [] h = tt
each_outline P (x ∷ xs) h = (h.0, each_outline P xs h.1)

among_at : (f : Face) (h : Plane) (xs : List Side) (i : ℕ) (s : Side) → slice_get xs i ≡ Some s → SameEdge f h s.plane → HasEdgeOf f h (outline xs)
among_at f h [] i s e same = by e
  where
    by : None ≡ Some s → ⊥
    by e = cc
among_at f h (x ∷ xs) zero s e same = inl (subst (λ (s : Side). SameEdge f h s.plane) (by e) same)
  where
    by : Some x ≡ Some s → s ≡ x
    by e = cc
among_at f h (x ∷ xs) (suc i) s e same = inr (among_at f h xs i s e same)

module _ (n : Plane) (gs : List Plane) (xs : List Side) (represents : Represents n gs xs) (counted : EachHasSideOrNoEdge n gs xs) where
  abbrev face : Face
  face = record { support = n; edges = gs }

  on_edge : (g : Plane) (v : Spot) → IsInClosedRing n xs v → value_at g v ≡ pos 0 → is_on_edge face g v ≡ true
  on_edge g v c e = edge_in face g v (face_from_closed n gs xs v represents c) e

  closed_of : (g : Plane) (v : Spot) → is_on_edge face g v ≡ true → IsInClosedRing n xs v
  closed_of g v e = closed_from_face n gs xs v represents (edge_out face g v e).closed

  zero_of : (g : Plane) (v : Spot) → is_on_edge face g v ≡ true → value_at g v ≡ pos 0
  zero_of g v e = (edge_out face g v e).zero

  here_of : (i : ℕ) (s : Side) → slice_get xs i ≡ Some s → slice_get gs s.plane_index ≡ Some s.plane
  here_of i s e =
      let l = each_get (λ r. IsInPlanes gs r) xs i s represents.listed e in
      slice_get-get_or gs s.plane_index s.plane l.index ∙ ap (λ p. Some p) l.here

  -- ---- at one side
  module _ (us : List Side) (c : Side) (ws : List Side) (split : xs ≡ us ++ c ∷ ws) where
    begun : Begun n us c ws
    begun = begin n us c ws (subst (λ zs. IsConvexRing n zs) split represents.sound)

    closed_corners : AllByRecursion (λ s. IsInClosedRing n xs s.corner) (us ++ c ∷ ws)
    closed_corners = by [] (us ++ c ∷ ws) split
      where
        by : (ps zs : List Side) → xs ≡ ps ++ zs → AllByRecursion (λ s. IsInClosedRing n xs s.corner) zs
        by ps [] e = tt
        by ps (z ∷ zs) e = (
          subst (λ ys. IsInClosedRing n ys z.corner) (sym e)
              (corner_closed n ps z zs (subst (λ ys. IsConvexRing n ys) e represents.sound)),
          by (ps ++ z ∷ []) zs (e ∙ sym (append_assoc ps (z ∷ []) zs)),
        )

    abbrev end : Spot
    end = begun.behind.corner

    start_closed : IsInClosedRing n xs c.corner
    start_closed = (begun.move (λ s. IsInClosedRing n xs s.corner) closed_corners).1.0

    end_closed : IsInClosedRing n xs end
    end_closed = (begun.move (λ s. IsInClosedRing n xs s.corner) closed_corners).1.1.0

    start_zero : value_at c.plane c.corner ≡ pos 0
    start_zero = begun.sound.1.0.after

    end_zero : value_at c.plane end ≡ pos 0
    end_zero = begun.sound.1.3.0.before

    begun_closed : (v : Spot) → IsInClosedRing n xs v → IsInClosedRing n (begun.before ∷ c ∷ begun.behind ∷ begun.others) v
    begun_closed v k =
        record {
          flat = k.flat;
          weight = k.weight;
          within =
              begun.move (λ s. IsNotAbove s.plane v)
              (subst (λ zs. AllByRecursion (λ s. IsNotAbove s.plane v) zs) split k.within);
        }

    different : SamePoint c.corner end → ⊥
    different s = apart_places begun.before.plane start_closed.weight begun.sound.1.0.before begun.sound.1.1.0 s

    -- each other side is negative at the start or at the end
    apart : AllByRecursion (λ s. IsBelow s.plane c.corner ⊎ IsBelow s.plane end) (ws ++ us)
    apart =
        begun.rest (λ s. IsBelow s.plane c.corner ⊎ IsBelow s.plane end) (
          inr begun.sound.1.1.0,
          each_map (λ s. IsBelow s.plane c.corner) (λ s. IsBelow s.plane c.corner ⊎ IsBelow s.plane end)
              (begun.behind ∷ begun.others) (λ s u. inl u) begun.sound.1.2,
        )

    starts_on : is_on_edge face c.plane c.corner ≡ true
    starts_on = on_edge c.plane c.corner start_closed start_zero

    ends_on : is_on_edge face c.plane end ≡ true
    ends_on = on_edge c.plane end end_closed end_zero

    counts : HasEdge face c.plane
    counts = record { one = c.corner; other = end; holds_one = starts_on; holds_other = ends_on; different = different }

    other_edge : (s : Side) → IsBelow s.plane c.corner ⊎ IsBelow s.plane end → SameEdge face s.plane c.plane → ⊥
    other_edge s u e =
        ⊎_elim (λ l. under_zero l (zero_of s.plane c.corner (e c.corner ∙ starts_on))) (λ l. under_zero l (zero_of s.plane end (e end ∙ ends_on))) u
      where
        under_zero : {p : Plane} {v : Spot} → IsBelow p v → value_at p v ≡ pos 0 → ⊥
        under_zero {p} {v} u e = none (value_at p v) u.under e
          where
            none : (a : ℤ) → a <ℤ pos 0 → a ≡ pos 0 → ⊥
            none a p e = absurd (omega (arith, linear, p, e))

    single_edge : (h : Plane) → IsZeroAtOnePoint n xs h → SameEdge face h c.plane → ⊥
    single_edge h s e =
        different (s c.corner end start_closed end_closed (zero_of h c.corner (e c.corner ∙ starts_on)) (zero_of h end (e end ∙ ends_on)))

    -- a side with this edge is c
    only : (i : ℕ) (s : Side) → slice_get xs i ≡ Some s → SameEdge face s.plane c.plane → (s ≡ c) × (i ≡ length us)
    only i s e same =
        ⊎_elim (λ u. absurd (other_edge s u same)) (λ q. q)
        (member_is_here_or_else (λ s. IsBelow s.plane c.corner ⊎ IsBelow s.plane end) us c ws i s
        (each-back (λ s. IsBelow s.plane c.corner ⊎ IsBelow s.plane end) ws us apart)
        (each-front (λ s. IsBelow s.plane c.corner ⊎ IsBelow s.plane end) ws us apart)
        (subst (λ zs. slice_get zs i ≡ Some s) split e))

    at : slice_get xs (length us) ≡ Some c
    at = subst (λ zs. slice_get zs (length us) ≡ Some c) (sym split) (by us)
      where
        by : (us : List Side) → slice_get (us ++ c ∷ ws) (length us) ≡ Some c
        by [] = refl
        by (u ∷ us) = by us

    stands_for : IsEarliest (λ h. SameEdge face h c.plane) gs c.plane
    stands_for =
        record {
          index = c.plane_index;
          here = here_of (length us) c at;
          holds = λ v. refl;
          earliest =
              λ i h l e same. ⊎_elim (λ b. later i h l e same b) (λ s. single_edge h s same) (counted i h e);
        }
      where
        one : (g h : Plane) → Some g ≡ Some h → g ≡ h
        one g h e = cc

        later : (i : ℕ) (h : Plane) → i < c.plane_index → slice_get gs i ≡ Some h → SameEdge face h c.plane → HasPlaneIndex i xs → ⊥
        later i h l e same b =
            let p : slice_get gs i ≡ Some b.side.plane = subst (λ k. slice_get gs k ≡ Some b.side.plane) b.plane_index (here_of b.at b.side b.here) in
            let o = only b.at b.side b.here (subst (λ p. SameEdge face p c.plane) (one h b.side.plane (sym e ∙ p)) same) in
            absurd (omega (arith, l, sym b.plane_index ∙ ap (λ (s : Side). s.plane_index) o.0))

    is_edge : IsEdge face (edge_of c) (head_or c (ws ++ us)).corner
    is_edge =
        subst (λ (s : Side). IsEdge face (edge_of c) s.corner) (sym begun.next) (record {
          is_earliest = stands_for;
          starts = starts_on;
          ends = ends_on;
          leads = edge_leads n begun.before c begun.behind begun.others begun.sound;
          from_start = λ v e. not_after n c.plane c.corner v
              (edge_start n begun.before c begun.behind begun.others v begun.sound
              (begun_closed v (closed_of c.plane v e)) (zero_of c.plane v e));
          to_end = λ v e. not_after n c.plane v end
              (edge_end n begun.before c begun.behind begun.others v begun.sound (begun_closed v (closed_of c.plane v e))
              (zero_of c.plane v e));
        })

  -- ---- once round
  module _ (first : Side) (rest : List Side) (begins : xs ≡ first ∷ rest) (oldest : OldestFirst xs) where
    begins_at : (us : List Side) (c : Side) (ws : List Side) → first ∷ rest ≡ us ++ c ∷ ws → head_or c us ≡ first
    begins_at [] c ws e = cc
    begins_at (u ∷ us) c ws e = cc

    path : (us zs : List Side) → xs ≡ us ++ zs → IsEdgeChain face first.corner (outline zs)
    path us [] e = tt
    path us (c ∷ []) e =
        subst (λ (r : Side). IsEdge face (edge_of c) r.corner) (begins_at us c [] (sym begins ∙ e)) (is_edge us c [] e)
    path us (c ∷ d ∷ ds) e =
        (is_edge us c (d ∷ ds) e, path (us ++ c ∷ []) (d ∷ ds) (e ∙ sym (append_assoc us (c ∷ []) (d ∷ ds))))

    uncounted : (h : Plane) → IsZeroAtOnePoint n xs h → HasEdge face h → ⊥
    uncounted h s k =
        k.different (s k.one k.other (closed_of h k.one k.holds_one) (closed_of h k.other k.holds_other)
        (zero_of h k.one k.holds_one) (zero_of h k.other k.holds_other))

    no_older : (s : Side) (i : ℕ) → slice_get xs i ≡ Some s → s.plane_index < first.plane_index → ⊥
    no_older s i e l =
        ⊎_elim (λ p. absurd (omega (arith, l, p)))
        (λ q. absurd (omega (arith, l, ap (λ (s : Side). s.plane_index) q.0)))
        (member_is_here_or_else (λ r. first.plane_index ≤ r.plane_index) [] first rest i s tt
        (subst (λ zs. OldestFirst zs) begins oldest) (subst (λ zs. slice_get zs i ≡ Some s) begins e))

    earliest : IsEarliest (λ h. HasEdge face h) gs first.plane
    earliest =
        record {
          index = first.plane_index;
          here =
              here_of 0 first (subst (λ zs. slice_get zs 0 ≡ Some first) (sym begins) refl);
          holds =
              counts [] first rest begins;
          earliest =
              λ i h l e k. ⊎_elim (λ b. no_older b.side b.at b.here
              (subst (λ j. j < first.plane_index) (sym b.plane_index) l)) (λ s. uncounted h s k) (counted i h e);
        }

    among : (i : ℕ) (h : Plane) → slice_get gs i ≡ Some h → HasEdge face h → HasEdgeOf face h (outline xs)
    among i h e k = ⊎_elim born (λ s. absurd (uncounted h s k)) (counted i h e)
      where
        one : (g h : Plane) → Some g ≡ Some h → g ≡ h
        one g h e = cc

        born : HasPlaneIndex i xs → HasEdgeOf face h (outline xs)
        born b =
            let p : slice_get gs i ≡ Some b.side.plane = subst (λ k. slice_get gs k ≡ Some b.side.plane) b.plane_index (here_of b.at b.side b.here) in
            among_at face h xs b.at b.side b.here (subst (λ p. SameEdge face h p) (one h b.side.plane (sym e ∙ p)) (λ v. refl))

    once : (us zs : List Side) → xs ≡ us ++ zs → HaveDistinctEdges face (outline zs)
    once us [] e = tt
    once us (c ∷ ws) e = (
      each_outline (λ d. SameEdge face c.plane d.plane →
          ⊥) ws (each_map (λ s. IsBelow s.plane c.corner ⊎ IsBelow s.plane (end us c ws e))
          (λ s. SameEdge face c.plane s.plane → ⊥) ws (λ s u same. other_edge us c ws e s u (λ v. sym (same v)))
          (each-front (λ s. IsBelow s.plane c.corner ⊎ IsBelow s.plane (end us c ws e)) ws us (apart us c ws e))),
      once (us ++ c ∷ []) ws (e ∙ sym (append_assoc us (c ∷ []) ws)),
    )

    is_outline : IsOutline face (outline xs)
    is_outline =
        record {
          first = edge_of first;
          rest = outline rest;
          begins = ap (λ zs. outline zs) begins;
          earliest =
              earliest;
          round = path [] xs refl;
          all = among;
          once = once [] xs refl;
        }

sound_begins : (n : Plane) (xs : List Side) → IsConvexRing n xs → (first : Side) × (rest : List Side) × (xs ≡ first ∷ rest)
sound_begins n [] h = absurd h
sound_begins n (x ∷ xs) h = (x, xs, refl)

-- the sides of a ring are the outline of its face
pub ring_outline : (n : Plane) (gs : List Plane) (xs : List Side) → Represents n gs xs → EachHasSideOrNoEdge n gs xs →
    OldestFirst xs → IsOutline (record { support = n; edges = gs }) (outline xs)
ring_outline n gs xs s k o =
    let b = sound_begins n xs s.sound in is_outline n gs xs s k b.0 b.1 b.2 o
