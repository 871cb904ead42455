-- The chord in which a plane plane_has_corners_above a ring: its points are the inside points on the plane.
use Rattle.std.proofs.Common.{◌≡◌, ⊎_elim, sym, subst, ◌∙◌, arith, true, List, [], ◌∷◌, ◌++◌, take, drop, ℤ, pos, ◌+ℤ◌, ◌-ℤ◌, ◌*ℤ◌, neg_ℤ, ◌<ℤ◌, ◌≤ℤ◌}
use Rattle.std.proofs.lemmas.Int.{by_lt_z}
use Rattle.std.proofs.lemmas.List.{take-append-drop, append-nil}
use Rattle.std.specs.List.{AllByRecursion}
use Rattle.ember_algebra.proofs.Laws.{linear}
use Rattle.ember_algebra.proofs.Ring.{◌⊖◌, ◌⊗◌, neg, num, ◌≈◌, solve, cancels}
use Rattle.ember_algebra.proofs.Order.{nonneg_mul, mul_pos_neg, mul_neg_neg, zero_product}
use Rattle.ember_model.specs.declared.plane.Plane.{Plane}
use Rattle.ember_model.specs.declared.point.Spot.{Spot}
use Rattle.ember_model.specs.Planes.{value_at}
use Rattle.ember_model.specs.ClearTest.{none_positive, face_with}
use Rattle.ember_model.specs.declared.face.Face.{Face}
use Rattle.ember_model.specs.Faces.{Cuts, Meets as MeetsFace}
use Rattle.ember_model.proofs.SignTests.{positive_nonzero}
use Rattle.ember_poly.specs.declared.passage.Passage.{Passage}
use Rattle.ember_poly.specs.Rings.{with_start, closing_side, Side, IsBelow, IsNotAbove, IsNotBelow, IsInsideRing, IsMeet, IsConvexRing, Represents}
use Rattle.ember_poly.specs.Passages.{Leaves, IsPassage}
use Rattle.ember_poly.specs.Chords.{combination, IsOpen, IsLine, IsChord}
use Rattle.ember_poly.proofs.Chains.{each_map, each_both, each-back, each-front}
use Rattle.ember_poly.proofs.Rotations.{turned_by, each-turned}
use Rattle.ember_poly.proofs.Planar.{same_place}
use Rattle.ember_poly.proofs.RingBelow.{below_some, below_all}
use Rattle.ember_poly.proofs.Hull.{blend, blend_value}
use Rattle.ember_poly.proofs.InsideSigns.{combination_value}
use Rattle.ember_poly.proofs.InsidePoints.{head_closed, corner_closed, flat_sum, weight_sum}
use Rattle.ember_poly.proofs.Chord.{front_y, kept_z, at_y, at_z, middle_under}
use Rattle.ember_poly.proofs.DroppedEdges.{dropped_side_is_above_one_corner}
use Rattle.ember_poly.proofs.FaceTests.{all_in, all_out, closed_in, closed_out}
use Rattle.ember_poly.proofs.ReachBySigns.{seen_inside, inside_seen}
use Rattle.ember_poly.proofs.PassageFound.{plane_has_corners_above, turns_of}

-- ---- the two ends
record Ends (n p : Plane) (f l : Side) (y z : Spot) (whole : List Side) : Type 0 where
  pub at_y : AllByRecursion (λ s. IsNotAbove s.plane y) whole
  pub at_z : AllByRecursion (λ s. IsNotAbove s.plane z) whole
  pub middle : AllByRecursion (λ s. IsBelow s.plane (combination (pos 1) (pos 1) y z)) whole
  pub first : IsBelow f.plane y
  pub last : IsBelow l.plane z

ends_of : (n p : Plane) (f l : Side) (ks ds : List Side) (y z : Spot) → IsMeet n f.plane p z → IsMeet n l.plane p y →
    IsConvexRing n (f ∷ (ks ++ l ∷ []) ++ ds) → AllByRecursion (λ s. IsBelow p s.corner) (ks ++ l ∷ []) →
    IsNotBelow p f.corner → Leaves p f ds → Ends n p f l y z (f ∷ (ks ++ l ∷ []) ++ ds)
ends_of n p f l ks [] y z mz my s u a q =
    let o = below_all n p f l y z 0 q.over my mz ks (subst (λ zs. IsConvexRing n (f ∷ zs)) (append-nil (ks ++ l ∷ [])) s) u in
    let c = head_closed n f ((ks ++ l ∷ []) ++ []) s in
    record {
      at_y = at_y n p f l ks [] y z 0 f.corner s c o;
      at_z = at_z n p f l ks [] y z 0 f.corner s c o;
      middle = middle_under n p f l ks [] y z 0 f.corner s c o tt;
      first = front_y n (with_start f z) l (closing_side p y 0) ks o.sound;
      last = (each-back (λ s. IsBelow s.plane z) ks (l ∷ []) (kept_z n (with_start f z) l (closing_side p y 0) ks o.sound)).0;
    }
ends_of n p f l ks (d ∷ ds) y z mz my s u a q =
    let o = below_some n p f l d ds y z 0 a.at_least q.0.at_least my mz ks s u in
    let c = corner_closed n (f ∷ (ks ++ l ∷ [])) d ds s in
    record {
      at_y = at_y n p f l ks (d ∷ ds) y z 0 d.corner s c o;
      at_z = at_z n p f l ks (d ∷ ds) y z 0 d.corner s c o;
      middle = middle_under n p f l ks (d ∷ ds) y z 0 d.corner s c o
          (dropped_side_is_above_one_corner n p f l d ks ds y z 0 s o.exit o.entry (plane_has_corners_above p f d ds q));
      first = front_y n (with_start f z) l (closing_side p y 0) ks o.sound;
      last = (each-back (λ s. IsBelow s.plane z) ks (l ∷ []) (kept_z n (with_start f z) l (closing_side p y 0) ks o.sound)).0;
    }

-- ---- numbers
lower : {k u : ℤ} → pos 0 <ℤ k → u ≤ℤ pos 0 → (k *ℤ u) ≤ℤ pos 0
lower {k} {u} p q =
    let m : pos 0 ≤ℤ neg_ℤ u = omega (arith, linear, q) in let n : pos 0 ≤ℤ k = omega (arith, linear, p) in
    omega (arith, linear, nonneg_mul n m, solve 2 (λ k u. k ⊗ neg u ≈ neg (k ⊗ u)) cancels k u)

between : {i j a b : ℤ} → pos 0 <ℤ i → pos 0 <ℤ j → a ≤ℤ pos 0 → b ≤ℤ pos 0 → (pos 1 *ℤ a +ℤ pos 1 *ℤ b) <ℤ pos 0 → (i *ℤ a +ℤ j *ℤ b) <ℤ pos 0
between {i} {j} {a} {b} pi pj pa pb s =
    by_lt_z a (pos 0)
    (λ l. omega (arith, linear, mul_pos_neg pi l, lower pj pb))
    (λ l. omega (arith, linear, lower pi pa, mul_pos_neg pj (other l)))
  where
    other : pos 0 ≤ℤ a → b <ℤ pos 0
    other l =
        omega (arith, linear, l, s, solve 1 (λ a. num (pos 1) ⊗ a ≈ a) cancels a, solve 1 (λ b. num (pos 1) ⊗ b ≈ b) cancels b)

-- the combination that is no point at all
no_weight : (r z l x : ℤ) → r *ℤ l ≡ z *ℤ x → x ≡ pos 0 → l <ℤ pos 0 → r ≡ pos 0
no_weight r z l x e f q =
    ⊎_elim (λ a. a) (λ b. absurd (omega (arith, linear, b, q))) (zero_product (e ∙ rw f (solve 1 (λ z. z ⊗ num (pos 0) ≈ num (pos 0)) cancels z)))

no_value : (r z l x : ℤ) → r *ℤ l ≡ z *ℤ x → r ≡ pos 0 → pos 0 <ℤ z → x ≡ pos 0
no_value r z l x e f q =
    ⊎_elim (λ a. absurd (omega (arith, linear, a, q))) (λ b. b) (zero_product (sym e ∙ rw f (solve 1 (λ l. num (pos 0) ⊗ l ≈ num (pos 0)) cancels l)))

zeros : (i j k : ℤ) {a b c : ℤ} → a ≡ pos 0 → b ≡ pos 0 → c ≡ pos 0 → i *ℤ a -ℤ j *ℤ b -ℤ k *ℤ c ≡ pos 0
zeros i j k e f g =
    rw (e, f, g) (solve 3 (λ i j k. i ⊗ num (pos 0) ⊖ j ⊗ num (pos 0) ⊖ k ⊗ num (pos 0) ≈ num (pos 0)) cancels i j k)

-- ---- the points of the chord
module _ (n p : Plane) (f l : Side) (ks ds : List Side) (y z : Spot) (mz : IsMeet n f.plane p z)
    (my : IsMeet n l.plane p y) (s : IsConvexRing n (f ∷ (ks ++ l ∷ []) ++ ds))
    (u : AllByRecursion (λ s. IsBelow p s.corner) (ks ++ l ∷ [])) (a : IsNotBelow p f.corner) (q : Leaves p f ds) where
  abbrev whole : List Side
  whole = f ∷ (ks ++ l ∷ []) ++ ds

  ends : Ends n p f l y z whole
  ends = ends_of n p f l ks ds y z mz my s u a q

  chord_inside : (i j : ℤ) → pos 0 <ℤ i → pos 0 <ℤ j → IsInsideRing n whole (combination i j y z)
  chord_inside i j pi pj =
      record {
        flat = flat_sum i j y z n my.first mz.first;
        weight = weight_sum (least pi) pj my.weight mz.weight;
        within = each_both (λ s. IsNotAbove s.plane y × IsNotAbove s.plane z)
            (λ s. IsBelow s.plane (combination (pos 1) (pos 1) y z)) (λ s. IsBelow s.plane (combination i j y z)) whole
            (λ s a m. record {
              under = rw (combination_value i j y z s.plane)
                  (between pi pj a.0.at_most a.1.at_most
                  (subst (λ k. k <ℤ pos 0) (combination_value (pos 1) (pos 1) y z s.plane) m.under));
            })
            (each_both (λ s. IsNotAbove s.plane y) (λ s. IsNotAbove s.plane z)
            (λ s. IsNotAbove s.plane y × IsNotAbove s.plane z) whole (λ s u v. (u, v)) ends.at_y ends.at_z) ends.middle;
      }
    where
      least : {k : ℤ} → pos 0 <ℤ k → pos 0 ≤ℤ k
      least q = omega (arith, linear, q)

  -- an inside point on the plane is a combination of the ends
  module _ (x : Spot) (k : IsInsideRing n whole x) (on : value_at p x ≡ pos 0) where
    abbrev i : ℤ
    i = value_at f.plane y *ℤ value_at l.plane z

    abbrev j : ℤ
    j = value_at f.plane x *ℤ value_at l.plane z

    abbrev h : ℤ
    h = value_at f.plane y *ℤ value_at l.plane x

    at_f : value_at f.plane x <ℤ pos 0
    at_f = k.within.0.under

    at_l : value_at l.plane x <ℤ pos 0
    at_l =
        (each-back (λ s. IsBelow s.plane x) ks (l ∷ []) (each-front (λ s. IsBelow s.plane x) (ks ++ l ∷ []) ds k.within.1)).0.under

    abbrev rest : Spot
    rest = blend i j h x y z

    on_f : value_at f.plane rest ≡ pos 0
    on_f =
        blend_value i j h x y z f.plane ∙ rw mz.second
        (solve 4 (λ a b c d. (b ⊗ c) ⊗ a ⊖ (a ⊗ c) ⊗ b ⊖ (b ⊗ d) ⊗ num (pos 0) ≈ num (pos 0)) cancels
        (value_at f.plane x) (value_at f.plane y) (value_at l.plane z) (value_at l.plane x))

    on_l : value_at l.plane rest ≡ pos 0
    on_l =
        blend_value i j h x y z l.plane ∙ rw my.second
        (solve 4 (λ a b c d. (b ⊗ c) ⊗ d ⊖ (a ⊗ c) ⊗ num (pos 0) ⊖ (b ⊗ d) ⊗ c ≈ num (pos 0)) cancels
        (value_at f.plane x) (value_at f.plane y) (value_at l.plane z) (value_at l.plane x))

    index : (e : Plane) → rest.w *ℤ value_at e z ≡ z.w *ℤ value_at e rest
    index e =
        same_place n p f.plane (positive_nonzero (turns_of n p f l ks ds s u a q).1) e rest z
        (blend_value i j h x y z n ∙ zeros i j h k.flat my.first mz.first)
        (blend_value i j h x y z p ∙ zeros i j h on my.third mz.third) on_f mz.first mz.third mz.second

    values_combine : (e : Plane) → i *ℤ value_at e x ≡ j *ℤ value_at e y +ℤ h *ℤ value_at e z
    values_combine e =
        let r = no_weight rest.w z.w (value_at l.plane z) (value_at l.plane rest) (index l.plane) on_l ends.last.under in
        let v = no_value rest.w z.w (value_at e z) (value_at e rest) (index e) r mz.weight in
        apart (i *ℤ value_at e x) (j *ℤ value_at e y) (h *ℤ value_at e z) (sym (blend_value i j h x y z e) ∙ v)
      where
        apart : (a b c : ℤ) → a -ℤ b -ℤ c ≡ pos 0 → a ≡ b +ℤ c
        apart a b c e = omega (arith, linear, e)

    chord_open : (hs : List Plane) → none_positive hs x ≡ true → IsOpen hs y z
    chord_open hs e =
        record {
          i = j;
          j = h;
          from_y = mul_neg_neg at_f ends.last.under;
          from_z =
              mul_neg_neg ends.first.under at_l;
          free =
              all_in hs (combination j h y z) (each_map (λ g. IsNotAbove g x) (λ g. IsNotAbove g (combination j h y z)) hs
              (λ g a. record {
                at_most = rw (combination_value j h y z g)
                    (subst (λ k. k ≤ℤ pos 0) (values_combine g) (lower (mul_neg_neg ends.first.under ends.last.under) a.at_most));
              }) (all_out hs x e));
        }

-- ---- the rotated ring
inside_turned : (n : Plane) (v : Spot) (xs ys : List Side) → IsInsideRing n (xs ++ ys) v → IsInsideRing n (ys ++ xs) v
inside_turned n v xs ys k =
    record { flat = k.flat; weight = k.weight; within = each-turned (λ s. IsBelow s.plane v) xs ys k.within }

module _ {W M : Type 0} (spot : M → Spot) where
  module _ (n p : Plane) (gs : List Plane) (xs : List Side) (at : Passage W M) (q : IsPassage spot n p xs at) (st : Represents n gs xs) where
    abbrev y : Spot
    y = spot at.exit

    abbrev z : Spot
    z = spot at.entry

    abbrev begun : List Side
    begun = q.head ∷ (q.firsts ++ q.last ∷ []) ++ q.others

    sound : IsConvexRing n begun
    sound =
        subst (λ zs. IsConvexRing n zs) q.turned (turned_by n (take at.entry_edge xs) (drop at.entry_edge xs)
        (subst (λ zs. IsConvexRing n zs) (sym (take-append-drop at.entry_edge xs)) st.sound))

    into : (v : Spot) → IsInsideRing n xs v → IsInsideRing n begun v
    into v k =
        subst (λ zs. IsInsideRing n zs v) q.turned
        (inside_turned n v (take at.entry_edge xs) (drop at.entry_edge xs)
        (subst (λ zs. IsInsideRing n zs v) (sym (take-append-drop at.entry_edge xs)) k))

    out : (v : Spot) → IsInsideRing n begun v → IsInsideRing n xs v
    out v k =
        subst (λ zs. IsInsideRing n zs v) (take-append-drop at.entry_edge xs)
        (inside_turned n v (drop at.entry_edge xs) (take at.entry_edge xs)
        (subst (λ zs. IsInsideRing n zs v) (sym q.turned) k))

    chord_line : IsLine n p y z
    chord_line =
        record {
          flat_y = q.exit.first;
          flat_z = q.entry.first;
          on_y = q.exit.third;
          on_z = q.entry.third;
          weight_y =
              q.exit.weight;
          weight_z = q.entry.weight;
          across = q.head.plane;
          turns =
              positive_nonzero (turns_of n p q.head q.last q.firsts q.others sound q.under q.enters q.leaves).1;
        }

    chord_meets : (hs : List Plane) → IsOpen hs y z → MeetsFace (record { support = n; edges = gs }) (face_with p hs)
    chord_meets hs o =
        let v = combination o.i o.j y z in
        let k = out v (chord_inside n p q.head q.last q.firsts q.others y z q.entry q.exit sound q.under q.enters q.leaves o.i o.j o.from_y o.from_z) in
        record {
          at = v;
          inside = seen_inside n p gs xs st v k;
          holds =
              closed_in (face_with p hs) v (record {
                flat = flat_sum o.i o.j y z p q.exit.third q.entry.third;
                weight =
                    k.weight;
                within = all_out hs v o.free;
              });
        }

    meets_chord : (hs : List Plane) → MeetsFace (record { support = n; edges = gs }) (face_with p hs) → IsOpen hs y z
    meets_chord hs m =
        let k = into m.at (inside_seen n p gs xs st m.at m.inside) in
        let c = closed_out (face_with p hs) m.at m.holds in
        chord_open n p q.head q.last q.firsts q.others y z q.entry q.exit sound q.under q.enters q.leaves m.at k c.flat hs (all_in hs m.at c.within)

  -- the chord of the ring's face
  pub chord_of : (f : Face) (n p : Plane) (gs : List Plane) (xs : List Side) (at : Passage W M) → IsPassage spot n p xs at →
      Represents n gs xs → record { support = n; edges = gs } ≡ f → Cuts f p →
      IsChord f p (spot at.exit) (spot at.entry)
  chord_of f n p gs xs at q s e k =
      record {
        cuts = k;
        line = subst (λ g. IsLine g.support p (spot at.exit) (spot at.entry)) e (chord_line n p gs xs at q s);
        meets = λ hs o. subst (λ g. MeetsFace g (face_with p hs)) e (chord_meets n p gs xs at q s hs o);
        opens = λ hs m. meets_chord n p gs xs at q s hs (subst (λ g. MeetsFace g (face_with p hs)) (sym e) m);
      }
