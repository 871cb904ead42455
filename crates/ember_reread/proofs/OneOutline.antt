-- A face has one outline with corners in lowest terms, so faces have one text.
use Rattle.std.proofs.Common.{◌≡◌, ⊎_elim, refl, sym, ap, subst, ◌∙◌, arith, ℕ, Bool, true, false, ◌&&◌, nat_lt, List}
use Rattle.std.proofs.Common.{[], ◌∷◌, ◌++◌, length, All, None, Some, zero, suc, slice_get, pos, ◌+ℤ◌, ◌-ℤ◌, ◌*ℤ◌}
use Rattle.std.proofs.Common.{neg_ℤ, ◌<ℤ◌, ◌≤ℤ◌}
use Rattle.std.specs.List.{AllByRecursion}
use Rattle.std.proofs.lemmas.Bool.{ltb-true, ltb-false, and_parts}
use Rattle.std.proofs.lemmas.List.Elements.{All-head, All-tail}
use Rattle.ember_algebra.specs.Vector.{Vector}
use Rattle.ember_algebra.specs.Vector.{dot, cross}
use Rattle.ember_algebra.specs.Sign.{is_zero}
use Rattle.ember_algebra.proofs.Relations.{each_unique}
use Rattle.ember_algebra.proofs.Laws.{linear}
use Rattle.ember_algebra.proofs.Order.{by_sign, pos_mul, mul_le, zero_product}
use Rattle.ember_algebra.proofs.Ring.{◌⊕◌, ◌⊖◌, ◌⊗◌, ◌≈◌, num, neg, solve, cancels}
use Rattle.ember_algebra.proofs.Vectors.{vector, identity, dotE, crossE}
use Rattle.ember_algebra.proofs.Booleans.{same_test}
use Rattle.ember_algebra.proofs.Identities.{dot_nonneg}
use Rattle.ember_model.specs.declared.plane.Plane.{Plane}
use Rattle.ember_model.specs.declared.point.Spot.{Spot}
use Rattle.ember_model.specs.declared.face.Face.{Face}
use Rattle.ember_model.specs.Planes.{value_at}
use Rattle.ember_model.specs.Faces.{is_in_closed}
use Rattle.ember_model.specs.Edges.{SamePoint, is_on_edge, HasEdge, SameEdge, IsEarliest, normal, RingEdge, IsEdge, IsEdgeChain, HaveDistinctEdges, IsOutline}
use Rattle.ember_model.specs.FaceFiles.{IsLowest, face_lines, header, ending, IsFaceText, IsFileText}
use Rattle.ember_model.proofs.SignTests.{zero_out, zero_scaled, zero_times, not_positive_out}
use Rattle.ember_model.specs.ClearTest.{none_positive}
use Rattle.ember_model.proofs.Hits.{closed_parts}
use Rattle.ember_model.specs.Points.{displacement}
use Rattle.ember_reread.proofs.Lowest.{same_lowest}

-- ---- vectors

dot_away : (q : Vector) (s v : Spot) → dot q (displacement s v) ≡ s.w *ℤ dot q (record { x = v.x; y = v.y; z = v.z }) -ℤ v.w *ℤ
    dot q (record { x = s.x; y = s.y; z = s.z })
dot_away q s v =
    solve 11 (λ a b c x y z w e f g h. a ⊗ (w ⊗ e ⊖ h ⊗ x) ⊕ b ⊗ (w ⊗ f ⊖ h ⊗ y) ⊕ c ⊗ (w ⊗ g ⊖ h ⊗ z) ≈ w ⊗
    (a ⊗ e ⊕ b ⊗ f ⊕ c ⊗ g) ⊖ h ⊗ (a ⊗ x ⊕ b ⊗ y ⊕ c ⊗ z)) cancels q.x q.y q.z s.x s.y s.z s.w v.x v.y v.z v.w

plane_away : (p : Plane) (s v : Spot) → dot (normal p) (displacement s v) ≡ s.w *ℤ value_at p v -ℤ v.w *ℤ value_at p s
plane_away p s v =
    solve 12 (λ a b c d x y z w e f g h. a ⊗ (w ⊗ e ⊖ h ⊗ x) ⊕ b ⊗ (w ⊗ f ⊖ h ⊗ y) ⊕ c ⊗ (w ⊗ g ⊖ h ⊗ z) ≈ w ⊗
    (a ⊗ e ⊕ b ⊗ f ⊕ c ⊗ g ⊖ d ⊗ h) ⊖ h ⊗ (a ⊗ x ⊕ b ⊗ y ⊕ c ⊗ z ⊖ d ⊗ w)) cancels p.a p.b p.c p.d s.x s.y s.z s.w v.x
    v.y v.z v.w

split_along : (n h d q : Vector) → dot (cross n h) (cross n h) *ℤ dot q d ≡ dot (cross n h) d *ℤ dot q (cross n h) +ℤ
    dot n d *ℤ dot q (cross h (cross n h)) +ℤ dot h d *ℤ dot q (cross (cross n h) n)
split_along =
    identity (vector ∷ vector ∷ vector ∷ vector ∷ [])
    (λ n h d q. dotE (crossE n h) (crossE n h) ⊗ dotE q d ≈ dotE (crossE n h) d ⊗ dotE q (crossE n h) ⊕ dotE n d ⊗
    dotE q (crossE h (crossE n h)) ⊕ dotE h d ⊗ dotE q (crossE (crossE n h) n)) cancels

turned_about : (n h g : Vector) → dot h (cross n g) ≡ neg_ℤ (dot g (cross n h))
turned_about =
    identity (vector ∷ vector ∷ vector ∷ []) (λ n h g. dotE h (crossE n g) ≈ neg (dotE g (crossE n h))) cancels

-- ---- points of an edge
record On (f : Face) (g : Plane) (v : Spot) : Type 0 where
  weight : pos 0 <ℤ v.w
  flat : value_at f.support v ≡ pos 0
  zero : value_at g v ≡ pos 0
  below : (i : ℕ) (h : Plane) → slice_get f.edges i ≡ Some h → value_at h v ≤ℤ pos 0

on_edge : (f : Face) (g : Plane) (v : Spot) → is_on_edge f g v ≡ true → On f g v
on_edge f g v e =
    let p = and_parts (is_in_closed f v) (is_zero (value_at g v)) e in let q = closed_parts f v p.0 in
    record { weight = q.0; flat = q.1; zero = zero_out (value_at g v) p.1; below = λ i h s. none_at f.edges q.2 i h s }
  where
    some_none : {h : Plane} {A : Type 0} → None ≡ Some h → A
    some_none e = absurd (cc)

    none_at : (es : List Plane) → none_positive es v ≡ true → (i : ℕ) (h : Plane) → slice_get es i ≡ Some h → value_at h v ≤ℤ pos 0
    none_at [] k i h s = some_none s
    none_at (d ∷ ds) k zero h s =
        subst (λ (x : Plane). value_at x v ≤ℤ pos 0) (let e : d ≡ h = cc in e) (not_positive_out (value_at d v) (and_parts _ (none_positive ds v) k).0)
    none_at (d ∷ ds) k (suc i) h s = none_at ds (and_parts _ (none_positive ds v) k).1 i h s

module _ (f : Face) (g : Plane) (s v : Spot) (os : On f g s) (ov : On f g v) where
  abbrev n : Vector
  n = normal f.support

  abbrev z : Vector
  z = cross n (normal g)

  along_line : (q : Vector) → dot z z *ℤ dot q (displacement s v) ≡ dot z (displacement s v) *ℤ dot q z
  along_line q =
      let e = split_along n (normal g) (displacement s v) q in
      let a = plane_away f.support s v in let b = plane_away g s v in
      let a1 = zero_scaled s.w (value_at f.support v) ov.flat in let a2 = zero_scaled v.w (value_at f.support s) os.flat in
      let b1 = zero_scaled s.w (value_at g v) ov.zero in let b2 = zero_scaled v.w (value_at g s) os.zero in
      let x : dot n (displacement s v) ≡ pos 0 = omega (arith, linear, a, a1, a2) in let y : dot (normal g) (displacement s v) ≡ pos 0 = omega (arith, linear, b, b1, b2) in
      let u = zero_times (dot n (displacement s v)) (dot q (cross (normal g) z)) x in let w = zero_times (dot (normal g) (displacement s v)) (dot q (cross z n)) y in
      omega (arith, linear, e, u, w)

  -- the two points differ
  some_length : pos 0 <ℤ dot z (displacement s v) → dot z z ≡ pos 0 → ⊥
  some_length l e =
      let a = along_line (displacement s v) in let b = zero_times (dot z z) (dot (displacement s v) (displacement s v)) e in
      let c = solve 6 (λ a b c x y z. a ⊗ x ⊕ b ⊗ y ⊕ c ⊗ z ≈ x ⊗ a ⊕ y ⊗ b ⊕ z ⊗ c) cancels z.x z.y z.z (displacement s v).x (displacement s v).y (displacement s v).z in
      let d = pos_mul l (subst (λ t. pos 0 <ℤ t) c l) in absurd (omega (arith, linear, a, b, d))

  one_place : (dot z z ≡ pos 0 → ⊥) → dot z (displacement s v) ≡ pos 0 → SamePoint s v
  one_place nz e =
      let x = entry (record { x = pos 1; y = pos 0; z = pos 0 }) in let y =
      entry (record { x = pos 0; y = pos 1; z = pos 0 }) in let t =
      entry (record { x = pos 0; y = pos 0; z = pos 1 }) in
      let d = displacement s v in
      let ex = solve 3 (λ a b c. num (pos 1) ⊗ a ⊕ num (pos 0) ⊗ b ⊕ num (pos 0) ⊗ c ≈ a) cancels d.x d.y d.z in
      let ey = solve 3 (λ a b c. num (pos 0) ⊗ a ⊕ num (pos 1) ⊗ b ⊕ num (pos 0) ⊗ c ≈ b) cancels d.x d.y d.z in
      let et = solve 3 (λ a b c. num (pos 0) ⊗ a ⊕ num (pos 0) ⊗ b ⊕ num (pos 1) ⊗ c ≈ c) cancels d.x d.y d.z in
      record { x = omega (arith, linear, x, ex); y = omega (arith, linear, y, ey); z = omega (arith, linear, t, et) }
    where
      entry : (q : Vector) → dot q (displacement s v) ≡ pos 0
      entry q =
          let a = along_line q in let b = zero_times (dot z (displacement s v)) (dot q z) e in
          ⊎_elim (λ o. absurd (nz o)) (λ o. o) (zero_product {a = dot z z} {b = dot q (displacement s v)} (omega (arith, linear, a, b)))

-- ---- edges
abbrev side : Plane → Spot → RingEdge
side g s = record { plane = g; start = s }

module _ (f : Face) (g : Plane) (s a : Spot) (e : IsEdge f (side g s) a) where
  abbrev way : Vector
  way = cross (normal f.support) (normal g)

  at_start : On f g s
  at_start = on_edge f g s e.starts

  at_end : On f g a
  at_end = on_edge f g a e.ends

  ahead : pos 0 <ℤ dot way (displacement s a)
  ahead = let b = e.leads.before in let d = dot_away way s a in omega (arith, linear, b, d)

  long : dot way way ≡ pos 0 → ⊥
  long z = some_length f g s a at_start at_end ahead z

  same_start : (t b : Spot) → IsEdge f (side g t) b → SamePoint s t
  same_start t b d =
      let x = (e.from_start t d.starts).not_after in let y = (d.from_start s e.starts).not_after in let w = dot_away way s t in
      one_place f g s t at_start (on_edge f g t d.starts) long (omega (arith, linear, x, y, w))

  same_end : (t b : Spot) → IsEdge f (side g t) b → SamePoint a b
  same_end t b d =
      let x = (e.to_end b d.ends).not_after in let y = (d.to_end a e.ends).not_after in let w = dot_away way a b in
      one_place f g a b at_end (on_edge f g b d.ends) long (omega (arith, linear, x, y, w))

  -- another edge that starts there doesn't turn outwards
  module _ (k : Plane) (b : Spot) (d : IsEdge f (side k s) b) where
    k_at_start : value_at k s ≡ pos 0
    k_at_start = (on_edge f k s d.starts).zero

    not_outwards : dot (normal k) way ≤ℤ pos 0
    not_outwards =
        let m = at_end.below d.is_earliest.index k d.is_earliest.here in
        let c = plane_away k s a in let c0 = zero_scaled a.w (value_at k s) k_at_start in
        let ws = at_start.weight in let w : pos 0 ≤ℤ s.w = omega (arith, linear, ws) in
        let c1 = mul_le w m in let c2 = zero_scaled s.w (pos 0) refl in
        let l : dot (normal k) (displacement s a) ≤ℤ pos 0 = omega (arith, linear, c, c0, c1, c2) in
        let q = dot_nonneg way in let r = mul_le q l in let r0 = zero_scaled (dot way way) (pos 0) refl in
        let t = along_line f g s a at_start at_end (normal k) in
        by_sign (dot (normal k) way) (λ o. absurd (let u = pos_mul ahead o in omega (arith, linear, u, t, r, r0)))
        (λ o. omega (arith, linear, o)) (λ o. omega (arith, linear, o))

    zero_too : dot (normal k) way ≡ pos 0 → (v : Spot) → is_on_edge f g v ≡ true → is_on_edge f k v ≡ true
    zero_too z v i =
        let ov = on_edge f g v i in
        let t = along_line f g s v at_start ov (normal k) in let t0 = zero_scaled (dot way (displacement s v)) (dot (normal k) way) z in
        let c = plane_away k s v in let c0 = zero_scaled v.w (value_at k s) k_at_start in
        let u : dot (normal k) (displacement s v) ≡ pos 0 =
        ⊎_elim (λ o. absurd (long o)) (λ o. o)
        (zero_product {a = dot way way} {b = dot (normal k) (displacement s v)} (omega (arith, linear, t, t0))) in
        let ws = at_start.weight in
        let x : value_at k v ≡ pos 0 = ⊎_elim (λ o. absurd (omega (arith, linear, o, ws))) (λ o. o)
        (zero_product {a = s.w} {b = value_at k v} (omega (arith, linear, u, c, c0))) in
        let p = (and_parts (is_in_closed f v) (is_zero (value_at g v)) i).0 in let y = ap is_zero x in λ i. p i && y i

-- two edges that start at one corner are one edge
one_edge : (f : Face) (g k : Plane) (s a b : Spot) → IsEdge f (side g s) a → IsEdge f (side k s) b → SameEdge f g k
one_edge f g k s a b e d v =
    let x = not_outwards f g s a e k b d in let y = not_outwards f k s b d g a e in let t = turned_about (normal f.support) (normal g) (normal k) in
    let z : dot (normal k) (cross (normal f.support) (normal g)) ≡ pos 0 = omega (arith, linear, x, y, t) in
    same_test (is_on_edge f g v) (is_on_edge f k v) (zero_too f g s a e k b d z v) (zero_too f k s b d g a e (omega (arith, linear, z, t)) v)

-- ---- the earliest plane is one
earliest_one : (P Q : Plane → Type 0) (gs : List Plane) (g h : Plane) → ((x : Plane) → P x → Q x) →
    ((x : Plane) → Q x → P x) → IsEarliest P gs g → IsEarliest Q gs h → g ≡ h
earliest_one P Q gs g h pq qp a b = by (nat_lt a.index b.index) (nat_lt b.index a.index) refl refl
  where
    at_one : {x y : Plane} → Some x ≡ Some y → x ≡ y
    at_one e = cc

    by : (l m : Bool) → nat_lt a.index b.index ≡ l → nat_lt b.index a.index ≡ m → g ≡ h
    by true m e d = absurd (b.earliest a.index g (ltb-true a.index b.index e) a.here (pq g a.holds))
    by false true e d = absurd (a.earliest b.index h (ltb-true b.index a.index d) b.here (qp h b.holds))
    by false false e d =
        let x = ltb-false a.index b.index e in let y = ltb-false b.index a.index d in let p : a.index ≡ b.index = omega (arith, x, y) in
        at_one (sym a.here ∙ ap (λ i. slice_get gs i) p ∙ b.here)

stands_one : (f : Face) (g k : Plane) (s a b t : Spot) → IsEdge f (side g s) a → IsEdge f (side k t) b → SameEdge f g k → g ≡ k
stands_one f g k s a b t e d same =
    earliest_one (λ h. SameEdge f h g) (λ h. SameEdge f h k) f.edges g k (λ h p v. p v ∙ same v) (λ h p v. p v ∙ sym (same v)) e.is_earliest d.is_earliest

-- ---- outlines
-- a corner of one edge that is the corner of another: one point
corner_one : (f : Face) (g h : Plane) (u v : Spot) → is_on_edge f g u ≡ true → is_on_edge f h v ≡ true → SamePoint u v → IsLowest u → IsLowest v → u ≡ v
corner_one f g h u v a b s l m = same_lowest u v (on_edge f g u a).weight (on_edge f h v b).weight s l m

abbrev Lowest : RingEdge → Type 0
Lowest e = IsLowest e.start

-- the end of the first edge of a path
record Led (f : Face) (e : RingEdge) : Type 0 where
  end : Spot
  is_edge : IsEdge f e end

led : (f : Face) (end : Spot) (e : RingEdge) (es : List RingEdge) → IsEdgeChain f end (e ∷ es) → Led f e
led f end e [] p = record { end = end; is_edge = p }
led f end e (d ∷ es) p = record { end = d.start; is_edge = p.0 }

-- the edge after another is determined
next_one : (f : Face) (e d c : RingEdge) → IsEdge f e d.start → IsEdge f e c.start → Lowest d → Lowest c → Led f d →
    Led f c → SameEdge f d.plane c.plane × (d ≡ c)
next_one f e d c a b l m p q =
    let start : d.start ≡ c.start = corner_one f e.plane e.plane d.start c.start a.ends b.ends (same_end f e.plane e.start d.start a e.start c.start b) l m in
    let r : IsEdge f (side c.plane d.start) q.end = subst (λ s. IsEdge f (side c.plane s) q.end) (sym start) q.is_edge in
    let same = one_edge f d.plane c.plane d.start p.end q.end p.is_edge r in
    let plane = stands_one f d.plane c.plane d.start p.end q.end d.start p.is_edge r same in
    (same, λ i. record { plane = plane i; start = start i })

-- a path that begins with the first edge and comes back to it is determined
module _ (f : Face) (first : RingEdge) (first_led : Led f first) (first_lowest : Lowest first) where
  abbrev Aside : List RingEdge → Type 0
  Aside es = AllByRecursion (λ d. SameEdge f first.plane d.plane → ⊥) es

  -- it doesn't go on where it came back
  not_on : (e c : RingEdge) (cs : List RingEdge) → IsEdge f e first.start → IsEdgeChain f first.start (e ∷ c ∷ cs) → Lowest c → Aside (c ∷ cs) → ⊥
  not_on e c cs a p l aside =
      aside.0 (next_one f e first c a p.0 first_lowest l first_led (led f first.start c cs p.1)).0

  path_one : (e : RingEdge) (ds cs : List RingEdge) → IsEdgeChain f first.start (e ∷ ds) →
      IsEdgeChain f first.start (e ∷ cs) → All Lowest ds → All Lowest cs → Aside ds → Aside cs → ds ≡ cs
  path_one e [] [] p q l m a b = refl
  path_one e [] (c ∷ cs) p q l m a b = absurd (not_on e c cs p q (All-head Lowest c cs m) b)
  path_one e (d ∷ ds) [] p q l m a b = absurd (not_on e d ds q p (All-head Lowest d ds l) a)
  path_one e (d ∷ ds) (c ∷ cs) p q l m a b =
      let same : d ≡ c = (next_one f e d c p.0 q.0 (All-head Lowest d ds l) (All-head Lowest c cs m)
      (led f first.start d ds p.1) (led f first.start c cs q.1)).1 in
      let rest = path_one d ds cs p.1 (subst (λ x. IsEdgeChain f first.start (x ∷ cs)) (sym same) q.1)
      (All-tail Lowest d ds l) (All-tail Lowest c cs m) a.1 b.1 in
      λ i. same i ∷ rest i

record Begun (f : Face) (es : List RingEdge) (first : RingEdge) (rest : List RingEdge) : Type 0 where
  earliest : IsEarliest (λ h. HasEdge f h) f.edges first.plane
  round : IsEdgeChain f first.start (first ∷ rest)
  aside : AllByRecursion (λ d. SameEdge f first.plane d.plane → ⊥) rest
  lowest : All Lowest (first ∷ rest)

begun : (f : Face) (es : List RingEdge) (o : IsOutline f es) → All Lowest es → Begun f es o.first o.rest
begun f es o l =
    record {
      earliest = o.earliest;
      round = subst (λ xs. IsEdgeChain f o.first.start xs) o.begins o.round;
      aside =
          (subst (λ xs. HaveDistinctEdges f xs) o.begins o.once).0;
      lowest = subst (λ xs. All Lowest xs) o.begins l;
    }

begun_one : (f : Face) (es cs : List RingEdge) (d c : RingEdge) (ds bs : List RingEdge) → Begun f es d ds → Begun f cs c bs → d ∷ ds ≡ c ∷ bs
begun_one f es cs d c ds bs a b =
    let plane = earliest_one (λ h. HasEdge f h) (λ h. HasEdge f h) f.edges d.plane c.plane (λ x p. p) (λ x p. p) a.earliest b.earliest in
    let p = led f d.start d ds a.round in let q = led f c.start c bs b.round in
    let ld = All-head Lowest d ds a.lowest in let lc = All-head Lowest c bs b.lowest in
    let r : IsEdge f (side d.plane c.start) q.end = subst (λ g. IsEdge f (side g c.start) q.end) (sym plane) q.is_edge in
    let start = corner_one f d.plane d.plane d.start c.start p.is_edge.starts r.starts (same_start f d.plane d.start p.end p.is_edge c.start q.end r) ld lc in
    let same : d ≡ c = λ i. record { plane = plane i; start = start i } in
    let rest = path_one f d p ld d ds bs a.round (subst (λ x. IsEdgeChain f x.start (x ∷ bs)) (sym same) b.round)
    (All-tail Lowest d ds a.lowest) (All-tail Lowest c bs b.lowest) a.aside
    (subst (λ x. AllByRecursion (λ h. SameEdge f x.plane h.plane → ⊥) bs) (sym same) b.aside) in
    λ i. same i ∷ rest i

-- a face has one outline with corners in lowest terms
pub outline_one : (f : Face) (es cs : List RingEdge) → IsOutline f es → IsOutline f cs →
    All (λ e. IsLowest e.start) es → All (λ e. IsLowest e.start) cs → es ≡ cs
outline_one f es cs a b l m =
    a.begins ∙ begun_one f es cs a.first b.first a.rest b.rest (begun f es a l) (begun f cs b m) ∙ sym b.begins

-- and one text
pub text_one : (f : Face) (xs ys : List ℕ) → IsFaceText f xs → IsFaceText f ys → xs ≡ ys
text_one f xs ys a b =
    a.is ∙ ap (face_lines f.support) (outline_one f a.outline b.outline a.is_outline b.is_outline a.lowest b.lowest) ∙ sym b.is

-- faces have one text
pub texts_one : (fs : List Face) (xs ys : List ℕ) → IsFileText fs xs → IsFileText fs ys → xs ≡ ys
texts_one fs xs ys a b =
    a.is ∙ ap (λ texts. header ++ (texts ++ ending (length fs))) (each_unique text_one a.are_texts b.are_texts) ∙ sym b.is
