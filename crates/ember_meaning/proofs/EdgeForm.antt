-- The coverage of a face's edge, by the sign of the turn from the support plane to the edge plane.
use Rattle.std.proofs.Common.{◌≡◌, ◌≢◌, ◌⊎◌, inl, inr, ⊎_elim, refl, sym, ap, subst, ◌∙◌, arith, Bool, true, false}
use Rattle.std.proofs.Common.{cond, ◌&&◌, List, [], ◌∷◌, ℤ, pos, ◌+ℤ◌, ◌-ℤ◌, ◌*ℤ◌, neg_ℤ, ◌<ℤ◌, ◌≤ℤ◌}
use Rattle.std.proofs.lemmas.Int.{by_lt_z}
use Rattle.std.specs.List.{AllByRecursion}
use lib.IntN.{*ℤ_comm}
use Rattle.std.proofs.lemmas.Bool.{and_parts}
use Rattle.ember_algebra.specs.Vector.{Vector, zero_v, dot, cross}
use Rattle.ember_algebra.specs.Sign.{sign, is_negative}
use Rattle.ember_algebra.specs.Sums.{total}
use Rattle.ember_algebra.proofs.Laws.{linear, neg-*ℤ, *ℤ-neg}
use Rattle.ember_algebra.proofs.Order.{by_sign, pos_mul, nonneg_mul, mul_pos_neg, mul_neg_pos, sign_pos, sign_neg, cancel_eq}
use Rattle.ember_algebra.proofs.Ring.{◌⊖◌, ◌⊗◌, ◌≈◌, solve, cancels}
use Rattle.ember_algebra.proofs.Vectors.{vector, tuple, identity, dotE, same_v, square_positive}
use Rattle.ember_algebra.proofs.Identities.{parallel_products, orthogonal_parallel}
use Rattle.ember_model.specs.declared.plane.Plane.{Plane}
use Rattle.ember_model.specs.declared.point.Spot.{Spot}
use Rattle.ember_model.specs.declared.face.Face.{Face}
use Rattle.ember_model.specs.Planes.{value_at, HasNoNormal}
use Rattle.ember_model.specs.Edges.{RingEdge, IsEdge, normal, is_on_edge, IsEdgeChain, IsOutline}
use Rattle.ember_model.specs.FaceFiles.{WrittenFace}
use Rattle.ember_model.proofs.SignTests.{clash, negative_in, negative_not, positive_nonzero, zero_scaled, zero_times}
use Rattle.ember_model.proofs.Tuples.{spot_tuple, normalE}
use Rattle.ember_model.specs.Points.{displacement}
use Rattle.ember_model.proofs.Displacements.{displacementE, displacement_value}
use Rattle.ember_poly.specs.Rings.{IsNotAbove}
use Rattle.ember_poly.proofs.Planar.{both_zero}
use Rattle.ember_poly.proofs.FaceTests.{OnEdge, edge_in, edge_out}
use Rattle.ember_poly.proofs.RingOutline.{each_get}
use Rattle.ember_poly.proofs.Chains.{each_both}
use Rattle.ember_poly.proofs.OutlinePoints.{Ended}
use Rattle.ember_meaning.specs.Closed.Chains.{DirectedEdge, is_zero_vector, is_parallel, is_on_line, reached}
use Rattle.ember_meaning.specs.Closed.Chains.{coverage, edges_to, directed_edges, face_from, IsOutlined}
use Rattle.ember_meaning.proofs.RectangleRound.{IsGeneral, IsGeneralFace, IsOffEnds, edge_turn}
use Rattle.ember_meaning.proofs.Displacements.{none_parallel, zero_carried}
use Rattle.ember_meaning.proofs.Displacements.{parallel_onward, Parallel, parallel_swap, parallel_orthogonal}
use Rattle.ember_meaning.proofs.Displacements.{parallel_both, dot_swap, zero_vector_in, zero_vector_out}
use Rattle.ember_meaning.proofs.Displacements.{zero_not, orthogonal_to_none}

-- ---- numbers
-- 1 if a number isn't negative
abbrev pub is_past : ℤ → ℤ
is_past a = cond (is_negative a) (pos 0) (pos 1)

past : {a : ℤ} → pos 0 ≤ℤ a → is_past a ≡ pos 1
past {a} l = ap (λ (b : Bool). cond b (pos 0) (pos 1)) (negative_not a l)

not_past : {a : ℤ} → a <ℤ pos 0 → is_past a ≡ pos 0
not_past l = ap (λ (b : Bool). cond b (pos 0) (pos 1)) (negative_in l)

-- a number whose positive multiple is a product
same_sign : {k a c : ℤ} → pos 0 <ℤ k → a ≢ pos 0 → k *ℤ a ≡ c → pos 0 ≤ℤ c → pos 0 <ℤ a
same_sign {k} {a} l n e c =
    by_sign a (λ p. p) (λ z. absurd (n z)) (λ p. absurd (omega (arith, linear, e, c, mul_pos_neg l p)))

other_sign : {k a c : ℤ} → pos 0 <ℤ k → a ≢ pos 0 → k *ℤ a ≡ c → c ≤ℤ pos 0 → a <ℤ pos 0
other_sign {k} {a} l n e c =
    by_sign a (λ p. absurd (omega (arith, linear, e, c, pos_mul l p))) (λ z. absurd (n z)) (λ p. p)

-- between two ends, the first behind and the second ahead along s
past_between : (k s p q : ℤ) {a b : ℤ} → pos 0 <ℤ k → k *ℤ a ≡ s *ℤ p → k *ℤ b ≡ s *ℤ q → pos 0 ≤ℤ p → q ≤ℤ pos 0 →
    a ≢ pos 0 → b ≢ pos 0 → is_past a -ℤ is_past b ≡ sign s
past_between k s p q {a} {b} l ea eb lp lq na nb =
    by_sign s
    (λ m. let x = past (weak (same_sign l na ea (nonneg_mul (weak m) lp))) in let y =
    not_past (other_sign l nb eb (shrink (weak m) lq)) in let z = sign_pos m in omega (arith, linear, x, y, z))
    (λ z. absurd (na (cancel_eq {c = k} {b = pos 0} (positive_nonzero l) (ea ∙ zero_times s p z ∙ sym (zero_scaled k (pos 0) refl)))))
    (λ m. let x = not_past (other_sign l na ea (grow m lp)) in let y = past (weak (same_sign l nb eb (both m lq))) in
    let z = sign_neg m in omega (arith, linear, x, y, z))
  where
    weak : {a : ℤ} → pos 0 <ℤ a → pos 0 ≤ℤ a
    weak l = omega (arith, linear)

    shrink : {a b : ℤ} → pos 0 ≤ℤ a → b ≤ℤ pos 0 → (a *ℤ b) ≤ℤ pos 0
    shrink {a} {b} l m = let n : pos 0 ≤ℤ neg_ℤ b = omega (arith, linear) in omega (arith, linear, nonneg_mul l n, *ℤ-neg a b)

    grow : {a b : ℤ} → a <ℤ pos 0 → pos 0 ≤ℤ b → (a *ℤ b) ≤ℤ pos 0
    grow {a} {b} l m = let n : pos 0 ≤ℤ neg_ℤ a = omega (arith, linear) in omega (arith, linear, nonneg_mul n m, neg-*ℤ a b)

    both : {a b : ℤ} → a <ℤ pos 0 → b ≤ℤ pos 0 → pos 0 ≤ℤ (a *ℤ b)
    both {a} {b} l m =
        let x : pos 0 ≤ℤ neg_ℤ a = omega (arith, linear) in let y : pos 0 ≤ℤ neg_ℤ b = omega (arith, linear) in
        omega (arith, linear, nonneg_mul x y, neg-*ℤ a (neg_ℤ b), *ℤ-neg a b)

-- of two numbers one is negative, and one isn't
pub data Apart (a b : ℤ) : Type 0 where
  after : pos 0 ≤ℤ a → b <ℤ pos 0 → Apart a b
  before : a <ℤ pos 0 → pos 0 ≤ℤ b → Apart a b

same_or_apart : (a b : ℤ) → (is_past a ≡ is_past b) ⊎ Apart a b
same_or_apart a b =
    by_lt_z a (pos 0)
    (λ l. by_lt_z b (pos 0) (λ m. inl (not_past l ∙ sym (not_past m))) (λ m. inr (before l m)))
    (λ l. by_lt_z b (pos 0) (λ m. inr (after l m)) (λ m. inl (past l ∙ sym (past m))))

-- a value between two that aren't positive isn't either
at_most_between : (a b u v t hu hv ht : ℤ) → pos 0 <ℤ u → pos 0 <ℤ v → pos 0 <ℤ t → hu ≤ℤ pos 0 → hv ≤ℤ pos 0 →
    b *ℤ (u *ℤ ht -ℤ t *ℤ hu) ≡ a *ℤ (v *ℤ ht -ℤ t *ℤ hv) → Apart a b → ht ≤ℤ pos 0
at_most_between a b u v t hu hv ht lu lv lt mu mv e c =
    by_lt_z (pos 0) ht (λ l. absurd (by (rise lu lt mu l) (rise lv lt mv l) c)) (λ l. l)
  where
    rise : {u t h x : ℤ} → pos 0 <ℤ u → pos 0 <ℤ t → h ≤ℤ pos 0 → pos 0 <ℤ x → pos 0 <ℤ (u *ℤ x -ℤ t *ℤ h)
    rise {u} {t} {h} {x} lu lt m l =
        let n : pos 0 ≤ℤ neg_ℤ h = omega (arith, linear) in let w : pos 0 ≤ℤ t = omega (arith, linear) in
        omega (arith, linear, pos_mul lu l, nonneg_mul w n, *ℤ-neg t h)

    by : pos 0 <ℤ (u *ℤ ht -ℤ t *ℤ hu) → pos 0 <ℤ (v *ℤ ht -ℤ t *ℤ hv) → Apart a b → ⊥
    by l m (after x y) =
        let w : pos 0 ≤ℤ (v *ℤ ht -ℤ t *ℤ hv) = omega (arith, linear, m) in
        omega (arith, linear, mul_neg_pos y l, nonneg_mul x w, e)
    by l m (before x y) =
        let w : pos 0 ≤ℤ (u *ℤ ht -ℤ t *ℤ hu) = omega (arith, linear, l) in
        omega (arith, linear, nonneg_mul y w, mul_neg_pos x m, e)

crossed : (k a b h p q : ℤ) → k ≢ pos 0 → p *ℤ k ≡ h *ℤ a → q *ℤ k ≡ h *ℤ b → b *ℤ p ≡ a *ℤ q
crossed k a b h p q n ep eq =
    cancel_eq n (solve 3 (λ k b p. k ⊗ (b ⊗ p) ≈ b ⊗ (p ⊗ k)) cancels k b p ∙ ap (λ (z : ℤ). b *ℤ z) ep
    ∙ solve 3 (λ a b h. b ⊗ (h ⊗ a) ≈ a ⊗ (h ⊗ b)) cancels a b h ∙ ap (λ (z : ℤ). a *ℤ z) (sym eq)
    ∙ solve 3 (λ k a q. a ⊗ (q ⊗ k) ≈ k ⊗ (a ⊗ q)) cancels k a q)

-- ---- one edge
-- along the edge, the line's direction n × g
reach_gap : (k : Vector) (u v : Spot) → u.w *ℤ dot k (record { x = v.x; y = v.y; z = v.z }) -ℤ v.w *ℤ dot k
    (record { x = u.x; y = u.y; z = u.z }) ≡ dot k (displacement u v)
reach_gap k u v =
    identity (vector ∷ tuple ∷ tuple ∷ []) (λ k u v. u.w ⊗ dotE k (normalE v) ⊖ v.w ⊗ dotE k (normalE u) ≈ dotE k
    (displacementE u v)) cancels k (spot_tuple u) (spot_tuple v)

-- a displacement in a plane
pub flat_displacement : (h : Plane) (u v : Spot) → value_at h u ≡ pos 0 → value_at h v ≡ pos 0 → dot (normal h) (displacement u v) ≡ pos 0
flat_displacement h u v zu zv = sym (displacement_value h u v) ∙ both_zero u.w v.w zv zu

-- a displacement in two planes
pub line_displacement : (n g : Plane) (u v : Spot) → value_at n u ≡ pos 0 → value_at n v ≡ pos 0 →
    value_at g u ≡ pos 0 → value_at g v ≡ pos 0 → Parallel (displacement u v) (cross (normal n) (normal g))
line_displacement n g u v nu nv gu gv =
    orthogonal_parallel (displacement u v) (normal n) (normal g)
    (dot_swap (displacement u v) (normal n) ∙ flat_displacement n u v nu nv)
    (dot_swap (displacement u v) (normal g) ∙ flat_displacement g u v gu gv)

module _ (f : Face) (e : RingEdge) (end : Spot) (edge : IsEdge f e end) where
  abbrev course : Vector
  course = cross (normal f.support) (normal e.plane)

  abbrev whole : DirectedEdge
  whole = record { from = e.start; to = end }

  pub start_on : OnEdge f e.plane e.start
  start_on = edge_out f e.plane e.start edge.starts

  pub end_on : OnEdge f e.plane end
  end_on = edge_out f e.plane end edge.ends

  pub leads : pos 0 <ℤ dot course (displacement e.start end)
  leads = let l = edge.leads.before in omega (arith, linear, l, reach_gap course e.start end)

  pub course_nonzero : course ≢ zero_v
  course_nonzero z =
      positive_nonzero leads (dot_swap course (displacement e.start end) ∙ orthogonal_to_none (displacement e.start end) z)

  runs_nonzero : displacement e.start end ≢ zero_v
  runs_nonzero z = positive_nonzero leads (orthogonal_to_none course z)

  -- what lies on both planes lies on the line through the ends, and back
  module _ (d : Vector) (t : Spot) (wt : pos 0 <ℤ t.w) (nd : d ≢ zero_v) where
    -- the plane of a point of the closed edge contains d
    pub on_line : dot (normal f.support) d ≡ pos 0 → dot (normal e.plane) d ≡ pos 0 → (u : Spot) → OnEdge f e.plane u →
        (v : Spot) → value_at f.support v ≡ pos 0 → value_at e.plane v ≡ pos 0 → Parallel (displacement u v) d
    on_line a b u on v nv gv =
        parallel_both (displacement u v) d course course_nonzero
        (line_displacement f.support e.plane u v on.closed.flat nv on.zero gv)
        (orthogonal_parallel d (normal f.support) (normal e.plane) (dot_swap d (normal f.support) ∙ a)
        (dot_swap d (normal e.plane) ∙ b))

    -- a plane through both ends contains t, where t is on their line
    through : (h : Plane) → value_at h e.start ≡ pos 0 → value_at h end ≡ pos 0 →
        Parallel (displacement e.start end) d → Parallel (displacement e.start t) d → value_at h t ≡ pos 0
    through h hu hv p q =
        let o = parallel_orthogonal (normal h) d (displacement e.start end) runs_nonzero
        (parallel_swap (displacement e.start end) d p) (flat_displacement h e.start end hu hv) in
        zero_carried h e.start t start_on.closed.weight hu (parallel_orthogonal (normal h) (displacement e.start t) d nd q o)

    -- if t is on the edge, the edge leads over it
    on_edge : is_on_edge f e.plane t ≡ true → IsGeneral d t f.support → IsGeneral d t e.plane → IsOffEnds d t whole → coverage t d whole ≡ sign (dot course d)
    on_edge h gn gg off =
        let on = edge_out f e.plane t h in
        let a = gn.contains on.closed.flat in let b = gg.contains on.zero in
        let p = on_line a b e.start start_on end end_on.closed.flat end_on.zero in
        let q = on_line a b e.start start_on t on.closed.flat on.zero in
        let x = zero_vector_in p in let y = zero_vector_in q in
        (λ i. cond (x i && y i) (reached d e.start t -ℤ reached d end t) (pos 0))
        ∙ past_between (dot course course) (dot course d) (dot course (displacement e.start t))
        (dot course (displacement end t)) (square_positive course course_nonzero) (proportion e.start start_on on)
        (proportion end end_on on) (not_before on) (not_behind on) off.from off.to
      where
        proportion : (u : Spot) → OnEdge f e.plane u → OnEdge f e.plane t →
            dot course course *ℤ dot (displacement u t) d ≡ dot course d *ℤ dot course (displacement u t)
        proportion u on at =
            let k = course in let x = displacement u t in
            *ℤ_comm (dot k k) (dot x d) ∙ ap (λ (z : ℤ). z *ℤ dot k k) (dot_swap x d)
            ∙ parallel_products d k x k (line_displacement f.support e.plane u t on.closed.flat at.closed.flat on.zero
            at.zero) ∙ ap (λ (z : ℤ). z *ℤ dot k x) (dot_swap d k)

        not_before : OnEdge f e.plane t → pos 0 ≤ℤ dot course (displacement e.start t)
        not_before on = let l = (edge.from_start t h).not_after in omega (arith, linear, l, reach_gap course e.start t)

        not_behind : OnEdge f e.plane t → dot course (displacement end t) ≤ℤ pos 0
        not_behind on = let l = (edge.to_end t h).not_after in omega (arith, linear, l, reach_gap course end t)

    -- a plane that isn't positive at the ends isn't between them
    at_most_on_line : (h : Plane) → Parallel (displacement e.start end) d → Parallel (displacement e.start t) d →
        Apart (dot (displacement e.start t) d) (dot (displacement end t) d) → IsNotAbove h e.start → IsNotAbove h end →
        IsNotAbove h t
    at_most_on_line h p q c hu hv =
        record {
          at_most = at_most_between (dot (displacement e.start t) d) (dot (displacement end t) d) e.start.w end.w
              t.w (value_at h e.start) (value_at h end) (value_at h t) start_on.closed.weight end_on.closed.weight wt
              hu.at_most hv.at_most (crossed (dot d d) (dot (displacement e.start t) d) (dot (displacement end t) d)
              (dot (normal h) d) (e.start.w *ℤ value_at h t -ℤ t.w *ℤ value_at h e.start)
              (end.w *ℤ value_at h t -ℤ t.w *ℤ value_at h end) (positive_nonzero (square_positive d nd)) (gap e.start q)
              (gap end (parallel_onward e.start end t d start_on.closed.weight p q))) c;
        }
      where
        gap : (u : Spot) → Parallel (displacement u t) d →
            (u.w *ℤ value_at h t -ℤ t.w *ℤ value_at h u) *ℤ dot d d ≡ dot (normal h) d *ℤ dot (displacement u t) d
        gap u q =
            ap (λ (z : ℤ). z *ℤ dot d d) (displacement_value h u t)
            ∙ parallel_products (normal h) d (displacement u t) d q
            ∙ ap (λ (z : ℤ). dot (normal h) d *ℤ z) (dot_swap d (displacement u t))

    -- if t isn't on the edge, the edge doesn't lead over it
    off_edge : is_on_edge f e.plane t ≡ false → coverage t d whole ≡ pos 0
    off_edge h =
        by (is_parallel d whole && is_on_line t d e.start) refl
      where
        missed : Parallel (displacement e.start end) d → Parallel (displacement e.start t) d →
            Apart (dot (displacement e.start t) d) (dot (displacement end t) d) → is_on_edge f e.plane t ≡ true
        missed p q c =
            edge_in f e.plane t (record {
              flat = through f.support start_on.closed.flat end_on.closed.flat p q;
              weight =
                  wt;
              within = each_both (λ g. IsNotAbove g e.start) (λ g. IsNotAbove g end) (λ g. IsNotAbove g t) f.edges
                  (λ g hu hv. at_most_on_line g p q c hu hv) start_on.closed.within end_on.closed.within;
            })
            (through e.plane start_on.zero end_on.zero p q)

        by : (b : Bool) → is_parallel d whole && is_on_line t d e.start ≡ b → coverage t d whole ≡ pos 0
        by false z = ap (λ (b : Bool). cond b (reached d e.start t -ℤ reached d end t) (pos 0)) z
        by true z =
            let c = and_parts (is_parallel d whole) (is_on_line t d e.start) z in
            let p = zero_vector_out c.0 in let q = zero_vector_out c.1 in
            ⊎_elim (λ s. (λ i. cond (z i) (reached d e.start t -ℤ reached d end t) (pos 0))
            ∙ (let r : reached d e.start t ≡ reached d end t = s in omega (arith, linear, r)))
            (λ a. absurd (clash (missed p q a) h))
            (same_or_apart (dot (displacement e.start t) d) (dot (displacement end t) d))

-- ---- the edges of an outline
-- an edge covers the points just after t by the turn of its plane where t lies on it, and none elsewhere
pub edge_form : (d : Vector) (t : Spot) (f : Face) (e : RingEdge) (end : Spot) → pos 0 <ℤ t.w →
    is_zero_vector d ≡ false → IsGeneralFace d t f → IsEdge f e end →
    IsOffEnds d t (record { from = e.start; to = end }) →
    coverage t d (record { from = e.start; to = end }) ≡ edge_turn d t f e
edge_form d t f e end wt nd general edge off = by (is_on_edge f e.plane t) refl
  where
    by : (b : Bool) → is_on_edge f e.plane t ≡ b → coverage t d (record { from = e.start; to = end }) ≡ edge_turn d t f e
    by true h =
        on_edge f e end edge d t wt (zero_not nd) h general.support
        (each_get (λ g. IsGeneral d t g) f.edges edge.is_earliest.index e.plane general.edges edge.is_earliest.here)
        off ∙ sym (ap (λ (b : Bool). cond b (sign (dot (cross (normal f.support) (normal e.plane)) d)) (pos 0)) h)
    by false h =
        off_edge f e end edge d t wt (zero_not nd) h ∙ sym (ap (λ (b : Bool). cond b (sign (dot (cross (normal f.support) (normal e.plane)) d)) (pos 0)) h)

-- a face with an edge has a support plane with a normal
pub has_normal : (f : Face) (e : RingEdge) → Ended f e → HasNoNormal f.support → ⊥
has_normal f e p n = course_nonzero f e p.end p.is (none_parallel (normal e.plane) (same_v n.0 n.1 n.2))

path_form : (d : Vector) (t : Spot) (f : Face) (end : Spot) (es : List RingEdge) → pos 0 <ℤ t.w →
    is_zero_vector d ≡ false → IsGeneralFace d t f → IsEdgeChain f end es →
    AllByRecursion (λ e. IsOffEnds d t e) (edges_to end es) →
    total (coverage t d) (edges_to end es) ≡ total (edge_turn d t f) es
path_form d t f end [] wt nd g p o = refl
path_form d t f end (e ∷ []) wt nd g p o = ap (λ (z : ℤ). z +ℤ pos 0) (edge_form d t f e end wt nd g p o.0)
path_form d t f end (e ∷ b ∷ es) wt nd g p o =
    let x = edge_form d t f e b.start wt nd g p.0 o.0 in let y = path_form d t f end (b ∷ es) wt nd g p.1 o.1 in λ i. x i +ℤ y i

pub once_round : (f : Face) (es : List RingEdge) (o : IsOutline f es) → directed_edges es ≡ edges_to o.first.start es
once_round f es o = ap directed_edges o.begins ∙ sym (ap (edges_to o.first.start) o.begins)

-- the edges of an outline cover the points just after t as often as the turns at t say
pub outline_form : (d : Vector) (t : Spot) (w : WrittenFace) → pos 0 <ℤ t.w → is_zero_vector d ≡ false →
    IsGeneralFace d t (face_from w) → IsOutlined w → AllByRecursion (λ e. IsOffEnds d t e) (directed_edges w.edges) →
    total (coverage t d) (directed_edges w.edges) ≡ total (edge_turn d t (face_from w)) w.edges
outline_form d t w wt nd g o ends =
    let r = once_round (face_from w) w.edges o in
    ap (total (coverage t d)) r ∙ path_form d t (face_from w) o.first.start w.edges wt nd g o.round
    (subst (λ es. AllByRecursion (λ e. IsOffEnds d t e) es) r ends)

-- the ends of an outline's edges are points
pub outline_weights : (w : WrittenFace) → IsOutlined w → AllByRecursion (λ e. (pos 0 <ℤ e.from.w) × (pos 0 <ℤ e.to.w)) (directed_edges w.edges)
outline_weights w o =
    subst (λ es. AllByRecursion (λ e. (pos 0 <ℤ e.from.w) × (pos 0 <ℤ e.to.w)) es)
    (sym (once_round (face_from w) w.edges o)) (path (face_from w) o.first.start w.edges o.round)
  where
    one : (f : Face) (e : RingEdge) (end : Spot) → IsEdge f e end → (pos 0 <ℤ e.start.w) × (pos 0 <ℤ end.w)
    one f e end p = ((start_on f e end p).closed.weight, (end_on f e end p).closed.weight)

    path : (f : Face) (end : Spot) (es : List RingEdge) → IsEdgeChain f end es → AllByRecursion (λ e. (pos 0 <ℤ e.from.w) × (pos 0 <ℤ e.to.w)) (edges_to end es)
    path f end [] p = tt
    path f end (e ∷ []) p = (one f e end p, tt)
    path f end (e ∷ b ∷ es) p = (one f e b.start p.0, path f end (b ∷ es) p.1)
