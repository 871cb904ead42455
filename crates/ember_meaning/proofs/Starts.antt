-- If the points just after each point are covered evenly, as many edges start at each point as end there.
use Rattle.std.proofs.Common.{◌≡◌, ◌≢◌, refl, sym, ap, ◌∙◌, arith, ℕ, zero, suc, Bool, true, false, cond, ◌&&◌, List}
use Rattle.std.proofs.Common.{[], ◌∷◌, ℤ, pos, negsuc, ◌+ℤ◌, ◌-ℤ◌, neg_ℤ, ◌<ℤ◌}
use Rattle.std.specs.List.{AllByRecursion}
use borrow.Author.Differences.{ints}
use Rattle.std.proofs.lemmas.Bool.{and_parts}
use Rattle.ember_algebra.specs.Vector.{Vector, zero_v, dot, cross}
use Rattle.ember_algebra.specs.Sign.{is_negative, is_zero}
use Rattle.ember_algebra.specs.Sums.{total}
use Rattle.ember_algebra.proofs.Laws.{linear}
use Rattle.ember_algebra.proofs.Ring.{◌≈◌, neg, cancels}
use Rattle.ember_algebra.proofs.Sums.{total-count_by}
use Rattle.ember_algebra.proofs.Vectors.{VectorE, vector, identity, vector_identity, dotE, crossE, ◌≈v◌, cancels_v}
use Rattle.ember_algebra.proofs.Booleans.{same_test}
use Rattle.ember_model.specs.declared.point.Spot.{Spot}
use Rattle.ember_model.proofs.SignTests.{clash, zero_out, and_true}
use Rattle.ember_model.specs.Points.{displacement}
use Rattle.ember_meaning.specs.Closed.Chains.{DirectedEdge, is_zero_vector, is_same_point, is_parallel, is_on_line}
use Rattle.ember_meaning.specs.Closed.Chains.{reached, coverage, IsEvenlyCovered, IsClosed}
use Rattle.ember_meaning.proofs.Displacements.{Parallel, parallel_none, none_parallel, parallel_back, parallel_onward}
use Rattle.ember_meaning.proofs.Displacements.{orthogonal_to_none, dot_swap, zero_vector_in, zero_vector_out, zero_not}
use Rattle.ember_meaning.specs.Regions.Meaning.{one_if}

-- ---- the other direction
-- the vector with the opposite direction
abbrev pub against : Vector → Vector
against d = record { x = neg_ℤ d.x; y = neg_ℤ d.y; z = neg_ℤ d.z }

abbrev pub againstE : VectorE → VectorE
againstE d = record { x = neg d.x; y = neg d.y; z = neg d.z }

zero_against : (v : Vector) → is_zero_vector (against v) ≡ is_zero_vector v
zero_against v = let x = one v.x in let y = one v.y in let z = one v.z in λ i. x i && (y i && z i)
  where
    one : (a : ℤ) → is_zero (neg_ℤ a) ≡ is_zero a
    one (pos zero) = refl
    one (pos (suc n)) = refl
    one (negsuc n) = refl

-- a vector is parallel to another exactly if it is parallel to the opposite one
pub parallel_against : (v d : Vector) → is_zero_vector (cross v (against d)) ≡ is_zero_vector (cross v d)
parallel_against v d =
    ap is_zero_vector (vector_identity (vector ∷ vector ∷ []) (λ v d. crossE v (againstE d) ≈v againstE (crossE v d)) cancels_v v d) ∙ zero_against (cross v d)

dot_against : (v d : Vector) → dot v (against d) ≡ neg_ℤ (dot v d)
dot_against = identity (vector ∷ vector ∷ []) (λ v d. dotE v (againstE d) ≈ neg (dotE v d)) cancels

-- ---- one end

-- reached both ways, where the end is at x
both_ways : (d : Vector) (u x : Spot) → reached d u x +ℤ reached (against d) u x ≡ pos 1 +ℤ one_if (is_zero (dot (displacement u x) d))
both_ways d u x =
    ap (λ (a : ℤ). reached d u x +ℤ cond (is_negative a) (pos 0) (pos 1)) (dot_against (displacement u x) d) ∙ by (dot (displacement u x) d)
  where
    by : (a : ℤ) → cond (is_negative a) (pos 0) (pos 1) +ℤ cond (is_negative (neg_ℤ a)) (pos 0) (pos 1) ≡ pos 1 +ℤ one_if (is_zero a)
    by (pos zero) = refl
    by (pos (suc n)) = refl
    by (negsuc n) = refl

-- on the line through x the end is x where it isn't beside x along d
same_where_zero : (d : Vector) (u x : Spot) → d ≢ zero_v → Parallel (displacement u x) d → is_zero (dot (displacement u x) d) ≡ is_same_point u x
same_where_zero d u x nd p =
    same_test (is_zero (dot (displacement u x) d)) (is_same_point u x)
    (λ e. zero_vector_in (parallel_none (displacement u x) d nd p (zero_out (dot (displacement u x) d) e)))
    (λ e. ap is_zero (dot_swap (displacement u x) d ∙ orthogonal_to_none d (zero_vector_out e)))

-- ---- one edge
module _ (x : Spot) (d : Vector) (nd : d ≢ zero_v) (e : DirectedEdge) (wf : pos 0 <ℤ e.from.w) (wt : pos 0 <ℤ e.to.w) where
  abbrev covers : Bool
  covers = is_parallel d e && is_on_line x d e.from

  abbrev starts : Bool
  starts = is_same_point e.from x && is_parallel d e

  abbrev stops : Bool
  stops = is_same_point e.to x && is_parallel d e

  covers_against : is_parallel (against d) e && is_on_line x (against d) e.from ≡ covers
  covers_against =
      let p = parallel_against (displacement e.from e.to) d in let q = parallel_against (displacement e.from x) d in λ i. p i && q i

  covering : covers ≡ true → coverage x d e +ℤ coverage x (against d) e ≡ one_if starts -ℤ one_if stops
  covering h =
      let c = and_parts (is_parallel d e) (is_on_line x d e.from) h in
      let p = zero_vector_out c.0 in let q = zero_vector_out c.1 in let k = covers_against ∙ h in
      let r : coverage x d e ≡ reached d e.from x -ℤ reached d e.to x = λ i. cond (h i) (reached d e.from x -ℤ reached d e.to x) (pos 0) in
      let s : coverage x (against d) e ≡ reached (against d) e.from x -ℤ reached (against d) e.to x =
      λ i. cond (k i) (reached (against d) e.from x -ℤ reached (against d) e.to x) (pos 0) in
      let a = both_ways d e.from x ∙ (let z = same_where_zero d e.from x nd q in λ i. pos 1 +ℤ one_if (one c.0 z i)) in
      let b = both_ways d e.to x ∙ (let z = same_where_zero d e.to x nd (parallel_onward e.from e.to x d wf p q) in λ i. pos 1 +ℤ one_if (one c.0 z i)) in
      omega (arith, linear, r, s, a, b)
    where
      one : {a b c : Bool} → a ≡ true → b ≡ c → b ≡ c && a
      one {c = c} p q = q ∙ sym ((λ i. c && p i) ∙ and_true c)

  apart : covers ≡ false → coverage x d e +ℤ coverage x (against d) e ≡ one_if starts -ℤ one_if stops
  apart h =
      let k = covers_against ∙ h in
      let r : coverage x d e ≡ pos 0 = λ i. cond (h i) (reached d e.from x -ℤ reached d e.to x) (pos 0) in
      let s : coverage x (against d) e ≡ pos 0 = λ i. cond (k i) (reached (against d) e.from x -ℤ reached (against d) e.to x) (pos 0) in
      let a = none starts (λ t. let c = and_parts (is_same_point e.from x) (is_parallel d e) t in
      refuted (zero_vector_out c.1) (none_parallel d (zero_vector_out c.0))) in
      let b = none stops (λ t. let c = and_parts (is_same_point e.to x) (is_parallel d e) t in let p =
      zero_vector_out c.1 in refuted p (parallel_onward e.to e.from x d wt (parallel_back e.from e.to d p)
      (none_parallel d (zero_vector_out c.0)))) in
      omega (arith, linear, r, s, a, b)
    where
      refuted : Parallel (displacement e.from e.to) d → Parallel (displacement e.from x) d → ⊥
      refuted p q =
          clash (let u = zero_vector_in p in let v = zero_vector_in q in λ i. u i && v i) h

      none : (b : Bool) → (b ≡ true → ⊥) → one_if b ≡ pos 0
      none true f = absurd (f refl)
      none false f = refl

  both_coverages : coverage x d e +ℤ coverage x (against d) e ≡ one_if starts -ℤ one_if stops
  both_coverages = by covers refl
    where
      by : (b : Bool) → covers ≡ b → coverage x d e +ℤ coverage x (against d) e ≡ one_if starts -ℤ one_if stops
      by true h = covering h
      by false h = apart h

-- ---- all edges
abbrev HasWeights : DirectedEdge → Type 0
HasWeights e = (pos 0 <ℤ e.from.w) × (pos 0 <ℤ e.to.w)

both_totals : (x : Spot) (d : Vector) → d ≢ zero_v → (es : List DirectedEdge) → AllByRecursion HasWeights es →
    total (coverage x d) es +ℤ total (coverage x (against d)) es ≡ total
    (λ e. one_if (is_same_point e.from x && is_parallel d e)) es -ℤ total
    (λ e. one_if (is_same_point e.to x && is_parallel d e)) es
both_totals x d nd [] w = refl
both_totals x d nd (e ∷ es) w =
    let r = both_coverages x d nd e w.0.0 w.0.1 in let s = both_totals x d nd es w.1 in omega (arith, linear, r, s)

-- evenly covered edges are closed
pub starts_are_ends : (es : List DirectedEdge) → AllByRecursion (λ e. (pos 0 <ℤ e.from.w) × (pos 0 <ℤ e.to.w)) es → IsEvenlyCovered es → IsClosed es
starts_are_ends es w even x d wx nd =
    let a = even x d wx nd in let b = even x (against d) wx (zero_against d ∙ nd) in
    let s = total-count_by (λ e. is_same_point e.from x && is_parallel d e) es in
    let t = total-count_by (λ e. is_same_point e.to x && is_parallel d e) es in
    let r = both_totals x d (zero_not nd) es w in
    natural (omega (arith, linear, a, b, s, t, r))
  where
    natural : {m n : ℕ} → pos m ≡ pos n → m ≡ n
    natural e = omega (arith, ints, e)
