-- If the points just after each point are covered evenly, each piece of a line is led over as often one way as the other.
use Rattle.std.proofs.Common.{◌≡◌, refl, sym, ap, ◌∙◌, arith, ℕ, Bool, true, false, cond, not, ◌&&◌, List}
use Rattle.std.proofs.Common.{[], ◌∷◌, ℤ, pos, ◌+ℤ◌, ◌-ℤ◌, ◌*ℤ◌, ◌<ℤ◌, ◌≤ℤ◌}
use Rattle.std.specs.List.{AllByRecursion}
use Rattle.std.proofs.lemmas.Int.{by_lt_z}
use borrow.Author.Differences.{ints}
use lib.IntN.{*ℤ-zero}
use Rattle.std.proofs.lemmas.Bool.{and_parts}
use Rattle.ember_algebra.specs.Vector.{Vector, dot, cross}
use Rattle.ember_algebra.specs.Sign.{is_negative, is_positive}
use Rattle.ember_algebra.specs.Sums.{total}
use Rattle.ember_algebra.proofs.Laws.{linear}
use Rattle.ember_algebra.proofs.Order.{pos_mul, nonneg_mul, cancel_lt}
use Rattle.ember_algebra.proofs.Ring.{◌⊕◌, ◌⊗◌, ◌≈◌, neg, cancels}
use Rattle.ember_algebra.proofs.Sums.{total-count_by}
use Rattle.ember_algebra.proofs.Vectors.{tuple, identity, vector_identity, dotE, crossE, ◌≈v◌, cancels_v}
use Rattle.ember_algebra.proofs.Vectors.{square_positive}
use Rattle.ember_algebra.proofs.Booleans.{same_test}
use Rattle.ember_model.specs.declared.point.Spot.{Spot}
use Rattle.ember_model.proofs.SignTests.{negative_in, negative_not, positive_in, clash, is_positive-neg}
use Rattle.ember_model.proofs.Tuples.{spot_tuple}
use Rattle.ember_model.specs.Points.{displacement}
use Rattle.ember_model.proofs.Displacements.{displacementE}
use Rattle.ember_meaning.specs.Closed.Chains.{DirectedEdge, is_zero_vector, is_same_point, is_parallel, is_on_line}
use Rattle.ember_meaning.specs.Closed.Chains.{reached, coverage, IsEvenlyCovered, is_ahead, is_between, IsUnbroken, leads_over}
use Rattle.ember_meaning.specs.Closed.Chains.{ArePiecesPaired}
use Rattle.ember_meaning.proofs.Displacements.{zeroE, Parallel, parallel_onward}
use Rattle.ember_meaning.proofs.Displacements.{parallel_back, zero_vector_in, zero_vector_out, zero_not}
use Rattle.ember_meaning.proofs.Starts.{againstE, parallel_against}
use Rattle.ember_meaning.specs.Regions.Meaning.{one_if}

-- ---- tests of a number and its negative
module _ (x y : Spot) where
  abbrev d : Vector
  d = displacement x y

  -- how far u lies behind x
  abbrev behind : Spot → ℤ
  behind u = dot (displacement u x) d

  ahead_of_x : (u : Spot) → is_ahead x d u ≡ is_negative (behind u)
  ahead_of_x u =
      ap is_positive (identity (tuple ∷ tuple ∷ tuple ∷ [])
      (λ x y u. dotE (displacementE x u) (displacementE x y) ≈ neg (dotE (displacementE u x) (displacementE x y)))
      cancels (spot_tuple x) (spot_tuple y) (spot_tuple u)) ∙ is_positive-neg (behind u)

  -- the same from y back to x
  x_ahead_back : (u : Spot) → is_ahead u (displacement y x) x ≡ is_negative (behind u)
  x_ahead_back u =
      ap is_positive (identity (tuple ∷ tuple ∷ tuple ∷ [])
      (λ x y u. dotE (displacementE u x) (displacementE y x) ≈ neg (dotE (displacementE u x) (displacementE x y)))
      cancels (spot_tuple x) (spot_tuple y) (spot_tuple u)) ∙ is_positive-neg (behind u)

  ahead_back : (u : Spot) → is_ahead y (displacement y x) u ≡ is_ahead u d y
  ahead_back u =
      ap is_positive (identity (tuple ∷ tuple ∷ tuple ∷ [])
      (λ x y u. dotE (displacementE y u) (displacementE y x) ≈ dotE (displacementE u y) (displacementE x y)) cancels
      (spot_tuple x) (spot_tuple y) (spot_tuple u))

  -- ---- the line from y back to x is the same
  back : (v : Vector) → is_zero_vector (cross v (displacement y x)) ≡ is_zero_vector (cross v d)
  back v =
      ap (λ (k : Vector). is_zero_vector (cross v k))
      (vector_identity (tuple ∷ tuple ∷ []) (λ x y. displacementE y x ≈v againstE (displacementE x y)) cancels_v
      (spot_tuple x) (spot_tuple y)) ∙ parallel_against v d

  parallel_back_same : (e : DirectedEdge) → is_parallel (displacement y x) e ≡ is_parallel d e
  parallel_back_same e = back (displacement e.from e.to)

  on_line_same : pos 0 <ℤ x.w → pos 0 <ℤ y.w → (u : Spot) → is_on_line y (displacement y x) u ≡ is_on_line x d u
  on_line_same wx wy u =
      back (displacement u y) ∙ same_test (is_zero_vector (cross (displacement u y) d)) (is_on_line x d u)
      (λ h. zero_vector_in (parallel_onward y u x d wy (parallel_back u y d (zero_vector_out h))
      (parallel_back x y d own))) (λ h. zero_vector_in
      (parallel_onward x u y d wx (parallel_back u x d (zero_vector_out h)) own))
    where
      own : Parallel d d
      own =
          vector_identity (tuple ∷ tuple ∷ []) (λ x y. crossE (displacementE x y) (displacementE x y) ≈v zeroE) cancels_v (spot_tuple x) (spot_tuple y)

  -- ---- an end that isn't strictly between is behind y only where it is at x or behind it
  module _ (wx : pos 0 <ℤ x.w) (wy : pos 0 <ℤ y.w) (apart : is_same_point x y ≡ false) where
    gap : (u : Spot) → x.w *ℤ dot (displacement u y) d ≡ y.w *ℤ behind u +ℤ u.w *ℤ dot d d
    gap u =
        identity (tuple ∷ tuple ∷ tuple ∷ []) (λ x y u. x.w ⊗ dotE (displacementE u y) (displacementE x y) ≈ y.w ⊗ dotE
        (displacementE u x) (displacementE x y) ⊕ u.w ⊗ dotE (displacementE x y) (displacementE x y)) cancels
        (spot_tuple x) (spot_tuple y) (spot_tuple u)

    y_ahead : (u : Spot) → pos 0 <ℤ u.w → pos 0 ≤ℤ behind u → is_ahead u d y ≡ true
    y_ahead u wu l =
        positive_in (factor wx (omega (arith, linear, gap u, nonneg_mul (weak wy) l, pos_mul wu (square_positive d (zero_not apart)))))
      where
        weak : {a : ℤ} → pos 0 <ℤ a → pos 0 ≤ℤ a
        weak l = omega (arith, linear)

        factor : {k a : ℤ} → pos 0 <ℤ k → pos 0 <ℤ (k *ℤ a) → pos 0 <ℤ a
        factor {k} {a} p q = cancel_lt p (omega (arith, linear, q, *ℤ-zero k))

    beyond : (u : Spot) → pos 0 <ℤ u.w → is_between x y u ≡ false → is_on_line x d u ≡ true → not (is_ahead u d y) ≡ is_negative (behind u)
    beyond u wu free on = by_lt_z (behind u) (pos 0) (λ l. before (is_ahead u d y) refl (negative_in l))
        (λ l. ap not (y_ahead u wu l) ∙ sym (negative_not (behind u) l))
      where
        before : (b : Bool) → is_ahead u d y ≡ b → is_negative (behind u) ≡ true → not (is_ahead u d y) ≡ is_negative (behind u)
        before true a n = absurd (clash (let x = ahead_of_x u ∙ n in λ i. on i && (x i && a i)) free)
        before false a n = ap not a ∙ sym n

    -- ---- one edge
    module _ (e : DirectedEdge) (wf : pos 0 <ℤ e.from.w) (wt : pos 0 <ℤ e.to.w) (free : IsUnbroken x y e) where
      abbrev runs : Bool
      runs = is_parallel d e && is_on_line x d e.from

      runs_back : is_parallel (displacement y x) e && is_on_line y (displacement y x) e.from ≡ runs
      runs_back = let p = parallel_back_same e in let q = on_line_same wx wy e.from in λ i. p i && q i

      running : runs ≡ true → coverage x d e ≡ one_if (leads_over x y e) -ℤ one_if (leads_over y x e)
      running h =
          let c = and_parts (is_parallel d e) (is_on_line x d e.from) h in
          let on = zero_vector_in (parallel_onward e.from e.to x d wf (zero_vector_out c.0) (zero_vector_out c.1)) in
          let from = beyond e.from wf free.from c.1 in let to = beyond e.to wt free.to on in
          let fx = ahead_of_x e.from in let fy = ap not (ahead_back e.from) ∙ from in let tx = x_ahead_back e.to in let k = runs_back ∙ h in
          (λ i. cond (h i) (reached d e.from x -ℤ reached d e.to x) (pos 0))
          ∙ tests (is_negative (behind e.from)) (is_negative (behind e.to))
          ∙ sym (λ i. one_if (h i && (not (fx i) && to i)) -ℤ one_if (k i && (fy i && not (tx i))))
        where
          tests : (a b : Bool) → cond a (pos 0) (pos 1) -ℤ cond b (pos 0) (pos 1) ≡ one_if (not a && b) -ℤ one_if (a && not b)
          tests true true = refl
          tests true false = refl
          tests false true = refl
          tests false false = refl

      elsewhere : runs ≡ false → coverage x d e ≡ one_if (leads_over x y e) -ℤ one_if (leads_over y x e)
      elsewhere h =
          let k = runs_back ∙ h in
          (λ i. cond (h i) (reached d e.from x -ℤ reached d e.to x) (pos 0))
          ∙ sym (λ i. one_if (h i && (not (is_ahead x d e.from) && not (is_ahead e.to d y))) -ℤ one_if
          (k i && (not (is_ahead y (displacement y x) e.from) && not (is_ahead e.to (displacement y x) x))))

      coverage_leads : coverage x d e ≡ one_if (leads_over x y e) -ℤ one_if (leads_over y x e)
      coverage_leads = by runs refl
        where
          by : (b : Bool) → runs ≡ b → coverage x d e ≡ one_if (leads_over x y e) -ℤ one_if (leads_over y x e)
          by true h = running h
          by false h = elsewhere h

    coverages_lead : (es : List DirectedEdge) → AllByRecursion (λ e. (pos 0 <ℤ e.from.w) × (pos 0 <ℤ e.to.w)) es →
        AllByRecursion (IsUnbroken x y) es → total (coverage x d) es ≡ total (λ e. one_if (leads_over x y e)) es -ℤ total
        (λ e. one_if (leads_over y x e)) es
    coverages_lead [] w free = refl
    coverages_lead (e ∷ es) w free =
        let r = coverage_leads e w.0.0 w.0.1 free.0 in let s = coverages_lead es w.1 free.1 in omega (arith, linear, r, s)

-- evenly covered pieces are led over as often one way as the other
pub pieces_are_paired : (es : List DirectedEdge) → AllByRecursion (λ e. (pos 0 <ℤ e.from.w) × (pos 0 <ℤ e.to.w)) es → IsEvenlyCovered es → ArePiecesPaired es
pieces_are_paired es w even x y wx wy apart free =
    let a = even x (displacement x y) wx apart in let r = coverages_lead x y wx wy apart es w free in
    let s = total-count_by (leads_over x y) es in let t = total-count_by (leads_over y x) es in
    natural (omega (arith, linear, a, r, s, t))
  where
    natural : {m n : ℕ} → pos m ≡ pos n → m ≡ n
    natural e = omega (arith, ints, e)
