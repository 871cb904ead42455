-- Numbers alone: where a segment leaves and enters what several half planes share tells which of its ends are in it.
use Rattle.std.proofs.Common.{◌≡◌, ◌≢◌, ⊎_elim, refl, sym, ap, ◌∙◌, arith, ℕ, zero, suc, Bool, true, false, not, ◌&&◌}
use Rattle.std.proofs.Common.{cond, List, [], ◌∷◌, map, length, ℤ, pos, negsuc, ◌+ℤ◌, ◌-ℤ◌, ◌*ℤ◌, neg_ℤ, ◌<ℤ◌, ◌≤ℤ◌}
use Rattle.std.specs.Bool.{⊤}
use Rattle.std.specs.List.{list_all, AllByRecursion}
use Rattle.std.proofs.lemmas.List.{length-map}
use lib.IntN.{*ℤ_comm}
use Rattle.ember_algebra.specs.declared.Sign.{Sign}
use Rattle.ember_algebra.specs.Sign.{sign, sgn, is_pos, is_negative, is_positive}
use Rattle.ember_algebra.specs.Sums.{total}
use Rattle.ember_algebra.proofs.Laws.{linear, neg-*ℤ, *ℤ-neg}
use Rattle.ember_algebra.proofs.Order.{by_sign, pos_mul, nonneg_mul, mul_pos_neg, mul_neg_pos, mul_neg_neg, sign_pos, sign_neg, zero_product}
use Rattle.ember_algebra.proofs.Ring.{◌⊕◌, ◌⊖◌, ◌⊗◌, ◌≈◌, neg, solve, cancels}
use Rattle.ember_algebra.proofs.Sums.{total_same}
use Rattle.ember_model.specs.Faces.{size}
use Rattle.ember_model.proofs.SignTests.{clash, sgn_scaled, negative_in, positive_in, not_positive_in, positive_nonzero, size_positive}
use Rattle.ember_model.proofs.SignTests.{positive_not_negative, size_nonnegative}
use Rattle.ember_model.proofs.Legs.{size_is_pos, size_is_neg, ends_nonzero}
use Rattle.ember_meaning.specs.Regions.Meaning.{one_if}

-- the values of a plane at the two ends of a segment
pub record AtEnds : Type 0 where
  pub first : ℤ
  pub last : ℤ

-- the value of q where p is 0, times a positive number
abbrev pub value_where : AtEnds → AtEnds → ℤ
value_where p q = size p.last *ℤ q.first +ℤ size p.first *ℤ q.last

-- where p is 0, no plane of the list is positive
abbrev pub none_above : List AtEnds → AtEnds → Bool
none_above ps p = list_all (λ q. not (is_positive (value_where p q))) ps

-- 1 if the segment leaves the planes' half spaces where p is 0, -1 if it enters them there, and otherwise 0
abbrev pub leaving : List AtEnds → AtEnds → ℤ
leaving ps p = cond (is_negative (p.first *ℤ p.last) && none_above ps p) (sign p.last) (pos 0)

-- all planes are negative at the first end, or at the last
abbrev pub all_at_first : List AtEnds → Bool
all_at_first ps = list_all (λ p. is_negative p.first) ps

abbrev pub all_at_last : List AtEnds → Bool
all_at_last ps = list_all (λ p. is_negative p.last) ps

-- no plane is 0 at an end, and no two of them are 0 at one point of the segment's line
abbrev pub AreApart : List AtEnds → Type 0
AreApart [] = ⊤
AreApart (p ∷ ps) =
    (p.first ≢ pos 0) × (p.last ≢ pos 0) × AllByRecursion (λ q. p.first *ℤ q.last ≢ q.first *ℤ p.last) ps × AreApart ps

-- ---- signs of products
shrink : {k a : ℤ} → pos 0 ≤ℤ k → a <ℤ pos 0 → (k *ℤ a) ≤ℤ pos 0
shrink {k} {a} p q = let n : pos 0 ≤ℤ neg_ℤ a = omega (arith, linear) in omega (arith, linear, nonneg_mul p n, *ℤ-neg k a)

-- for a number other than 0, "not positive" is "negative"
strictly : (z : ℤ) → z ≢ pos 0 → not (is_positive z) ≡ is_negative z
strictly (pos zero) n = absurd (n refl)
strictly (pos (suc k)) n = refl
strictly (negsuc k) n = refl

-- ---- the head is negative at both ends, or positive at both
under : (p : AtEnds) (ps : List AtEnds) (q : AtEnds) → p.first <ℤ pos 0 → p.last <ℤ pos 0 → leaving (p ∷ ps) q ≡ leaving ps q
under p ps q l m =
    let a = shrink (size_nonnegative q.last) l in let b = shrink (size_nonnegative q.first) m in
    let n = not_positive_in (value_where q p) (omega (arith, linear, a, b)) in
    λ i. cond (is_negative (q.first *ℤ q.last) && (n i && none_above ps q)) (sign q.last) (pos 0)

over : (p : AtEnds) (ps : List AtEnds) (q : AtEnds) → pos 0 <ℤ p.first → pos 0 <ℤ p.last → leaving (p ∷ ps) q ≡ pos 0
over p ps q l m = by (is_negative (q.first *ℤ q.last)) refl
  where
    sum : {a b c d : ℤ} → pos 0 <ℤ a → pos 0 <ℤ b → pos 0 <ℤ c → pos 0 <ℤ d → pos 0 <ℤ (a *ℤ b +ℤ c *ℤ d)
    sum x y z w = omega (arith, linear, pos_mul x y, pos_mul z w)

    by : (b : Bool) → is_negative (q.first *ℤ q.last) ≡ b → leaving (p ∷ ps) q ≡ pos 0
    by false e = λ i. cond (e i && none_above (p ∷ ps) q) (sign q.last) (pos 0)
    by true e =
        let n = ends_nonzero q.first q.last e in
        let v = positive_in (sum (size_positive q.last n.1) l (size_positive q.first n.0) m) in
        λ i. cond (e i && (not (v i) && none_above ps q)) (sign q.last) (pos 0)

over_all : (p : AtEnds) (ps qs : List AtEnds) → pos 0 <ℤ p.first → pos 0 <ℤ p.last → total (leaving (p ∷ ps)) qs ≡ pos 0
over_all p ps [] l m = refl
over_all p ps (q ∷ qs) l m =
    let x = over p ps q l m in let y = over_all p ps qs l m in omega (arith, linear, x, y)

-- ---- the head is negative at the first end and positive at the last: the segment up to where it is 0
module _ (p : AtEnds) (l : p.first <ℤ pos 0) (m : pos 0 <ℤ p.last) where
  -- the values at the first end and where p is 0
  abbrev up_to : AtEnds → AtEnds
  up_to q = record { first = q.first; last = p.last *ℤ q.first -ℤ p.first *ℤ q.last }

  behind : pos 0 <ℤ neg_ℤ p.first
  behind = omega (arith, linear)

  -- the values where q is 0 are multiples: first where q rises, then where it falls
  rising : (q r : AtEnds) → q.first <ℤ pos 0 → pos 0 <ℤ q.last → pos 0 <ℤ (up_to q).last → value_where (up_to q) (up_to r) ≡ neg_ℤ p.first *ℤ value_where q r
  rising q r a b c =
      let x = size_is_pos (up_to q).last c in let y = size_is_neg q.first a in let z = size_is_pos q.last b in
      (λ i. x i *ℤ r.first +ℤ y i *ℤ (up_to r).last)
      ∙ solve 6 (λ a b f l x y. (b ⊗ f ⊖ a ⊗ l) ⊗ x ⊕ neg f ⊗ (b ⊗ x ⊖ a ⊗ y) ≈ neg a ⊗ (l ⊗ x ⊕ neg f ⊗ y)) cancels
      p.first p.last q.first q.last r.first r.last ∙ sym (λ i. neg_ℤ p.first *ℤ (z i *ℤ r.first +ℤ y i *ℤ r.last))

  falling : (q r : AtEnds) → pos 0 <ℤ q.first → q.last <ℤ pos 0 → (up_to q).last <ℤ pos 0 → value_where (up_to q) (up_to r) ≡ neg_ℤ p.first *ℤ value_where q r
  falling q r a b c =
      let x = size_is_neg (up_to q).last c in let y = size_is_pos q.first a in let z = size_is_neg q.last b in
      (λ i. x i *ℤ r.first +ℤ y i *ℤ (up_to r).last)
      ∙ solve 6 (λ a b f l x y. neg (b ⊗ f ⊖ a ⊗ l) ⊗ x ⊕ f ⊗ (b ⊗ x ⊖ a ⊗ y) ≈ neg a ⊗ (neg l ⊗ x ⊕ f ⊗ y)) cancels
      p.first p.last q.first q.last r.first r.last ∙ sym (λ i. neg_ℤ p.first *ℤ (z i *ℤ r.first +ℤ y i *ℤ r.last))

  same_above : (q : AtEnds) (rs : List AtEnds) →
      ((r : AtEnds) → value_where (up_to q) (up_to r) ≡ neg_ℤ p.first *ℤ value_where q r) →
      none_above (map up_to rs) (up_to q) ≡ none_above rs q
  same_above q [] h = refl
  same_above q (r ∷ rs) h =
      let x = ap (λ (s : Sign). not (is_pos s)) (ap sgn (h r) ∙ sgn_scaled (value_where q r) behind) in
      let y = same_above q rs h in λ i. x i && y i

  -- the head's value where q is 0
  head_falling : (q : AtEnds) → pos 0 <ℤ q.first → q.last <ℤ pos 0 → value_where q p ≡ (up_to q).last
  head_falling q a b =
      let y = size_is_pos q.first a in let z = size_is_neg q.last b in
      (λ i. z i *ℤ p.first +ℤ y i *ℤ p.last) ∙ solve 4 (λ a b f l. neg l ⊗ a ⊕ f ⊗ b ≈ b ⊗ f ⊖ a ⊗ l) cancels p.first p.last q.first q.last

  head_rising : (q : AtEnds) → q.first <ℤ pos 0 → pos 0 <ℤ q.last → value_where q p ≡ neg_ℤ (up_to q).last
  head_rising q a b =
      let y = size_is_neg q.first a in let z = size_is_pos q.last b in
      (λ i. z i *ℤ p.first +ℤ y i *ℤ p.last) ∙ solve 4 (λ a b f l. l ⊗ a ⊕ neg f ⊗ b ≈ neg (b ⊗ f ⊖ a ⊗ l)) cancels p.first p.last q.first q.last

  -- what is left where q is 0 is the same, up to where p is 0
  module _ (ps : List AtEnds) (q : AtEnds) where
    -- both ways of writing it, by the tests
    off_first : is_negative (q.first *ℤ q.last) ≡ false → leaving (p ∷ ps) q ≡ pos 0
    off_first e = λ i. cond (e i && none_above (p ∷ ps) q) (sign q.last) (pos 0)

    off_head : is_negative (q.first *ℤ q.last) ≡ true → not (is_positive (value_where q p)) ≡ false → leaving (p ∷ ps) q ≡ pos 0
    off_head e h = λ i. cond (e i && (h i && none_above ps q)) (sign q.last) (pos 0)

    on_head : (z : ℤ) → is_negative (q.first *ℤ q.last) ≡ true → not (is_positive (value_where q p)) ≡ true →
        sign q.last ≡ z → leaving (p ∷ ps) q ≡ cond (none_above ps q) z (pos 0)
    on_head z e h s = λ i. cond (e i && (h i && none_above ps q)) (s i) (pos 0)

    off_up : is_negative (q.first *ℤ (up_to q).last) ≡ false → leaving (map up_to ps) (up_to q) ≡ pos 0
    off_up e = λ i. cond (e i && none_above (map up_to ps) (up_to q)) (sign (up_to q).last) (pos 0)

    on_up : (z : ℤ) → is_negative (q.first *ℤ (up_to q).last) ≡ true →
        none_above (map up_to ps) (up_to q) ≡ none_above ps q → sign (up_to q).last ≡ z →
        leaving (map up_to ps) (up_to q) ≡ cond (none_above ps q) z (pos 0)
    on_up z e h s = λ i. cond (e i && h i) (s i) (pos 0)

    -- q falls at first
    from_above : pos 0 <ℤ q.first → q.last ≢ pos 0 → (up_to q).last ≢ pos 0 → leaving (p ∷ ps) q ≡ leaving (map up_to ps) (up_to q)
    from_above a nl nu =
        by_sign q.last
        (λ b. let c : pos 0 <ℤ (up_to q).last = omega (arith, linear, pos_mul m a, mul_neg_pos l b) in
        off_first (positive_not_negative (pos_mul a b)) ∙ sym (off_up (positive_not_negative (pos_mul a c))))
        (λ z. absurd (nl z))
        (λ b. let t = negative_in (mul_pos_neg a b) in let v = head_falling q a b in
        by_sign (up_to q).last
        (λ c. off_head t (ap (λ (z : ℤ). not (is_positive z)) v ∙ ap not (positive_in c)) ∙ sym (off_up (positive_not_negative (pos_mul a c))))
        (λ z. absurd (nu z))
        (λ c. on_head (negsuc 0) t (ap (λ (z : ℤ). not (is_positive z)) v
        ∙ not_positive_in (up_to q).last (omega (arith, linear, c))) (sign_neg b)
        ∙ sym (on_up (negsuc 0) (negative_in (mul_pos_neg a c)) (same_above q ps (λ r. falling q r a b c))
        (sign_neg c))))

    -- q rises at first
    from_below : q.first <ℤ pos 0 → q.last ≢ pos 0 → (up_to q).last ≢ pos 0 → leaving (p ∷ ps) q ≡ leaving (map up_to ps) (up_to q)
    from_below a nl nu =
        by_sign q.last
        (λ b. let t = negative_in (mul_neg_pos a b) in let v = head_rising q a b in
        by_sign (up_to q).last
        (λ c. on_head (pos 1) t (ap (λ (z : ℤ). not (is_positive z)) v
        ∙ not_positive_in (neg_ℤ (up_to q).last) (omega (arith, linear, c))) (sign_pos b)
        ∙ sym (on_up (pos 1) (negative_in (mul_neg_pos a c)) (same_above q ps (λ r. rising q r a b c)) (sign_pos c)))
        (λ z. absurd (nu z))
        (λ c. let w : pos 0 <ℤ neg_ℤ (up_to q).last = omega (arith, linear, c) in
        off_head t (ap (λ (z : ℤ). not (is_positive z)) v ∙ ap not (positive_in w))
        ∙ sym (off_up (positive_not_negative (mul_neg_neg a c)))))
        (λ z. absurd (nl z))
        (λ b. let c : (up_to q).last <ℤ pos 0 = omega (arith, linear, mul_pos_neg m a, mul_neg_neg l b) in
        off_first (positive_not_negative (mul_neg_neg a b)) ∙ sym (off_up (positive_not_negative (mul_neg_neg a c))))

    from_first : q.first ≢ pos 0 → q.last ≢ pos 0 → (up_to q).last ≢ pos 0 → leaving (p ∷ ps) q ≡ leaving (map up_to ps) (up_to q)
    from_first nf nl nu =
        by_sign q.first (λ a. from_above a nl nu) (λ z. absurd (nf z)) (λ a. from_below a nl nu)

  -- where q isn't 0 where p is, the value there isn't 0
  up_nonzero : (q : AtEnds) → p.first *ℤ q.last ≢ q.first *ℤ p.last → (up_to q).last ≢ pos 0
  up_nonzero q n z = n (let e = *ℤ_comm p.last q.first in omega (arith, linear, z, e))

  totals : (ps qs : List AtEnds) → AllByRecursion (λ q. p.first *ℤ q.last ≢ q.first *ℤ p.last) qs → AreApart qs →
      total (leaving (p ∷ ps)) qs ≡ total (leaving (map up_to ps)) (map up_to qs)
  totals ps [] ns apart = refl
  totals ps (q ∷ qs) ns apart =
      let x = from_first ps q apart.0 apart.1 (up_nonzero q ns.0) in let y = totals ps qs ns.1 apart.3 in λ i. x i +ℤ y i

  -- ---- the head itself
  head_last : (qs : List AtEnds) → AllByRecursion (λ q. p.first *ℤ q.last ≢ q.first *ℤ p.last) qs → none_above qs p ≡ all_at_last (map up_to qs)
  head_last [] ns = refl
  head_last (q ∷ qs) ns =
      let x = size_is_pos p.last m in let y = size_is_neg p.first l in
      let v : value_where p q ≡ (up_to q).last =
      (λ i. x i *ℤ q.first +ℤ y i *ℤ q.last) ∙ solve 4 (λ a b f l. b ⊗ f ⊕ neg a ⊗ l ≈ b ⊗ f ⊖ a ⊗ l) cancels p.first
      p.last q.first q.last in
      let w = ap (λ (z : ℤ). not (is_positive z)) v ∙ strictly (up_to q).last (up_nonzero q ns.0) in
      let r = head_last qs ns.1 in λ i. w i && r i

  head : (ps : List AtEnds) → AllByRecursion (λ q. p.first *ℤ q.last ≢ q.first *ℤ p.last) ps → leaving (p ∷ ps) p ≡ one_if (all_at_last (map up_to ps))
  head ps ns =
      let x = size_is_pos p.last m in let y = size_is_neg p.first l in
      let v : value_where p p ≡ pos 0 = (λ i. x i *ℤ p.first +ℤ y i *ℤ p.last)
      ∙ (let e = *ℤ_comm p.last p.first in let f = neg-*ℤ p.first p.last in omega (arith, linear, e, f)) in
      let t = negative_in (mul_neg_pos l m) in let s = sign_pos m in let r = head_last ps ns in
      (λ i. cond (t i && (not (is_positive (v i)) && r i)) (s i) (pos 0))

  same_first : (qs : List AtEnds) → all_at_first (map up_to qs) ≡ all_at_first qs
  same_first [] = refl
  same_first (q ∷ qs) = ap (λ (b : Bool). is_negative q.first && b) (same_first qs)

  -- the planes stay apart
  up_others : (q : AtEnds) (qs : List AtEnds) → AllByRecursion (λ r. q.first *ℤ r.last ≢ r.first *ℤ q.last) qs →
      AllByRecursion (λ r. q.first *ℤ r.last ≢ r.first *ℤ (up_to q).last) (map up_to qs)
  up_others q [] h = tt
  up_others q (r ∷ qs) h = ((λ e. h.0 (same e)), up_others q qs h.1)
    where
      -- the difference is multiplied by -p.first
      same : q.first *ℤ (up_to r).last ≡ r.first *ℤ (up_to q).last → q.first *ℤ r.last ≡ r.first *ℤ q.last
      same e =
          let d = solve 6 (λ a b f l x y. f ⊗ (b ⊗ x ⊖ a ⊗ y) ⊖ x ⊗ (b ⊗ f ⊖ a ⊗ l) ≈ neg a ⊗ (f ⊗ y ⊖ x ⊗ l)) cancels
          p.first p.last q.first q.last r.first r.last in
          let z : neg_ℤ p.first *ℤ (q.first *ℤ r.last -ℤ r.first *ℤ q.last) ≡ pos 0 = sym d ∙ (omega (arith, linear, e)) in
          ⊎_elim (λ n. absurd (positive_nonzero behind n)) (λ n. omega (arith, linear, n)) (zero_product z)

  up_apart : (qs : List AtEnds) → AllByRecursion (λ q. p.first *ℤ q.last ≢ q.first *ℤ p.last) qs → AreApart qs → AreApart (map up_to qs)
  up_apart [] ns apart = tt
  up_apart (q ∷ qs) ns apart =
      (apart.0, up_nonzero q ns.0, up_others q qs apart.2, up_apart qs ns.1 apart.3)

  -- ---- the sum
  rises : (ps : List AtEnds) → AllByRecursion (λ q. p.first *ℤ q.last ≢ q.first *ℤ p.last) ps → AreApart ps →
      total (leaving (map up_to ps)) (map up_to ps) ≡ one_if (all_at_first (map up_to ps)) -ℤ one_if
      (all_at_last (map up_to ps)) → total (leaving (p ∷ ps)) (p ∷ ps) ≡ one_if (all_at_first (p ∷ ps)) -ℤ one_if
      (all_at_last (p ∷ ps))
  rises ps ns apart ih =
      let a = head ps ns in let b = totals ps ps ns apart in let c = ap one_if (same_first ps) in
      let d : one_if (all_at_first (p ∷ ps)) ≡ one_if (all_at_first ps) = (let n = negative_in l in λ i. one_if (n i && all_at_first ps)) in
      let e : one_if (all_at_last (p ∷ ps)) ≡ pos 0 = (let n = positive_not_negative m in λ i. one_if (n i && all_at_last ps)) in
      omega (arith, linear, a, b, c, d, e, ih)

-- ---- the segment the other way round
abbrev back : AtEnds → AtEnds
back q = record { first = q.last; last = q.first }

value_back : (q r : AtEnds) → value_where (back q) (back r) ≡ value_where q r
value_back q r = omega (arith, linear)

none_back : (q : AtEnds) (rs : List AtEnds) → none_above (map back rs) (back q) ≡ none_above rs q
none_back q [] = refl
none_back q (r ∷ rs) =
    let x = ap (λ (z : ℤ). not (is_positive z)) (value_back q r) in let y = none_back q rs in λ i. x i && y i

opposite_signs : (a b : ℤ) → is_negative (a *ℤ b) ≡ true → sign a ≡ neg_ℤ (sign b)
opposite_signs a b e =
    by_sign a
    (λ l. by_sign b (λ m. absurd (clash e (positive_not_negative (pos_mul l m)))) (λ z. absurd ((ends_nonzero a b e).1 z))
    (λ m. sign_pos l ∙ sym (ap neg_ℤ (sign_neg m))))
    (λ z. absurd ((ends_nonzero a b e).0 z))
    (λ l. by_sign b (λ m. sign_neg l ∙ sym (ap neg_ℤ (sign_pos m))) (λ z. absurd ((ends_nonzero a b e).1 z))
    (λ m. absurd (clash e (positive_not_negative (mul_neg_neg l m)))))

leaving_back : (ps : List AtEnds) (q : AtEnds) → leaving (map back ps) (back q) ≡ neg_ℤ (leaving ps q)
leaving_back ps q = by (is_negative (q.first *ℤ q.last)) refl
  where
    turn : is_negative (q.last *ℤ q.first) ≡ is_negative (q.first *ℤ q.last)
    turn = ap is_negative (*ℤ_comm q.last q.first)

    picked : (b : Bool) (z : ℤ) → cond b (neg_ℤ z) (pos 0) ≡ neg_ℤ (cond b z (pos 0))
    picked true z = refl
    picked false z = refl

    by : (b : Bool) → is_negative (q.first *ℤ q.last) ≡ b → leaving (map back ps) (back q) ≡ neg_ℤ (leaving ps q)
    by false e =
        (let t = turn ∙ e in λ i. cond (t i && none_above (map back ps) (back q)) (sign q.first) (pos 0))
        ∙ sym (λ i. neg_ℤ (cond (e i && none_above ps q) (sign q.last) (pos 0)))
    by true e =
        (let t = turn ∙ e in let n = none_back q ps in let s = opposite_signs q.first q.last e in
        λ i. cond (t i && n i) (s i) (pos 0)) ∙ picked (none_above ps q) (sign q.last)
        ∙ sym (λ i. neg_ℤ (cond (e i && none_above ps q) (sign q.last) (pos 0)))

total_back : (ps qs : List AtEnds) → total (leaving (map back ps)) (map back qs) ≡ neg_ℤ (total (leaving ps) qs)
total_back ps [] = refl
total_back ps (q ∷ qs) =
    let x = leaving_back ps q in let y = total_back ps qs in omega (arith, linear, x, y)

first_back : (qs : List AtEnds) → all_at_first (map back qs) ≡ all_at_last qs
first_back [] = refl
first_back (q ∷ qs) = ap (λ (b : Bool). is_negative q.last && b) (first_back qs)

last_back : (qs : List AtEnds) → all_at_last (map back qs) ≡ all_at_first qs
last_back [] = refl
last_back (q ∷ qs) = ap (λ (b : Bool). is_negative q.first && b) (last_back qs)

apart_others_back : (q : AtEnds) (qs : List AtEnds) → AllByRecursion (λ r. q.first *ℤ r.last ≢ r.first *ℤ q.last) qs →
    AllByRecursion (λ r. q.last *ℤ r.last ≢ r.first *ℤ q.first) (map back qs)
apart_others_back q [] h = tt
apart_others_back q (r ∷ qs) h =
    ((λ e. h.0 (let x = *ℤ_comm q.first r.last in let y = *ℤ_comm r.first q.last in omega (arith, linear, e, x, y))), apart_others_back q qs h.1)

apart_back : (qs : List AtEnds) → AreApart qs → AreApart (map back qs)
apart_back [] h = tt
apart_back (q ∷ qs) h = (h.1, h.0, apart_others_back q qs h.2, apart_back qs h.3)

-- ---- all lists, by their length
abbrev IsTold : List AtEnds → Type 0
IsTold ps = total (leaving ps) ps ≡ one_if (all_at_first ps) -ℤ one_if (all_at_last ps)

told : (n : ℕ) (ps : List AtEnds) → length ps ≡ n → AreApart ps → IsTold ps
told n [] e apart = refl
told zero (p ∷ ps) e apart = absurd (omega (arith, e))
told (suc n) (p ∷ ps) e apart =
    by (told n ps (omega (arith, e)) apart.3) (λ qs k h. told n qs (k ∙ omega (arith, e)) h)
  where
    same : IsTold ps → p.first <ℤ pos 0 → p.last <ℤ pos 0 → IsTold (p ∷ ps)
    same t l m =
        let a : leaving (p ∷ ps) p ≡ pos 0 = (let n = positive_not_negative (mul_neg_neg l m) in
        λ i. cond (n i && none_above (p ∷ ps) p) (sign p.last) (pos 0)) in
        let b = total_same (leaving (p ∷ ps)) (leaving ps) (λ q. under p ps q l m) ps in
        let c : one_if (all_at_first (p ∷ ps)) ≡ one_if (all_at_first ps) = (let n = negative_in l in λ i. one_if (n i && all_at_first ps)) in
        let d : one_if (all_at_last (p ∷ ps)) ≡ one_if (all_at_last ps) = (let n = negative_in m in λ i. one_if (n i && all_at_last ps)) in
        omega (arith, linear, t, a, b, c, d)

    none : pos 0 <ℤ p.first → pos 0 <ℤ p.last → IsTold (p ∷ ps)
    none l m =
        let a = over_all p ps (p ∷ ps) l m in
        let c : one_if (all_at_first (p ∷ ps)) ≡ pos 0 = (let n = positive_not_negative l in λ i. one_if (n i && all_at_first ps)) in
        let d : one_if (all_at_last (p ∷ ps)) ≡ pos 0 = (let n = positive_not_negative m in λ i. one_if (n i && all_at_last ps)) in
        omega (arith, linear, a, c, d)

    -- the head rises: by the list up to where it is 0
    up : ((qs : List AtEnds) → length qs ≡ length ps → AreApart qs → IsTold qs) → p.first <ℤ pos 0 → pos 0 <ℤ p.last → IsTold (p ∷ ps)
    up ih l m =
        rises p l m ps apart.2 apart.3 (ih (map (up_to p l m) ps) (length-map ps (up_to p l m)) (up_apart p l m ps apart.2 apart.3))

    -- it falls: the other way round it rises
    down : ((qs : List AtEnds) → length qs ≡ length ps → AreApart qs → IsTold qs) → pos 0 <ℤ p.first → p.last <ℤ pos 0 → IsTold (p ∷ ps)
    down ih l m =
        let h = apart_back (p ∷ ps) apart in let qs = map back ps in
        let up_qs = map (up_to (back p) m l) qs in
        let t = rises (back p) m l qs h.2 h.3 (ih up_qs (length-map qs (up_to (back p) m l) ∙ length-map ps back) (up_apart (back p) m l qs h.2 h.3)) in
        let b = total_back (p ∷ ps) (p ∷ ps) in let c = ap one_if (first_back (p ∷ ps)) in let d = ap one_if (last_back (p ∷ ps)) in
        omega (arith, linear, t, b, c, d)

    by : IsTold ps → ((qs : List AtEnds) → length qs ≡ length ps → AreApart qs → IsTold qs) → IsTold (p ∷ ps)
    by t ih =
        by_sign p.first
        (λ l. by_sign p.last (λ m. none l m) (λ z. absurd (apart.1 z)) (λ m. down ih l m))
        (λ z. absurd (apart.0 z))
        (λ l. by_sign p.last (λ m. up ih l m) (λ z. absurd (apart.1 z)) (λ m. same t l m))

-- planes of which no two are 0 at one point of the segment's line: the segment leaves their half spaces as often, less
-- how often it enters them, as its first end is in them, less its last
pub leaving_tells : (ps : List AtEnds) → AreApart ps → total (leaving ps) ps ≡ one_if (all_at_first ps) -ℤ one_if (all_at_last ps)
leaving_tells ps apart = told (length ps) ps refl apart
