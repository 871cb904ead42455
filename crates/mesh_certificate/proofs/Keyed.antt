-- The keys of the ends of segments: a key occurs as often as segments start or end where it says
use Rattle.std.proofs.Common.{◌≡◌, ◌⊎◌, inl, inr, ℕ, ◌+◌, ◌/◌, ◌%◌, ◌<◌, ◌≤◌, pos, ◌-ℤ◌, Bool, true, false, ◌&&◌, cond}
use Rattle.std.proofs.Common.{List, [], ◌∷◌, ◌++◌, map, filter, refl, sym, subst, ◌∙◌, arith, eqb}
use Rattle.std.proofs.lemmas.Bool.{cases_lt, eqb-true, eqb-false, eq-eqb, ne_eqb, and_parts}
use borrow.Author.Differences.{ints}
use Rattle.ember_algebra.specs.Sums.{total}
use Rattle.ember_algebra.proofs.Laws.{linear}
use Rattle.ember_algebra.proofs.Sums.{occurrences-append}
use Rattle.ember_balance.specs.Counts.{count}
use Rattle.mesh_certificate.specs.declared.certificate.segment.Segment.{Segment}
use Rattle.mesh_certificate.specs.Certificate.Chains.{is_on, HaveSameBoundary}
use Rattle.mesh_certificate.specs.Certificate.Keys.{key, start_key, end_key}
use Rattle.mesh_certificate.proofs.Boundaries.{starts, ends, ended_at, boundary_is}

pub key_same : (p l c q m d : ℕ) → l < 4294967296 → c < 4294967296 → m < 4294967296 → d < 4294967296 →
    eqb (key p l c) (key q m d) ≡ (eqb p q && eqb l m) && eqb c d
key_same p l c q m d sl sc sm sd = by (eqb p q) refl (eqb l m) refl (eqb c d) refl
  where
    by : (x : Bool) → eqb p q ≡ x → (y : Bool) → eqb l m ≡ y → (z : Bool) → eqb c d ≡ z → eqb (key p l c) (key q m d) ≡ (x && y) && z
    by true e true f true g =
        let i = eqb-true p q e in let j = eqb-true l m f in let k = eqb-true c d g in
        eq-eqb _ _ (omega (arith, i, j, k))
    by true e true f false g =
        let k = eqb-false c d g in ne_eqb _ _ (λ h. omega (arith, sc, sd, k, h))
    by true e false f z g =
        let k = eqb-false l m f in ne_eqb _ _ (λ h. omega (arith, sl, sc, sm, sd, k, h))
    by false e y f z g =
        let k = eqb-false p q e in ne_eqb _ _ (λ h. omega (arith, sl, sc, sm, sd, k, h))

-- ---- keys of one end of each segment
module _ (place : Segment → ℕ) (small : (s : Segment) → place s < 4294967296) (p l c : ℕ) (sl : l < 4294967296) (sc : c < 4294967296) where
  count_keys : (ss : List Segment) → count (key p l c) (map (λ s. key s.plane s.line (place s)) ss) ≡ count c (map place (filter (is_on p l) ss))
  count_keys [] = refl
  count_keys (s ∷ ss) =
      by (is_on p l s) (key_same p l c s.plane s.line (place s) sl sc s.sized.line_small (small s)) (count_keys ss)
    where
      by : (b : Bool) → eqb (key p l c) (key s.plane s.line (place s)) ≡ b && eqb c (place s) →
          count (key p l c) (map (λ s. key s.plane s.line (place s)) ss) ≡ count c (map place (filter (is_on p l) ss)) →
          cond (eqb (key p l c) (key s.plane s.line (place s))) 1 0
          + count (key p l c) (map (λ s. key s.plane s.line (place s)) ss) ≡ count c
          (map place (cond b (s ∷ filter (is_on p l) ss) (filter (is_on p l) ss)))
      by true e r = λ i. cond (e i) 1 0 + r i
      by false e r = rw e (omega (arith, r))

-- if a number is too large, no segment has it
module _ (p l c : ℕ) (large : l < 4294967296 → c < 4294967296 → ⊥) where
  outside : (ss : List Segment) → total (ended_at c) (filter (is_on p l) ss) ≡ pos 0
  outside [] = refl
  outside (s ∷ ss) = by (is_on p l s) refl (outside ss)
    where
      by : (b : Bool) → is_on p l s ≡ b → total (ended_at c) (filter (is_on p l) ss) ≡ pos 0 →
          total (ended_at c) (cond b (s ∷ filter (is_on p l) ss) (filter (is_on p l) ss)) ≡ pos 0
      by false e r = r
      by true e r =
          let m = eqb-true l s.line (and_parts (eqb p s.plane) (eqb l s.line) e).1 in
          let u = ne_eqb c s.end (λ q. large (omega (arith, m, s.sized.line_small)) (omega (arith, q, s.sized.end_small))) in
          let v = ne_eqb c s.start (λ q. large (omega (arith, m, s.sized.line_small)) (omega (arith, q, s.sized.start_small))) in
          rw (u, v) (omega (arith, linear, r))

-- ---- two lists of segments
module _ (ss ts : List Segment) where
  count_at : (p l c : ℕ) → l < 4294967296 → c < 4294967296 →
      count (key p l c) (map start_key ss ++ map end_key ts) ≡ count c (starts (filter (is_on p l) ss))
      + count c (ends (filter (is_on p l) ts))
  count_at p l c sl sc =
      let i = count_keys (λ s. s.start) (λ s. s.sized.start_small) p l c sl sc ss in
      let j = count_keys (λ s. s.end) (λ s. s.sized.end_small) p l c sl sc ts in
      occurrences-append eqb (key p l c) (map start_key ss) (map end_key ts) ∙ (λ k. i k + j k)

-- i starts and j ends of one list, and k starts and l ends of the other
ends_differ : (i j k l : ℕ) → i + l ≡ k + j → pos j -ℤ pos i ≡ pos l -ℤ pos k
ends_differ i j k l e = omega (arith, ints, e)

ends_agree : (i j k l : ℕ) → pos j -ℤ pos i ≡ pos l -ℤ pos k → i + l ≡ k + j
ends_agree i j k l e = omega (arith, ints, e)

module _ (ss ts : List Segment) where
  abbrev HaveSameKeys : Type 0
  HaveSameKeys = (n : ℕ) → count n (map start_key ss ++ map end_key ts) ≡ count n (map start_key ts ++ map end_key ss)

  -- segments with the same keys have the same boundary
  pub boundary_from_keys : HaveSameKeys → HaveSameBoundary ss ts
  boundary_from_keys h =
      record { each = λ p l c. by p l c (cases_lt l 4294967296) (cases_lt c 4294967296) }
    where
      neither : (p l c : ℕ) → (l < 4294967296 → c < 4294967296 → ⊥) → total (ended_at c) (filter (is_on p l) ss) ≡ total (ended_at c) (filter (is_on p l) ts)
      neither p l c k = outside p l c k ss ∙ sym (outside p l c k ts)

      by : (p l c : ℕ) → (l < 4294967296) ⊎ (4294967296 ≤ l) → (c < 4294967296) ⊎ (4294967296 ≤ c) →
          total (ended_at c) (filter (is_on p l) ss) ≡ total (ended_at c) (filter (is_on p l) ts)
      by p l c (inl sl) (inl sc) =
          let e = sym (count_at ss ts p l c sl sc) ∙ h (key p l c) ∙ count_at ts ss p l c sl sc in
          boundary_is c (filter (is_on p l) ss) ∙ ends_differ _ _ _ _ e ∙ sym (boundary_is c (filter (is_on p l) ts))
      by p l c (inr m) r = neither p l c (λ x y. omega (arith, x, m))
      by p l c (inl sl) (inr m) = neither p l c (λ x y. omega (arith, y, m))

  -- segments with the same boundary have the same keys
  pub keys_from_boundary : HaveSameBoundary ss ts → HaveSameKeys
  keys_from_boundary h n =
      subst (λ (m : ℕ). count m (map start_key ss ++ map end_key ts) ≡ count m (map start_key ts ++ map end_key ss))
      (digits n) (at (n / 4294967296 / 4294967296) (n / 4294967296 % 4294967296) (n % 4294967296) (omega arith)
      (omega arith))
    where
      digits : (n : ℕ) → key (n / 4294967296 / 4294967296) (n / 4294967296 % 4294967296) (n % 4294967296) ≡ n
      digits n = omega arith

      at : (p l c : ℕ) → l < 4294967296 → c < 4294967296 →
          count (key p l c) (map start_key ss ++ map end_key ts) ≡ count (key p l c) (map start_key ts ++ map end_key ss)
      at p l c sl sc =
          let e = sym (boundary_is c (filter (is_on p l) ss)) ∙ h.each p l c ∙ boundary_is c (filter (is_on p l) ts) in
          count_at ss ts p l c sl sc ∙ ends_agree _ _ _ _ e ∙ sym (count_at ts ss p l c sl sc)
