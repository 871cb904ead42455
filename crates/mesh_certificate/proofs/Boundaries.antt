-- Chains of segments, and their boundaries: each determines the other
use Rattle.std.proofs.Common.{◌≡◌, ◌⊎◌, inl, inr, ℕ, ◌+◌, ◌<◌, ◌≤◌, ℤ, pos, ◌-ℤ◌, ◌≤ℤ◌, ◌<ℤ◌, List, ◌++◌, map, filter, refl, sym, ap, ◌∙◌, arith, eqb}
use Rattle.std.proofs.lemmas.Bool.{cases_lt, eqb-true, eq-eqb, ne_eqb}
use borrow.Author.Differences.{ints}
use Rattle.ember_algebra.specs.Sums.{total}
use Rattle.ember_algebra.proofs.Laws.{linear}
use Rattle.ember_algebra.proofs.Sums.{IsEquality, total-append, total-map, total-sub, total-count_by, total_same}
use Rattle.ember_algebra.proofs.Sums.{total_same_occurrences, occurrences-append, occurrences-count_by}
use Rattle.ember_model.proofs.SignTests.{negative_in, negative_not}
use Rattle.ember_balance.specs.Counts.{count}
use Rattle.mesh_certificate.specs.declared.certificate.segment.Segment.{Segment}
use Rattle.mesh_certificate.specs.Certificate.Chains.{is_on, reached, coverage, one_at, HaveSameBoundary, HaveSameChains}

abbrev pub starts : List Segment → List ℕ
starts ss = map (λ s. s.start) ss

abbrev pub ends : List Segment → List ℕ
ends ss = map (λ s. s.end) ss

-- the ends of a segment at a corner, less its starts there
abbrev pub ended_at : ℕ → Segment → ℤ
ended_at c s = one_at c s.end -ℤ one_at c s.start

-- equal numbers, as a test
pub numbers_are_equal : IsEquality ℕ eqb
numbers_are_equal = record { sound = eqb-true; reflexive = λ x. eq-eqb x x refl }

-- ---- from boundaries to chains
total_one_at : (c : ℕ) (ns : List ℕ) → total (one_at c) ns ≡ pos (count c ns)
total_one_at c ns = total-count_by (eqb c) ns ∙ ap pos (sym (occurrences-count_by eqb c ns))

-- the boundary at a corner: how many segments end there less how many start there
pub boundary_is : (c : ℕ) (ss : List Segment) → total (ended_at c) ss ≡ pos (count c (ends ss)) -ℤ pos (count c (starts ss))
boundary_is c ss =
    let e = sym (total-map (one_at c) (λ s. s.end) ss) ∙ total_one_at c (ends ss) in
    let s = sym (total-map (one_at c) (λ s. s.start) ss) ∙ total_one_at c (starts ss) in
    total-sub (λ s. one_at c s.end) (λ s. one_at c s.start) ss ∙ (λ i. e i -ℤ s i)

module _ (ss ts : List Segment) (h : (c : ℕ) → total (ended_at c) ss ≡ total (ended_at c) ts) where
  same_ends : (c : ℕ) → count c (starts ss ++ ends ts) ≡ count c (starts ts ++ ends ss)
  same_ends c =
      let a = occurrences-append eqb c (starts ss) (ends ts) in
      let b = occurrences-append eqb c (starts ts) (ends ss) in
      let e = h c in let s = boundary_is c ss in let t = boundary_is c ts in
      a ∙ crossed (count c (starts ss)) (count c (ends ss)) (count c (starts ts)) (count c (ends ts)) (sym s ∙ e ∙ t) ∙ sym b
    where
      crossed : (i j k l : ℕ) → pos j -ℤ pos i ≡ pos l -ℤ pos k → i + l ≡ k + j
      crossed i j k l e = omega (arith, ints, e)

  -- segments with the same boundary have the same sum of whatever is counted at the start less at the end
  pub sums_agree : (g : ℕ → ℤ) → total (λ s. g s.start -ℤ g s.end) ss ≡ total (λ s. g s.start -ℤ g s.end) ts
  sums_agree g =
      let a = total-append g (starts ss) (ends ts) in
      let b = total-append g (starts ts) (ends ss) in
      let e = total_same_occurrences eqb numbers_are_equal g (starts ss ++ ends ts) (starts ts ++ ends ss) same_ends in
      let i = apart ss in let j = apart ts in omega (arith, linear, a, b, e, i, j)
    where
      apart : (us : List Segment) → total (λ s. g s.start -ℤ g s.end) us ≡ total g (starts us) -ℤ total g (ends us)
      apart us =
          let p = sym (total-map g (λ s. s.start) us) in let q = sym (total-map g (λ s. s.end) us) in
          total-sub (λ s. g s.start) (λ s. g s.end) us ∙ (λ i. p i -ℤ q i)

-- segments with the same boundary have the same chains
pub chains_from_boundary : (ss ts : List Segment) → HaveSameBoundary ss ts → HaveSameChains ss ts
chains_from_boundary ss ts h =
    record {
      each = λ plane line rank x. sums_agree (filter (is_on plane line) ss) (filter (is_on plane line) ts)
          (h.each plane line) (λ u. reached (rank u) x);
    }

-- ---- from chains to boundaries: corners in the order of their numbers
reached_from : (u : ℕ) (x : ℤ) → pos u ≤ℤ x → reached (pos u) x ≡ pos 1
reached_from u x l = rw (negative_not (x -ℤ pos u) (omega (arith, ints, l))) refl

unreached_before : (u : ℕ) (x : ℤ) → x <ℤ pos u → reached (pos u) x ≡ pos 0
unreached_before u x l = rw (negative_in {a = x -ℤ pos u} (omega (arith, ints, l))) refl

reached_at : (c u : ℕ) → reached (pos u) (pos c) -ℤ reached (pos u) (pos c -ℤ pos 1) ≡ one_at c u
reached_at c u = by (cases_lt c u) (cases_lt u c)
  where
    by : (c < u) ⊎ (u ≤ c) → (u < c) ⊎ (c ≤ u) → reached (pos u) (pos c) -ℤ reached (pos u) (pos c -ℤ pos 1) ≡ one_at c u
    by (inl l) r =
        rw (
          unreached_before u (pos c) (omega (arith, ints, l)),
          unreached_before u (pos c -ℤ pos 1) (omega (arith, ints, l)),
          ne_eqb c u (λ e. omega (arith, l, e)),
        ) refl
    by (inr l) (inl m) =
        rw (
          reached_from u (pos c) (omega (arith, ints, l)),
          reached_from u (pos c -ℤ pos 1) (omega (arith, ints, m)),
          ne_eqb c u (λ e. omega (arith, m, e)),
        ) refl
    by (inr l) (inr m) =
        rw (
          reached_from u (pos c) (omega (arith, ints, l)),
          unreached_before u (pos c -ℤ pos 1) (omega (arith, ints, m)),
          eq-eqb c u (omega (arith, l, m)),
        ) refl

ended_is : (c : ℕ) (s : Segment) → ended_at c s ≡ coverage pos (pos c -ℤ pos 1) s -ℤ coverage pos (pos c) s
ended_is c s =
    let a = reached_at c s.start in let b = reached_at c s.end in
    difference (reached (pos s.start) (pos c)) (reached (pos s.start) (pos c -ℤ pos 1)) (reached (pos s.end) (pos c))
    (reached (pos s.end) (pos c -ℤ pos 1)) (one_at c s.start) (one_at c s.end) a b
  where
    difference : (i j k l m n : ℤ) → i -ℤ j ≡ m → k -ℤ l ≡ n → n -ℤ m ≡ (j -ℤ l) -ℤ (i -ℤ k)
    difference i j k l m n e f = omega (arith, linear, e, f)

boundary_of_chain : (c : ℕ) (ss : List Segment) → total (ended_at c) ss ≡ total (coverage pos (pos c -ℤ pos 1)) ss -ℤ total (coverage pos (pos c)) ss
boundary_of_chain c ss =
    total_same (ended_at c) (λ s. coverage pos (pos c -ℤ pos 1) s -ℤ coverage pos (pos c) s) (ended_is c) ss
    ∙ total-sub (coverage pos (pos c -ℤ pos 1)) (coverage pos (pos c)) ss

-- segments with the same chains have the same boundary
pub boundary_from_chains : (ss ts : List Segment) → HaveSameChains ss ts → HaveSameBoundary ss ts
boundary_from_chains ss ts h =
    record {
      each = λ plane line c. let a = h.each plane line pos (pos c -ℤ pos 1) in let b =
          h.each plane line pos (pos c) in boundary_of_chain c (filter (is_on plane line) ss) ∙ (λ i. a i -ℤ b i)
          ∙ sym (boundary_of_chain c (filter (is_on plane line) ts));
    }
