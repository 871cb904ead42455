-- Segments on free lines that are paired: their keys, and what changes its sign with the direction cancels.
use Rattle.std.proofs.Common.{◌≡◌, ◌⊎◌, inl, inr, ℕ, ◌+◌, ◌/◌, ◌%◌, ◌<◌, ◌≤◌, Bool, true, false, ◌&&◌, cond, List, []}
use Rattle.std.proofs.Common.{◌∷◌, map, filter, ℤ, pos, neg_ℤ, refl, sym, ap, subst, ◌∙◌, arith, eqb}
use Rattle.std.proofs.lemmas.Bool.{cases_lt, and_parts, eqb-true, ne_eqb}
use Rattle.std.proofs.lemmas.List.Sums.{sum_by-cons}
use Rattle.std.proofs.Math.Bool.{and_comm}
use Rattle.ember_algebra.specs.Sums.{total}
use Rattle.ember_algebra.proofs.Laws.{linear}
use Rattle.ember_algebra.proofs.Sums.{total-filter, total-map, total-neg, total_same, total_same_occurrences}
use Rattle.ember_balance.specs.Counts.{count}
use Rattle.mesh_certificate.specs.declared.key.lines.LineKey.{LineKey}
use Rattle.mesh_certificate.specs.declared.certificate.segment.Segment.{Segment}
use Rattle.mesh_certificate.specs.Certificate.Keys.{key, rises, falls}
use Rattle.mesh_certificate.specs.Certificate.OnLines.{is_free, runs_in, AreFreePaired, run_key, run_back_key}
use Rattle.mesh_certificate.proofs.Boundaries.{numbers_are_equal}
use Rattle.mesh_certificate.proofs.Halves.{all_rise, none_rises, all_fall, none_falls}
use Rattle.mesh_certificate.proofs.Keyed.{key_same}

and_assoc : (a b c : Bool) → (a && b) && c ≡ a && (b && c)
and_assoc true b c = refl
and_assoc false b c = refl

-- ---- how often a key occurs
module _ (p u v : ℕ) (su : u < 4294967296) (sv : v < 4294967296) where
  runs_are : (ss : List Segment) → count (key p u v) (map run_key ss) ≡ runs_in p u v ss
  runs_are [] = refl
  runs_are (s ∷ ss) =
      let e = key_same p u v s.plane s.start s.end su sv s.sized.start_small s.sized.end_small ∙ and_assoc (eqb p s.plane) (eqb u s.start) (eqb v s.end) in
      let r = runs_are ss in
      (λ i. cond (e i) 1 0 + r i) ∙ sym (sum_by-cons (λ (t : Segment). cond (eqb p t.plane && (eqb u t.start && eqb v t.end)) 1 0) s ss)

  backs_are : (ss : List Segment) → count (key p u v) (map run_back_key ss) ≡ runs_in p v u ss
  backs_are [] = refl
  backs_are (s ∷ ss) =
      let e = key_same p u v s.plane s.end s.start su sv s.sized.end_small s.sized.start_small
      ∙ and_assoc (eqb p s.plane) (eqb u s.end) (eqb v s.start)
      ∙ ap (λ (b : Bool). eqb p s.plane && b) (and_comm (eqb u s.end) (eqb v s.start)) in
      let r = backs_are ss in
      (λ i. cond (e i) 1 0 + r i) ∙ sym (sum_by-cons (λ (t : Segment). cond (eqb p t.plane && (eqb v t.start && eqb u t.end)) 1 0) s ss)

-- no segment has a number that is too large
none_runs : (p u v : ℕ) → (u < 4294967296 → v < 4294967296 → ⊥) → (ss : List Segment) → runs_in p u v ss ≡ 0
none_runs p u v large [] = refl
none_runs p u v large (s ∷ ss) =
    let r = none_runs p u v large ss in
    sum_by-cons (λ (t : Segment). cond (eqb p t.plane && (eqb u t.start && eqb v t.end)) 1 0) s ss ∙ (λ i. cond (no i) 1 0 + r i)
  where
    false_last : (a b : Bool) → b ≡ false → a && b ≡ false
    false_last true b e = e
    false_last false b e = refl

    no : eqb p s.plane && (eqb u s.start && eqb v s.end) ≡ false
    no = false_last (eqb p s.plane) (eqb u s.start && eqb v s.end) (by (cases_lt u 4294967296))
      where
        by : (u < 4294967296) ⊎ (4294967296 ≤ u) → eqb u s.start && eqb v s.end ≡ false
        by (inl l) = false_last (eqb u s.start) (eqb v s.end) (ne_eqb v s.end (λ q. large l (omega (arith, q, s.sized.end_small))))
        by (inr m) = ap (λ (b : Bool). b && eqb v s.end) (ne_eqb u s.start (λ q. omega (arith, q, m, s.sized.start_small)))

digits : (n : ℕ) → key (n / 4294967296 / 4294967296) (n / 4294967296 % 4294967296) (n % 4294967296) ≡ n
digits n = omega arith

module _ (ss : List Segment) where
  abbrev ArePaired : Type 0
  ArePaired = (plane u v : ℕ) → runs_in plane u v ss ≡ runs_in plane v u ss

  -- paired segments have the keys of their reverses
  pub keys_from_paired : ArePaired → (n : ℕ) → count n (map run_key ss) ≡ count n (map run_back_key ss)
  keys_from_paired h n =
      subst (λ (m : ℕ). count m (map run_key ss) ≡ count m (map run_back_key ss)) (digits n)
      (at (n / 4294967296 / 4294967296) (n / 4294967296 % 4294967296) (n % 4294967296) (omega arith) (omega arith))
    where
      at : (p u v : ℕ) → u < 4294967296 → v < 4294967296 → count (key p u v) (map run_key ss) ≡ count (key p u v) (map run_back_key ss)
      at p u v su sv = runs_are p u v su sv ss ∙ h p u v ∙ sym (backs_are p u v su sv ss)

-- ---- by halves: the segments that rise, and those that fall
abbrev between : ℕ → ℕ → ℕ → Segment → Bool
between p u v s = eqb p s.plane && (eqb u s.start && eqb v s.end)

ends_between : (p u v : ℕ) (s : Segment) → between p u v s ≡ true → (u ≡ s.start) × (v ≡ s.end)
ends_between p u v s e =
    let w = and_parts (eqb u s.start) (eqb v s.end) (and_parts (eqb p s.plane) (eqb u s.start && eqb v s.end) e).1 in
    (eqb-true u s.start w.0, eqb-true v s.end w.1)

module _ (ss : List Segment) where
  abbrev AreHalvesAlike : Type 0
  AreHalvesAlike = (n : ℕ) → count n (map run_key (filter rises ss)) ≡ count n (map run_back_key (filter falls ss))

  -- segments are paired if those that rise have the keys that the others have in reverse
  pub paired_from_halves : AreHalvesAlike → (p u v : ℕ) → runs_in p u v ss ≡ runs_in p v u ss
  paired_from_halves h p u v = by (cases_lt u v) (cases_lt v u)
    where
      upward : (u v : ℕ) → u < v → (v < 4294967296) ⊎ (4294967296 ≤ v) → runs_in p u v ss ≡ runs_in p v u ss
      upward u v l (inr m) =
          none_runs p u v (λ x y. omega (arith, y, m)) ss ∙ sym (none_runs p v u (λ x y. omega (arith, x, m)) ss)
      upward u v l (inl sv) =
          let su : u < 4294967296 = omega (arith, l, sv) in
          sym (all_rise u v (between p u v) (ends_between p u v) l ss) ∙ sym (runs_are p u v su sv (filter rises ss))
          ∙ h (key p u v) ∙ backs_are p u v su sv (filter falls ss)
          ∙ all_fall v u (between p v u) (ends_between p v u) l ss

      by : (u < v) ⊎ (v ≤ u) → (v < u) ⊎ (u ≤ v) → runs_in p u v ss ≡ runs_in p v u ss
      by (inl l) m = upward u v l (cases_lt v 4294967296)
      by (inr l) (inl m) = sym (upward v u m (cases_lt u 4294967296))
      by (inr l) (inr m) = let e : u ≡ v = omega (arith, l, m) in λ i. runs_in p (e i) (sym e i) ss

  -- and the other way round
  pub halves_from_paired : ((p u v : ℕ) → runs_in p u v ss ≡ runs_in p v u ss) → AreHalvesAlike
  halves_from_paired h n =
      subst (λ (m : ℕ). count m (map run_key (filter rises ss)) ≡ count m (map run_back_key (filter falls ss)))
      (digits n) (at (n / 4294967296 / 4294967296) (n / 4294967296 % 4294967296) (n % 4294967296) (omega arith)
      (omega arith) (cases_lt (n / 4294967296 % 4294967296) (n % 4294967296)))
    where
      at : (p u v : ℕ) → u < 4294967296 → v < 4294967296 → (u < v) ⊎ (v ≤ u) →
          count (key p u v) (map run_key (filter rises ss)) ≡ count (key p u v) (map run_back_key (filter falls ss))
      at p u v su sv (inl l) =
          runs_are p u v su sv (filter rises ss) ∙ all_rise u v (between p u v) (ends_between p u v) l ss ∙ h p u v
          ∙ sym (all_fall v u (between p v u) (ends_between p v u) l ss)
          ∙ sym (backs_are p u v su sv (filter falls ss))
      at p u v su sv (inr l) =
          runs_are p u v su sv (filter rises ss) ∙ none_rises u v (between p u v) (ends_between p u v) l ss
          ∙ sym (none_falls v u (between p v u) (ends_between p v u) l ss)
          ∙ sym (backs_are p u v su sv (filter falls ss))

-- ---- sums
run_plane : (s : Segment) → run_key s / 4294967296 / 4294967296 ≡ s.plane
run_plane s = omega (arith, s.sized.start_small, s.sized.end_small)

run_start : (s : Segment) → run_key s / 4294967296 % 4294967296 ≡ s.start
run_start s = omega (arith, s.sized.start_small, s.sized.end_small)

run_end : (s : Segment) → run_key s % 4294967296 ≡ s.end
run_end s = omega (arith, s.sized.end_small)

back_plane : (s : Segment) → run_back_key s / 4294967296 / 4294967296 ≡ s.plane
back_plane s = omega (arith, s.sized.start_small, s.sized.end_small)

back_end : (s : Segment) → run_back_key s / 4294967296 % 4294967296 ≡ s.end
back_end s = omega (arith, s.sized.start_small, s.sized.end_small)

back_start : (s : Segment) → run_back_key s % 4294967296 ≡ s.start
back_start s = omega (arith, s.sized.start_small)

module _ (g : ℕ → ℕ → ℕ → ℤ) (odd : (plane u v : ℕ) → g plane v u ≡ neg_ℤ (g plane u v)) where
  abbrev of_run : ℕ → ℤ
  of_run n = g (n / 4294967296 / 4294967296) (n / 4294967296 % 4294967296) (n % 4294967296)

  abbrev value_of : Segment → ℤ
  value_of s = g s.plane s.start s.end

  paired_cancel : (ss : List Segment) → ((plane u v : ℕ) → runs_in plane u v ss ≡ runs_in plane v u ss) → total value_of ss ≡ pos 0
  paired_cancel ss h =
      let there = total-map of_run run_key ss ∙ total_same (λ s. of_run (run_key s)) value_of (λ s i. g (run_plane s i) (run_start s i) (run_end s i)) ss in
      let back = total-map of_run run_back_key ss
      ∙ total_same (λ s. of_run (run_back_key s)) (λ s. neg_ℤ (value_of s))
      (λ s. (λ i. g (back_plane s i) (back_end s i) (back_start s i)) ∙ odd s.plane s.start s.end) ss
      ∙ total-neg value_of ss in
      let e = sym there ∙ total_same_occurrences eqb numbers_are_equal of_run (map run_key ss) (map run_back_key ss) (keys_from_paired ss h) ∙ back in
      half (total value_of ss) e
    where
      half : (z : ℤ) → z ≡ neg_ℤ z → z ≡ pos 0
      half z e = omega (arith, linear, e)

  -- over the segments on free lines it adds up to 0
  pub free_cancel : (ls : List LineKey) (ss : List Segment) → AreFreePaired ls ss →
      total (λ s. cond (is_free ls s) (g s.plane s.start s.end) (pos 0)) ss ≡ pos 0
  free_cancel ls ss h =
      sym (total-filter value_of (is_free ls) ss) ∙ paired_cancel (filter (is_free ls) ss) h.each
