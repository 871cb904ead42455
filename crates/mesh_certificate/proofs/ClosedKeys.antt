-- The keys of directed edges: a key occurs as often as segments run so
use Rattle.std.proofs.Common.{◌≡◌, ◌⊎◌, inl, inr, ℕ, ◌+◌, ◌*◌, ◌/◌, ◌%◌, ◌<◌, ◌≤◌, Bool, true, false, ◌&&◌, cond, List}
use Rattle.std.proofs.Common.{[], ◌∷◌, map, filter, refl, sym, subst, ◌∙◌, arith, eqb}
use Rattle.std.proofs.lemmas.Bool.{cases_lt, and_parts, eqb-true, eqb-false, eq-eqb, ne_eqb}
use Rattle.std.proofs.lemmas.List.Sums.{sum_by-cons}
use Rattle.std.proofs.Math.Bool.{and_comm}
use Rattle.ember_balance.specs.Counts.{count}
use Rattle.mesh_certificate.specs.declared.certificate.segment.Segment.{Segment}
use Rattle.mesh_certificate.specs.Certificate.Closed.{runs, AreSegmentsClosed}
use Rattle.mesh_certificate.specs.Certificate.Keys.{edge_key, reverse_key, rises, falls}
use Rattle.mesh_certificate.proofs.Halves.{all_rise, none_rises, all_fall, none_falls}

pair_same : (u v i j : ℕ) → v < 4294967296 → j < 4294967296 → eqb (u * 4294967296 + v) (i * 4294967296 + j) ≡ eqb u i && eqb v j
pair_same u v i j sv sj = by (eqb u i) refl (eqb v j) refl
  where
    by : (x : Bool) → eqb u i ≡ x → (y : Bool) → eqb v j ≡ y → eqb (u * 4294967296 + v) (i * 4294967296 + j) ≡ x && y
    by true e true f =
        let k = eqb-true u i e in let l = eqb-true v j f in eq-eqb _ _ (omega (arith, k, l))
    by true e false f = let k = eqb-false v j f in ne_eqb _ _ (λ h. omega (arith, sv, sj, k, h))
    by false e y f = let k = eqb-false u i e in ne_eqb _ _ (λ h. omega (arith, sv, sj, k, h))

module _ (u v : ℕ) (sv : v < 4294967296) where
  edges_are : (ss : List Segment) → count (u * 4294967296 + v) (map edge_key ss) ≡ runs u v ss
  edges_are [] = refl
  edges_are (s ∷ ss) =
      let e = pair_same u v s.start s.end sv s.sized.end_small in let r = edges_are ss in
      (λ i. cond (e i) 1 0 + r i) ∙ sym (sum_by-cons (λ (t : Segment). cond (eqb u t.start && eqb v t.end) 1 0) s ss)

  reverses_are : (ss : List Segment) → count (u * 4294967296 + v) (map reverse_key ss) ≡ runs v u ss
  reverses_are [] = refl
  reverses_are (s ∷ ss) =
      let e = pair_same u v s.end s.start sv s.sized.start_small ∙ and_comm (eqb u s.end) (eqb v s.start) in
      let r = reverses_are ss in
      (λ i. cond (e i) 1 0 + r i) ∙ sym (sum_by-cons (λ (t : Segment). cond (eqb v t.start && eqb u t.end) 1 0) s ss)

module _ (u v : ℕ) (lv : 4294967296 ≤ v) where
  none_to : (ss : List Segment) → runs u v ss ≡ 0
  none_to [] = refl
  none_to (s ∷ ss) =
      let e = no (eqb u s.start) (ne_eqb v s.end (λ q. omega (arith, q, lv, s.sized.end_small))) in let r = none_to ss in
      sum_by-cons (λ (t : Segment). cond (eqb u t.start && eqb v t.end) 1 0) s ss ∙ (λ i. cond (e i) 1 0 + r i)
    where
      no : (x : Bool) {y : Bool} → y ≡ false → x && y ≡ false
      no true e = e
      no false e = refl

  none_from : (ss : List Segment) → runs v u ss ≡ 0
  none_from [] = refl
  none_from (s ∷ ss) =
      let e = ne_eqb v s.start (λ q. omega (arith, q, lv, s.sized.start_small)) in let r = none_from ss in
      sum_by-cons (λ (t : Segment). cond (eqb v t.start && eqb u t.end) 1 0) s ss ∙ (λ i. cond (e i && eqb u s.end) 1 0 + r i)

digits : (n : ℕ) → n / 4294967296 * 4294967296 + n % 4294967296 ≡ n
digits n = omega arith

module _ (ss : List Segment) where
  -- the edges and the reverses of closed segments have the same keys
  pub keys_from_closed : AreSegmentsClosed ss → (n : ℕ) → count n (map edge_key ss) ≡ count n (map reverse_key ss)
  keys_from_closed h n =
      subst (λ (m : ℕ). count m (map edge_key ss) ≡ count m (map reverse_key ss)) (digits n) (at (n / 4294967296) (n % 4294967296) (omega arith))
    where
      at : (u v : ℕ) → v < 4294967296 → count (u * 4294967296 + v) (map edge_key ss) ≡ count (u * 4294967296 + v) (map reverse_key ss)
      at u v sv = edges_are u v sv ss ∙ h.each u v ∙ sym (reverses_are u v sv ss)

-- ---- by halves: the segments that rise, and those that fall
abbrev between : ℕ → ℕ → Segment → Bool
between u v s = eqb u s.start && eqb v s.end

ends_between : (u v : ℕ) (s : Segment) → between u v s ≡ true → (u ≡ s.start) × (v ≡ s.end)
ends_between u v s e =
    let w = and_parts (eqb u s.start) (eqb v s.end) e in (eqb-true u s.start w.0, eqb-true v s.end w.1)

module _ (ss : List Segment) where
  abbrev AreHalvesAlike : Type 0
  AreHalvesAlike = (n : ℕ) → count n (map edge_key (filter rises ss)) ≡ count n (map reverse_key (filter falls ss))

  -- segments are closed if those that rise have the keys that the others have in reverse
  pub closed_from_halves : AreHalvesAlike → AreSegmentsClosed ss
  closed_from_halves h = record { each = λ u v. by u v (cases_lt u v) (cases_lt v u) }
    where
      upward : (u v : ℕ) → u < v → (v < 4294967296) ⊎ (4294967296 ≤ v) → runs u v ss ≡ runs v u ss
      upward u v l (inr lv) = none_to u v lv ss ∙ sym (none_from u v lv ss)
      upward u v l (inl sv) =
          sym (all_rise u v (between u v) (ends_between u v) l ss) ∙ sym (edges_are u v sv (filter rises ss))
          ∙ h (u * 4294967296 + v) ∙ reverses_are u v sv (filter falls ss)
          ∙ all_fall v u (between v u) (ends_between v u) l ss

      by : (u v : ℕ) → (u < v) ⊎ (v ≤ u) → (v < u) ⊎ (u ≤ v) → runs u v ss ≡ runs v u ss
      by u v (inl l) m = upward u v l (cases_lt v 4294967296)
      by u v (inr l) (inl m) = sym (upward v u m (cases_lt u 4294967296))
      by u v (inr l) (inr m) = let e : u ≡ v = omega (arith, l, m) in λ i. runs (e i) (sym e i) ss

  -- and the other way round
  pub halves_from_closed : AreSegmentsClosed ss → AreHalvesAlike
  halves_from_closed h n =
      subst (λ (m : ℕ). count m (map edge_key (filter rises ss)) ≡ count m (map reverse_key (filter falls ss)))
      (digits n) (at (n / 4294967296) (n % 4294967296) (omega arith) (cases_lt (n / 4294967296) (n % 4294967296)))
    where
      at : (u v : ℕ) → v < 4294967296 → (u < v) ⊎ (v ≤ u) →
          count (u * 4294967296 + v) (map edge_key (filter rises ss)) ≡ count (u * 4294967296 + v)
          (map reverse_key (filter falls ss))
      at u v sv (inl l) =
          edges_are u v sv (filter rises ss) ∙ all_rise u v (between u v) (ends_between u v) l ss ∙ h.each u v
          ∙ sym (all_fall v u (between v u) (ends_between v u) l ss) ∙ sym (reverses_are u v sv (filter falls ss))
      at u v sv (inr l) =
          edges_are u v sv (filter rises ss) ∙ none_rises u v (between u v) (ends_between u v) l ss
          ∙ sym (none_falls v u (between v u) (ends_between v u) l ss) ∙ sym (reverses_are u v sv (filter falls ss))
