-- Segments that rise and segments that fall: of those between two corners one half has all that run one way
use Rattle.std.proofs.Common.{◌≡◌, ℕ, ◌+◌, ◌<◌, ◌≤◌, Bool, true, false, cond, List, [], ◌∷◌, ◌++◌, map, filter, length, take, get_or, refl, sym, ap, ◌∙◌, arith}
use Rattle.std.specs.List.{count_by}
use Rattle.std.proofs.lemmas.Bool.{both_ways, lt-ltb, le-ltb}
use Rattle.std.proofs.lemmas.List.{map-append}
use Rattle.std.proofs.lemmas.List.Elements.{filter-append}
use Rattle.std.proofs.lemmas.List.Sums.{sum_by-cons}
use Rattle.mesh_certificate.specs.declared.certificate.segment.Segment.{Segment}
use Rattle.mesh_certificate.specs.Certificate.Keys.{rises, falls}
use Rattle.mesh_certificate.proofs.Triangles.{with_next}

-- ---- what is counted in a part of a list
module _ (q r : Segment → Bool) where
  abbrev times : Segment → ℕ
  times s = cond (q s) 1 0

  -- a part that has all segments that are counted
  count_kept : ((s : Segment) → q s ≡ true → r s ≡ true) → (ss : List Segment) → count_by q (filter r ss) ≡ count_by q ss
  count_kept h [] = refl
  count_kept h (s ∷ ss) = by (q s) refl (r s) refl (count_kept h ss)
    where
      by : (a : Bool) → q s ≡ a → (b : Bool) → r s ≡ b → count_by q (filter r ss) ≡ count_by q ss →
          count_by q (cond b (s ∷ filter r ss) (filter r ss)) ≡ count_by q (s ∷ ss)
      by a e true f t = sum_by-cons times s (filter r ss) ∙ (λ i. times s + t i) ∙ sym (sum_by-cons times s ss)
      by true e false f t = absurd (both_ways (r s) f (h s e))
      by false e false f t =
          let a = sum_by-cons times s ss in let b = ap {B = ℕ} (λ (z : Bool). cond z 1 0) e in omega (arith, t, a, b)

  -- a part that has none of them
  count_left_out : ((s : Segment) → r s ≡ true → q s ≡ false) → (ss : List Segment) → count_by q (filter r ss) ≡ 0
  count_left_out h [] = refl
  count_left_out h (s ∷ ss) = by (r s) refl (count_left_out h ss)
    where
      by : (b : Bool) → r s ≡ b → count_by q (filter r ss) ≡ 0 → count_by q (cond b (s ∷ filter r ss) (filter r ss)) ≡ 0
      by true f t = sum_by-cons times s (filter r ss) ∙ (λ i. cond (h s f i) 1 0 + t i)
      by false f t = t

-- ---- segments from u to v
module _ (u v : ℕ) (q : Segment → Bool) (ends : (s : Segment) → q s ≡ true → (u ≡ s.start) × (v ≡ s.end)) where
  none_but : (r : Segment → Bool) → ((s : Segment) → u ≡ s.start → v ≡ s.end → r s ≡ false) → (s : Segment) → r s ≡ true → q s ≡ false
  none_but r h s f = by (q s) refl
    where
      by : (a : Bool) → q s ≡ a → q s ≡ false
      by false e = e
      by true e = let w = ends s e in absurd (both_ways (r s) (h s w.0 w.1) f)

  -- to a corner of higher number: they all rise
  pub all_rise : u < v → (ss : List Segment) → count_by q (filter rises ss) ≡ count_by q ss
  all_rise l =
      count_kept q rises (λ s e. let w = ends s e in lt-ltb s.start s.end (omega (arith, w.0, w.1, l)))

  pub none_rises : v ≤ u → (ss : List Segment) → count_by q (filter rises ss) ≡ 0
  none_rises l = count_left_out q rises (none_but rises (λ s a b. le-ltb s.start s.end (omega (arith, a, b, l))))

  -- to a corner of lower number: they all fall
  pub all_fall : v < u → (ss : List Segment) → count_by q (filter falls ss) ≡ count_by q ss
  all_fall l = count_kept q falls (λ s e. let w = ends s e in lt-ltb s.end s.start (omega (arith, w.0, w.1, l)))

  pub none_falls : u ≤ v → (ss : List Segment) → count_by q (filter falls ss) ≡ 0
  none_falls l = count_left_out q falls (none_but falls (λ s a b. le-ltb s.end s.start (omega (arith, a, b, l))))

-- ---- one segment more
module _ (k : Segment → ℕ) (p : Segment → Bool) where
  keys-append : (ss ts : List Segment) → map k (filter p (ss ++ ts)) ≡ map k (filter p ss) ++ map k (filter p ts)
  keys-append ss ts = ap (map k) (filter-append p ss ts) ∙ map-append k (filter p ss) (filter p ts)

  -- the keys of those that pass a test
  pub keys_more : (ss : List Segment) (i : ℕ) (s : Segment) {before after : List ℕ} → i < length ss →
      s ≡ get_or ss i s → before ≡ map k (filter p (take i ss)) → after ≡ before ++ map k (filter p (s ∷ [])) →
      after ≡ map k (filter p (take (i + 1) ss))
  keys_more ss i s l e b a =
      a ∙ ap (λ (ns : List ℕ). ns ++ map k (filter p (s ∷ []))) b
      ∙ sym (ap (λ (ts : List Segment). map k (filter p ts)) (with_next ss i s l e)
      ∙ keys-append (take i ss) (s ∷ []))

  -- the keys of those that pass two tests
  pub keys_of_both_more : (q : Segment → Bool) (ss : List Segment) (i : ℕ) (s : Segment) {before after : List ℕ} →
      i < length ss → s ≡ get_or ss i s → before ≡ map k (filter p (filter q (take i ss))) →
      after ≡ before ++ map k (filter p (filter q (s ∷ []))) → after ≡ map k (filter p (filter q (take (i + 1) ss)))
  keys_of_both_more q ss i s l e b a =
      a ∙ ap (λ (ns : List ℕ). ns ++ map k (filter p (filter q (s ∷ [])))) b
      ∙ sym (ap (λ (ts : List Segment). map k (filter p ts))
      (ap (filter q) (with_next ss i s l e) ∙ filter-append q (take i ss) (s ∷ []))
      ∙ keys-append (filter q (take i ss)) (filter q (s ∷ [])))
