-- Two lists of segments without what both have: how often a key is among the starts, less how often it is among the ends
use Rattle.std.proofs.Common.{◌≡◌, ℕ, ◌+◌, ◌<◌, List, [], ◌∷◌, ◌++◌, map, length, take, get_or, ℤ, pos, ◌+ℤ◌, ◌-ℤ◌, refl, sym, ap, ◌∙◌, arith, eqb}
use Rattle.std.specs.List.Sorted.{IsPermutation}
use Rattle.std.proofs.lemmas.List.{take_more, map-append}
use Rattle.std.proofs.lemmas.List.Sorted.{IsPermutation-map}
use borrow.Author.Differences.{ints}
use Rattle.ember_algebra.proofs.Laws.{linear}
use Rattle.ember_algebra.proofs.Sums.{occurrences-append}
use Rattle.ember_balance.specs.Counts.{count}
use Rattle.ember_balance.proofs.SortedSurplus.{count_permutation}
use Rattle.mesh_certificate.specs.declared.certificate.segment.Segment.{Segment}
use Rattle.mesh_certificate.specs.declared.certificate.unmatched.SegmentEnds.{SegmentEnds}
use Rattle.mesh_certificate.specs.Certificate.Chains.{HaveSameBoundary}
use Rattle.mesh_certificate.specs.Certificate.Keys.{start_key, end_key, segment_key, start_in, end_in, excess, excess_of}
use Rattle.mesh_certificate.proofs.Keyed.{boundary_from_keys, keys_from_boundary}

-- ---- lists of starts and ends
differences : (i j k l m o : ℕ) → m ≡ i + k → o ≡ j + l → pos m -ℤ pos o ≡ (pos i -ℤ pos j) +ℤ (pos k -ℤ pos l)
differences i j k l m o e f = omega (arith, ints, e, f)

excess-append : (n : ℕ) (ss es ts fs : List ℕ) → excess n (ss ++ ts) (es ++ fs) ≡ excess n ss es +ℤ excess n ts fs
excess-append n ss es ts fs =
    differences (count n ss) (count n es) (count n ts) (count n fs) (count n (ss ++ ts)) (count n (es ++ fs))
    (occurrences-append eqb n ss ts) (occurrences-append eqb n es fs)

excess_of-append : (n : ℕ) (ks ls : List ℕ) → excess_of n (ks ++ ls) ≡ excess_of n ks +ℤ excess_of n ls
excess_of-append n ks ls =
    let a = map-append start_in ks ls in let b = map-append end_in ks ls in
    (λ i. excess n (a i) (b i)) ∙ excess-append n (map start_in ks) (map end_in ks) (map start_in ls) (map end_in ls)

-- ---- one segment more
abbrev excess_at : ℕ → SegmentEnds → ℤ
excess_at n e = excess n e.starts.items e.ends.items

module _ (n k : ℕ) (d e : SegmentEnds) where
  excess_pushed : e.starts.items ≡ d.starts.items ++ start_in k ∷ [] → e.ends.items ≡ d.ends.items ++ end_in k ∷ [] →
      excess_at n e ≡ excess_at n d +ℤ excess_of n (k ∷ [])
  excess_pushed a b =
      (λ i. excess n (a i) (b i)) ∙ excess-append n d.starts.items d.ends.items (start_in k ∷ []) (end_in k ∷ [])

  -- the reverse of a segment, which isn't among others, of excess z
  pub back_pushed : (z : ℤ) → e.starts.items ≡ d.starts.items ++ end_in k ∷ [] →
      e.ends.items ≡ d.ends.items ++ start_in k ∷ [] → excess_at n e +ℤ z ≡ excess_at n d +ℤ z -ℤ excess_of n (k ∷ [])
  back_pushed z a b =
      turned (excess_at n d) (excess_at n e) (pos (count n (start_in k ∷ []))) (pos (count n (end_in k ∷ [])))
      ((λ i. excess n (a i) (b i)) ∙ excess-append n d.starts.items d.ends.items (end_in k ∷ []) (start_in k ∷ []))
    where
      turned : (x y s e : ℤ) → y ≡ x +ℤ (e -ℤ s) → y +ℤ z ≡ x +ℤ z -ℤ (s -ℤ e)
      turned x y s e q = omega (arith, linear, q)

-- ---- steps of the walk: the first segment of a list, and the others
module _ (n k : ℕ) (ks ls : List ℕ) (split : ks ≡ k ∷ ls) where
  excess_of-cons : excess_of n ks ≡ excess_of n (k ∷ []) +ℤ excess_of n ls
  excess_of-cons = ap (excess_of n) split ∙ excess_of-append n (k ∷ []) ls

  -- the first one goes to the starts and ends
  pub first_pushed : (z : ℤ) (d e : SegmentEnds) → e.starts.items ≡ d.starts.items ++ start_in k ∷ [] →
      e.ends.items ≡ d.ends.items ++ end_in k ∷ [] → excess_at n d +ℤ excess_of n ks ≡ z →
      excess_at n e +ℤ excess_of n ls ≡ z
  first_pushed z d e a b h =
      moved (excess_at n d) (excess_at n e) (excess_of n (k ∷ [])) (excess_of n ks) (excess_of n ls) (excess_pushed n k d e a b) excess_of-cons h
    where
      moved : (x y a c d : ℤ) → y ≡ x +ℤ a → c ≡ a +ℤ d → x +ℤ c ≡ z → y +ℤ d ≡ z
      moved x y a c d e f g = omega (arith, linear, e, f, g)

  -- the first one is taken away
  pub first_cancelled : (x : ℤ) (j : ℕ) → k ≡ j → x +ℤ excess_of n ls ≡ x +ℤ excess_of n ks -ℤ excess_of n (j ∷ [])
  first_cancelled x j q =
      moved (excess_of n (k ∷ [])) (excess_of n ks) (excess_of n ls) (excess_of n (j ∷ [])) (ap (λ (m : ℕ). excess_of n (m ∷ [])) q) excess_of-cons
    where
      moved : (a c d b : ℤ) → a ≡ b → c ≡ a +ℤ d → x +ℤ d ≡ x +ℤ c -ℤ b
      moved a c d b e f = omega (arith, linear, e, f)

-- ---- the next of a list of keys
module _ (n : ℕ) (ks : List ℕ) (i : ℕ) (l : i < length ks) where
  abbrev k : ℕ
  k = get_or ks i 0

  excess_of-more : excess_of n (take (i + 1) ks) ≡ excess_of n (take i ks) +ℤ excess_of n (k ∷ [])
  excess_of-more = ap (excess_of n) (take_more ks i 0 l) ∙ excess_of-append n (take i ks) (k ∷ [])

  -- one of all those that are appended
  pub next_pushed : (z : ℤ) (d e : SegmentEnds) → e.starts.items ≡ d.starts.items ++ start_in k ∷ [] →
      e.ends.items ≡ d.ends.items ++ end_in k ∷ [] → excess_at n d ≡ z +ℤ excess_of n (take i ks) →
      excess_at n e ≡ z +ℤ excess_of n (take (i + 1) ks)
  next_pushed z d e a b h =
      moved (excess_at n d) (excess_at n e) (excess_of n (k ∷ [])) (excess_of n (take i ks))
      (excess_of n (take (i + 1) ks)) (excess_pushed n k d e a b) excess_of-more h
    where
      moved : (x y a c d : ℤ) → y ≡ x +ℤ a → d ≡ c +ℤ a → x ≡ z +ℤ c → y ≡ z +ℤ d
      moved x y a c d e f g = omega (arith, linear, e, f, g)

  -- one of the second list is compared: from d and rest us by e and vs to g and ws
  pub next_compared : (z : ℤ) (d e g : SegmentEnds) (us vs ws : List ℕ) →
      excess_at n d +ℤ excess_of n us ≡ z -ℤ excess_of n (take i ks) →
      excess_at n e +ℤ excess_of n vs ≡ excess_at n d +ℤ excess_of n us →
      excess_at n g +ℤ excess_of n ws ≡ excess_at n e +ℤ excess_of n vs -ℤ excess_of n (k ∷ []) →
      excess_at n g +ℤ excess_of n ws ≡ z -ℤ excess_of n (take (i + 1) ks)
  next_compared z d e g us vs ws =
      moved (excess_at n d +ℤ excess_of n us) (excess_at n e +ℤ excess_of n vs) (excess_at n g +ℤ excess_of n ws)
      (excess_of n (k ∷ [])) (excess_of n (take i ks)) (excess_of n (take (i + 1) ks)) excess_of-more
    where
      moved : (x y w a c m : ℤ) → m ≡ c +ℤ a → x ≡ z -ℤ c → y ≡ x → w ≡ y -ℤ a → w ≡ z -ℤ m
      moved x y w a c m e f g h = omega (arith, linear, e, f, g, h)

-- ---- segments by their keys
starts_in : (ss : List Segment) → map start_in (map segment_key ss) ≡ map start_key ss
starts_in [] = refl
starts_in (s ∷ ss) =
    let e : start_in (segment_key s) ≡ start_key s = omega (arith, s.sized.end_small) in
    let r = starts_in ss in λ i. e i ∷ r i

ends_in : (ss : List Segment) → map end_in (map segment_key ss) ≡ map end_key ss
ends_in [] = refl
ends_in (s ∷ ss) =
    let e : end_in (segment_key s) ≡ end_key s = omega (arith, s.sized.start_small, s.sized.end_small) in
    let r = ends_in ss in λ i. e i ∷ r i

excess_of-permutation : (n : ℕ) (ks ls : List ℕ) → IsPermutation ks ls → excess_of n ls ≡ excess_of n ks
excess_of-permutation n ks ls p =
    let a = count_permutation n (map start_in ks) (map start_in ls) (IsPermutation-map start_in ks ls p) in
    let b = count_permutation n (map end_in ks) (map end_in ls) (IsPermutation-map end_in ks ls p) in
    λ i. pos (a i) -ℤ pos (b i)

-- the keys of segments, in order
excess_is : (n : ℕ) (ss : List Segment) {us ks ls : List ℕ} → us ≡ map segment_key ss → IsPermutation us ks → ls ≡ ks →
    excess_of n ls ≡ excess n (map start_key ss) (map end_key ss)
excess_is n ss {us} {ks} {ls} e p v =
    let a = starts_in ss in let b = ends_in ss in
    ap (excess_of n) v ∙ excess_of-permutation n us ks p ∙ ap (excess_of n) e ∙ (λ i. excess n (a i) (b i))

crossed : (a b c d i j : ℕ) → pos i -ℤ pos j ≡ (pos a -ℤ pos b) -ℤ (pos c -ℤ pos d) → (i ≡ j → a + d ≡ c + b) × (a + d ≡ c + b → i ≡ j)
crossed a b c d i j e = (λ q. omega (arith, ints, e, q), λ q. omega (arith, ints, e, q))

module _ (ss ts : List Segment) {us ks ls vs ms ns : List ℕ} (e : us ≡ map segment_key ss) (p : IsPermutation us ks)
    (v : ls ≡ ks) (f : vs ≡ map segment_key ts) (q : IsPermutation vs ms) (w : ns ≡ ms) (starts ends : List ℕ)
    (left : (n : ℕ) → excess n starts ends ≡ excess_of n ls -ℤ excess_of n ns) where
  differ : (n : ℕ) → (count n starts ≡ count n ends →
      count n (map start_key ss) + count n (map end_key ts) ≡ count n (map start_key ts) + count n (map end_key ss)) ×
      (count n (map start_key ss) + count n (map end_key ts) ≡ count n (map start_key ts) + count n (map end_key ss) →
      count n starts ≡ count n ends)
  differ n =
      let a = excess_is n ss e p v in let b = excess_is n ts f q w in
      crossed (count n (map start_key ss)) (count n (map end_key ss)) (count n (map start_key ts))
      (count n (map end_key ts)) (count n starts) (count n ends) (left n ∙ (λ i. a i -ℤ b i))

  -- if each key is as often among the starts that are left as among the ends, the lists have the same boundary
  pub boundary_from_left : ((n : ℕ) → count n starts ≡ count n ends) → HaveSameBoundary ss ts
  boundary_from_left h =
      boundary_from_keys ss ts (λ n. occurrences-append eqb n (map start_key ss) (map end_key ts) ∙ (differ n).0 (h n)
      ∙ sym (occurrences-append eqb n (map start_key ts) (map end_key ss)))

  -- and the other way round
  pub left_from_boundary : HaveSameBoundary ss ts → (n : ℕ) → count n starts ≡ count n ends
  left_from_boundary h n =
      (differ n).1 (sym (occurrences-append eqb n (map start_key ss) (map end_key ts)) ∙ keys_from_boundary ss ts h n
      ∙ occurrences-append eqb n (map start_key ts) (map end_key ss))
