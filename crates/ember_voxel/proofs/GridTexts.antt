-- The text whose rows were set in place.
use Rattle.std.proofs.Common.{◌≡◌, ℕ, ◌+◌, ◌-◌, ◌*◌, ◌^◌, ◌<◌, ◌≤◌, List, [], ◌∷◌, ◌++◌, length, take, drop}
use Rattle.std.proofs.Common.{if◌then◌else◌, count_by, codes, decimal, refl, sym, ap, ◌∙◌, subst, arith}
use Rattle.std.proofs.lemmas.List.{drop_all, drop_at, take_all, append-nil, length-append, length-take, length-drop}
use Rattle.std.proofs.Math.Nat.{mul-le-mul_right}
use Rattle.ember_box.proofs.HalfCells.{times_one_more}
use Rattle.ember_voxel.specs.declared.fill.Fill.{Fill}
use Rattle.ember_voxel.specs.Grid.{char_at, is_set, is_one, header_of, IsGrid, IsGridText, KeepsFeeds, AddsRows}

-- the list after its part from b on was written through
abbrev pub after_write : ℕ → ℕ → List ℕ → List ℕ → List ℕ → List ℕ
after_write l b t d r =
    take l (take b d ++ (r ++ drop (length d - b) (drop b d)) ++ drop (length (take b d ++ (r ++ drop (length d - b) (drop b d)))) t)

written : (t r : List ℕ) (b : ℕ) → b ≤ length t → length r ≡ length t - b → after_write (length t) b t t r ≡ take b t ++ r
written t r b le e =
    (λ i. take (length t) (a i ++ drop (length (a i)) t)) ∙ (λ i. take (length t) (take b t ++ r ++ z i))
    ∙ ap (take (length t)) (append-nil (take b t ++ r)) ∙ take_all (length t) (take b t ++ r) (omega (arith, n))
  where
    p : drop (length t - b) (drop b t) ≡ []
    p = drop_all (length t - b) (drop b t) (omega (arith, length-drop b t))

    a : take b t ++ (r ++ drop (length t - b) (drop b t)) ≡ take b t ++ r
    a = ap (λ xs. take b t ++ (r ++ xs)) p ∙ ap (λ xs. take b t ++ xs) (append-nil r)

    n : length (take b t ++ r) ≡ length t
    n = omega (arith, length-append (take b t) r, length-take b t, e, le)

    z : drop (length (take b t ++ r)) t ≡ []
    z = drop_all (length (take b t ++ r)) t (omega (arith, n))

-- the part from b on
part : (h r : List ℕ) (b : ℕ) → b ≡ length h → take (length (h ++ r) - b) (drop b (h ++ r)) ≡ r
part h r b e = ap (take (length (h ++ r) - b)) (drop_at h r b (sym e)) ∙ take_all (length (h ++ r) - b) r (omega (arith, length-append h r, e))

front : (h r : List ℕ) (b : ℕ) → b ≡ length h → take b (h ++ r) ≡ h
front [] r b e = ap (λ n. take n r) e
front (x ∷ h) r b e = ap (λ n. take n (x ∷ (h ++ r))) e ∙ ap (λ xs. x ∷ xs) (front h r (length h) refl)

row_within : (n j l : ℕ) → j < n → l < n → l * n + j < n * n
row_within n j l p q = let h : (l + 1) * n ≤ n * n = mul-le-mul_right n (let g : l + 1 ≤ n = omega (arith, q) in g) in omega (arith, h, p, times_one_more l n)

-- the whole text, from what each step of `grid_text` parts_make_text
pub parts_make_text : (size n b l ones : ℕ) (fills : List Fill) (h t d r c text : List ℕ) → n ≡ 2 ^ (12 - size) →
    h ≡ header_of size n → AddsRows n (n * n) h t → d ≡ t → b ≡ length h → l ≡ length t →
    length r ≡ length (take (length d - b) (drop b d)) →
    ((i j m : ℕ) → i < n → j < n → m < n → char_at n r (m * n + j) i
    ≡ (if is_set size fills i j m then 49 else char_at n (take (length d - b) (drop b d)) (m * n + j) i)) →
    KeepsFeeds n (take (length d - b) (drop b d)) r → c ≡ after_write l b t d r →
    ones ≡ count_by is_one (take (length c - b) (drop b c)) →
    text ≡ after_write l b t d r ++ (codes "end " ++ decimal ones ++ codes "\n") → IsGridText size fills text
parts_make_text size n b l ones fills h t d r c text is_n is_h s is_d is_b is_l len cells feeds is_c is_ones is_text = record {
  rows = r;
  grid = subst (λ m. IsGrid m (is_set size fills) r) is_n grid;
  is = subst (λ m. text ≡ header_of size m ++ r ++ (codes "end " ++ decimal (count_by is_one r) ++ codes "\n")) is_n text_is;
} where
  same : take (length d - b) (drop b d) ≡ s.rows
  same = ap (λ xs. take (length xs - b) (drop b xs)) (is_d ∙ s.is) ∙ part h s.rows b is_b

  size_is : length r ≡ length s.rows
  size_is = len ∙ ap length same

  whole : after_write l b t d r ≡ h ++ r
  whole =
      ap (λ k. after_write k b t d r) is_l ∙ ap (λ xs. after_write (length t) b t xs r) is_d
      ∙ written t r b (omega (arith, is_b, ap length s.is, length-append h s.rows))
      (omega (arith, size_is, is_b, ap length s.is, length-append h s.rows))
      ∙ ap (λ xs. xs ++ r) (ap (take b) s.is ∙ front h s.rows b is_b)

  count : ones ≡ count_by is_one r
  count = is_ones ∙ ap (count_by is_one) (ap (λ xs. take (length xs - b) (drop b xs)) (is_c ∙ whole) ∙ part h r b is_b)

  text_is : text ≡ header_of size n ++ r ++ (codes "end " ++ decimal (count_by is_one r) ++ codes "\n")
  text_is = is_text ∙ (λ i. (whole ∙ ap (λ xs. xs ++ r) is_h) i ++ (codes "end " ++ decimal (count i) ++ codes "\n"))

  grid : IsGrid n (is_set size fills) r
  grid = record {
    size = size_is ∙ s.blank.size;
    cell = λ i j m p q o. cells i j m p q o ∙ ap (λ z. if is_set size fills i j m then 49 else z)
        (ap (λ xs. char_at n xs (m * n + j) i) same ∙ s.blank.cell (m * n + j) i (row_within n j m q o) p);
    feed = λ k p. feeds.kept k ∙ ap (λ xs. char_at n xs k n) same ∙ s.blank.feed k p;
  }
