-- Rows of cells in which some are set: one more cell, row, layer, box.
use Rattle.std.proofs.Common.{◌≡◌, ℕ, ◌+◌, ◌*◌, ◌/◌, ◌%◌, ◌<◌, ◌≤◌, ◌==◌, ◌&&◌, ◌||◌, Bool, true, false, nat_le, nat_lt}
use Rattle.std.proofs.Common.{if◌then◌else◌, ◌⊎◌, inl, inr, List, [], ◌∷◌, ◌++◌, length, get_or, set, take, replicate}
use Rattle.std.proofs.Common.{append_assoc, refl, sym, ap, ◌∙◌, subst, arith}
use Rattle.std.proofs.lemmas.Bool.Decides.{eqb_tells}
use Rattle.std.proofs.lemmas.Bool.{and_parts, eq-eqb, eqb-true, ne_eqb, lt-ltb, le-ltb, ltb-true, ltb-false, le-leb, leb-true}
use Rattle.std.proofs.lemmas.Nat.{div-mul-add, mod-mul-add}
use Rattle.std.proofs.lemmas.List.{append-nil, get_or-set_same, get_or-set_other, length-append, length-replicate}
use Rattle.std.proofs.lemmas.List.{get_or-replicate, get_or-append-add, get_or_append_left}
use Rattle.std.proofs.lemmas.List.Folds.{list_any_more}
use Rattle.std.proofs.Math.Nat.{mul-le-mul_right}
use Rattle.ember_algebra.proofs.Booleans.{same_test}
use Rattle.ember_box.proofs.HalfCells.{times_one_more}
use Rattle.ember_voxel.specs.declared.fill.Fill.{Fill}
use Rattle.ember_voxel.specs.declared.grid.Extent.{Extent}
use Rattle.ember_voxel.specs.Grid.{char_at, between, sets_cell, is_set, KeepsFeeds, AddsRows}

-- ---- tests
-- a number more in an interval
lt_same : (k i : ℕ) → (k ≡ i → ⊥) → nat_lt k (i + 1) ≡ nat_lt k i
lt_same k i apart = by (nat_lt k i) refl where
  by : (b : Bool) → nat_lt k i ≡ b → nat_lt k (i + 1) ≡ b
  by true p = lt-ltb k (i + 1) (omega (arith, ltb-true k i p))
  by false p = le-ltb k (i + 1) (omega (arith, ltb-false k i p, apart))

one_more : (from k i : ℕ) → from ≤ i → (nat_le from k && nat_lt k (i + 1)) ≡ (k == i || (nat_le from k && nat_lt k i))
one_more from k i le = by (eqb_tells k i) where
  by : (((k == i) ≡ true) × (k ≡ i)) ⊎ (((k == i) ≡ false) × (k ≡ i → ⊥)) → (nat_le from k && nat_lt k (i + 1)) ≡ (k == i || (nat_le from k && nat_lt k i))
  by (inl s) =
      let a : nat_le from k ≡ true = le-leb from k (omega (arith, s.1, le)) in
      let b : nat_lt k (i + 1) ≡ true = lt-ltb k (i + 1) (omega (arith, s.1)) in
      (λ t. a t && b t) ∙ ap (λ e. e || (nat_le from k && nat_lt k i)) (sym s.0)
  by (inr d) = ap (λ t. nat_le from k && t) (lt_same k i d.1) ∙ ap (λ e. e || (nat_le from k && nat_lt k i)) (sym d.0)

none_yet : (from k : ℕ) → (nat_le from k && nat_lt k from) ≡ false
none_yet from k = by (nat_lt k from) refl where
  none : (b : Bool) → (b && false) ≡ false
  none true = refl
  none false = refl

  by : (b : Bool) → nat_lt k from ≡ b → (nat_le from k && b) ≡ false
  by false p = none (nat_le from k)
  by true p = lt-leb' from k (ltb-true k from p) where
    lt-leb' : (m n : ℕ) → n < m → (nat_le m n && true) ≡ false
    lt-leb' m n l = by' (nat_le m n) refl where
      by' : (b : Bool) → nat_le m n ≡ b → (b && true) ≡ false
      by' false p' = refl
      by' true p' = absurd (omega (arith, l, leb-true m n p'))

-- ---- places
same_place : (w q r i k : ℕ) → i < w → k < w → (q * w + k == r * w + i) ≡ (q == r && k == i)
same_place w q r i k l m = same_test (q * w + k == r * w + i) (q == r && k == i) forth back where
  forth : (q * w + k == r * w + i) ≡ true → (q == r && k == i) ≡ true
  forth e =
      let p : q * w + k ≡ r * w + i = eqb-true (q * w + k) (r * w + i) e in
      let a : q ≡ r = sym (div-mul-add q w k m) ∙ ap (λ x. x / w) p ∙ div-mul-add r w i l in
      let b : k ≡ i = sym (mod-mul-add q w k m) ∙ ap (λ x. x % w) p ∙ mod-mul-add r w i l in
      let s = eq-eqb q r a in let t = eq-eqb k i b in λ x. s x && t x

  back : (q == r && k == i) ≡ true → (q * w + k == r * w + i) ≡ true
  back e =
      let a : q ≡ r = eqb-true q r (and_parts (q == r) (k == i) e).0 in
      let b : k ≡ i = eqb-true k i (and_parts (q == r) (k == i) e).1 in
      eq-eqb (q * w + k) (r * w + i) (λ x. a x * w + b x)

write_at : (n r i q k v : ℕ) (xs : List ℕ) → i < n + 1 → k < n + 1 → r * (n + 1) + i < length xs →
    char_at n (set xs (r * (n + 1) + i) v) q k ≡ (if q == r && k == i then v else char_at n xs q k)
write_at n r i q k v xs l m within = by (eqb_tells (q * (n + 1) + k) (r * (n + 1) + i)) where
  by : (((q * (n + 1) + k == r * (n + 1) + i) ≡ true) × (q * (n + 1) + k ≡ r * (n + 1) + i)) ⊎
      (((q * (n + 1) + k == r * (n + 1) + i) ≡ false) × (q * (n + 1) + k ≡ r * (n + 1) + i → ⊥)) →
      char_at n (set xs (r * (n + 1) + i) v) q k ≡ (if q == r && k == i then v else char_at n xs q k)
  by (inl s) =
      ap (λ p. get_or (set xs (r * (n + 1) + i) v) p 0) s.1 ∙ get_or-set_same xs (r * (n + 1) + i) v 0 within
      ∙ ap (λ b. if b then v else char_at n xs q k) (sym s.0 ∙ same_place (n + 1) q r i k l m)
  by (inr d) =
      get_or-set_other xs (r * (n + 1) + i) (q * (n + 1) + k) v 0 d.1 ∙ ap (λ b. if b then v else char_at n xs q k) (sym d.0 ∙ same_place (n + 1) q r i k l m)

-- ---- what is set twice
merge_row : (a e b : Bool) (o : ℕ) → (if a && e then 49 else (if a && b then 49 else o)) ≡ (if a && (e || b) then 49 else o)
merge_row true true b o = refl
merge_row true false b o = refl
merge_row false e b o = refl

merge_layer : (m e b s : Bool) (o : ℕ) → (if (m && e) && s then 49 else (if m && (b && s) then 49 else o)) ≡ (if m && ((e || b) && s) then 49 else o)
merge_layer true true b true o = refl
merge_layer true true true false o = refl
merge_layer true true false false o = refl
merge_layer true false b s o = refl
merge_layer false e b s o = refl

merge_block : (e b s : Bool) (o : ℕ) → (if e && s then 49 else (if b && s then 49 else o)) ≡ (if (e || b) && s then 49 else o)
merge_block true b true o = refl
merge_block true true false o = refl
merge_block true false false o = refl
merge_block false b s o = refl

merge_fill : (a b : Bool) (o : ℕ) → (if a then 49 else (if b then 49 else o)) ≡ (if b || a then 49 else o)
merge_fill true true o = refl
merge_fill true false o = refl
merge_fill false true o = refl
merge_fill false false o = refl

nothing : (a : Bool) (x o : ℕ) → (if a && false then x else o) ≡ o
nothing true x o = refl
nothing false x o = refl

-- ---- a row
pub record RowSet (n r from i : ℕ) (old now : List ℕ) : Type 0 where
  pub cells : (q k : ℕ) → k < n → char_at n now q k ≡ (if q == r && (nat_le from k && nat_lt k i) then 49 else char_at n old q k)
  pub feeds : KeepsFeeds n old now

-- before the first cell, nothing is set
pub row_none : (n r from : ℕ) (old : List ℕ) → RowSet n r from from old old
row_none n r from old = record {
  cells = λ q k l. sym (ap (λ b. if q == r && b then 49 else char_at n old q k) (none_yet from k) ∙ nothing (q == r) 49 (char_at n old q k));
  feeds = record { kept = λ q. refl };
}

-- one more cell of a row is set
pub row_more : (n r from i start : ℕ) (old now : List ℕ) → start ≡ r * (n + 1) → from ≤ i → i < n →
    start + i < length now → RowSet n r from i old now → RowSet n r from (i + 1) old (set now (start + i) 49)
row_more n r from i start old now e le l within s =
    subst (λ p. RowSet n r from (i + 1) old (set now (p + i) 49)) (sym e) (record { cells = cells'; feeds = record { kept = feeds' } }) where
      within' : r * (n + 1) + i < length now
      within' = omega (arith, within, e)

      cells' : (q k : ℕ) → k < n → char_at n (set now (r * (n + 1) + i) 49) q k
          ≡ (if q == r && (nat_le from k && nat_lt k (i + 1)) then 49 else char_at n old q k)
      cells' q k m =
          write_at n r i q k 49 now (omega arith) (omega arith) within'
          ∙ ap (λ o. if q == r && k == i then 49 else o) (s.cells q k m)
          ∙ merge_row (q == r) (k == i) (nat_le from k && nat_lt k i) (char_at n old q k)
          ∙ ap (λ b. if q == r && b then 49 else char_at n old q k) (sym (one_more from k i le))

      feeds' : (q : ℕ) → char_at n (set now (r * (n + 1) + i) 49) q n ≡ char_at n old q n
      feeds' q =
          write_at n r i q n 49 now (omega arith) (omega arith) within'
          ∙ ap (λ b. if q == r && b then 49 else char_at n now q n) (ne_eqb n i (λ f. omega (arith, f)))
          ∙ nothing (q == r) 49 (char_at n now q n)
          ∙ s.feeds.kept q

-- ---- a layer
pub record LayerSet (n l from j : ℕ) (x : Extent) (old now : List ℕ) : Type 0 where
  pub cells : (i k m : ℕ) → i < n → k < n → m < n →
      char_at n now (m * n + k) i ≡ (if m == l && ((nat_le from k && nat_lt k j) && between x i) then 49 else char_at n
      old (m * n + k) i)
  pub feeds : KeepsFeeds n old now

-- before the first row, nothing is set
pub layer_none : (n l from : ℕ) (x : Extent) (old : List ℕ) → LayerSet n l from from x old old
layer_none n l from x old = record {
  cells = λ i k m a b c. sym (ap (λ t. if m == l && (t && between x i) then 49 else char_at n old (m * n + k) i)
      (none_yet from k) ∙ nothing (m == l) 49 (char_at n old (m * n + k) i));
  feeds = record { kept = λ q. refl };
}

-- one more row of a layer is set
pub layer_more : (n l from j r : ℕ) (x : Extent) (old now new : List ℕ) → r ≡ l * n + j → from ≤ j → j < n →
    LayerSet n l from j x old now → ((q i : ℕ) → i < n →
    char_at n new q i ≡ (if q == r && between x i then 49 else char_at n now q i)) → KeepsFeeds n now new →
    LayerSet n l from (j + 1) x old new
layer_more n l from j r x old now new e le lj s row feeds = record {
  cells = λ i k m a b c.
      row (m * n + k) i a
      ∙ ap (λ t. if t && between x i then 49 else char_at n now (m * n + k) i) (ap (λ p. m * n + k == p) e ∙ same_place n m l j k lj b)
      ∙ ap (λ o. if (m == l && k == j) && between x i then 49 else o) (s.cells i k m a b c)
      ∙ merge_layer (m == l) (k == j) (nat_le from k && nat_lt k j) (between x i) (char_at n old (m * n + k) i)
      ∙ ap (λ t. if m == l && (t && between x i) then 49 else char_at n old (m * n + k) i) (sym (one_more from k j le));
  feeds = record { kept = λ q. feeds.kept q ∙ s.feeds.kept q };
}

-- ---- a block
pub record BlockSet (n from l : ℕ) (x y : Extent) (old now : List ℕ) : Type 0 where
  pub cells : (i k m : ℕ) → i < n → k < n → m < n →
      char_at n now (m * n + k) i ≡ (if (nat_le from m && nat_lt m l)
      && (between y k && between x i) then 49 else char_at n old (m * n + k) i)
  pub feeds : KeepsFeeds n old now

-- before the first layer, nothing is set
pub block_none : (n from : ℕ) (x y : Extent) (old : List ℕ) → BlockSet n from from x y old old
block_none n from x y old = record {
  cells = λ i k m a b c. sym (ap (λ t. if t && (between y k && between x i) then 49 else char_at n old (m * n + k) i) (none_yet from m));
  feeds = record { kept = λ q. refl };
}

-- one more layer of a block is set
pub block_more : (n from l : ℕ) (x y : Extent) (old now new : List ℕ) → from ≤ l → BlockSet n from l x y old now →
    ((i k m : ℕ) → i < n → k < n → m < n → char_at n new (m * n + k) i
    ≡ (if m == l && (between y k && between x i) then 49 else char_at n now (m * n + k) i)) → KeepsFeeds n now new →
    BlockSet n from (l + 1) x y old new
block_more n from l x y old now new le s layer feeds = record {
  cells = λ i k m a b c.
      layer i k m a b c
      ∙ ap (λ o. if m == l && (between y k && between x i) then 49 else o) (s.cells i k m a b c)
      ∙ merge_block (m == l) (nat_le from m && nat_lt m l) (between y k && between x i) (char_at n old (m * n + k) i)
      ∙ ap (λ t. if t && (between y k && between x i) then 49 else char_at n old (m * n + k) i) (sym (one_more from m l le));
  feeds = record { kept = λ q. feeds.kept q ∙ s.feeds.kept q };
}

-- ---- all boxes
pub record FillsSet (size n : ℕ) (fills : List Fill) (old now : List ℕ) : Type 0 where
  pub cells : (i j m : ℕ) → i < n → j < n → m < n → char_at n now (m * n + j) i ≡ (if is_set size fills i j m then 49 else char_at n old (m * n + j) i)
  pub feeds : KeepsFeeds n old now

-- the cells of one more box are set
pub fills_more : (size n k : ℕ) (fills : List Fill) (f : Fill) (old now new : List ℕ) → k < length fills →
    f ≡ get_or fills k f → FillsSet size n (take k fills) old now →
    ((i j m : ℕ) → i < n → j < n → m < n → char_at n new (m * n + j) i
    ≡ (if sets_cell size i j m f then 49 else char_at n now (m * n + j) i)) → KeepsFeeds n now new →
    FillsSet size n (take (k + 1) fills) old new
fills_more size n k fills f old now new within is s one feeds = record {
  cells = λ i j m a b c.
      one i j m a b c
      ∙ ap (λ o. if sets_cell size i j m f then 49 else o) (s.cells i j m a b c)
      ∙ merge_fill (sets_cell size i j m f) (is_set size (take k fills) i j m) (char_at n old (m * n + j) i)
      ∙ ap (λ t. if t then 49 else char_at n old (m * n + j) i)
      (ap (λ g. is_set size (take k fills) i j m || sets_cell size i j m g) is
      ∙ sym (list_any_more (sets_cell size i j m) fills k f within));
  feeds = record { kept = λ q. feeds.kept q ∙ s.feeds.kept q };
}

-- ---- rows with no cell set
pub adds_none : (n : ℕ) (old : List ℕ) → AddsRows n 0 old old
adds_none n old = record {
  rows = [];
  is = sym (append-nil old);
  blank =
      record { size = omega arith; cell = λ r i l m. absurd (omega arith); feed = λ r l. absurd (omega arith) };
}

abbrev line_end : List ℕ
line_end = 10 ∷ []

abbrev pub blank_row : ℕ → List ℕ
blank_row n = replicate n 48 ++ line_end

row_end : (n : ℕ) → get_or (blank_row n) n 0 ≡ 10
row_end n = let e : length (replicate n 48) + 0 ≡ n = omega (arith, length-replicate {A = ℕ} n 48) in
    ap (λ k. get_or (blank_row n) k 0) (sym e) ∙ get_or-append-add (replicate n 48) line_end 0 0

row_cell : (n i : ℕ) → i < n → get_or (blank_row n) i 0 ≡ 48
row_cell n i l = get_or_append_left (replicate n 48) line_end 0 i (omega (arith, l, length-replicate {A = ℕ} n 48)) ∙ get_or-replicate n i 48 0 l

-- one more blank row is appended
pub adds_more : (n count : ℕ) (old now new row : List ℕ) → AddsRows n count old now → row ≡ blank_row n → new ≡ now ++ row → AddsRows n (count + 1) old new
adds_more n count old now new row s is e = record {
  rows = s.rows ++ row;
  is = e ∙ ap (λ xs. xs ++ row) s.is ∙ append_assoc old s.rows row;
  blank = record {
    size = omega (arith, length-append s.rows row, s.blank.size, ap length is, length-append (replicate n 48) line_end, length-replicate {A = ℕ} n 48);
    cell = λ r i l m. by_row r i l (omega (arith, m)) (λ k. s.blank.cell r i k m) (λ f. ap (λ xs. get_or xs i 0) is ∙ row_cell n i m);
    feed = λ r l. by_row r n l (omega arith) (λ k. s.blank.feed r k) (λ f. ap (λ xs. get_or xs n 0) is ∙ row_end n);
  };
} where
  before : (r i : ℕ) → r < count → i < n + 1 → r * (n + 1) + i < length s.rows
  before r i l m = let h : (r + 1) * (n + 1) ≤ count * (n + 1) =
      mul-le-mul_right (n + 1) (let g : r + 1 ≤ count = omega (arith, l) in g) in
      omega (arith, h, m, s.blank.size, times_one_more r (n + 1))

  by_row : (r i : ℕ) {c : ℕ} → r < count + 1 → i < n + 1 → (r < count → char_at n s.rows r i ≡ c) →
      (r ≡ count → get_or row i 0 ≡ c) → char_at n (s.rows ++ row) r i ≡ c
  by_row r i {c} l m old' new' = elim (eqb_tells r count) [
    | inl h ↦ ap (λ k. get_or (s.rows ++ row) k 0) (let p : r * (n + 1) + i ≡ length s.rows + i =
        omega (arith, s.blank.size, ap (λ a. a * (n + 1)) h.1) in p) ∙ get_or-append-add s.rows row i 0 ∙ new' h.1
    | inr h ↦ let k : r < count = omega (arith, l, h.1) in get_or_append_left s.rows row 0 (r * (n + 1) + i) (before r i k m) ∙ old' k
  ]
