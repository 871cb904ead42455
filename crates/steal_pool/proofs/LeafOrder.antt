-- The leaves of a tree have ascending places, and two visited jobs with one path are one.
use Rattle.std.proofs.Common.{◌≡◌, ℕ, zero, suc, ◌+◌, ◌-◌, ◌*◌, ◌^◌, ◌<◌, ◌≤◌, List, [], ◌∷◌, ◌++◌, refl, sym, ap, ◌∙◌, subst, arith}
use Rattle.std.proofs.Math.Nat.{lt_of_mul-lt-mul_right, pow-succ'}
use Rattle.std.proofs.lemmas.Nat.{pow-add, pow_pos}
use Rattle.std.specs.Int.{leading_zeros, w64}
use Rattle.std.specs.Int.Count.{leading_unique}
use Rattle.ember_box.specs.Boxes.{Cell, halvings_left, root}
use Rattle.ember_box.proofs.HalfCells.{times_one_more, times_next_power}
use Rattle.ember_job.specs.declared.job.Job.{Job}
use Rattle.ember_job.specs.Works.{Shape, halved, leafed, passed, IsSplit, Splits}
use Rattle.ember_job.specs.Visited.{visited, if_leafed, leaves_among}
use Rattle.ember_job.proofs.Leaves.{halved_visits, leaf_visits, passed_visits, leaves_append}
use Rattle.ember_tree.specs.Order.{tree_key}
use Rattle.steal_pool.proofs.Trees.{low_less, high_less}

-- the place of a box among 2^36 smallest ones, and a bound on what is below it
abbrev pub base : Job → ℕ
base j = j.cell.path * 2 ^ halvings_left j.cell

pub record Fits (j : Job) : Type 0 where
  pub few : halvings_left j.cell ≤ 36
  pub from : 2 ^ 36 ≤ j.cell.path * 2 ^ halvings_left j.cell
  pub below : j.cell.path * 2 ^ halvings_left j.cell + 2 ^ halvings_left j.cell ≤ 2 ^ 37

-- a job of the root fits
pub fits_root : (j : Job) → j.cell ≡ root → Fits j
fits_root j at = record {
  few = subst (λ (c : Cell). halvings_left c ≤ 36) (sym at) (omega arith);
  from = subst (λ (c : Cell). 2 ^ 36 ≤ c.path * 2 ^ halvings_left c) (sym at) (omega arith);
  below = subst (λ (c : Cell). c.path * 2 ^ halvings_left c + 2 ^ halvings_left c ≤ 2 ^ 37) (sym at) (omega arith);
}

-- the halves share their box's place
low_base : (p q l m : ℕ) → m + 1 ≡ l → q ≡ 2 * p → (q * 2 ^ m ≡ p * 2 ^ l) × (2 * 2 ^ m ≡ 2 ^ l)
low_base p q l m e is = (
  ap (λ x. x * 2 ^ m) is ∙ (omega arith) ∙ sym (times_next_power p m) ∙ ap (λ n. p * 2 ^ n) same,
  sym (pow-succ' 2 m) ∙
      ap (λ n. 2 ^ n) same,
) where
  same : suc m ≡ l
  same = omega (arith, e)

high_base : (p q l m : ℕ) → m + 1 ≡ l → q ≡ 2 * p + 1 → q * 2 ^ m ≡ p * 2 ^ l + 2 ^ m
high_base p q l m e is = ap (λ x. x * 2 ^ m) is ∙ spread p (2 ^ m) ∙ ap (λ x. x + 2 ^ m) (low_base p (2 * p) l m e refl).0 where
  spread : (p x : ℕ) → (2 * p + 1) * x ≡ 2 * p * x + x
  spread p x = omega arith

-- how deep the halves lie, and where, against their box
pub record AreHalves (j l r : Job) : Type 0 where
  pub low_less : halvings_left l.cell + 1 ≡ halvings_left j.cell
  pub high_less : halvings_left r.cell + 1 ≡ halvings_left j.cell
  pub low_base : base l ≡ base j
  pub high_base : base r ≡ base j + 2 ^ halvings_left r.cell
  pub low_size : 2 * 2 ^ halvings_left l.cell ≡ 2 ^ halvings_left j.cell
  pub high_size : 2 * 2 ^ halvings_left r.cell ≡ 2 ^ halvings_left j.cell

-- the depths and the places of the halves of a box
pub are_halves : (j l r : Job) → IsSplit j.cell l.cell r.cell → AreHalves j l r
are_halves j l r s =
    let low = low_less j.cell l.cell r.cell s in
    let high = high_less j.cell l.cell r.cell s in
    let first = low_base j.cell.path l.cell.path (halvings_left j.cell) (halvings_left l.cell) low (ap (λ (c : Cell). c.path) s.is_low) in record {
      low_less = low;
      high_less = high;
      low_base = first.0;
      high_base = high_base j.cell.path r.cell.path (halvings_left j.cell) (halvings_left r.cell) high (ap (λ (c : Cell). c.path) s.is_high);
      low_size = first.1;
      high_size = (low_base j.cell.path (2 * j.cell.path) (halvings_left j.cell) (halvings_left r.cell) high refl).1;
    }

-- the left half of a box that fits fits
pub fits_low : (j l r : Job) → IsSplit j.cell l.cell r.cell → Fits j → Fits l
fits_low j l r s f =
    let h = are_halves j l r s in record {
      few = omega (arith, f.few, h.low_less);
      from = omega (arith, f.from, h.low_base);
      below = omega (arith, f.below, h.low_base, h.low_size);
    }

-- and so does the right half
pub fits_high : (j l r : Job) → IsSplit j.cell l.cell r.cell → Fits j → Fits r
fits_high j l r s f =
    let h = are_halves j l r s in record {
      few = omega (arith, f.few, h.high_less);
      from = omega (arith, f.from, h.high_base);
      below = omega (arith, f.below, h.high_base, h.high_size);
    }

-- how many leading zeros the path of a box with this depth has
pub zeros_are : (j : Job) → Fits j → halvings_left j.cell + 27 ≡ leading_zeros w64 j.cell.path
zeros_are j f = leading_unique 64 j.cell.path (halvings_left j.cell + 27) (37 - halvings_left j.cell)
    (omega (arith, f.few)) small (omega (arith, twice, large)) where
      whole : 2 ^ (37 - halvings_left j.cell) * 2 ^ halvings_left j.cell ≡ 2 ^ 37
      whole = sym (pow-add 2 (37 - halvings_left j.cell) (halvings_left j.cell)) ∙ ap (λ n. 2 ^ n) (sum (halvings_left j.cell) f.few) where
        sum : (n : ℕ) → n ≤ 36 → 37 - n + n ≡ 37
        sum n few = omega (arith, few)

      half : 2 ^ (36 - halvings_left j.cell) * 2 ^ halvings_left j.cell ≡ 2 ^ 36
      half = sym (pow-add 2 (36 - halvings_left j.cell) (halvings_left j.cell)) ∙ ap (λ n. 2 ^ n) (sum (halvings_left j.cell) f.few) where
        sum : (n : ℕ) → n ≤ 36 → 36 - n + n ≡ 36
        sum n few = omega (arith, few)

      twice : 2 ^ (37 - halvings_left j.cell) ≡ 2 * 2 ^ (36 - halvings_left j.cell)
      twice = ap (λ n. 2 ^ n) (next (halvings_left j.cell) f.few) ∙ pow-succ' 2 (36 - halvings_left j.cell) where
        next : (n : ℕ) → n ≤ 36 → 37 - n ≡ suc (36 - n)
        next n few = omega (arith, few)

      small : j.cell.path < 2 ^ (37 - halvings_left j.cell)
      small = lt_of_mul-lt-mul_right (2 ^ halvings_left j.cell) (omega (arith, whole, f.below, pow_pos (halvings_left j.cell)))

      large : 2 ^ (36 - halvings_left j.cell) < j.cell.path + 1
      large = lt_of_mul-lt-mul_right (2 ^ halvings_left j.cell)
          (omega (arith, half, f.from, times_one_more j.cell.path (2 ^ halvings_left j.cell), pow_pos (halvings_left j.cell)))

-- the place by the path alone
pub place_is : (j : Job) → Fits j → tree_key j.cell.path ≡ base j * 2 ^ 27
place_is j f = ap (λ n. j.cell.path * 2 ^ n) (sym (zeros_are j f))
    ∙ ap (λ x. j.cell.path * x) (pow-add 2 (halvings_left j.cell) 27)
    ∙ assoc j.cell.path (2 ^ halvings_left j.cell) (2 ^ 27) where
      assoc : (a b c : ℕ) → a * (b * c) ≡ a * b * c
      assoc a b c = omega arith

-- these jobs have ascending places, from one bound to another
abbrev pub Within : ℕ → ℕ → List Job → Type 0
Within lo hi [] = lo ≤ hi
Within lo hi (j ∷ js) = (lo ≤ base j) × Fits j × Within (base j + 1) hi js

within_from : (lo low hi : ℕ) (js : List Job) → low ≤ lo → Within lo hi js → Within low hi js
within_from lo low hi [] less w = omega (arith, less, w)
within_from lo low hi (j ∷ js) less w = (omega (arith, less, w.0), w.1, w.2)

within_append : (lo mid hi : ℕ) (xs ys : List Job) → Within lo mid xs → Within mid hi ys → Within lo hi (xs ++ ys)
within_append lo mid hi [] ys a b = within_from mid lo hi ys a b
within_append lo mid hi (x ∷ xs) ys a b = (a.0, a.1, within_append (base x + 1) mid hi xs ys a.2 b)

module _ (shape : Job → Shape) (valid : Job → Type 0) where
  -- the leaves of a job are within its place
  pub leaves_within : (d : ℕ) (j : Job) → halvings_left j.cell ≡ d → Splits shape valid → valid j → Fits j →
      (s : Shape) → shape j ≡ s → Within (base j) (base j + 2 ^ halvings_left j.cell)
      (leaves_among shape (visited shape j))
  leaves_within d j at h v f leafed is =
      subst (λ js. Within (base j) (base j + 2 ^ halvings_left j.cell) (leaves_among shape js)) (sym (leaf_visits shape (halvings_left j.cell) j is))
      (subst (λ s. Within (base j) (base j + 2 ^ halvings_left j.cell) (if_leafed j s ++ [])) (sym is) (
        omega arith,
        f,
        omega (arith, pow_pos (halvings_left j.cell)),
      ))
  leaves_within d j at h v f passed is = subst (λ js. Within (base j) (base j + 2 ^ halvings_left j.cell)
      (leaves_among shape js)) (sym (passed_visits shape (halvings_left j.cell) j is))
      (subst (λ s. Within (base j) (base j + 2 ^ halvings_left j.cell) (if_leafed j s ++ [])) (sym is) (omega arith))
  leaves_within zero j at h v f (halved l r) is = absurd (omega (arith, at, low_less j.cell l.cell r.cell (h j l r v is).1))
  leaves_within (suc d) j at h v f (halved l r) is =
      let k = h j l r v is in
      let both = are_halves j l r k.1 in
      let wl = leaves_within d l (omega (arith, at, both.low_less)) h k.0.0 (fits_low j l r k.1 f) (shape l) refl in
      let wr = leaves_within d r (omega (arith, at, both.high_less)) h k.0.1 (fits_high j l r k.1 f) (shape r) refl in
      subst (λ js. Within (base j) (base j + 2 ^ halvings_left j.cell) (leaves_among shape js))
      (sym (halved_visits shape (halvings_left j.cell) j l r refl is both.low_less both.high_less))
      (subst (λ s. Within (base j) (base j + 2 ^ halvings_left j.cell)
      (if_leafed j s ++ leaves_among shape (visited shape l ++ visited shape r))) (sym is)
      (subst (λ js. Within (base j) (base j + 2 ^ halvings_left j.cell) js)
      (sym (leaves_append shape (visited shape l) (visited shape r)))
      (within_append (base j) (base r) (base j + 2 ^ halvings_left j.cell) (leaves_among shape (visited shape l))
      (leaves_among shape (visited shape r)) (subst (λ n. Within n (base r) (leaves_among shape (visited shape l)))
      both.low_base (subst (λ n. Within (base l) n (leaves_among shape (visited shape l)))
      (omega (arith, both.low_base, both.low_size, both.high_base, both.high_size)) wl))
      (subst (λ n. Within (base r) n (leaves_among shape (visited shape r)))
      (omega (arith, both.high_base, both.high_size)) wr))))
