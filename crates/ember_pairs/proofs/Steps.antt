-- What the step of a box answers.
use Rattle.std.proofs.Common.{◌≡◌, ℕ, zero, suc, ◌+◌, ◌<◌, ◌≤◌, refl, sym, ap, ◌∙◌, subst, arith, Bool, true, false}
use Rattle.std.proofs.Common.{if◌then◌else◌, List, [], ◌∷◌, ◌++◌, length, All, Option, None, Some}
use Rattle.std.specs.List.{range_with_len}
use Rattle.std.proofs.lemmas.Bool.{lt-ltb, le-ltb}
use Rattle.ember_model.specs.declared.tri.Tri.{Tri}
use Rattle.ember_model.specs.declared.point.Axis.{Axis}
use Rattle.ember_box.specs.Boxes.{Cell, root, left_half, right_half}
use Rattle.ember_box.specs.Near.{listed, near_indices, all_indices}
use Rattle.ember_box.specs.Halving.{halving_axis, is_leaf}
use Rattle.ember_box.proofs.Lists.{left_places, right_places, is_leaf_listed, halving_axis_listed, near_in_range}
use Rattle.ember_box.proofs.Lists.{all_indices_below}
use Rattle.ember_job.specs.declared.job.Job.{Job}
use Rattle.ember_job.specs.Works.{halved, leafed, passed}
use Rattle.ember_pairs.specs.Works.{at_root, no_windings, job_at, IsPairsJob, pairs_shape}

-- a range of one more number
pub range_more : (a n : ℕ) → range_with_len a (n + 1) ≡ range_with_len a n ++ (a + n) ∷ []
range_more a zero = let e : a ≡ a + 0 = omega arith in ap (λ m. m ∷ []) e
range_more a (suc n) =
    let step : suc n + 1 ≡ suc (n + 1) = omega arith in let e : a + 1 + n ≡ a + suc n = omega arith in
    rw step (ap (λ ns. a ∷ ns) (range_more (a + 1) n ∙ ap (λ m. range_with_len (a + 1) n ++ m ∷ []) e))

-- the root's job is valid
pub root_is_valid : (ts : List Tri) (job : Job) → job ≡ job_at ts root → IsPairsJob ts job
root_is_valid ts job e = subst (λ (j : Job). IsPairsJob ts j) (sym e) (record { from_root = at_root; is = refl })

list_is : (ts : List Tri) (job : Job) → IsPairsJob ts job → job.list ≡ near_indices ts job.cell (all_indices ts)
list_is ts job v = ap (λ (j : Job). j.list) v.is

-- a job of `pairs` lists indices of triangles
pub list_in_range : (ts : List Tri) (job : Job) (list : List ℕ) → IsPairsJob ts job → list ≡ job.list → All (λ i. i < length ts) list
list_in_range ts job list v e =
    subst (λ (is : List ℕ). All (λ i. i < length ts) is) (sym (e ∙ list_is ts job v)) (near_in_range ts job.cell (all_indices ts) (all_indices_below ts))

-- ---- the answers
abbrev leaf_or : Bool → Axis → Option Axis
leaf_or leaf k = if leaf then None else Some k

none_leaf : (leaf : Bool) (k : Axis) → None ≡ leaf_or leaf k → leaf ≡ true
none_leaf true k e = refl
none_leaf false k e = cc

some_leaf : (leaf : Bool) (k j : Axis) → Some j ≡ leaf_or leaf k → leaf ≡ false
some_leaf true k j e = cc
some_leaf false k j e = refl

some_axis : (leaf : Bool) (k j : Axis) → Some j ≡ leaf_or leaf k → j ≡ k
some_axis true k j e = cc
some_axis false k j e = cc

listed_leaf : (ts : List Tri) (job : Job) (list : List ℕ) → IsPairsJob ts job → list ≡ job.list → is_leaf (listed ts list) job.cell ≡ is_leaf ts job.cell
listed_leaf ts job list v e =
    ap (λ (is : List ℕ). is_leaf (listed ts is) job.cell) (e ∙ list_is ts job v) ∙ is_leaf_listed 0 ts job.cell

listed_axis : (ts : List Tri) (job : Job) (list : List ℕ) → IsPairsJob ts job → list ≡ job.list →
    halving_axis (listed ts list) job.cell ≡ halving_axis ts job.cell
listed_axis ts job list v e =
    ap (λ (is : List ℕ). halving_axis (listed ts is) job.cell) (e ∙ list_is ts job v) ∙ halving_axis_listed 0 ts job.cell

-- a job with fewer than two triangles is skipped
pub answers_passed : (ts : List Tri) (job : Job) (list : List ℕ) → list ≡ job.list → length list < 2 → pairs_shape ts job ≡ passed
unfolding pairs_shape
answers_passed ts job list e few =
    let short : length job.list < 2 = subst (λ (is : List ℕ). length is < 2) e few in
    ap (λ b. if b then passed else (if is_leaf ts job.cell then leafed else halved
    (job_at ts (left_half job.cell (halving_axis ts job.cell)))
    (job_at ts (right_half job.cell (halving_axis ts job.cell))))) (lt-ltb (length job.list) 2 short)

-- a job with two or more triangles, whose box is a leaf, is a leaf
pub answers_leaf : (ts : List Tri) (job : Job) (list : List ℕ) → IsPairsJob ts job → list ≡ job.list → 2 ≤ length list →
    None ≡ leaf_or (is_leaf (listed ts list) job.cell) (halving_axis (listed ts list) job.cell) →
    pairs_shape ts job ≡ leafed
unfolding pairs_shape
answers_leaf ts job list v e many a =
    let long : 2 ≤ length job.list = subst (λ (is : List ℕ). 2 ≤ length is) e many in
    let leaf = sym (listed_leaf ts job list v e) ∙ none_leaf (is_leaf (listed ts list) job.cell) (halving_axis (listed ts list) job.cell) a in
    λ i. if le-ltb (length job.list) 2 long i then passed else
    (if leaf i then leafed else halved (job_at ts (left_half job.cell (halving_axis ts job.cell)))
    (job_at ts (right_half job.cell (halving_axis ts job.cell))))

-- the job of a half with its near list from that of the box
left_job : (ts : List Tri) (job : Job) (list : List ℕ) (k : Axis) (half : Cell) (low : Job) → IsPairsJob ts job →
    list ≡ job.list → 0 < job.cell.log k → half ≡ left_half job.cell k →
    low ≡ record { cell = half; list = near_indices ts half list; at = no_windings } →
    low ≡ job_at ts (left_half job.cell k)
left_job ts job list k half low v e p h is =
    is ∙ (λ i. record { cell = h i; list = near_indices ts (h i) (e i); at = no_windings })
    ∙ (λ i. record {
      cell = left_half job.cell k;
      list =
          near_indices ts (left_half job.cell k) (list_is ts job v i);
      at = no_windings;
    })
    ∙ (λ i. record {
      cell = left_half job.cell k;
      list = left_places ts job.cell k (all_indices ts) p i;
      at =
          no_windings;
    })

right_job : (ts : List Tri) (job : Job) (list : List ℕ) (k : Axis) (half : Cell) (high : Job) → IsPairsJob ts job →
    list ≡ job.list → 0 < job.cell.log k → half ≡ right_half job.cell k →
    high ≡ record { cell = half; list = near_indices ts half list; at = no_windings } →
    high ≡ job_at ts (right_half job.cell k)
right_job ts job list k half high v e p h is =
    is ∙ (λ i. record { cell = h i; list = near_indices ts (h i) (e i); at = no_windings })
    ∙ (λ i. record {
      cell = right_half job.cell k;
      list =
          near_indices ts (right_half job.cell k) (list_is ts job v i);
      at = no_windings;
    })
    ∙ (λ i. record {
      cell = right_half job.cell k;
      list = right_places ts job.cell k (all_indices ts) p i;
      at =
          no_windings;
    })

-- any other job has these halves
pub answers_halves : (ts : List Tri) (job : Job) (list : List ℕ) (k : Axis) (left right : Cell) (low high : Job) →
    IsPairsJob ts job → list ≡ job.list → 2 ≤ length list →
    Some k ≡ leaf_or (is_leaf (listed ts list) job.cell) (halving_axis (listed ts list) job.cell) → 0 < job.cell.log k →
    left ≡ left_half job.cell k → right ≡ right_half job.cell k →
    low ≡ record { cell = left; list = near_indices ts left list; at = no_windings } →
    high ≡ record { cell = right; list = near_indices ts right list; at = no_windings } →
    pairs_shape ts job ≡ halved low high
unfolding pairs_shape
answers_halves ts job list k left right low high v e many a p l r is_low is_high =
    let long : 2 ≤ length job.list = subst (λ (is : List ℕ). 2 ≤ length is) e many in
    let leaf = sym (listed_leaf ts job list v e) ∙ some_leaf (is_leaf (listed ts list) job.cell) (halving_axis (listed ts list) job.cell) k a in
    let axis : halving_axis ts job.cell ≡ k = sym (listed_axis ts job list v e)
    ∙ sym (some_axis (is_leaf (listed ts list) job.cell) (halving_axis (listed ts list) job.cell) k a) in
    let f = left_job ts job list k left low v e p l is_low in let g = right_job ts job list k right high v e p r is_high in
    (λ i. if le-ltb (length job.list) 2 long i then passed else
    (if leaf i then leafed else halved (job_at ts (left_half job.cell (axis i)))
    (job_at ts (right_half job.cell (axis i))))) ∙ (λ i. halved (sym f i) (sym g i))
