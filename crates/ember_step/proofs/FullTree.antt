-- The visited leaves give what all leaves of the full tree give.
use Rattle.std.proofs.Common.{◌≡◌, ℕ, zero, suc, pred, ◌^◌, ◌<◌, ◌≤◌, lit<, Bool, true, false, Option, None, Some, List, []}
use Rattle.std.proofs.Common.{◌∷◌, ◌++◌, append_assoc, ℤ, pos, ◌+ℤ◌, ◌<ℤ◌, ◌≤ℤ◌, refl, sym, ap, ap₂, ◌∙◌, subst, arith}
use borrow.Author.Differences.{ints}
use Rattle.ember_algebra.specs.Relations.{Each, none, more}
use Rattle.ember_algebra.proofs.Laws.{linear}
use Rattle.ember_algebra.proofs.Order.{mul_le}
use Rattle.ember_algebra.proofs.Ring.{◌⊗◌, ◌≈◌, solve, cancels}
use Rattle.ember_algebra.proofs.Relations.{each_append}
use Rattle.ember_model.specs.declared.point.Spot.{Spot}
use Rattle.ember_model.specs.declared.point.Axis.{Axis}
use Rattle.ember_model.specs.declared.point.Axis.TheVariants.{X, Y, Z}
use Rattle.ember_model.specs.declared.tri.Tri.{Tri}
use Rattle.ember_model.specs.Limits.{narrow_limit, most_meshes}
use Rattle.ember_model.specs.Within.{normal_limit}
use Rattle.ember_model.specs.Meshes.{IsScene}
use Rattle.ember_expr.specs.Formula.{Formula, IsFit}
use Rattle.ember_width.specs.Scenes.{IsSceneWithin}
use Rattle.ember_box.specs.Boxes.{Cell, halvings_left, left_half, right_half, in_steps}
use Rattle.ember_box.specs.Aabbs.{interval_between}
use Rattle.ember_box.specs.Near.{near}
use Rattle.ember_box.specs.Halving.{halving_axis_on, is_leaf_on, leaves_within_on}
use Rattle.ember_box.proofs.InSteps.{above_in_steps, left_in_steps, right_in_steps}
use Rattle.ember_box.proofs.Halvable.{halvable_unless_leaf}
use Rattle.ember_box.proofs.NearByAabbs.{halves_end}
use Rattle.ember_box.proofs.HalfCells.{left_less}
use Rattle.ember_box.proofs.Lists.{halving_axis_near, is_leaf_near}
use Rattle.ember_ref.specs.ClosedBoxes.{IsAcross, HasPoint}
use Rattle.ember_leaf.specs.declared.kept.Kept.{Kept}
use Rattle.ember_leaf.specs.KeptRegions.{NarrowKept}
use Rattle.ember_leaf.specs.Written.{IsWrittenIn}
use Rattle.ember_leaf.specs.Scenes.{HasOneValue, LeafGivesOn, regions, nothing, IsWrittenOn, IsWritten}
use Rattle.ember_job.specs.declared.job.Job.{Job}
use Rattle.ember_job.specs.Works.{Shape, halved, leafed, passed}
use Rattle.ember_job.specs.Visited.{leaves}
use Rattle.ember_job.proofs.Leaves.{under, under_leaf, under_passed, under_halved}
use Rattle.ember_visit.specs.Jobs.{near_of, IsJobOn, root_job_on, left_job_on, right_job_on, root_job}
use Rattle.ember_visit.specs.Values.{box_value, unless_known, leaf_or, shape_on, shape}
use Rattle.ember_visit.proofs.IndexLists.{scene_within, near_listed}
use Rattle.ember_visit.proofs.Laws.{root_is_job, halves_are_jobs_on}
use Rattle.ember_step.specs.Boxes.{IsWrittenInBox}
use Rattle.ember_step.proofs.KnownBesideBox.{known_has_one_on}

-- ---- a half of a box lies in it
narrower : (l h from to x w : ℤ) → pos 0 <ℤ w → l ≤ℤ from → to ≤ℤ h → IsAcross (interval_between from to) x w → IsAcross (interval_between l h) x w
narrower l h from to x w p a b f =
    let z : pos 0 ≤ℤ w = omega (arith, linear, p) in let turn = λ (u : ℤ). solve 2 (λ u w. u ⊗ w ≈ w ⊗ u) cancels u w in
    record { from = omega (arith, linear, mul_le z a, f.from, turn l, turn from); to = omega (arith, linear, mul_le z b, f.to, turn h, turn to) }

in_low : (l : ℤ) (n : ℕ) (x w : ℤ) → 0 < n → pos 0 <ℤ w → IsAcross (interval_between l (l +ℤ pos (2 ^ pred n))) x w →
    IsAcross (interval_between l (l +ℤ pos (2 ^ n))) x w
in_low l n x w may p f =
    let e = halves_end l n may in
    narrower l (l +ℤ pos (2 ^ n)) l (l +ℤ pos (2 ^ pred n)) x w p (omega (arith, linear)) (omega (arith, ints, e)) f

in_high : (l : ℤ) (n : ℕ) (x w : ℤ) → 0 < n → pos 0 <ℤ w →
    IsAcross (interval_between (l +ℤ pos (2 ^ pred n)) (l +ℤ pos (2 ^ pred n) +ℤ pos (2 ^ pred n))) x w →
    IsAcross (interval_between l (l +ℤ pos (2 ^ n))) x w
in_high l n x w may p f =
    let e = halves_end l n may in
    narrower l (l +ℤ pos (2 ^ n)) (l +ℤ pos (2 ^ pred n)) (l +ℤ pos (2 ^ pred n) +ℤ pos (2 ^ pred n)) x w p (omega (arith, ints)) (omega (arith, ints, e)) f

has_left : (c : Cell) (k : Axis) (v : Spot) → 0 < c.log k → HasPoint (left_half c k) v → HasPoint c v
has_left c X v may h =
    record { weight = h.weight; on_x = in_low c.lo.x (c.log X) v.x v.w may h.weight h.on_x; on_y = h.on_y; on_z = h.on_z }
has_left c Y v may h =
    record { weight = h.weight; on_x = h.on_x; on_y = in_low c.lo.y (c.log Y) v.y v.w may h.weight h.on_y; on_z = h.on_z }
has_left c Z v may h =
    record { weight = h.weight; on_x = h.on_x; on_y = h.on_y; on_z = in_low c.lo.z (c.log Z) v.z v.w may h.weight h.on_z }

has_right : (c : Cell) (k : Axis) (v : Spot) → 0 < c.log k → HasPoint (right_half c k) v → HasPoint c v
has_right c X v may h =
    record { weight = h.weight; on_x = in_high c.lo.x (c.log X) v.x v.w may h.weight h.on_x; on_y = h.on_y; on_z = h.on_z }
has_right c Y v may h =
    record { weight = h.weight; on_x = h.on_x; on_y = in_high c.lo.y (c.log Y) v.y v.w may h.weight h.on_y; on_z = h.on_z }
has_right c Z v may h =
    record { weight = h.weight; on_x = h.on_x; on_y = h.on_y; on_z = in_high c.lo.z (c.log Z) v.z v.w may h.weight h.on_z }

-- ---- on a grid on which a unit has 2^u steps
-- what a leaf gives, by its box in units
abbrev Gives : {W M : Type 0} → ℕ → List Tri → Formula → Cell → List (Kept W M) → Type 0
Gives u ts x c ks = LeafGivesOn ts x (in_steps u c) ks

-- the halves of a box of one value, in steps, have that value
one_in_left : (u : ℕ) (ts : List Tri) (x : Formula) (c : Cell) (k : Axis) → 0 < c.log k → HasOneValue ts x (in_steps u c) → HasOneValue ts x (in_steps u (left_half c k))
one_in_left u ts x c k may h =
    subst (HasOneValue ts x) (left_in_steps u c k may)
    (record { value = h.value; beside = λ v p. h.beside v (has_left (in_steps u c) k v (above_in_steps u c k may) p) })

one_in_right : (u : ℕ) (ts : List Tri) (x : Formula) (c : Cell) (k : Axis) → 0 < c.log k → HasOneValue ts x (in_steps u c) → HasOneValue ts x (in_steps u (right_half c k))
one_in_right u ts x c k may h =
    subst (HasOneValue ts x) (right_in_steps u c k may)
    (record { value = h.value; beside = λ v p. h.beside v (has_right (in_steps u c) k v (above_in_steps u c k may) p) })

-- no leaf below a box of one value gives anything
none_below : {W M : Type 0} (u : ℕ) (ts : List Tri) (x : Formula) (n : ℕ) (c : Cell) → HasOneValue ts x (in_steps u c) →
    Each (Gives {W = W} {M = M} u ts x) (leaves_within_on u ts n c) []
none_below u ts x zero c h = more (nothing h) none
none_below {W} {M} u ts x (suc n) c h = by (is_leaf_on u ts c) refl (λ d one. none_below u ts x n d one)
  where
    by : (b : Bool) → is_leaf_on u ts c ≡ b → ((d : Cell) → HasOneValue ts x (in_steps u d) →
        Each (Gives {W = W} {M = M} u ts x) (leaves_within_on u ts n d) []) →
        Each (Gives {W = W} {M = M} u ts x) (elim b [
          | true ↦ c ∷ []
          | false ↦ leaves_within_on u ts n (left_half c (halving_axis_on u ts c))
              ++ leaves_within_on u ts n (right_half c (halving_axis_on u ts c))
        ]) []
    by true e below = more (nothing h) none
    by false e below =
        let k = halving_axis_on u ts c in let may = halvable_unless_leaf u ts c e in
        each_append (below (left_half c k) (one_in_left u ts x c k may h)) (below (right_half c k) (one_in_right u ts x c k may h))

-- ---- what two lists give together
record Parted {A B : Type 0} (R : A → List B → Type 0) (us vs : List A) (ys : List B) : Type 0 where
  first : List B
  second : List B
  is : ys ≡ first ++ second
  firsts : Each R us first
  seconds : Each R vs second

parted : {A B : Type 0} {R : A → List B → Type 0} (us vs : List A) (ys : List B) → Each R (us ++ vs) ys → Parted R us vs ys
parted [] vs ys r = record { first = []; second = ys; is = refl; firsts = none; seconds = r }
parted (u ∷ us) vs ys (more {ys = a} {zs = b} q r) =
    let h = parted us vs b r in
    record {
      first = a ++ h.first;
      second = h.second;
      is =
          ap (λ l. a ++ l) h.is ∙ sym (append_assoc a h.first h.second);
      firsts = more q h.firsts;
      seconds = h.seconds;
    }

module _ (W M : Type 0) (u m fine : ℕ) (tells : normal_limit m < fine) (ts : List Tri) (scene : IsSceneWithin m ts most_meshes) (f : Formula)
    (fit : IsFit 64 f) where
  abbrev of : Job → Shape
  of = shape_on u fine ts f

  abbrev Writes : Job → List (Kept W M) → Type 0
  Writes job ks = IsWrittenInBox u ts f job.cell ks

  -- what the visited leaves under a job give, the leaves under its box give
  abbrev GivesUnder : ℕ → Job → Type 0
  GivesUnder depth job =
      (ks : List (Kept W M)) → Each Writes (under of depth job) ks → Each (Gives u ts f) (leaves_within_on u ts depth job.cell) ks

  by_shape : (j : Job) (v : Option Bool) (l : Bool) → box_value ts f j ≡ v → is_leaf_on u (near_of ts j) j.cell ≡ l →
      of j ≡ unless_known v (leaf_or l (halved (left_job_on u ts j (halving_axis_on u (near_of ts j) j.cell))
      (right_job_on u fine ts j (halving_axis_on u (near_of ts j) j.cell))))
  unfolding shape_on
  by_shape j v l e q =
      ap₂ (λ v l. unless_known v (leaf_or l (halved (left_job_on u ts j (halving_axis_on u (near_of ts j) j.cell))
      (right_job_on u fine ts j (halving_axis_on u (near_of ts j) j.cell))))) e q

  -- the triangles that a job lists decide as all do whether its box is a leaf
  same_leaf : (j : Job) → IsJobOn u fine ts j → is_leaf_on u (near_of ts j) j.cell ≡ is_leaf_on u ts j.cell
  same_leaf j is = ap (λ (us : List Tri). is_leaf_on u us j.cell) (sym (near_listed ts j is)) ∙ is_leaf_near u ts j.cell

  passed_gives : (depth : ℕ) (j : Job) → IsJobOn u fine ts j → (known : Bool) → box_value ts f j ≡ Some known → of j ≡ passed → GivesUnder depth j
  passed_gives depth j is known e s ks r =
      nil ks (subst (λ (js : List Job). Each Writes js ks) (under_passed of depth j s) r)
    where
      nil : (ks : List (Kept W M)) → Each Writes [] ks → Each (Gives u ts f) (leaves_within_on u ts depth j.cell) ks
      nil ks none = none_below u ts f depth j.cell (known_has_one_on u m fine tells ts scene f fit j is known e)

  leaf_gives : (j : Job) (ks : List (Kept W M)) → Each Writes (j ∷ []) ks → Each (Gives u ts f) (j.cell ∷ []) ks
  leaf_gives j ks (more w none) = more (regions w) none

  leafed_gives : (depth : ℕ) (j : Job) → is_leaf_on u ts j.cell ≡ true → of j ≡ leafed → GivesUnder depth j
  leafed_gives depth j e s ks r =
      by depth (leaf_gives j ks (subst (λ (js : List Job). Each Writes js ks) (under_leaf of depth j s) r))
    where
      by : (depth : ℕ) → Each (Gives u ts f) (j.cell ∷ []) ks → Each (Gives u ts f) (leaves_within_on u ts depth j.cell) ks
      by zero r = r
      by (suc n) r = rw (e, leaves_within_on) r

  gives : (depth : ℕ) (j : Job) → halvings_left j.cell ≤ depth → IsJobOn u fine ts j → GivesUnder depth j
  gives zero j few is = by (box_value ts f j) (is_leaf_on u ts j.cell) refl refl
    where
      by : (v : Option Bool) (l : Bool) → box_value ts f j ≡ v → is_leaf_on u ts j.cell ≡ l → GivesUnder zero j
      by (Some known) l e q = passed_gives zero j is known e (by_shape j (Some known) l e (same_leaf j is ∙ q))
      by None true e q = leafed_gives zero j q (by_shape j None true e (same_leaf j is ∙ q))
      by None false e q =
          absurd (omega (arith, few, left_less j.cell (halving_axis_on u ts j.cell) (halvable_unless_leaf u ts j.cell q)))
  gives (suc depth) j few is = by (box_value ts f j) (is_leaf_on u ts j.cell) refl refl (gives depth)
    where
      by : (v : Option Bool) (l : Bool) → box_value ts f j ≡ v → is_leaf_on u ts j.cell ≡ l →
          ((half : Job) → halvings_left half.cell ≤ depth → IsJobOn u fine ts half → GivesUnder depth half) → GivesUnder (suc depth) j
      by (Some known) l e q half = passed_gives (suc depth) j is known e (by_shape j (Some known) l e (same_leaf j is ∙ q))
      by None true e q half = leafed_gives (suc depth) j q (by_shape j None true e (same_leaf j is ∙ q))
      by None false e q half = λ ks r.
          let k = halving_axis_on u ts j.cell in let low = left_job_on u ts j (halving_axis_on u (near_of ts j) j.cell) in let high =
          right_job_on u fine ts j (halving_axis_on u (near_of ts j) j.cell) in
          let same : halving_axis_on u (near_of ts j) j.cell ≡ k =
          ap (λ (us : List Tri). halving_axis_on u us j.cell) (sym (near_listed ts j is)) ∙ halving_axis_near u ts j.cell in
          let s : of j ≡ halved low high = by_shape j None false e (same_leaf j is ∙ q) in
          let both = halves_are_jobs_on u fine ts f j low high m tells scene is s in
          let less = left_less j.cell k (halvable_unless_leaf u ts j.cell q) in
          let fewer : halvings_left low.cell ≤ depth = omega (arith, few, less, ap (λ (k : Axis). halvings_left (left_half j.cell k)) same) in
          let fewer_too : halvings_left high.cell ≤ depth = omega (arith, few, less, ap (λ (k : Axis). halvings_left (left_half j.cell k)) same) in
          let p = parted (under of depth low) (under of depth high) ks (subst (λ (js : List Job). Each Writes js ks) (under_halved of depth j low high s) r) in
          let a = subst (λ (k : Axis). Each (Gives u ts f) (leaves_within_on u ts depth (left_half j.cell k)) p.first) same
          (half low fewer both.0 p.first p.firsts) in
          let b = subst (λ (k : Axis). Each (Gives u ts f) (leaves_within_on u ts depth (right_half j.cell k)) p.second)
          same (half high fewer_too both.1 p.second p.seconds) in
          rw (q, leaves_within_on) (subst (λ (ls : List (Kept W M)). Each (Gives u ts f)
          (leaves_within_on u ts depth (left_half j.cell k) ++ leaves_within_on u ts depth (right_half j.cell k)) ls) (sym p.is)
          (each_append a b))

  -- the regions that the visited leaves write are those of the full tree, if the root's job is a job of the scene
  pub visited_written_on : IsJobOn u fine ts (root_job_on u ts) → (ks : List (Kept W M)) →
      Each Writes (leaves of (root_job_on u ts)) ks → IsWrittenOn u ts f ks
  visited_written_on is ks r = gives (halvings_left (root_job_on u ts).cell) (root_job_on u ts) (omega arith) is ks r

-- on the narrow grid
pub visited_written : (ts : List Tri) (count : ℕ) → IsScene ts count → (f : Formula) → IsFit 64 f → (ks : List NarrowKept) →
    Each (λ job ks. IsWrittenIn ts f job.cell (near ts job.cell) ks) (leaves (shape ts f) (root_job ts)) ks → IsWritten ts f ks
visited_written ts count scene f fit ks r =
    visited_written_on _ _ 0 narrow_limit (2 ^ 27) (lit< tt) ts (scene_within ts count scene) f fit (root_is_job ts count scene) ks r
