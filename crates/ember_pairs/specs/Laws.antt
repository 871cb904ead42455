-- The laws of the work: the halves of a valid job are valid and are the halves of its box, and a list of
-- indices has one list of meeting pairs.
use Rattle.std.specs.Prelude.{◌≡◌, ℕ, ◌<◌, refl, Bool, true, false, if◌then◌else◌, nat_lt, List, length}
use Rattle.std.proofs.Common.{sym, ap, subst, true≢false}
use Rattle.ember_algebra.proofs.Relations.{each_unique}
use Rattle.ember_model.specs.declared.tri.Tri.{Tri}
use Rattle.ember_box.specs.Boxes.{left_half, right_half}
use Rattle.ember_box.specs.Halving.{halving_axis, is_leaf}
use Rattle.ember_box.proofs.Halvable.{halvable_unless_leaf}
use Rattle.ember_job.specs.declared.job.Job.{Job}
use Rattle.ember_job.specs.Works.{Shape, halved, leafed, passed, is_halved, IsSplit}
use Rattle.ember_pairs.specs.declared.pair.Pair.{Pair}
use Rattle.ember_pairs.specs.Pairs.{AtPair, meeting, apart, AreMeetingPairs}
use Rattle.ember_pairs.specs.Works.{low_half, high_half, job_at, IsPairsJob, pairs_shape}

abbrev low_of : Job → Shape → Job
low_of job (halved low high) = low
low_of job leafed = job
low_of job passed = job

abbrev high_of : Job → Shape → Job
high_of job (halved low high) = high
high_of job leafed = job
high_of job passed = job

-- these are the halves of a job that is halved
record AreHalvesOf (ts : List Tri) (job low high : Job) : Type 0 where
  may_halve : 0 < job.cell.log (halving_axis ts job.cell)
  is_low : low ≡ job_at ts (left_half job.cell (halving_axis ts job.cell))
  is_high : high ≡ job_at ts (right_half job.cell (halving_axis ts job.cell))

are_halves : (ts : List Tri) (job low high : Job) → pairs_shape ts job ≡ halved low high → AreHalvesOf ts job low high
unfolding pairs_shape
are_halves ts job low high e = by (nat_lt (length job.list) 2) (is_leaf ts job.cell) refl e
  where
    by : (few leaf : Bool) → is_leaf ts job.cell ≡ leaf →
        (if few then passed else (if leaf then leafed
        else halved (job_at ts (left_half job.cell (halving_axis ts job.cell)))
        (job_at ts (right_half job.cell (halving_axis ts job.cell))))) ≡ halved low high → AreHalvesOf ts job low high
    by true leaf q e = absurd (true≢false (sym (ap is_halved e)))
    by false true q e = absurd (true≢false (sym (ap is_halved e)))
    by false false q e =
        record {
          may_halve = halvable_unless_leaf 0 ts job.cell q;
          is_low = ap (low_of job) (sym e);
          is_high = ap
              (high_of job) (sym e);
        }

-- the halves of a valid job are valid
pub halves_are_valid : (ts : List Tri) (job low high : Job) → IsPairsJob ts job →
    pairs_shape ts job ≡ halved low high → IsPairsJob ts low × IsPairsJob ts high
halves_are_valid ts job low high v e =
    let h = are_halves ts job low high e in (
      subst (λ (j : Job). IsPairsJob ts j) (sym h.is_low)
          (record {
            from_root = low_half job.cell v.from_root h.may_halve;
            is = refl;
          }),
      subst (λ (j : Job). IsPairsJob ts j) (sym h.is_high) (record {
        from_root =
            high_half job.cell v.from_root h.may_halve;
        is = refl;
      }),
    )

-- and they are jobs of the two halves of its box
pub halves_are_split : (ts : List Tri) (job low high : Job) → IsPairsJob ts job →
    pairs_shape ts job ≡ halved low high → IsSplit job.cell low.cell high.cell
halves_are_split ts job low high v e =
    let h = are_halves ts job low high e in
    record {
      axis = halving_axis ts job.cell;
      may_halve = h.may_halve;
      is_low = ap (λ (j : Job). j.cell) h.is_low;
      is_high = ap (λ (j : Job). j.cell) h.is_high;
    }

-- ---- one list of meeting pairs
one_at : (ts : List Tri) (p : Pair) (ys zs : List Pair) → AtPair ts p ys → AtPair ts p zs → ys ≡ zs
one_at ts p ys zs (meeting m) (meeting n) = refl
one_at ts p ys zs (meeting m) (apart n) = absurd (n m)
one_at ts p ys zs (apart m) (meeting n) = absurd (m n)
one_at ts p ys zs (apart m) (apart n) = refl

-- listed triangles have one list of meeting pairs
pub one_list : (ts : List Tri) (indices : List ℕ) (ps qs : List Pair) → AreMeetingPairs ts indices ps →
    AreMeetingPairs ts indices qs → ps ≡ qs
one_list ts indices ps qs e d = each_unique (one_at ts) e d
