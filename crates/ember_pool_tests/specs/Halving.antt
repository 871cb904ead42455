-- The step of the tests of runs: a box is halved along x down to a floor, and gives its path there.
use Rattle.std.specs.Prelude.{◌≡◌, ℕ, zero, suc, ◌<◌, [], Bool, true, false, leb, refl}
use Rattle.std.proofs.Common.{sym, ap, ◌∙◌, subst, true≢false}
use Rattle.std.proofs.Math.Nat.{zero-lt-suc}
use Rattle.std.proofs.Math.Dec.{leb-zero}
use Rattle.ember_model.specs.declared.point.Axis.TheVariants.{X}
use Rattle.ember_model.specs.declared.vector.Vector.{Vector}
use Rattle.ember_box.specs.Boxes.{Cell, left_half, right_half}
use Rattle.ember_job.specs.declared.job.Job.{Job}
use Rattle.ember_job.specs.Works.{Shape, halved, leafed, passed, is_halved, IsSplit}

abbrev pub job_of : Cell → Vector → Job
job_of cell at = record { cell = cell; list = []; at = at }

-- a box that may not be halved is a leaf
abbrev pub shape_by : Bool → Job → Shape
shape_by true j = leafed
shape_by false j = halved (job_of (left_half j.cell X) j.at) (job_of (right_half j.cell X) j.at)

-- the floor is the logarithm along x at which a box is a leaf; it is 12 at the root
abbrev pub halving_shape : ℕ → Job → Shape
halving_shape floor j = shape_by (leb (j.cell.log X) floor) j

abbrev pub is_path : Job → ℕ → Type 0
is_path j path = path ≡ j.cell.path

abbrev pub low_of : Job → Shape → Job
low_of j (halved l r) = l
low_of j leafed = j
low_of j passed = j

abbrev pub high_of : Job → Shape → Job
high_of j (halved l r) = r
high_of j leafed = j
high_of j passed = j

split_at : (n floor : ℕ) (j l r : Job) → j.cell.log X ≡ n → (b : Bool) → leb n floor ≡ b →
    shape_by b j ≡ halved l r → IsSplit j.cell l.cell r.cell
split_at n floor j l r at true by e = absurd (true≢false (sym (ap is_halved e)))
split_at zero floor j l r at false by e = absurd (true≢false (sym (leb-zero floor) ∙ by))
split_at (suc n) floor j l r at false by e = record {
  axis = X;
  may_halve = subst (λ m. 0 < m) (sym at) (zero-lt-suc n);
  is_low = ap (λ s. (low_of j s).cell) (sym e);
  is_high = ap (λ s. (high_of j s).cell) (sym e);
}

pub halves_split : (floor : ℕ) (j l r : Job) → halving_shape floor j ≡ halved l r → IsSplit j.cell l.cell r.cell
halves_split floor j l r e = split_at (j.cell.log X) floor j l r refl (leb (j.cell.log X) floor) refl e
