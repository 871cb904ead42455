use Rattle.std.proofs.Common.{List, ℕ, ◌++◌, ap, refl}
use Rattle.mesh_number.proofs.Appended.{on_ok_if}
use Rattle.mesh_refusal.proofs.lines.put_why.Goals as goal

pub returns-in-Unbounded : goal.returns-in-Unbounded
returns-in-Unbounded c = rw c.in-Unbounded.is (on_ok_if _ _ c.extend_from_slice.result c.extend_from_slice.ensures.items refl)

pub returns-in-TooManyWritten : goal.returns-in-TooManyWritten
returns-in-TooManyWritten c =
    rw c.in-TooManyWritten.is
    (on_ok_if _ _ c.extend_from_slice-in-TooManyWritten.result c.extend_from_slice-in-TooManyWritten.ensures.items
    (ap (λ (why : List ℕ). c.args.text.now.items ++ why) c.too_many_text.ensures))

pub returns-in-TooFar : goal.returns-in-TooFar
returns-in-TooFar c =
    rw c.in-TooFar.is
    (on_ok_if _ _ c.extend_from_slice-in-TooFar.result c.extend_from_slice-in-TooFar.ensures.items
    (ap (λ (why : List ℕ). c.args.text.now.items ++ why) c.too_far_text.ensures))
