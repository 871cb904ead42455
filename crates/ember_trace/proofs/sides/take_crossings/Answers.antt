use Rattle.std.proofs.Common.{◌≡◌, ℕ, ◌-◌, sym, ap, ◌∙◌, arith, List, ℤ, pos, ◌+ℤ◌, neg_ℤ, slice_set, slice_index_or}
use Rattle.std.proofs.lemmas.List.{set-get_or}
use mir.Syntax.{w32}
use mir.Val.{to_z, of_z}
use borrow.Author.Differences.{ints}
use Rattle.ember_algebra.specs.Size.{Small}
use Rattle.ember_algebra.proofs.Exact.{input, stored, ◌&◌, done, exact}
use Rattle.ember_law.specs.Counts.{with_more}
use Rattle.ember_trace.proofs.sides.take_crossings.Goals as goal

less_zero : {z : ℤ} → Small 3 z → of_z w32 z ≡ 0 → z ≡ pos 0
less_zero {z} s e = sym (exact (s & done) (stored w32 (input 0)) tt) ∙ ap (λ n. to_z w32 n) e

no_more : (counts : List ℤ) (mesh : ℕ) (z : ℤ) → z ≡ pos 0 → counts ≡ with_more counts mesh (neg_ℤ z)
no_more counts mesh z e =
    let same : (a : ℤ) → a +ℤ neg_ℤ (pos 0) ≡ a = λ a. omega (arith, ints) in
    sym (ap (λ (y : ℤ). with_more counts mesh (neg_ℤ y)) e
    ∙ ap (λ (v : ℤ). slice_set counts (mesh - 1) v) (same (slice_index_or counts (mesh - 1) (pos 0)))
    ∙ set-get_or counts (mesh - 1) (pos 0))

pub returns-then-less-eq0-2-clause-before : goal.returns-then-less-eq0-2-clause-before
returns-then-less-eq0-2-clause-before c = no_more _ c.args.mesh _ (less_zero c.requires.less_before c.if-less-eq0.true)

pub returns-then-less-eq0-2-clause-after : goal.returns-then-less-eq0-2-clause-after
returns-then-less-eq0-2-clause-after c = no_more _ c.args.mesh _ (less_zero c.requires.less_after c.if-less-eq0-2.true)
