use Rattle.std.proofs.Common.{◌≡◌, ℤ, pos, negsuc, neg_ℤ, ◌*ℤ◌, ◌<ℤ◌, true, false, ◌∙◌, sym, ap, subst, refl, arith}
use Rattle.std.proofs.lemmas.Int.{ints}
use mir.Syntax.{w128}
use mir.Val.{to_z, of_z}
use lib.Signed.{lt_z}
use Rattle.ember_algebra.specs.Size.{Small}
use Rattle.ember_algebra.proofs.Laws.{linear}
use Rattle.ember_algebra.proofs.Order.{sign_pos, sign_neg, by_sign}
use Rattle.ember_algebra.proofs.Exact.{stored, kept, number, ◌⊟◌, ◌&◌, done, exact, bounded}
use Rattle.ember_algebra.proofs.Size.{small_neg}
use Rattle.ember_model.proofs.Tuples.{same_spot}
use Rattle.ember_width.specs.Broad.{most_weight}
use Rattle.ember_width.proofs.meeting.point_with.Goals as goal

abbrev Weighs : ℤ → Type 0
Weighs w = Small most_weight w

-- what the tests of the weight say
zero : {w : ℤ} → Weighs w → of_z w128 w ≡ 0 → w ≡ pos 0
zero {w} s e = sym (exact (s & done) (kept 0) tt) ∙ ap (λ n. to_z w128 n) e

nonzero : {w : ℤ} → (of_z w128 w ≡ 0 → ⊥) → w ≡ pos 0 → ⊥
nonzero {w} n e = n (ap (λ z. of_z w128 z) e)

negative : {w : ℤ} → Weighs w → lt_z (to_z w128 (of_z w128 w)) (pos 0) ≡ true → w <ℤ pos 0
negative {w} s l = let e = exact (s & done) (kept 0) tt in omega (arith, e, l, ints)

above : {w : ℤ} → Weighs w → (of_z w128 w ≡ 0 → ⊥) → lt_z (to_z w128 (of_z w128 w)) (pos 0) ≡ false → pos 0 <ℤ w
above {w} s n l =
    let e = exact (s & done) (kept 0) tt in
    by_sign w (λ p. p) (λ z. absurd (nonzero n z)) (λ p. absurd (omega (arith, e, l, p, ints)))

once : (s a : ℤ) → s ≡ pos 1 → a ≡ s *ℤ a
once s a e = rw e (omega (arith, linear))

turned : (s a b : ℤ) → s ≡ negsuc 0 → b ≡ neg_ℤ a → b ≡ s *ℤ a
turned s a b e h = rw e (omega (arith, linear, h))

opposite : {m : _} {a b : ℤ} → b ≡ neg_ℤ a → Small m a → Small m b
opposite {m} e s = subst (λ (z : ℤ). Small m z) (sym e) (small_neg s)

pub point_of-requires-clause-x : goal.point_of-requires-clause-x
point_of-requires-clause-x c = opposite c.turned.ensures c.requires.x

pub point_of-requires-clause-y : goal.point_of-requires-clause-y
point_of-requires-clause-y c = opposite c.turned-then-w-lt0.ensures c.requires.y

pub point_of-requires-clause-z : goal.point_of-requires-clause-z
point_of-requires-clause-z c = opposite c.turned-then-w-lt0-2.ensures c.requires.z

pub point_of-requires-clause-w : goal.point_of-requires-clause-w
point_of-requires-clause-w c = bounded (c.requires.w & done) most_weight (stored w128 (number (pos 0) ⊟ kept 0)) tt

pub point_of-requires-clause-weight : goal.point_of-requires-clause-weight
point_of-requires-clause-weight c =
    let m = exact (c.requires.w & done) (stored w128 (number (pos 0) ⊟ kept 0)) tt in
    let l = negative c.requires.w c.if-w-lt0.true in omega (arith, m, l, ints)

pub point_of-requires-else-w-lt0-clause-w : goal.point_of-requires-else-w-lt0-clause-w
point_of-requires-else-w-lt0-clause-w c = bounded (c.requires.w & done) most_weight (kept 0) tt

pub point_of-requires-else-w-lt0-clause-weight : goal.point_of-requires-else-w-lt0-clause-weight
point_of-requires-else-w-lt0-clause-weight c =
    subst (λ z. pos 0 <ℤ z) (sym (exact (c.requires.w & done) (kept 0) tt)) (above c.requires.w c.if-w-eq0.false c.if-w-lt0.false)

pub returns-then-w-eq0-clause-none : goal.returns-then-w-eq0-clause-none
returns-then-w-eq0-clause-none c = (λ e. zero c.requires.w c.if-w-eq0.true, λ e. refl)

pub returns-then-w-lt0-clause-some : goal.returns-then-w-lt0-clause-some
returns-then-w-lt0-clause-some c =
    let e = sign_neg (negative c.requires.w c.if-w-lt0.true) in
    let m = exact (c.requires.w & done) (stored w128 (number (pos 0) ⊟ kept 0)) tt in
    λ s i. c.point_of.ensures ∙ same_spot (turned _ _ _ e c.turned.ensures) (turned _ _ _ e c.turned-then-w-lt0.ensures)
    (turned _ _ _ e c.turned-then-w-lt0-2.ensures) (turned _ _ _ e (omega (arith, linear, m))) ∙ i

pub returns-else-w-lt0-clause-some : goal.returns-else-w-lt0-clause-some
returns-else-w-lt0-clause-some c =
    let e = sign_pos (above c.requires.w c.if-w-eq0.false c.if-w-lt0.false) in
    λ s i. c.point_of-else-w-lt0.ensures ∙ same_spot (once _ _ e) (once _ _ e) (once _ _ e) (exact (c.requires.w & done) (kept 0) tt ∙ once _ _ e) ∙ i
