-- The generator's numbers one after another, and the box that six of them draw
use Rattle.std.proofs.Common.{◌≡◌, ℕ, suc, ◌+◌, ◌*◌, ap, ◌∙◌, arith, ℤ, pos, ◌+ℤ◌}
use Rattle.ember_gen.specs.Numbers.{next, state, drawn, place, side}
use Rattle.ember_gen.specs.Blocks.{block_of}

state_after : (j k : ℕ) → k ≡ j + 1 → {s t : ℕ} → s ≡ state j → t ≡ next s → t ≡ state k
unfolding state
state_after j k e p q =
    let up : suc j ≡ k = omega (arith, e) in q ∙ ap next p ∙ ap state up

-- the numbers 6 i + 1 to 6 i + 6
pub record SixStates (i s1 s2 s3 s4 s5 s6 : ℕ) : Type 0 where
  pub first : s1 ≡ state (6 * i + 1)
  pub second : s2 ≡ state (6 * i + 2)
  pub third : s3 ≡ state (6 * i + 3)
  pub fourth : s4 ≡ state (6 * i + 4)
  pub fifth : s5 ≡ state (6 * i + 5)
  pub sixth : s6 ≡ state (6 * i + 6)

-- the six states of a box follow one another
pub six_states : (i : ℕ) {s0 s1 s2 s3 s4 s5 s6 : ℕ} → s0 ≡ state (6 * i) → s1 ≡ next s0 → s2 ≡ next s1 → s3 ≡ next s2 →
    s4 ≡ next s3 → s5 ≡ next s4 → s6 ≡ next s5 → SixStates i s1 s2 s3 s4 s5 s6
six_states i e p1 p2 p3 p4 p5 p6 =
    let q1 = state_after (6 * i) (6 * i + 1) (omega arith) e p1 in
    let q2 = state_after (6 * i + 1) (6 * i + 2) (omega arith) q1 p2 in
    let q3 = state_after (6 * i + 2) (6 * i + 3) (omega arith) q2 p3 in
    let q4 = state_after (6 * i + 3) (6 * i + 4) (omega arith) q3 p4 in
    let q5 = state_after (6 * i + 4) (6 * i + 5) (omega arith) q4 p5 in
    let q6 = state_after (6 * i + 5) (6 * i + 6) (omega arith) q5 p6 in
    record { first = q1; second = q2; third = q3; fourth = q4; fifth = q5; sixth = q6 }

-- after six numbers more the generator has the state of the next box
pub next_six : (i : ℕ) {s1 s2 s3 s4 s5 s6 : ℕ} → SixStates i s1 s2 s3 s4 s5 s6 → s6 ≡ state (6 * (i + 1))
next_six i d = let e : 6 * i + 6 ≡ 6 * (i + 1) = omega arith in d.sixth ∙ ap state e

abbrev place_at : ℕ → ℤ
place_at s = place (drawn s)

abbrev side_at : ℕ → ℤ
side_at s = pos (side (drawn s))

-- the box that six numbers draw
pub block_from : (i : ℕ) {s1 s2 s3 s4 s5 s6 : ℕ} {x y z u v w : ℤ} → SixStates i s1 s2 s3 s4 s5 s6 →
    x ≡ place (drawn s1) → y ≡ place (drawn s2) → z ≡ place (drawn s3) → u ≡ pos (side (drawn s4)) →
    v ≡ pos (side (drawn s5)) → w ≡ pos (side (drawn s6)) →
    record { low = record { x = x; y = y; z = z }; high = record { x = x +ℤ u; y = y +ℤ v; z = z +ℤ w } } ≡ block_of i
unfolding block_of
block_from i d px py pz pu pv pw =
    let x = px ∙ ap place_at d.first in let y = py ∙ ap place_at d.second in let z = pz ∙ ap place_at d.third in
    let u = pu ∙ ap side_at d.fourth in let v = pv ∙ ap side_at d.fifth in let w = pw ∙ ap side_at d.sixth in
    λ k. record { low = record { x = x k; y = y k; z = z k }; high = record { x = x k +ℤ u k; y = y k +ℤ v k; z = z k +ℤ w k } }
