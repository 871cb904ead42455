-- Coordinates as the code keeps them.
use Rattle.std.proofs.Common.{◌≡◌, ℤ, pos, ◌+ℤ◌, ◌*ℤ◌, ◌<ℤ◌, sym, subst, to_z, of_z}
use mir.Syntax.{w32, w128}
use Rattle.ember_algebra.specs.Size.{Small}
use Rattle.ember_algebra.proofs.Exact.{input, stored, kept, ◌&◌, done, exact}
use Rattle.ember_width.specs.Broad.{IsRemainder, IsPlace, most_weight}
use Rattle.ember_width.proofs.CubeValues.{remainder_small}

-- a remainder and its weight
pub kept_remainder : {r w : ℤ} → IsRemainder r w → Small most_weight w → IsRemainder (to_z w128 (of_z w128 r)) (to_z w128 (of_z w128 w))
kept_remainder p s = rw (exact (remainder_small p s & done) (kept 0) tt, exact (s & done) (kept 0) tt) p

-- a coordinate
pub kept_coordinate : {q r x w : ℤ} → IsPlace q r x w → Small most_weight w →
    to_z w32 (of_z w32 q) *ℤ to_z w128 (of_z w128 w) +ℤ to_z w128 (of_z w128 r) ≡ x
kept_coordinate p s =
    rw (
      exact (p.small & done) (stored w32 (input 0)) tt,
      exact (s & done) (kept 0) tt,
      exact (remainder_small p.rest s & done) (kept 0) tt,
    ) (sym p.value)

-- a weight
pub kept_weight : {w : ℤ} → Small most_weight w → pos 0 <ℤ w → pos 0 <ℤ to_z w128 (of_z w128 w)
kept_weight s l = subst (λ z. pos 0 <ℤ z) (sym (exact (s & done) (kept 0) tt)) l
