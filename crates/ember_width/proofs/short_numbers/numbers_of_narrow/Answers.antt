use Rattle.std.proofs.Common.{◌≡◌, ◌<◌, ◌+◌, ◌^◌, ℕ, ltb, true, unsigned_abs, arith}
use mir.Syntax.{w64}
use Rattle.ember_algebra.specs.Size.{Small}
use Rattle.ember_algebra.proofs.Exact.{stored, kept, ◌&◌, done, exact}
use Rattle.ember_model.specs.declared.point.Spot.{Spot}
use Rattle.ember_model.proofs.Tuples.{same_spot}
use Rattle.ember_point.specs.Points.{spot_of, has_short_numbers}
use Rattle.ember_width.specs.Broad.{most_short}
use Rattle.ember_width.proofs.short_numbers.numbers_of_narrow.Goals as goal

below : (n : ℕ) → ltb n (2 ^ 62) ≡ true → n < 2 ^ 62
below n e = grind arith

-- each of the four numbers is short
numbers_are_short : (s : Spot) → has_short_numbers s ≡ true →
    Small most_short s.x × (Small most_short s.y × (Small most_short s.z × Small most_short s.w))
numbers_are_short s e =
    let l = below (unsigned_abs s.x + unsigned_abs s.y + unsigned_abs s.z + unsigned_abs s.w) e in (
      record { small = omega (arith, l) },
      (record { small = omega (arith, l) }, (record { small = omega (arith, l) }, record { small = omega (arith, l) })),
    )

pub returns : goal.returns
returns c =
    let n = numbers_are_short (spot_of c.args.m.now) c.requires in
    same_spot (exact (n.0 & done) (stored w64 (kept 0)) tt) (exact (n.1.0 & done) (stored w64 (kept 0)) tt)
    (exact (n.1.1.0 & done) (stored w64 (kept 0)) tt) (exact (n.1.1.1 & done) (stored w64 (kept 0)) tt)
