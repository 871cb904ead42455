use Rattle.std.proofs.Common.{to_z-of_z}
use mir.Syntax.{w64, w128}
use Rattle.ember_algebra.proofs.Exact.{Code, stored, kept, ◌⊠◌, ◌⊟◌, ◌&◌, done, exact, no_overflow}
use Rattle.ember_algebra.proofs.Size.{small_of_fits}
use Rattle.mesh_certificate.proofs.OnLine.{equal_values}
use Rattle.mesh_certificate.proofs.key.on_line.is_short_moment.Goals as goal

-- a * b - c * d, and lack * w
abbrev left : Code
left = stored w128 (kept 0 ⊠ kept 1) ⊟ stored w128 (kept 2 ⊠ kept 3)

abbrev right : Code
right = kept 4 ⊠ kept 5

pub overflow_sub-result : goal.overflow_sub-result
overflow_sub-result c =
    let i = c.requires.a & small_of_fits w64 c.ranges.b & c.requires.c & small_of_fits w64 c.ranges.d & done in
    rw (to_z-of_z c.ranges.a, to_z-of_z c.ranges.b, to_z-of_z c.ranges.c, to_z-of_z c.ranges.d) (no_overflow i w128 left tt)

pub returns : goal.returns
returns c =
    let i = c.requires.a & small_of_fits w64 c.ranges.b & c.requires.c & small_of_fits w64 c.ranges.d & small_of_fits
    w64 c.ranges.lack & small_of_fits w64 c.ranges.w & done in
    rw (
      to_z-of_z c.ranges.a,
      to_z-of_z c.ranges.b,
      to_z-of_z c.ranges.c,
      to_z-of_z c.ranges.d,
      to_z-of_z c.ranges.lack,
      to_z-of_z c.ranges.w,
    ) (equal_values w128 (no_overflow i w128 left tt) (no_overflow i w128 right tt)
    (exact i left tt) (exact i right tt))
