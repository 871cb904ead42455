use Rattle.std.proofs.Common.{to_z-of_z}
use mir.Syntax.{w32, w128}
use Rattle.ember_algebra.proofs.Exact.{Code, stored, kept, ◌⊠◌, ◌⊟◌, ◌&◌, done, exact, no_overflow}
use Rattle.ember_algebra.proofs.Size.{small_of_fits}
use Rattle.mesh_certificate.proofs.key.on_line.short_lack.Goals as goal

-- i b - j d, and what it leaves of m
abbrev floors : Code
floors = stored w128 (kept 0 ⊠ kept 1) ⊟ stored w128 (kept 2 ⊠ kept 3)

abbrev lack : Code
lack = kept 4 ⊟ stored w128 floors

pub overflow_sub-result : goal.overflow_sub-result
overflow_sub-result c =
    let i = small_of_fits w32 c.ranges.i & c.requires.b & small_of_fits w32 c.ranges.j & c.requires.d & done in
    rw (to_z-of_z c.ranges.i, to_z-of_z c.ranges.j) (no_overflow i w128 floors tt)

pub overflow_sub-result-2 : goal.overflow_sub-result-2
overflow_sub-result-2 c =
    let i = small_of_fits w32 c.ranges.i & c.requires.b & small_of_fits w32 c.ranges.j & c.requires.d & c.requires.m & done in
    rw (to_z-of_z c.ranges.i, to_z-of_z c.ranges.j) (no_overflow i w128 lack tt)

pub returns : goal.returns
returns c =
    let i = small_of_fits w32 c.ranges.i & c.requires.b & small_of_fits w32 c.ranges.j & c.requires.d & c.requires.m & done in
    rw (to_z-of_z c.ranges.i, to_z-of_z c.ranges.j) (exact i (stored w128 lack) tt)
