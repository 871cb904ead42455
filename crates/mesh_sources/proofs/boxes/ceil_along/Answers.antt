use Rattle.std.proofs.Common.{SFits, to_z-of_z, pos, rules}
use mir.Syntax.{w32, w64}
use Rattle.ember_algebra.proofs.Exact.{input, number, stored, ◌⊞◌, ◌&◌, done, exact}
use Rattle.ember_algebra.proofs.Size.{small_of_fits}
use Rattle.mesh_sources.proofs.Floors.{whole_is_exact, next_is_exact, floor_in_64, rest_is_zero, rest_is_nonzero}
use Rattle.mesh_sources.proofs.boxes.ceil_along.Goals as goal

pub returns-then-at-eq0 : goal.returns-then-at-eq0
returns-then-at-eq0 c z =
    let at = c.along-at.result in let f : SFits w32 at.floor = search rules in
    whole_is_exact at c.along-at.ensures.weight c.along-at.ensures.value _ z (rest_is_zero at c.if-at-eq0.true) (floor_in_64 f)

pub returns-else-at-eq0 : goal.returns-else-at-eq0
returns-else-at-eq0 c z =
    let at = c.along-at.result in let f : SFits w32 at.floor = search rules in
    next_is_exact at c.along-at.ensures.weight c.along-at.ensures.value _ z (rest_is_nonzero at c.if-at-eq0.false)
    (rw (to_z-of_z f) (exact (small_of_fits w32 f & done) (stored w64 (stored w64 (input 0) ⊞ number (pos 1))) tt))
