use Rattle.std.proofs.Common.{pos, SFits}
use mir.Syntax.{w64}
use Rattle.ember_algebra.proofs.Exact.{small_zero}
use Rattle.ember_algebra.proofs.Size.{fits_small}
use Rattle.mesh_certificate.proofs.OnLine.{equal_bits}
use Rattle.mesh_sources.proofs.place.is_zero.Goals as goal

pub returns : goal.returns
returns c =
    let zero : SFits w64 (pos 0) = fits_small w64 (small_zero 0) tt in equal_bits w64 c.ranges.x zero
