use Rattle.std.proofs.Common.{[], ◌∷◌, refl, ap, unsigned_abs, SFits, to_z-of_z, rules}
use mir.Syntax.{w64, w128}
use Rattle.ember_algebra.proofs.Exact.{Code, stored, kept, ◌&◌, done, exact}
use Rattle.mesh_certificate.specs.Key.Divisors.{IsGreatestDivisor}
use Rattle.mesh_certificate.proofs.Divisors.{greatest_divisor_more, same_gcd, gcd_nonzero}
use Rattle.mesh_certificate.proofs.LineLaws.{divisor_nonzero}
use Rattle.mesh_certificate.proofs.key.lines.short_divisor.Goals as goal

-- an entry as it is cast
abbrev short : Code
short = stored w64 (kept 0)

pub divisor_with-with_x-requires : goal.divisor_with-with_x-requires
divisor_with-with_x-requires c =
    let l = c.args.line.now in let s = c.requires in
    let i : IsGreatestDivisor (l.dx ∷ l.dy ∷ l.dz ∷ []) c.divisor_of_three-of_direction.result =
    rw (exact (s.dx & done) short tt, exact (s.dy & done) short tt, exact (s.dz & done) short tt) at
    c.divisor_of_three-of_direction.ensures in
    divisor_nonzero l c.requires.direction i.divides.0 i.divides.1.0 i.divides.1.1.0

pub divisor_with-with_y-requires : goal.divisor_with-with_y-requires
divisor_with-with_y-requires c =
    let l = c.args.line.now in let s = c.requires in
    let i : IsGreatestDivisor (l.dx ∷ l.dy ∷ l.dz ∷ []) c.divisor_of_three-of_direction.result =
    rw (exact (s.dx & done) short tt, exact (s.dy & done) short tt, exact (s.dz & done) short tt) at
    c.divisor_of_three-of_direction.ensures in
    gcd_nonzero c.divisor_with-with_x.ensures (divisor_nonzero l c.requires.direction i.divides.0 i.divides.1.0 i.divides.1.1.0)

pub divisor_with-requires : goal.divisor_with-requires
divisor_with-requires c =
    let l = c.args.line.now in let s = c.requires in
    let i : IsGreatestDivisor (l.dx ∷ l.dy ∷ l.dz ∷ []) c.divisor_of_three-of_direction.result =
    rw (exact (s.dx & done) short tt, exact (s.dy & done) short tt, exact (s.dz & done) short tt) at
    c.divisor_of_three-of_direction.ensures in
    gcd_nonzero c.divisor_with-with_y.ensures (gcd_nonzero c.divisor_with-with_x.ensures
    (divisor_nonzero l c.requires.direction i.divides.0 i.divides.1.0 i.divides.1.1.0))

pub returns : goal.returns
returns c =
    let l = c.args.line.now in let s = c.requires in
    let i : IsGreatestDivisor (l.dx ∷ l.dy ∷ l.dz ∷ []) c.divisor_of_three-of_direction.result =
    rw (exact (s.dx & done) short tt, exact (s.dy & done) short tt, exact (s.dz & done) short tt) at
    c.divisor_of_three-of_direction.ensures in
    let mx : SFits w128 l.mx = search rules in let my : SFits w128 l.my = search rules in let mz : SFits w128 l.mz = search rules in
    let x = greatest_divisor_more (l.dx ∷ l.dy ∷ l.dz ∷ []) l.mx _ _ i
    (same_gcd refl (ap unsigned_abs (to_z-of_z mx)) c.divisor_with-with_x.ensures) in
    let y = greatest_divisor_more (l.dx ∷ l.dy ∷ l.dz ∷ l.mx ∷ []) l.my _ _ x
    (same_gcd refl (ap unsigned_abs (to_z-of_z my)) c.divisor_with-with_y.ensures) in
    greatest_divisor_more (l.dx ∷ l.dy ∷ l.dz ∷ l.mx ∷ l.my ∷ []) l.mz _ _ y
    (same_gcd refl (ap unsigned_abs (to_z-of_z mz)) c.divisor_with.ensures)
