use Rattle.std.proofs.Common.{[], ◌∷◌, refl, SFits, rules}
use mir.Syntax.{w128}
use Rattle.mesh_certificate.proofs.Divisors.{greatest_divisor_of_two, greatest_divisor_more, same_gcd, size_read}
use Rattle.mesh_certificate.proofs.key.lines.long_divisor.Goals as goal

pub returns : goal.returns
returns c =
    let l = c.args.line.now in
    let dx : SFits w128 l.dx = search rules in let dy : SFits w128 l.dy = search rules in let dz : SFits w128 l.dz = search rules in
    let mx : SFits w128 l.mx = search rules in let my : SFits w128 l.my = search rules in let mz : SFits w128 l.mz = search rules in
    let two = greatest_divisor_of_two l.dx l.dy _ (same_gcd (size_read w128 dx c.unsigned_abs.ensures.value) (size_read w128 dy c.unsigned_abs-2.ensures.value) c.long_gcd-of_two.ensures) in
    let three = greatest_divisor_more (l.dx ∷ l.dy ∷ []) l.dz _ _ two (same_gcd refl (size_read w128 dz c.unsigned_abs-3.ensures.value) c.long_gcd-of_direction.ensures) in
    let x = greatest_divisor_more (l.dx ∷ l.dy ∷ l.dz ∷ []) l.mx _ _ three (same_gcd refl (size_read w128 mx c.unsigned_abs-4.ensures.value) c.long_gcd-with_x.ensures) in
    let y = greatest_divisor_more (l.dx ∷ l.dy ∷ l.dz ∷ l.mx ∷ []) l.my _ _ x (same_gcd refl (size_read w128 my c.unsigned_abs-5.ensures.value) c.long_gcd-with_y.ensures) in
    greatest_divisor_more (l.dx ∷ l.dy ∷ l.dz ∷ l.mx ∷ l.my ∷ []) l.mz _ _ y (same_gcd refl (size_read w128 mz c.unsigned_abs-6.ensures.value) c.long_gcd.ensures)
