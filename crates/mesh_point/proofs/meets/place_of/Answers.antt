use Rattle.std.proofs.Common.{◌≡◌, ◌-ℤ◌, ◌*ℤ◌, SFits, to_z-of_z, refl, sym, subst, ◌∙◌, ℤ, arith}
use Rattle.std.specs.Int.{int_div_euclid}
use Rattle.std.proofs.lemmas.Int.{ints}
use mir.Syntax.{w32, w128}
use Rattle.ember_algebra.specs.Size.{Small}
use Rattle.ember_algebra.proofs.Exact.{stored, kept, ◌⊠◌, ◌⊟◌, ◌&◌, done, exact}
use Rattle.mesh_point.specs.SpacePoints.{IsFloor}
use Rattle.mesh_point.proofs.MeetFloors.{floor_is}
use Rattle.mesh_point.proofs.meets.place_of.Goals as goal

pub returns-clause-place : goal.returns-clause-place
returns-clause-place c =
    let x = c.args.x in let w = c.args.w in let q = c.floor_of-quotient.result in
    let e : q ≡ int_div_euclid x w = c.floor_of-quotient.ensures ∙ rw (exact (c.requires.x & done) (kept 0) tt, exact (c.requires.w & done) (kept 0) tt) refl in
    let k = to_z-of_z {w = w128} {z = q} (record { sfits = c.floor_of-quotient.type_inv }) in
    let small : Small 2147483647 q = record { small = omega (arith, ints, k, c.if-quotient-ltminus2147483647.false, c.if-quotient-gt2147483647.false) } in
    let floor = exact (small & done) (stored w32 (kept 0)) tt in
    let rest = exact (c.requires.x & small & c.requires.w & done) (stored w128 (kept 0 ⊟ stored w128 (kept 1 ⊠ kept 2))) tt in
    rw (floor, rest) (subst (λ (z : ℤ). IsFloor z (x -ℤ z *ℤ w) x w) (sym e) (floor_is x w c.requires.weight))
