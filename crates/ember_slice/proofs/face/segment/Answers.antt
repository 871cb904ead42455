use Rattle.std.proofs.Common.{rules, subst, to_z, of_z, to_z-of_z}
use mir.Syntax.{w32}
use Rattle.ember_slice.specs.Lines.{IsFlat}
use Rattle.ember_slice.specs.Intervals.{IsInterval}
use Rattle.ember_slice.proofs.face.segment.Goals as goal

pub returns-in-Some : goal.returns-in-Some
returns-in-Some c =
    let f = c.args.f.now in
    let t : IsFlat f.support → ⊥ = search rules in
    let h = subst (λ ps. IsInterval f.support (to_z w32 (of_z w32 c.args.at)) ps c.in-Some.interval) c.items.ensures c.in-Some.ensures in
    c.segment_between_ends.ensures f c.args.at t (subst (λ at. IsInterval f.support at f.edges c.in-Some.interval) (to_z-of_z c.ranges.at) h)
