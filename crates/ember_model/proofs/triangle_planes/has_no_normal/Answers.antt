use mir.Syntax.{w64}
use Rattle.std.proofs.Common.{rules, ◌≡◌, sym, ◌&&◌, nat_eq, of_z}
use Rattle.ember_algebra.specs.Sign.{is_zero}
use Rattle.ember_model.proofs.triangle_planes.has_no_normal.Goals as goal

pub returns-then-plane-eq0-2 : goal.returns-then-plane-eq0-2
returns-then-plane-eq0-2 c =
    let n = c.args.plane.now in
    let flat : is_zero n.a && (is_zero n.b && is_zero n.c) ≡ nat_eq (of_z w64 n.c) 0 = search rules in
    sym flat
