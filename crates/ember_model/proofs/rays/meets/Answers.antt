use mir.Syntax.{w64}
use lib.Signed.{lt_z}
use Rattle.std.proofs.Common.{rules, ◌≡◌, sym, pos, ◌*ℤ◌, to_z, of_z}
use Rattle.ember_algebra.specs.Sign.{is_negative}
use Rattle.ember_model.proofs.rays.meets.Goals as goal

pub returns-then-front-gt0 : goal.returns-then-front-gt0
returns-then-front-gt0 c =
    let ahead : is_negative (c.args.front *ℤ c.args.slope) ≡ lt_z (to_z w64 (of_z w64 c.args.slope)) (pos 0) = search rules in
    sym ahead
