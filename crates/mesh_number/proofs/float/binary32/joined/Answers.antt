use Rattle.std.proofs.Common.{refl, arith}
use Rattle.ember_wide.specs.Whole.{size_of}
use Rattle.mesh_number.proofs.NearestFloats.{is_finite, with_sign, without_sign, zero_loses_sign}
use Rattle.mesh_number.proofs.float.binary32.joined.Goals.{else-n-via-then-n+else-bits-ne0, else-n-via-else-n}
use Rattle.mesh_number.proofs.float.binary32.joined.Goals as goal

pub overflow_add-bits : goal.overflow_add-bits
overflow_add-bits c =
    omega (
      arith,
      is_finite (size_of c.args.n.now.size) c.args.d c.args.place c.args.significand c.requires.positive
          c.requires.scaled c.requires.below c.requires.place,
    )

pub returns-then-bits-ne0 : goal.returns-then-bits-ne0
returns-then-bits-ne0 c =
    rw c.if-n.true (with_sign (size_of c.args.n.now.size) c.args.d c.args.place c.args.significand c.requires.positive
    c.requires.scaled c.requires.below c.requires.place _ refl c.if-bits-ne0.true)

pub returns-else-n : goal.returns-else-n
returns-else-n c =
    elim c.else-n.branch [
      | else-n-via-then-n+else-bits-ne0 w ↦ rw w.if-n.true
          (zero_loses_sign (size_of c.args.n.now.size) c.args.d c.args.place c.args.significand c.requires.positive
          c.requires.scaled c.requires.below c.requires.place _ refl w.if-bits-ne0.false)
      | else-n-via-else-n w ↦ rw w.if-n.false (without_sign (size_of c.args.n.now.size) c.args.d c.args.place
          c.args.significand c.requires.positive c.requires.scaled c.requires.below c.requires.place _ refl)
    ]
