use Rattle.std.proofs.Common.{refl}
use Rattle.mesh_number.proofs.NearestFloats.{with_sign, without_sign, zero_loses_sign}
use Rattle.mesh_broad.proofs.binary32.joined.Goals.{else-negative-via-then-negative+else-bits-ne0, else-negative-via-else-negative}
use Rattle.mesh_broad.proofs.binary32.joined.Goals as goal

pub returns-then-bits-ne0 : goal.returns-then-bits-ne0
returns-then-bits-ne0 c n d p below scaled =
    rw c.if-negative.true (with_sign n d c.args.place c.args.significand p scaled below c.requires.place _ refl c.if-bits-ne0.true)

pub returns-else-negative : goal.returns-else-negative
returns-else-negative c n d p below scaled =
    elim c.else-negative.branch [
      | else-negative-via-then-negative+else-bits-ne0 w ↦ rw w.if-negative.true
          (zero_loses_sign n d c.args.place c.args.significand p scaled below c.requires.place _ refl w.if-bits-ne0.false)
      | else-negative-via-else-negative w ↦ rw w.if-negative.false
          (without_sign n d c.args.place c.args.significand p scaled below c.requires.place _ refl)
    ]
