use Rattle.std.proofs.Common.{◌-◌, bit_or, ap, ◌∙◌, arith}
use Rattle.std.proofs.lemmas.Nat.{one_shl}
use Rattle.ember_known.specs.Masks.{is_in}
use Rattle.ember_known.proofs.Bits.{in_with}
use Rattle.ember_known.proofs.mask.Mask.with.Goals as goal

pub returns : goal.returns
returns c = λ other fit.
    ap (λ bit. is_in (bit_or c.args.self.0 bit) other) (one_shl (c.args.mesh - 1) 64 (omega arith)) ∙ in_with c.args.self.0 c.args.mesh other c.requires fit
