use Rattle.std.proofs.Common.{suc, arith}
use Rattle.ember_reread.proofs.Digits.{size_value}
use Rattle.ember_reread.proofs.NumberTexts.{size_front, negative_size}
use Rattle.ember_reread.proofs.number.negative_at.Goals as goal

pub returns-in_err-size : goal.returns-in_err-size
returns-in_err-size c =
    rw c.from_residual.ensures (λ z rest h. let s = negative_size c.args.most z c.args.bytes.now rest h in c.in_err-size.ensures (suc s.0) rest s.2)

pub returns-then-size-eq0 : goal.returns-then-size-eq0
returns-then-size-eq0 c =
    λ z rest h. let s = negative_size c.args.most z c.args.bytes.now rest h in
    omega (arith, size_value c.requires (size_front s.2).0, size_value c.requires (size_front c.in_ok-size.ensures).0, c.if-size-eq0.true)
