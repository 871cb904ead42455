use Rattle.std.proofs.Common.{◌∙◌, sym, subst, arith}
use Rattle.ember_dec.specs.Digits.{digits_of}
use Rattle.ember_reread.specs.Numbers.{IsEnd, IsSize, IsSizeAt}
use Rattle.ember_reread.proofs.Digits.{size_unpadded, size_value, value_size}
use Rattle.ember_dec.proofs.Fronts.{digits_are}
use Rattle.ember_reread.proofs.NumberTexts.{size_front, size_there}
use Rattle.ember_reread.proofs.number.size_at.Goals as goal

pub returns-then-has_padding : goal.returns-then-has_padding
returns-then-has_padding c = λ n rest h. let u = size_unpadded c.requires (size_front h).0 in cc

pub returns-in_err-size : goal.returns-in_err-size
returns-in_err-size c =
    rw c.from_residual.ensures (λ n rest h. let s = (size_front h).0 in omega (arith, c.in_err-size.ensures, size_value c.requires s, s.small))

pub returns-then-not-is_end : goal.returns-then-not-is_end
returns-then-not-is_end c =
    λ n rest h. let t = c.is_end.ensures.1 (subst IsEnd (sym (c.in_ok-size.ensures.2 ∙ (size_front h).1)) h.ends) in cc

pub returns : goal.returns
returns c =
    let bytes = c.args.bytes.now in let v = c.in_ok-size.ensures in
    let unpadded = sym c.has_padding.ensures ∙ c.if-has_padding.false in
    let spelt = value_size c.requires (digits_are bytes) unpadded (omega (arith, v.0, v.1)) in
    let size = subst (λ n. IsSize c.args.most n (digits_of bytes)) (sym v.0) spelt in
    subst (IsSizeAt c.args.most c.in_ok-size.size bytes) (sym v.2) (size_there size (subst IsEnd v.2 (c.is_end.ensures.0 c.if-not-is_end.false)))
