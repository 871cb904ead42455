use Rattle.std.proofs.Common.{◌≡◌, ◌∙◌, refl, ap, false}
use Rattle.ember_algebra.specs.declared.Sign.{Sign}
use Rattle.ember_algebra.specs.declared.Sign.TheVariants.{Neg, Zero, Pos}
use Rattle.ember_algebra.specs.Sign.{is_neg}
use Rattle.ember_ref.proofs.signs.is_below.Goals as goal

not_neg : (s : Sign) → (s ≡ Neg → ⊥) → false ≡ is_neg s
not_neg Neg n = absurd (n refl)
not_neg Zero n = refl
not_neg Pos n = refl

pub returns-in-Neg : goal.returns-in-Neg
returns-in-Neg c = λ m f s l. ap is_neg (c.in-Neg.ensures.value m f s l)

pub returns-in_default : goal.returns-in_default
returns-in_default c = λ m f s l.
    not_neg c.side_beside.result c.in_default.not-Neg ∙ ap is_neg (c.side_beside.ensures.value m f s l)
