use Rattle.std.proofs.Common.{to_z-of_z, ◌≡◌, ◌∙◌, sym, ap, subst, pos, false, refl}
use Rattle.ember_slice.specs.Lines.{level}
use Rattle.ember_algebra.specs.Sign.{is_neg}
use Rattle.ember_algebra.specs.declared.Sign.{Sign}
use Rattle.ember_algebra.specs.declared.Sign.TheVariants.{Neg, Zero, Pos}
use Rattle.ember_model.specs.Planes.{value_at}
use Rattle.ember_point.specs.Points.{spot_of, weight}
use Rattle.ember_slice.proofs.Along.{OnLine, on_line_out, parallel_sign, across_crosses}
use Rattle.ember_slice.proofs.line.is_behind.Goals as goal

not_neg : (s : Sign) → (s ≡ Neg → ⊥) → is_neg s ≡ false
not_neg Neg f = absurd (f refl)
not_neg Zero f = refl
not_neg Pos f = refl

pub returns-in-Neg : goal.returns-in-Neg
returns-in-Neg c =
    let n = c.args.support.now in let m = spot_of c.in-Some.point in let k = c.in-Some.ensures in
    let on : OnLine n c.args.at m = record {
      weight = c.in-Some.point.valid.weight;
      support = k.on_first;
      level =
          subst (λ q. value_at q m ≡ pos 0) (c.level_plane.ensures.value ∙ ap level (to_z-of_z c.ranges.at)) k.on_second;
    }
    in
    λ v h. ap is_neg (parallel_sign n c.args.at c.args.p.now m c.requires.tilted on c.requires.parallel v
    (on_line_out n c.args.at v h) ∙ sym c.side.ensures ∙ c.in-Neg.is)

pub returns-in_default : goal.returns-in_default
returns-in_default c =
    let n = c.args.support.now in let m = spot_of c.in-Some.point in let k = c.in-Some.ensures in
    let on : OnLine n c.args.at m = record {
      weight = c.in-Some.point.valid.weight;
      support = k.on_first;
      level =
          subst (λ q. value_at q m ≡ pos 0) (c.level_plane.ensures.value ∙ ap level (to_z-of_z c.ranges.at)) k.on_second;
    }
    in
    λ v h. ap is_neg (parallel_sign n c.args.at c.args.p.now m c.requires.tilted on c.requires.parallel v
    (on_line_out n c.args.at v h) ∙ sym c.side.ensures) ∙ not_neg c.side.result c.in_default.not-Neg

pub returns-in-None : goal.returns-in-None
returns-in-None c =
    let n = c.args.support.now in
    absurd (across_crosses n c.args.at c.requires.tilted
    (subst (λ p. weight n (level c.args.at) p ≡ pos 0) c.across.ensures.value
    (subst (λ q. weight n q c.across.result ≡ pos 0) (c.level_plane.ensures.value ∙ ap level (to_z-of_z c.ranges.at))
    (c.in-None.ensures.none.0 refl))))
