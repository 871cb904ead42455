use Rattle.std.proofs.Common.{ℤ, pos, ◌∙◌, refl, sym, ap, subst, arith}
use borrow.Author.Differences.{ints}
use mir.Syntax.{w32}
use Rattle.ember_algebra.specs.Sign.{is_neg}
use Rattle.ember_algebra.proofs.Exact.{input, stored, kept, ◌&◌, done, exact}
use Rattle.ember_model.proofs.SignTests.{negative_out}
use Rattle.ember_wide.specs.Whole.{value_of}
use Rattle.ember_width.specs.Broad.{IsPlace, IsInRoot, most_floor}
use Rattle.ember_width.specs.RootFloors.{moved_within}
use Rattle.ember_width.proofs.FloorValues.{place_floor, moved_inside, not_below_nil, below_root, above_root, floor_below, floor_above}
use Rattle.ember_width.proofs.root_floors.far_floor.Goals as goal

pub returns-in-Some : goal.returns-in-Some
returns-in-Some c =
    let p = subst (λ (w : ℤ). IsPlace c.in-Some.place.floor c.in-Some.place.rest (value_of c.args.x.now) w)
    (exact (c.requires.w & done) (kept 0) tt) c.in-Some.ensures.place in
    let s = p.small.small in
    exact (p.small & done) (stored w32 (input 0)) tt
    ∙ sym (ap (λ z. moved_within (pos most_floor) z) (place_floor c.requires.weight p)
    ∙ moved_inside (pos most_floor) c.in-Some.place.floor (omega (arith, ints, s)) (omega (arith, ints, s)))

pub returns-in-Neg : goal.returns-in-Neg
returns-in-Neg c =
    let x = value_of c.args.x.now in let w = c.args.w in
    let out : IsInRoot x w → ⊥ = λ i. c.in-None.ensures.outside refl (subst (λ (w : ℤ). IsInRoot x w) (sym (exact (c.requires.w & done) (kept 0) tt)) i) in
    let below = negative_out x (sym (ap is_neg c.in-Neg.ensures)) in
    sym (floor_below x w c.requires.weight (below_root x w c.requires.weight out below))

pub returns-in_default : goal.returns-in_default
returns-in_default c =
    let x = value_of c.args.x.now in let w = c.args.w in
    let out : IsInRoot x w → ⊥ = λ i. c.in-None.ensures.outside refl (subst (λ (w : ℤ). IsInRoot x w) (sym (exact (c.requires.w & done) (kept 0) tt)) i) in
    let above = not_below_nil x (λ e. c.in_default.not-Neg (c.sign.ensures ∙ e)) in
    sym (floor_above x w c.requires.weight (above_root x w c.requires.weight out above))
