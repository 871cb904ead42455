use Rattle.std.proofs.Common.{◌≡◌, sym, ap, ◌∙◌, true, false, not, ◌&&◌}
use Rattle.ember_model.specs.declared.point.Axis.TheVariants.{X, Y, Z}
use Rattle.ember_model.specs.Faces.{is_in_closed}
use Rattle.ember_model.specs.ClearTest.{is_ray_clear, face_with}
use Rattle.ember_model.proofs.clearness.clear_of.Goals as goal

pub in_closed-requires-clause-spot : goal.in_closed-requires-clause-spot
in_closed-requires-clause-spot c = c.requires.spot

pub in_closed-requires-clause-support : goal.in_closed-requires-clause-support
in_closed-requires-clause-support c = c.requires.support

pub in_closed-requires-clause-edges : goal.in_closed-requires-clause-edges
in_closed-requires-clause-edges c = c.requires.edges

pub is_ray_clear-requires-clause-spot : goal.is_ray_clear-requires-clause-spot
is_ray_clear-requires-clause-spot c = c.requires.spot

pub is_ray_clear-requires-clause-support : goal.is_ray_clear-requires-clause-support
is_ray_clear-requires-clause-support c = c.requires.support

pub is_ray_clear-requires-clause-edges : goal.is_ray_clear-requires-clause-edges
is_ray_clear-requires-clause-edges c = c.requires.edges

pub is_ray_clear-requires-then-is_ray_clear-clause-spot : goal.is_ray_clear-requires-then-is_ray_clear-clause-spot
is_ray_clear-requires-then-is_ray_clear-clause-spot c = c.requires.spot

pub is_ray_clear-requires-then-is_ray_clear-clause-support : goal.is_ray_clear-requires-then-is_ray_clear-clause-support
is_ray_clear-requires-then-is_ray_clear-clause-support c = c.requires.support

pub is_ray_clear-requires-then-is_ray_clear-clause-edges : goal.is_ray_clear-requires-then-is_ray_clear-clause-edges
is_ray_clear-requires-then-is_ray_clear-clause-edges c = c.requires.edges

pub is_ray_clear-requires-then-is_ray_clear-2-clause-spot : goal.is_ray_clear-requires-then-is_ray_clear-2-clause-spot
is_ray_clear-requires-then-is_ray_clear-2-clause-spot c = c.requires.spot

pub is_ray_clear-requires-then-is_ray_clear-2-clause-support : goal.is_ray_clear-requires-then-is_ray_clear-2-clause-support
is_ray_clear-requires-then-is_ray_clear-2-clause-support c = c.requires.support

pub is_ray_clear-requires-then-is_ray_clear-2-clause-edges : goal.is_ray_clear-requires-then-is_ray_clear-2-clause-edges
is_ray_clear-requires-then-is_ray_clear-2-clause-edges c = c.requires.edges

pub returns-then-is_ray_clear-2 : goal.returns-then-is_ray_clear-2
returns-then-is_ray_clear-2 c =
    let f = face_with c.args.support.now c.args.edges.now in let p = c.args.p.now in
    let a : not (is_in_closed f p) ≡ true = ap not (sym c.in_closed.ensures ∙ c.if-not-in_closed.true) in
    let x : is_ray_clear f X p ≡ true = sym c.is_ray_clear.ensures ∙ c.if-is_ray_clear.true in
    let y : is_ray_clear f Y p ≡ true = sym c.is_ray_clear-then-is_ray_clear.ensures ∙ c.if-is_ray_clear-2.true in
    c.is_ray_clear-then-is_ray_clear-2.ensures ∙ sym (λ i. a i && (x i && (y i && is_ray_clear f Z p)))

pub returns-else-is_ray_clear-2 : goal.returns-else-is_ray_clear-2
returns-else-is_ray_clear-2 c =
    let f = face_with c.args.support.now c.args.edges.now in let p = c.args.p.now in
    let a : not (is_in_closed f p) ≡ true = ap not (sym c.in_closed.ensures ∙ c.if-not-in_closed.true) in
    let x : is_ray_clear f X p ≡ true = sym c.is_ray_clear.ensures ∙ c.if-is_ray_clear.true in
    let y : is_ray_clear f Y p ≡ false = sym c.is_ray_clear-then-is_ray_clear.ensures ∙ c.if-is_ray_clear-2.false in
    c.if-is_ray_clear-2.false ∙ sym (λ i. a i && (x i && (y i && is_ray_clear f Z p)))

pub returns-else-is_ray_clear : goal.returns-else-is_ray_clear
returns-else-is_ray_clear c =
    let f = face_with c.args.support.now c.args.edges.now in let p = c.args.p.now in
    let a : not (is_in_closed f p) ≡ true = ap not (sym c.in_closed.ensures ∙ c.if-not-in_closed.true) in
    let x : is_ray_clear f X p ≡ false = sym c.is_ray_clear.ensures ∙ c.if-is_ray_clear.false in
    c.if-is_ray_clear.false ∙ sym (λ i. a i && (x i && (is_ray_clear f Y p && is_ray_clear f Z p)))

pub returns-else-not-in_closed : goal.returns-else-not-in_closed
returns-else-not-in_closed c =
    let f = face_with c.args.support.now c.args.edges.now in let p = c.args.p.now in
    let a : not (is_in_closed f p) ≡ false = ap not (sym c.in_closed.ensures ∙ c.if-not-in_closed.false) in
    ap not c.if-not-in_closed.false ∙ sym (λ i. a i && (is_ray_clear f X p && (is_ray_clear f Y p && is_ray_clear f Z p)))
