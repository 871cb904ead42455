use Rattle.std.proofs.Common.{◌≡◌, sym, ap, ◌∙◌, Bool, true, false, cond, ◌&&◌, pos, ◌*ℤ◌}
use mir.Syntax.{w32, w64, w128}
use Rattle.ember_algebra.specs.Sign.{sign, is_negative}
use Rattle.ember_algebra.proofs.Exact.{input, stored, ◌&◌, done, exact}
use Rattle.ember_model.specs.declared.plane.Plane.{Plane}
use Rattle.ember_model.specs.Planes.{value_at, along, support_of}
use Rattle.ember_model.proofs.LegSigns.{behind, leg_behind}
use Rattle.ember_model.proofs.rays.leg.Goals as goal

pub returns-then-all_behind-clause-value : goal.returns-then-all_behind-clause-value
returns-then-all_behind-clause-value c =
    let p = c.args.p.now in let q = c.args.q.now in let t = c.args.t.now in let a = c.args.a in
    let n = c.support_of-n.ensures.value in
    let k = exact (c.component-slope.ensures.small & done) (stored w64 (input 0)) tt ∙ c.component-slope.ensures.value ∙ ap (λ (n : Plane). along n a) n in
    let e = exact (c.edge_value-e.ensures.small & done) (stored w128 (input 0)) tt ∙ c.edge_value-e.ensures.value in
    let f = exact (c.edge_value-f.ensures.small & done) (stored w128 (input 0)) tt ∙ c.edge_value-f.ensures.value in
    let g = exact (c.edge_value-g.ensures.small & done) (stored w128 (input 0)) tt ∙ c.edge_value-g.ensures.value in
    let b : behind a p t ≡ true = sym (c.all_behind.ensures
    ∙ (λ i. is_negative (sign (k i) *ℤ e i) && (is_negative (sign (k i) *ℤ f i) && is_negative (sign (k i) *ℤ g i))))
    ∙ c.if-all_behind.true in
    let s = exact (c.plane_value.ensures.small & done) (stored w128 (input 0)) tt ∙ c.plane_value.ensures.value ∙ ap (λ (n : Plane). value_at n p) n in
    let u = exact (c.plane_value-then-all_behind.ensures.small & done) (stored w128 (input 0)) tt
    ∙ c.plane_value-then-all_behind.ensures.value ∙ ap (λ (n : Plane). value_at n q) n in
    exact (c.signed_crossing.ensures.small & done) (stored w32 (input 0)) tt ∙ c.signed_crossing.ensures.value
    ∙ (λ i. cond (is_negative (s i *ℤ u i)) (sign (u i)) (pos 0))
    ∙ sym (leg_behind a p q t c.requires.from.weight c.requires.to.weight c.requires.line
    ∙ ap (λ (b : Bool). cond b (cond (is_negative (value_at (support_of t) p *ℤ value_at (support_of t) q))
    (sign (value_at (support_of t) q)) (pos 0)) (pos 0)) b)

pub returns-else-all_behind-clause-value : goal.returns-else-all_behind-clause-value
returns-else-all_behind-clause-value c =
    let p = c.args.p.now in let q = c.args.q.now in let t = c.args.t.now in let a = c.args.a in
    let n = c.support_of-n.ensures.value in
    let k = exact (c.component-slope.ensures.small & done) (stored w64 (input 0)) tt ∙ c.component-slope.ensures.value ∙ ap (λ (n : Plane). along n a) n in
    let e = exact (c.edge_value-e.ensures.small & done) (stored w128 (input 0)) tt ∙ c.edge_value-e.ensures.value in
    let f = exact (c.edge_value-f.ensures.small & done) (stored w128 (input 0)) tt ∙ c.edge_value-f.ensures.value in
    let g = exact (c.edge_value-g.ensures.small & done) (stored w128 (input 0)) tt ∙ c.edge_value-g.ensures.value in
    let b : behind a p t ≡ false = sym (c.all_behind.ensures
    ∙ (λ i. is_negative (sign (k i) *ℤ e i) && (is_negative (sign (k i) *ℤ f i) && is_negative (sign (k i) *ℤ g i))))
    ∙ c.if-all_behind.false in
    sym (leg_behind a p q t c.requires.from.weight c.requires.to.weight c.requires.line
    ∙ ap (λ (b : Bool). cond b (cond (is_negative (value_at (support_of t) p *ℤ value_at (support_of t) q))
    (sign (value_at (support_of t) q)) (pos 0)) (pos 0)) b)

pub plane_value-requires-clause-plane : goal.plane_value-requires-clause-plane
plane_value-requires-clause-plane c = c.support_of-n.ensures.valid c.requires.tri

pub plane_value-requires-then-all_behind-clause-plane : goal.plane_value-requires-then-all_behind-clause-plane
plane_value-requires-then-all_behind-clause-plane c = c.support_of-n.ensures.valid c.requires.tri
