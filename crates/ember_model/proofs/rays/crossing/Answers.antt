use Rattle.std.proofs.Common.{◌≡◌, sym, ap, subst, ◌∙◌, Bool, true, false, cond, ◌&&◌, ℤ, pos, negsuc, ◌<ℤ◌, arith, to_z, of_z}
use mir.Syntax.{w64, w128}
use Rattle.ember_algebra.specs.Sign.{is_negative, is_positive}
use Rattle.ember_algebra.proofs.Laws.{linear}
use Rattle.ember_algebra.proofs.Exact.{input, stored, ◌&◌, done, exact}
use Rattle.ember_model.specs.declared.plane.Plane.{Plane}
use Rattle.ember_model.specs.Planes.{value_at, along, support_of}
use Rattle.ember_model.proofs.SignTests.{less_out, not_less_out}
use Rattle.ember_model.proofs.FourSigns.{crossing_is, rising_plane_crosses_up, falling_plane_crosses_down, level_plane_is_not_crossed, low, high}
use Rattle.ember_model.proofs.rays.crossing.Goals as goal

pub returns-then-all_below-clause-value : goal.returns-then-all_below-clause-value
returns-then-all_below-clause-value c =
    let p = c.args.p.now in let t = c.args.t.now in let a = c.args.a in
    let k = exact (c.component-slope.ensures.small & done) (stored w64 (input 0)) tt ∙ c.component-slope.ensures.value
    ∙ ap (λ (n : Plane). along n a) c.support_of-n.ensures.value in
    let l : pos 0 <ℤ along (support_of t) a = subst (λ (z : ℤ). pos 0 <ℤ z) k (less_out _ _ c.if-slope-gt0.true) in
    let s = exact (c.plane_value-front.ensures.small & done) (stored w128 (input 0)) tt
    ∙ c.plane_value-front.ensures.value ∙ ap (λ (n : Plane). value_at n p) c.support_of-n.ensures.value in
    let e = exact (c.edge_value-e.ensures.small & done) (stored w128 (input 0)) tt ∙ c.edge_value-e.ensures.value in
    let f = exact (c.edge_value-f.ensures.small & done) (stored w128 (input 0)) tt ∙ c.edge_value-f.ensures.value in
    let g = exact (c.edge_value-g.ensures.small & done) (stored w128 (input 0)) tt ∙ c.edge_value-g.ensures.value in
    let b : low a p t ≡ true = sym (c.all_below.ensures
    ∙ (λ i. is_negative (s i) && (is_negative (e i) && (is_negative (f i) && is_negative (g i)))))
    ∙ c.if-all_below.true in
    sym (crossing_is a p t c.requires.spot.weight ∙ rising_plane_crosses_up a p t l ∙ ap (λ (b : Bool). cond b (pos 1) (pos 0)) b)

pub returns-else-all_below-clause-value : goal.returns-else-all_below-clause-value
returns-else-all_below-clause-value c =
    let p = c.args.p.now in let t = c.args.t.now in let a = c.args.a in
    let k = exact (c.component-slope.ensures.small & done) (stored w64 (input 0)) tt ∙ c.component-slope.ensures.value
    ∙ ap (λ (n : Plane). along n a) c.support_of-n.ensures.value in
    let l : pos 0 <ℤ along (support_of t) a = subst (λ (z : ℤ). pos 0 <ℤ z) k (less_out _ _ c.if-slope-gt0.true) in
    let s = exact (c.plane_value-front.ensures.small & done) (stored w128 (input 0)) tt
    ∙ c.plane_value-front.ensures.value ∙ ap (λ (n : Plane). value_at n p) c.support_of-n.ensures.value in
    let e = exact (c.edge_value-e.ensures.small & done) (stored w128 (input 0)) tt ∙ c.edge_value-e.ensures.value in
    let f = exact (c.edge_value-f.ensures.small & done) (stored w128 (input 0)) tt ∙ c.edge_value-f.ensures.value in
    let g = exact (c.edge_value-g.ensures.small & done) (stored w128 (input 0)) tt ∙ c.edge_value-g.ensures.value in
    let b : low a p t ≡ false = sym (c.all_below.ensures
    ∙ (λ i. is_negative (s i) && (is_negative (e i) && (is_negative (f i) && is_negative (g i)))))
    ∙ c.if-all_below.false in
    sym (crossing_is a p t c.requires.spot.weight ∙ rising_plane_crosses_up a p t l ∙ ap (λ (b : Bool). cond b (pos 1) (pos 0)) b)

pub returns-then-all_above-clause-value : goal.returns-then-all_above-clause-value
returns-then-all_above-clause-value c =
    let p = c.args.p.now in let t = c.args.t.now in let a = c.args.a in
    let k = exact (c.component-slope.ensures.small & done) (stored w64 (input 0)) tt ∙ c.component-slope.ensures.value
    ∙ ap (λ (n : Plane). along n a) c.support_of-n.ensures.value in
    let l : along (support_of t) a <ℤ pos 0 = subst (λ (z : ℤ). z <ℤ pos 0) k (less_out _ _ c.if-slope-lt0.true) in
    let s = exact (c.plane_value-front.ensures.small & done) (stored w128 (input 0)) tt
    ∙ c.plane_value-front.ensures.value ∙ ap (λ (n : Plane). value_at n p) c.support_of-n.ensures.value in
    let e = exact (c.edge_value-e.ensures.small & done) (stored w128 (input 0)) tt ∙ c.edge_value-e.ensures.value in
    let f = exact (c.edge_value-f.ensures.small & done) (stored w128 (input 0)) tt ∙ c.edge_value-f.ensures.value in
    let g = exact (c.edge_value-g.ensures.small & done) (stored w128 (input 0)) tt ∙ c.edge_value-g.ensures.value in
    let b : high a p t ≡ true = sym (c.all_above.ensures
    ∙ (λ i. is_positive (s i) && (is_positive (e i) && (is_positive (f i) && is_positive (g i)))))
    ∙ c.if-all_above.true in
    sym (crossing_is a p t c.requires.spot.weight ∙ falling_plane_crosses_down a p t l ∙ ap (λ (b : Bool). cond b (negsuc 0) (pos 0)) b)

pub returns-else-all_above-clause-value : goal.returns-else-all_above-clause-value
returns-else-all_above-clause-value c =
    let p = c.args.p.now in let t = c.args.t.now in let a = c.args.a in
    let k = exact (c.component-slope.ensures.small & done) (stored w64 (input 0)) tt ∙ c.component-slope.ensures.value
    ∙ ap (λ (n : Plane). along n a) c.support_of-n.ensures.value in
    let l : along (support_of t) a <ℤ pos 0 = subst (λ (z : ℤ). z <ℤ pos 0) k (less_out _ _ c.if-slope-lt0.true) in
    let s = exact (c.plane_value-front.ensures.small & done) (stored w128 (input 0)) tt
    ∙ c.plane_value-front.ensures.value ∙ ap (λ (n : Plane). value_at n p) c.support_of-n.ensures.value in
    let e = exact (c.edge_value-e.ensures.small & done) (stored w128 (input 0)) tt ∙ c.edge_value-e.ensures.value in
    let f = exact (c.edge_value-f.ensures.small & done) (stored w128 (input 0)) tt ∙ c.edge_value-f.ensures.value in
    let g = exact (c.edge_value-g.ensures.small & done) (stored w128 (input 0)) tt ∙ c.edge_value-g.ensures.value in
    let b : high a p t ≡ false = sym (c.all_above.ensures
    ∙ (λ i. is_positive (s i) && (is_positive (e i) && (is_positive (f i) && is_positive (g i)))))
    ∙ c.if-all_above.false in
    sym (crossing_is a p t c.requires.spot.weight ∙ falling_plane_crosses_down a p t l ∙ ap (λ (b : Bool). cond b (negsuc 0) (pos 0)) b)

pub returns-else-slope-lt0-clause-value : goal.returns-else-slope-lt0-clause-value
returns-else-slope-lt0-clause-value c =
    let p = c.args.p.now in let t = c.args.t.now in let a = c.args.a in
    let k = exact (c.component-slope.ensures.small & done) (stored w64 (input 0)) tt ∙ c.component-slope.ensures.value
    ∙ ap (λ (n : Plane). along n a) c.support_of-n.ensures.value in
    let x = not_less_out (pos 0) (to_z w64 (of_z w64 c.component-slope.result)) c.if-slope-gt0.false in let y =
    not_less_out (to_z w64 (of_z w64 c.component-slope.result)) (pos 0) c.if-slope-lt0.false in
    let z : along (support_of t) a ≡ pos 0 = omega (arith, linear, k, x, y) in
    sym (crossing_is a p t c.requires.spot.weight ∙ level_plane_is_not_crossed a p t z)
