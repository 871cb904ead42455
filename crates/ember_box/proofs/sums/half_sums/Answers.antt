use Rattle.std.proofs.Common.{◌≡◌, ◌<◌, ap, ◌∙◌, sym, length, get_or, arith}
use Rattle.std.proofs.lemmas.List.{length-take, length-map, get_or-map}
use Rattle.ember_model.specs.declared.point.Axis.TheVariants.{X, Y, Z}
use Rattle.ember_box.specs.Near.{listed, tri_at, no_tri, is_near}
use Rattle.ember_box.specs.Sums.{number, near_half_count}
use Rattle.ember_box.proofs.Counting.{sums_of, sums_none, sums_more, sums_all}
use Rattle.ember_box.proofs.sums.half_sums.Goals as goal

pub loop-i-init : goal.loop-i-init
loop-i-init c = sums_none 0 (listed c.args.tris.now c.args.list.now) c.args.c.now

pub overflow_add-near : goal.overflow_add-near
overflow_add-near c =
    omega (arith, c.loop-i.invariant.bound, length-take c.loop-i.i-index (listed c.args.tris.now c.args.list.now))

pub overflow_add-x_sum : goal.overflow_add-x_sum
overflow_add-x_sum c =
    omega (arith, c.loop-i.invariant.x.bound, length-take c.loop-i.i-index (listed c.args.tris.now c.args.list.now))

pub overflow_add-y_sum : goal.overflow_add-y_sum
overflow_add-y_sum c =
    omega (arith, c.loop-i.invariant.y.bound, length-take c.loop-i.i-index (listed c.args.tris.now c.args.list.now))

pub overflow_add-z_sum : goal.overflow_add-z_sum
overflow_add-z_sum c =
    omega (arith, c.loop-i.invariant.z.bound, length-take c.loop-i.i-index (listed c.args.tris.now c.args.list.now))

pub loop-i-preserved : goal.loop-i-preserved
loop-i-preserved c =
    let tris = c.args.tris.now in let list = c.args.list.now in let cell = c.args.c.now in
    let i = c.loop-i.i-index in let more = c.sums_of-more.result in
    let t = tri_at tris (get_or list i 0) in
    let below : i < length list = omega arith in
    let here : i < length (listed tris list) = omega (arith, length-map list (λ j. tri_at tris j)) in
    let e : get_or (listed tris list) i no_tri ≡ t = get_or-map (λ j. tri_at tris j) list i 0 no_tri below in
    let one = c.sums_of-more.ensures.sums 0 cell t (c.near_parts.ensures 0 cell c.middles_of-middles.ensures.value) in let few = c.sums_of-more.ensures.few in
    sums_more 0 (listed tris list) cell i c.loop-i.near c.loop-i.x_sum c.loop-i.y_sum c.loop-i.z_sum more.near more.x
    more.y more.z here c.loop-i.invariant (one.near ∙ ap (λ u. number (is_near cell u)) (sym e)) few.near
    (λ p. one.x p ∙ ap (near_half_count cell X) (sym e)) few.x (λ p. one.y p ∙ ap (near_half_count cell Y) (sym e))
    few.y (λ p. one.z p ∙ ap (near_half_count cell Z) (sym e)) few.z

pub returns : goal.returns
returns c =
    sums_all 0 (listed c.args.tris.now c.args.list.now) c.args.c.now c.loop-i.i-index
    (sums_of c.loop-i.near c.loop-i.x_sum c.loop-i.y_sum c.loop-i.z_sum)
    (omega (arith, length-map c.args.list.now (λ j. tri_at c.args.tris.now j))) c.loop-i.invariant
