use Rattle.std.proofs.Common.{◌≡◌, ℕ, ◌<◌, List, [], ◌∷◌, ◌++◌, ap, ◌∙◌, sym, subst, length, get_or, arith}
use Rattle.std.proofs.lemmas.List.{length-take, length-map, length-append, get_or-map}
use Rattle.ember_model.specs.declared.point.Axis.TheVariants.{X, Y, Z}
use Rattle.ember_box.specs.Boxes.{in_steps}
use Rattle.ember_box.specs.Near.{listed, tri_at, no_tri, is_near}
use Rattle.ember_box.specs.Sums.{number, near_half_count}
use Rattle.ember_box.specs.declared.near_parts.NearParts.{NearParts}
use Rattle.ember_box.specs.NearParts.{AreNearParts, AreNearPartsAt}
use Rattle.ember_box.proofs.OneLook.{parts_none, parts_more}
use Rattle.ember_box.proofs.Counting.{sums_of, sums_none, sums_more, sums_all}
use Rattle.ember_box.proofs.halved_box.parts_and_sums.Goals as goal

pub loop-i-init : goal.loop-i-init
loop-i-init g c =
    let tris = c.args.tris.now in let list = c.args.list.now in let cell = c.args.c.now in
    record {
      sums = sums_none g.W.Width.scale (listed tris list) cell;
      parts = subst (λ (ps : List NearParts). AreNearPartsAt g.W.Width.scale tris cell list ps) (sym c.in_ok-parts.ensures.items) (parts_none g.W.Width.scale tris cell list);
      count = ap length c.in_ok-parts.ensures.items;
    }

pub overflow_add-near : goal.overflow_add-near
overflow_add-near g c =
    omega (arith, c.loop-i.invariant.sums.bound, length-take c.loop-i.i-index (listed c.args.tris.now c.args.list.now))

pub overflow_add-x_sum : goal.overflow_add-x_sum
overflow_add-x_sum g c =
    omega (arith, c.loop-i.invariant.sums.x.bound, length-take c.loop-i.i-index (listed c.args.tris.now c.args.list.now))

pub overflow_add-y_sum : goal.overflow_add-y_sum
overflow_add-y_sum g c =
    omega (arith, c.loop-i.invariant.sums.y.bound, length-take c.loop-i.i-index (listed c.args.tris.now c.args.list.now))

pub overflow_add-z_sum : goal.overflow_add-z_sum
overflow_add-z_sum g c =
    omega (arith, c.loop-i.invariant.sums.z.bound, length-take c.loop-i.i-index (listed c.args.tris.now c.args.list.now))

pub loop-i-preserved : goal.loop-i-preserved
loop-i-preserved g c =
    let tris = c.args.tris.now in let list = c.args.list.now in let cell = c.args.c.now in
    let i = c.loop-i.i-index in let more = c.sums_of-more.result in let parts = c.loop-i.parts.items in let p = c.near_parts-one.result in
    let t = tri_at tris (get_or list i 0) in
    let below : i < length list = omega arith in
    let here : i < length (listed tris list) = omega (arith, length-map list (λ j. tri_at tris j)) in
    let e : get_or (listed tris list) i no_tri ≡ t = get_or-map (λ j. tri_at tris j) list i 0 no_tri below in
    let near : AreNearParts g.W.Width.scale cell t p = c.near_parts-one.ensures g.W.Width.scale cell c.middles_of-middles.ensures.value in
    let one = c.sums_of-more.ensures.sums g.W.Width.scale cell t near in let few = c.sums_of-more.ensures.few in
    let items : c.push.new.self.items ≡ parts ++ p ∷ [] = c.in_ok-push.ensures.items in
    let length_of = ap length items in
    record {
      sums = sums_more g.W.Width.scale (listed tris list) cell i c.loop-i.near c.loop-i.x_sum c.loop-i.y_sum c.loop-i.z_sum more.near
          more.x more.y more.z here c.loop-i.invariant.sums (one.near ∙ ap (λ u. number (is_near (in_steps g.W.Width.scale cell) u)) (sym e))
          few.near (λ p. one.x p ∙ ap (near_half_count (in_steps g.W.Width.scale cell) X) (sym e)) few.x
          (λ p. one.y p ∙ ap (near_half_count (in_steps g.W.Width.scale cell) Y) (sym e)) few.y (λ p. one.z p ∙ ap (near_half_count (in_steps g.W.Width.scale cell) Z) (sym e))
          few.z;
      parts = subst (λ (ps : List NearParts). AreNearPartsAt g.W.Width.scale tris cell list ps) (sym items)
          (parts_more g.W.Width.scale tris cell list parts p c.loop-i.invariant.parts
          (subst (λ (j : ℕ). AreNearParts g.W.Width.scale cell (tri_at tris (get_or list j 0)) p) (sym c.loop-i.invariant.count) near));
      count = omega (arith, length_of, length-append parts (p ∷ []), c.loop-i.invariant.count);
    }

pub returns-clause-sums : goal.returns-clause-sums
returns-clause-sums g c =
    sums_all g.W.Width.scale (listed c.args.tris.now c.args.list.now) c.args.c.now c.loop-i.i-index
    (sums_of c.loop-i.near c.loop-i.x_sum c.loop-i.y_sum c.loop-i.z_sum)
    (omega (arith, length-map c.args.list.now (λ j. tri_at c.args.tris.now j))) c.loop-i.invariant.sums
