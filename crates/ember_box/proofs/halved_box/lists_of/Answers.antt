use Rattle.std.proofs.Common.{◌<◌, ap, ◌∙◌, get_or, length, arith, rules}
use Rattle.ember_box.specs.declared.near_parts.NearPair.{NearPair}
use Rattle.ember_box.specs.Boxes.{left_half, right_half, in_steps}
use Rattle.ember_box.specs.Near.{is_near, tri_at}
use Rattle.ember_box.specs.NearParts.{no_parts}
use Rattle.ember_box.proofs.HalfNearness.{kept_more}
use Rattle.ember_box.proofs.OneLook.{left_at, right_at}
use Rattle.ember_box.proofs.halved_box.lists_of.Goals as goal

pub loop-i-init : goal.loop-i-init
loop-i-init c = record {
  lists = λ n ts cell may h. record { is_left = c.in_ok-left.ensures.items; is_right = c.in_ok-right.ensures.items };
  left_len = omega (arith, c.in_ok-left.ensures.len);
  right_len = omega (arith, c.in_ok-right.ensures.len);
  left_room = search rules;
  right_room = search rules;
}

pub loop-i-preserved : goal.loop-i-preserved
loop-i-preserved c =
    let list = c.args.list.now in let parts = c.args.parts.now in let k = c.args.axis in
    let i = c.loop-i.i in
    let below : i < length list = c.loop-i-test.true in
    let here : i < length parts = omega (arith, c.requires, below) in
    record {
      lists = λ n ts cell may h.
          let old = c.loop-i.invariant.lists n ts cell may h in
          let t = tri_at ts (get_or list i 0) in let p = get_or parts i no_parts in
          record {
            is_left = kept_more (λ j. is_near (in_steps n (left_half cell k)) (tri_at ts j)) list i c.loop-i.left.items
                c.push_if.new.list.items c.pair_on-pair.result.left below old.is_left
                (ap (λ (p : NearPair). p.left) c.pair_on-pair.ensures ∙ left_at n cell t p k (h.each i here) may) c.push_if.ensures.items;
            is_right = kept_more (λ j. is_near (in_steps n (right_half cell k)) (tri_at ts j)) list i c.loop-i.right.items
                c.push_if-in-loop-i.new.list.items c.pair_on-pair.result.right below old.is_right
                (ap (λ (p : NearPair). p.right) c.pair_on-pair.ensures ∙ right_at n cell t p k (h.each i here) may) c.push_if-in-loop-i.ensures.items;
          };
      left_len = omega (arith, c.push_if.ensures.len, c.loop-i.invariant.left_len);
      right_len = omega (arith, c.push_if-in-loop-i.ensures.len, c.loop-i.invariant.right_len);
      left_room = c.push_if.ensures.capacity ∙ c.loop-i.invariant.left_room;
      right_room = c.push_if-in-loop-i.ensures.capacity ∙ c.loop-i.invariant.right_room;
    }
