use Rattle.ember_leaf.proofs.Pieces.{plane_parts, plane_whole}
use Rattle.ember_leaf.proofs.regions.add_parts.Goals as goal

pub returns-in_ok-push-in-Both-2 : goal.returns-in_ok-push-in-Both-2
returns-in_ok-push-in-Both-2 g c =
    let k = c.in_ok-low-in-Both in
    plane_parts c.args.p.now c.args.r k.low k.high c.args.out.now.items c.push.new.self.items
    c.push-in-Both.new.self.items k.ensures c.in_ok-push-in-Both.ensures.items c.in_ok-push-in-Both-2.ensures.items

pub returns-in_ok-push-in_default : goal.returns-in_ok-push-in_default
returns-in_ok-push-in_default g c =
    plane_whole c.args.p.now c.args.r c.reach.result c.args.out.now.items c.push-in_default.new.self.items
    c.reach.ensures c.in_default.not-Both c.in_ok-push-in_default.ensures.items
