use Rattle.std.proofs.Common.{refl, sym, [], ◌∷◌}
use Rattle.std.proofs.lemmas.List.{append-nil}
use Rattle.ember_algebra.specs.Relations.{none}
use Rattle.ember_expr.specs.Formula.{formula_of}
use Rattle.ember_box.specs.Boxes.{in_steps}
use Rattle.ember_leaf.specs.KeptRegions.{tris_of}
use Rattle.ember_leaf.specs.Written.{IsWrittenOfRegion}
use Rattle.ember_leaf.proofs.RegionOrder.{placed_push}
use Rattle.ember_leaf.proofs.WrittenRegions.{grown_none, grown_more, grown_owned}
use Rattle.ember_leaf.proofs.leaf.Leaf.add_if_written.Goals as goal

pub returns-in_ok-push-clause-placed : goal.returns-in_ok-push-clause-placed
returns-in_ok-push-clause-placed g c =
    let a = c.args in
    placed_push a.self.now.near.now a.i a.kept.now.items c.push.new.self.items c.in-Some.k c.requires.index
    c.requires.kept c.in-Some.ensures.placed c.in_ok-push.ensures.items

pub returns-in_ok-push-clause-written : goal.returns-in_ok-push-clause-written
returns-in_ok-push-clause-written g c =
    let s = c.args.self.now in let ns = tris_of s.near.now in let f = formula_of s.expr.now in let i = c.args.i in
    let r = c.args.ring in let old = c.args.kept.now.items in
    grown_owned g.W.Width.corner g.W.Width.fine ns (in_steps g.W.Width.scale s.cell.now) s.windings.now.counts f i (r ∷ []) (r ∷ []) old c.push.new.self.items
    (grown_more g.W.Width.corner g.W.Width.fine ns (in_steps g.W.Width.scale s.cell.now) s.windings.now.counts (λ scene. IsWrittenOfRegion scene f ns i) [] r old old
    c.push.new.self.items (c.in-Some.k ∷ []) (grown_none _ old (λ scene h. none)) c.in-Some.ensures.written
    c.in_ok-push.ensures.items) refl c.requires.regions

pub returns-in_default-clause-written : goal.returns-in_default-clause-written
returns-in_default-clause-written g c =
    let s = c.args.self.now in let ns = tris_of s.near.now in let f = formula_of s.expr.now in let i = c.args.i in
    let r = c.args.ring in let old = c.args.kept.now.items in
    grown_owned g.W.Width.corner g.W.Width.fine ns (in_steps g.W.Width.scale s.cell.now) s.windings.now.counts f i (r ∷ []) (r ∷ []) old old
    (grown_more g.W.Width.corner g.W.Width.fine ns (in_steps g.W.Width.scale s.cell.now) s.windings.now.counts (λ scene. IsWrittenOfRegion scene f ns i) [] r old old old []
    (grown_none _ old (λ scene h. none)) c.in_default.ensures.written (sym (append-nil old))) refl c.requires.regions
