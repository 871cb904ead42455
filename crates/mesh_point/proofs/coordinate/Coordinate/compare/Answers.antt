use Rattle.std.proofs.Common.{◌≡◌, refl, ◌∙◌}
use Rattle.std.specs.Ordering.{int_cmp}
use Rattle.std.specs.declared.cmp.Ordering.TheVariants.{Less, Equal, Greater}
use Rattle.ember_algebra.proofs.Exact.{kept, ◌&◌, done, exact}
use Rattle.ember_width.proofs.CubeValues.{remainder_small}
use Rattle.mesh_point.proofs.CoordinateOrders.{less_by_floors, greater_by_floors, order_by_rests}
use Rattle.mesh_point.proofs.coordinate.Coordinate.compare.Goals as goal

pub returns-in-Less : goal.returns-in-Less
returns-in-Less c =
    let n = c.args.self.now in let m = c.args.other.now in
    let e : Less ≡ int_cmp n.floor m.floor = c.in-Less.ensures in
    less_by_floors n.floor m.floor n.rest m.rest n.weight m.weight n.valid.positive m.valid.positive n.valid.rest m.valid.rest e

pub returns-in-Equal : goal.returns-in-Equal
returns-in-Equal c =
    let n = c.args.self.now in let m = c.args.other.now in
    let e : Equal ≡ int_cmp n.floor m.floor = c.in-Equal.ensures in
    let r = exact (remainder_small n.valid.rest n.valid.weight & done) (kept 0) tt in let v = exact (n.valid.weight & done) (kept 0) tt in
    let s = exact (remainder_small m.valid.rest m.valid.weight & done) (kept 0) tt in let w = exact (m.valid.weight & done) (kept 0) tt in
    order_by_rests n.floor m.floor n.rest m.rest n.weight m.weight n.valid.positive m.valid.positive n.valid.rest m.valid.rest
    c.compare_fractions.result e (c.compare_fractions.ensures ∙ rw (r, v, s, w) refl)

pub returns-in-Greater : goal.returns-in-Greater
returns-in-Greater c =
    let n = c.args.self.now in let m = c.args.other.now in
    let e : Greater ≡ int_cmp n.floor m.floor = c.in-Greater.ensures in
    greater_by_floors n.floor m.floor n.rest m.rest n.weight m.weight n.valid.positive m.valid.positive n.valid.rest m.valid.rest e
