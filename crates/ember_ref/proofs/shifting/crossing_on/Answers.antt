use Rattle.std.proofs.Common.{◌≡◌, sym, ◌∙◌, false, arith}
use mir.Syntax.{w32}
use Rattle.ember_algebra.proofs.Exact.{input, stored, ◌&◌, done, exact}
use Rattle.ember_model.specs.Faces.{face_of, leg}
use Rattle.ember_box.specs.Boxes.{right_half}
use Rattle.ember_box.specs.Aabbs.{aabb_of_cell, aabb_of_tri, aabbs_meet_beside}
use Rattle.ember_ref.specs.Segments.{column}
use Rattle.ember_ref.proofs.MissedSegments.{leg_missed}
use Rattle.ember_ref.proofs.ReferenceLegs.{beside_is}
use Rattle.ember_ref.proofs.shifting.crossing_on.Goals as goal

pub returns-then-aabbs_meet_beside-clause-value : goal.returns-then-aabbs_meet_beside-clause-value
returns-then-aabbs_meet_beside-clause-value c = λ m f b k within tells above back.
    let s = c.args.segment.now in
    let from = beside_is f s.from (right_half b k).lo back.from in let to = beside_is f s.to b.lo back.to in
    exact (c.crossing_between.ensures.small & done) (stored w32 (input 0)) tt
    ∙ c.crossing_between.ensures.value m f within tells (c.requires.straight.line f)
    ∙ (λ i. leg (face_of c.args.t.now) (from i) (to i))

pub returns-else-aabbs_meet_beside-clause-value : goal.returns-else-aabbs_meet_beside-clause-value
returns-else-aabbs_meet_beside-clause-value c = λ m f b k within tells above back.
    let t = c.args.t.now in let along = c.args.segment.now.axis in
    let missed : aabbs_meet_beside along (aabb_of_tri t) (aabb_of_cell (column b k)) ≡ false =
    (λ i. aabbs_meet_beside along (aabb_of_tri t) (sym back.aabb i)) ∙ sym c.aabbs_meet_beside.ensures
    ∙ c.if-aabbs_meet_beside.false in
    sym (leg_missed f b k along t (omega (arith, tells)) above missed)
