use Rattle.std.proofs.Common.{refl, sym, ap, map, get_or, ◌∙◌, ◌+◌, ◌*◌, arith}
use Rattle.std.proofs.lemmas.List.{take_all}
use Rattle.ember_box.specs.Boxes.{in_steps}
use Rattle.ember_law.proofs.CountBounds.{all_within}
use Rattle.ember_trace.specs.Crossings.{taken, crossing_before, crossing_after}
use Rattle.ember_trace.proofs.Tallies.{taken_more}
use Rattle.ember_trace.specs.NearTriangles.{tri_of}
use Rattle.ember_trace.specs.Paths.{path_of, first_of, second_of}
use Rattle.ember_trace.proofs.Roots.{corner_above}
use Rattle.ember_trace.proofs.TracedSides.{are_sides}
use Rattle.ember_trace.proofs.sides.trace_sides_on.Goals as goal

pub limits_of-at-requires : goal.limits_of-at-requires
limits_of-at-requires g c =
    let e = c.path_to-way.ensures in record { first = e.first ∙ sym (ap first_of e.main); second = e.second ∙ sym (ap second_of e.main) }

pub take_crossings-requires-clause-room_before : goal.take_crossings-requires-clause-room_before
take_crossings-requires-clause-room_before g c =
    let l = c.requires.few in let e = c.loop-triangle.auto.triangle-index-end in
    all_within c.loop-triangle.sides.before.counts (omega arith) (c.loop-triangle.invariant.before 9437184 c.requires.counts)

pub take_crossings-requires-clause-room_after : goal.take_crossings-requires-clause-room_after
take_crossings-requires-clause-room_after g c =
    let l = c.requires.few in let e = c.loop-triangle.auto.triangle-index-end in
    all_within c.loop-triangle.sides.after.counts (omega arith) (c.loop-triangle.invariant.after 9437184 c.requires.counts)

pub loop-triangle-preserved : goal.loop-triangle-preserved
loop-triangle-preserved g c =
    let i = c.loop-triangle.triangle-index in let n = c.args.near.now in let v = c.args.v.now.counts in let w =
    path_of c.path_to-way.result in let f = c.triangle-item.result in
    let less = c.crossings_of-less.ensures in
    record {
      before = λ m h. all_within c.take_crossings.new.sides.before.counts (omega arith)
          (c.take_crossings.ensures.within_before (m + 3 * i) (c.loop-triangle.invariant.before m h));
      after = λ m h. all_within c.take_crossings.new.sides.after.counts (omega arith)
          (c.take_crossings.ensures.within_after (m + 3 * i) (c.loop-triangle.invariant.after m h));
      traced_before = taken_more (crossing_before w) n i f v c.loop-triangle.sides.before.counts _ _
          c.loop-triangle-test.true c.triangle-item.is c.loop-triangle.invariant.traced_before less.before
          c.take_crossings.ensures.before;
      traced_after = taken_more (crossing_after w) n i f v c.loop-triangle.sides.after.counts _ _
          c.loop-triangle-test.true c.triangle-item.is c.loop-triangle.invariant.traced_after less.after
          c.take_crossings.ensures.after;
    }

pub returns-clause-before : goal.returns-clause-before
returns-clause-before g c = λ m h.
    let e = c.loop-triangle-test.false in let f = c.loop-triangle.auto.triangle-index-end in
    all_within c.loop-triangle.sides.before.counts (omega arith) (c.loop-triangle.invariant.before m h)

pub returns-clause-after : goal.returns-clause-after
returns-clause-after g c = λ m h.
    let e = c.loop-triangle-test.false in let f = c.loop-triangle.auto.triangle-index-end in
    all_within c.loop-triangle.sides.after.counts (omega arith) (c.loop-triangle.invariant.after m h)

pub returns-clause-traced : goal.returns-clause-traced
returns-clause-traced g c =
    let w = path_of c.path_to-way.result in let v = c.args.v.now.counts in
    let past = c.loop-triangle-test.false in
    let all = take_all c.loop-triangle.triangle-index c.args.near.now (omega arith) in
    record {
      way = w;
      is_way = c.path_to-way.ensures;
      before = c.loop-triangle.invariant.traced_before ∙ ap (λ fs. taken (crossing_before w) fs v) all;
      after = c.loop-triangle.invariant.traced_after ∙ ap (λ fs. taken (crossing_after w) fs v) all;
    }

pub returns-clause-sides : goal.returns-clause-sides
unfolding returns-clause-traced
returns-clause-sides g c = λ reference_sides.
    let near = c.args.near.now in let w = c.path_to-way.result in
    are_sides g.W.Width.corner g.W.Width.fine (corner_above g.W.Width.scale g.met.W.Width.ends) g.met.W.Width.tells_apart (map tri_of near)
    (in_steps g.W.Width.scale c.args.c.now) c.args.v.now.counts c.args.r.now _ near (λ i d l. (get_or near i d).valid)
    (record { tris = refl; reference_sides = reference_sides }) (returns-clause-traced g c) w.within
