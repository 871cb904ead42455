use Rattle.std.proofs.Common.{◌+◌, sym, ◌∙◌, arith, get_or}
use mir.Syntax.{w32}
use Rattle.ember_algebra.proofs.Exact.{input, stored, ◌&◌, done, exact}
use Rattle.ember_model.specs.Faces.{crossing}
use Rattle.ember_law.specs.Counts.{with_more}
use Rattle.ember_law.proofs.FlatTriangles.{flat_crossing}
use Rattle.ember_law.proofs.Tallies.{no_tri, tally_more, tally_none}
use Rattle.ember_law.proofs.CountBounds.{all_within}
use Rattle.ember_law.proofs.count.count_rays.Goals as goal

pub loop-t-init : goal.loop-t-init
loop-t-init c =
    record {
      value = sym (tally_none (λ f. crossing f c.args.axis c.args.point.now) c.args.v.now.counts);
      within = λ m h. all_within c.args.v.now.counts (omega arith) h;
    }

pub add_count-requires-clause-room : goal.add_count-requires-clause-room
add_count-requires-clause-room c =
    let l = c.requires.few in let e = c.loop-t.auto.t-index-end in
    all_within c.loop-t.v.counts (omega arith) (c.loop-t.invariant.within 16515072 c.requires.room)

pub loop-t-preserved : goal.loop-t-preserved
loop-t-preserved c =
    let a = c.args.axis in let p = c.args.point.now in let ts = c.args.tris.now in let k = c.loop-t.t-index in
    let l = c.loop-t-test.true in let m = c.requires.numbered k no_tri l in
    let more = exact (c.crossing.ensures.small & done) (stored w32 (input 0)) tt ∙ c.crossing.ensures.value in
    let old = c.loop-t.invariant.value in
    record {
      value = c.add_count.ensures.value ∙ (λ i. with_more (old i) (get_or ts k no_tri).mesh (more i))
          ∙ sym (tally_more (λ f. crossing f a p) (flat_crossing a p) ts k no_tri l m c.args.v.now.counts);
      within = λ m h. all_within c.add_count.new.v.counts (omega arith) (c.add_count.ensures.within (m + k) (c.loop-t.invariant.within m h));
    }

pub returns-clause-within : goal.returns-clause-within
returns-clause-within c = λ m h. let e = c.loop-t-test.false in let f = c.loop-t.auto.t-index-end in
    all_within c.loop-t.v.counts (omega arith) (c.loop-t.invariant.within m h)
