use Rattle.std.proofs.Common.{◌^◌, lit<, List, take_all, ◌+◌, sym, ap, ◌∙◌, arith, get_or}
use Rattle.ember_model.specs.declared.tri.Tri.{Tri}
use Rattle.ember_model.specs.Faces.{face_of, leg}
use Rattle.ember_model.specs.Limits.{narrow_limit}
use Rattle.ember_law.specs.Counts.{with_more}
use Rattle.ember_law.proofs.FlatTriangles.{flat_leg}
use Rattle.ember_law.proofs.Tallies.{no_tri, tally_more, tally_none}
use Rattle.ember_law.proofs.CountBounds.{all_within}
use Rattle.ember_box.specs.Boxes.{right_half}
use Rattle.ember_box.specs.Reference.{reference}
use Rattle.ember_ref.specs.References.{counts_at_right_half}
use Rattle.ember_ref.proofs.ShiftLaw.{shift_law}
use Rattle.ember_ref.proofs.shifting.shift.Goals as goal

pub loop-t-init : goal.loop-t-init
loop-t-init c =
    record {
      value = sym (tally_none (λ f. leg f (reference (right_half c.args.c.now c.args.k)) (reference c.args.c.now)) c.args.v.now.counts);
      within = λ m h. all_within c.args.v.now.counts (omega arith) h;
    }

pub add_crossing-requires-clause-room : goal.add_crossing-requires-clause-room
add_crossing-requires-clause-room c =
    let l = c.requires.few in let e = c.loop-t.auto.t-index-end in
    all_within c.loop-t.v.counts (omega arith) (c.loop-t.invariant.within 16515072 c.requires.room)

pub loop-t-preserved : goal.loop-t-preserved
loop-t-preserved c =
    let b = c.args.c.now in let k = c.args.k in let p = reference (right_half b k) in let q = reference b in
    let ts = c.args.near.now in let i = c.loop-t.t-index in let t = get_or ts i no_tri in
    let l = c.loop-t-test.true in
    record {
      value = c.add_crossing.ensures.value narrow_limit (2 ^ 27) b k (c.requires.valid i no_tri l) (lit< tt) c.requires.side c.segment_back-segment.ensures.back
          ∙ ap (λ old. with_more old t.mesh (leg (face_of t) p q)) c.loop-t.invariant.value
          ∙ sym (tally_more (λ f. leg f p q) (flat_leg p q) ts i no_tri l (c.requires.numbered i no_tri l)
          c.args.v.now.counts);
      within = λ m h. all_within c.add_crossing.new.v.counts (omega arith) (c.add_crossing.ensures.within (m + i) (c.loop-t.invariant.within m h));
    }

pub returns-clause-within : goal.returns-clause-within
returns-clause-within c = λ m h. let e = c.loop-t-test.false in let f = c.loop-t.auto.t-index-end in
    all_within c.loop-t.v.counts (omega arith) (c.loop-t.invariant.within m h)

pub returns-clause-law : goal.returns-clause-law
returns-clause-law c = λ ts f.
    let b = c.args.c.now in let k = c.args.k in let old = c.args.v.now.counts in
    shift_law ts c.args.near.now b k old c.requires.side f
    ∙ sym (c.loop-t.invariant.value ∙ ap (λ (ns : List Tri). counts_at_right_half ns b k old)
    (take_all c.loop-t.t-index c.args.near.now c.loop-t-test.false))
