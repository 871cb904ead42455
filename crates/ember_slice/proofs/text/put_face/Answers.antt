use Rattle.std.proofs.Common.{subst, to_z-of_z, Ok, Option}
use Rattle.ember_slice.specs.declared.ends.Segment.{Segment}
use Rattle.ember_slice.specs.Segments.{IsAnswer}
use Rattle.ember_slice.proofs.SliceTexts.{adds_none, adds_one}
use Rattle.ember_slice.proofs.text.put_face.Goals as goal

pub returns-in-Ok-None-clause-ok : goal.returns-in-Ok-None-clause-ok
returns-in-Ok-None-clause-ok c =
    let f = c.args.face.now in let a = c.in-Ok-None in
    adds_none f c.args.at c.args.out.now.items (subst (λ (o : Option Segment). IsAnswer f c.args.at (Ok o)) a.field-0-is
    (subst (λ at. IsAnswer f at (Ok a.field-0)) (to_z-of_z c.ranges.at) a.ensures))

pub returns-in_ok-put_segment-in-Ok-Some-clause-ok : goal.returns-in_ok-put_segment-in-Ok-Some-clause-ok
returns-in_ok-put_segment-in-Ok-Some-clause-ok c =
    let f = c.args.face.now in let a = c.in-Ok-Some in
    adds_one f c.args.at c.args.out.now.items c.put_segment.new.out.items a.s
    (subst (λ (o : Option Segment). IsAnswer f c.args.at (Ok o)) a.field-0-is
    (subst (λ at. IsAnswer f at (Ok a.field-0)) (to_z-of_z c.ranges.at) a.ensures))
    c.in_ok-put_segment-in-Ok-Some.ensures
