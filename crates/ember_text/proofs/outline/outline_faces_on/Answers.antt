use Rattle.std.proofs.Common.{subst}
use Rattle.ember_text.specs.Documents.{written_face}
use Rattle.ember_text.specs.OutlineFaces.{IsOutlineFace}
use Rattle.ember_text.proofs.OutlineFaces.{one_more_face}
use Rattle.ember_text.proofs.outline.outline_faces_on.Goals as goal

pub loop-k-preserved : goal.loop-k-preserved
loop-k-preserved g c =
    one_more_face g.W.Width c.args.kept.now c.loop-k.k-index c.k-item.result c.loop-k.faces.items c.in_ok-outline_face.field-0
    c.loop-k-test.true c.loop-k.invariant (subst
    (λ k. IsOutlineFace g.W.Width (written_face k) c.in_ok-outline_face.field-0) c.k-item.is
    c.in_ok-outline_face.ensures) c.in_ok-push.ensures.items
