use Rattle.std.proofs.Common.{subst}
use Rattle.ember_leaf.specs.KeptRegions.{NarrowKept as Kept}
use Rattle.ember_text.specs.Documents.{written_face}
use Rattle.ember_text.specs.Texts.{Writes}
use Rattle.ember_text.proofs.GrownBytes.{grown_none}
use Rattle.ember_text.proofs.GrowingTexts.{more_good_texts}
use Rattle.ember_text.proofs.texts.put_faces.Goals as goal

pub loop-k-init : goal.loop-k-init
loop-k-init c = grown_none c.args.out.now.items

pub loop-k-preserved : goal.loop-k-preserved
loop-k-preserved c =
    more_good_texts c.args.kept.now c.loop-k.k-index c.k-item.result c.args.out.now.items c.loop-k-test.true
    c.loop-k.invariant (subst (λ (k : Kept). Writes (written_face k) c.loop-k.out.items c.face_text.new.out.items)
    c.k-item.is c.in_ok-face_text.ensures.ok)
