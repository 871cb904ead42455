use Rattle.std.proofs.Common.{map, refl}
use Rattle.std.proofs.lemmas.Result.{IfOk-weaker}
use Rattle.ember_text.specs.Documents.{written_face}
use Rattle.ember_text.proofs.FacesInTexts.{outlines_in_texts}
use Rattle.ember_text.proofs.outline.outline_faces.Goals as goal

pub returns : goal.returns
returns c =
    IfOk-weaker c.outline_faces_on.result _ _
    (λ faces h. outlines_in_texts _ (λ p v. v) (λ m. refl) (map written_face c.args.kept.now) faces.items h) c.outline_faces_on.ensures
