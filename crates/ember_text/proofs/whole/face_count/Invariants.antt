use Rattle.std.proofs.Common.{◌≡◌, take}
use Rattle.std.specs.List.{sum_by}
use Rattle.ember_text.specs.FacesTexts.{FacesText}
use Rattle.ember_text.proofs.whole.face_count.Given as goal

abbrev pub invariant-loop-text : goal.invariant-loop-text
invariant-loop-text l = l.all ≡ sum_by (λ (t : FacesText). t.count) (take l.text-index l.texts)
