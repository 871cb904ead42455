use Rattle.std.proofs.Common.{◌≡◌, ◌++◌, ◌∙◌, sym, ap, List, []}
use Rattle.std.proofs.lemmas.List.{nil_from_length}
use Rattle.ember_model.specs.FaceFiles.{header}
use Rattle.ember_text.specs.FacesTexts.{FacesText}
use Rattle.ember_text.specs.Documents.{document_of, joined}
use Rattle.ember_text.proofs.GrowingTexts.{bytes_of, one_copied, all_copied, file_is_document}
use Rattle.ember_text.proofs.whole.document_of.Goals as goal

pub loop-text-init : goal.loop-text-init
loop-text-init c =
    λ i. (c.in_ok-reserve_exact.ensures.items ∙ c.in_ok-file.ensures) i ++ bytes_of (c.into_iter-text-iterator.ensures.into_iter_gives.0 i)

pub loop-text-preserved : goal.loop-text-preserved
loop-text-preserved c =
    one_copied c.loop-text.text-iterator.rest.items c.next.new.self.rest.items c.in-Some.text
    (header ++ bytes_of c.args.texts.items) c.loop-text.file.items c.loop-text.invariant c.in-Some.ensures.steps.0
    (c.in_ok-extend_from_slice.ensures.items ∙ ap (λ bytes. c.loop-text.file.items ++ bytes) c.bytes.ensures)

whole : (c : goal.In_ok-put_ending) → c.put_ending.new.out.items ≡ document_of (joined c.args.texts.items)
whole c =
    let rest = c.loop-text.text-iterator.rest in
    let none : rest.items ≡ [] = nil_from_length rest.items (sym rest.ok.0 ∙ c.in-None.ensures.steps.0) in
    all_copied rest.items c.args.texts.items c.in_ok-count.count c.loop-text.file.items c.loop-text.invariant none
    (c.in_ok-count.ensures ∙ ap (λ (ts : List FacesText). (joined ts).count) c.deref.ensures.value)
    c.in_ok-put_ending.ensures

pub returns-clause-bytes : goal.returns-clause-bytes
returns-clause-bytes c = whole c

pub returns-clause-document : goal.returns-clause-document
returns-clause-document c = λ faces is. file_is_document faces (joined c.args.texts.items) (whole c) is
