use Rattle.std.proofs.Common.{◌≡◌, ◌++◌}
use Rattle.ember_model.specs.FaceFiles.{header}
use Rattle.ember_text.proofs.GrowingTexts.{bytes_of}
use Rattle.ember_text.proofs.whole.document_of.Given as goal

abbrev pub invariant-loop-text : goal.invariant-loop-text
invariant-loop-text l =
    l.file.items ++ bytes_of l.text-iterator.rest.items ≡ header ++ bytes_of l.fn.texts.items
