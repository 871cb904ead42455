use Rattle.std.proofs.Common.{◌≡◌, Err, [], ap, arith, subst}
use Rattle.std.proofs.lemmas.List.{get_or-map, length-map}
use Rattle.std.specs.Str.{IsUtf8}
use Rattle.ember_call.specs.declared.lent.Lent.{Lent}
use Rattle.ember_call.specs.declared.texts.NoTexts.{NoTexts}
use Rattle.ember_call.specs.declared.texts.NoTexts.TheVariants.{NotUtf8}
use Rattle.ember_call.proofs.texts.texts_of.Goals as goal

pub returns-in-Err-clause-not_utf8 : goal.returns-in-Err-clause-not_utf8
returns-in-Err-clause-not_utf8 c = λ is all.
    let words = c.args.words.now in
    let i = c.loop-word.word-index in
    let same : c.in-Err.fault ≡ NotUtf8 = cc in
    c.in-Err.ensures.not_utf8 (ap (λ (fault : NoTexts). Err fault) same)
    (subst IsUtf8 (get_or-map (λ (word : Lent). word.bytes.now) words i _ [] c.loop-word-test.true)
    (all i [] (omega (arith, length-map words (λ (word : Lent). word.bytes.now), c.loop-word-test.true))))
