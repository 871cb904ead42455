use Rattle.std.proofs.Common.{List, length, ◌<◌, ℕ, ◌++◌, ap, ◌∙◌, arith}
use Rattle.std.proofs.lemmas.Bool.Decides.{nat_tests}
use Rattle.mesh_texts.specs.Objects.{texts_of}
use Rattle.mesh_report.specs.Lying.{missed_warning}
use Rattle.mesh_report.proofs.LyingLines.{one_warning_more}
use Rattle.mesh_report.proofs.lying.put_missed_warnings.Goals as goal

pub loop-name-preserved : goal.loop-name-preserved
loop-name-preserved c =
    let old = c.loop-name in
    let all = c.args.all in
    let before = texts_of old.texts.items in
    let look = c.in-Some.ensures.lookup in
    let there : old.file < length c.args.counts.now = grind (arith, nat_tests, look.0) in
    let said = ap (λ (name : List ℕ). before ++ missed_warning name c.in-Some.count.now all) (c.as_bytes.ensures.value ∙ c.as_str.ensures) in
    record {
      file = omega (arith, old.invariant.file);
      texts = one_warning_more c.args.names.now c.args.counts.now all old.name-index old.file c.name-item.result
          c.in-Some.count.now _ before (texts_of c.put_missed_warning.new.texts.items) c.loop-name-test.true
          c.name-item.is there look.1 old.invariant.texts (c.in_ok-put_missed_warning.ensures ∙ said);
    }
