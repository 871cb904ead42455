use Rattle.std.proofs.Common.{List, length, ◌<◌, ℕ, ◌++◌, ap, ◌∙◌, arith}
use Rattle.std.proofs.lemmas.Bool.Decides.{nat_tests}
use Rattle.mesh_texts.specs.Texts.{line}
use Rattle.mesh_report.specs.Lying.{on_file_text}
use Rattle.mesh_report.proofs.LyingLines.{one_line_more}
use Rattle.mesh_report.proofs.lying.put_on_files.Goals as goal

pub loop-name-preserved : goal.loop-name-preserved
loop-name-preserved c =
    let old = c.loop-name in
    let all = c.args.all in
    let look = c.in-Some.ensures.lookup in
    let there : old.file < length c.args.counts.now = grind (arith, nat_tests, look.0) in
    let said = ap (λ (name : List ℕ). old.text.items ++ line (on_file_text name c.in-Some.count.now all)) (c.as_bytes.ensures.value ∙ c.as_str.ensures) in
    record {
      file = omega (arith, old.invariant.file);
      text = one_line_more c.args.names.now c.args.counts.now all old.name-index old.file c.name-item.result
          c.in-Some.count.now _ old.text.items c.put_on_file.new.text.items c.loop-name-test.true c.name-item.is there
          look.1 old.invariant.text (c.in_ok-put_on_file.ensures ∙ said);
    }
