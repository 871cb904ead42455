use Rattle.std.proofs.Common.{List, length, ◌<◌, ℕ, ◌++◌, ap, ◌∙◌, arith}
use Rattle.std.proofs.lemmas.Bool.Decides.{nat_tests}
use Rattle.mesh_grid.specs.Moves.Shown.{rounded_of}
use Rattle.mesh_report.specs.Reports.{counts_line}
use Rattle.mesh_report.proofs.CountLines.{one_line_more}
use Rattle.mesh_report.proofs.report.put_all_counts.Goals as goal

pub loop-name-preserved : goal.loop-name-preserved
loop-name-preserved c =
    let old = c.loop-name in
    let look = c.in-Some.ensures.lookup in
    let there : old.file < length c.args.counts.now = grind (arith, nat_tests, look.0) in
    let moved = rounded_of c.move_at-moved.result in
    let said = ap (λ (name : List ℕ). old.text.items ++ counts_line name c.in-Some.counts.now moved) (c.as_bytes.ensures.value ∙ c.as_str.ensures) in
    record {
      file = omega (arith, old.invariant.file);
      text = one_line_more c.args.names.now c.args.counts.now c.args.moves.now old.name-index old.file
          c.name-item.result c.in-Some.counts.now moved _ old.text.items c.put_counts.new.text.items c.loop-name-test.true
          c.name-item.is there look.1 c.move_at-moved.ensures old.invariant.text (c.in_ok-put_counts.ensures ∙ said);
    }
