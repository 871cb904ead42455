use Rattle.std.proofs.Common.{refl, arith}
use Rattle.std.proofs.lemmas.Grind.{common_steps}
use Rattle.ember_report.proofs.report.report_of.Goals as goal

pub loop-journal-init : goal.loop-journal-init
loop-journal-init c =
    record { boxes = omega arith; leaves = omega arith; skipped = omega arith; few_leaves = omega arith; few_skipped = omega arith; faces = refl }

pub loop-journal-preserved : goal.loop-journal-preserved
loop-journal-preserved c = record {
  boxes = grind (arith, common_steps);
  leaves = grind (arith, common_steps);
  skipped = grind (arith, common_steps);
  few_leaves = grind (arith, common_steps);
  few_skipped = grind (arith, common_steps);
  faces = c.loop-journal.invariant.faces;
}
