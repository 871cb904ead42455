use Rattle.std.proofs.Common.{◌≡◌, ◌+◌, ◌≤◌, drop, length, count_by}
use Rattle.std.specs.List.{sum_by}
use Rattle.ember_report.specs.Reports.{is_leaf, is_skipped}
use Rattle.ember_report.proofs.report.report_of.Given as goal

abbrev pub invariant-loop-journal : goal.invariant-loop-journal
invariant-loop-journal l = record {
  boxes : l.report.boxes + sum_by (λ v. length v.items) (drop l.journal-index l.journal-items) ≡ sum_by (λ v. length v.items) l.journal-items;
  leaves : l.report.leaves + sum_by (λ v. count_by is_leaf v.items) (drop l.journal-index l.journal-items) ≡ sum_by
      (λ v. count_by is_leaf v.items) l.journal-items;
  skipped : l.report.skipped + sum_by (λ v. count_by is_skipped v.items) (drop l.journal-index l.journal-items) ≡ sum_by
      (λ v. count_by is_skipped v.items) l.journal-items;
  few_leaves : l.report.leaves ≤ l.report.boxes;
  few_skipped : l.report.skipped ≤ l.report.boxes;
  faces : l.report.faces ≡ l.fn.faces;
}
