-- The report of a run, and its line
use Rattle.std.specs.Prelude.{ℕ, Bool, true, false, List, ◌++◌, length, count_by, codes, decimal}
use Rattle.std.specs.List.{sum_by}
use Rattle.ember_job.specs.declared.job.Entry.{Entry}
use Rattle.ember_job.specs.declared.job.Kind.{Kind}
use Rattle.ember_job.specs.declared.job.Kind.TheVariants.{Halved, Leafed, Passed}
use Rattle.ember_report.specs.declared.report.Report.{Report}

-- whether a kind is that of a leaf
abbrev pub is_leafed : Kind → Bool
is_leafed Halved = false
is_leafed Leafed = true
is_leafed Passed = false

-- whether a kind is that of a skipped box
abbrev pub is_passed : Kind → Bool
is_passed Halved = false
is_passed Leafed = false
is_passed Passed = true

-- whether a box is a leaf, and whether it was skipped
abbrev pub is_leaf : Entry → Bool
is_leaf e = is_leafed e.kind

abbrev pub is_skipped : Entry → Bool
is_skipped e = is_passed e.kind

-- how many entries all journals have, how many of them are leaves, how many were skipped; and the number of faces
abbrev pub report_from : List (List Entry) → ℕ → Report
report_from journals faces =
    record {
      boxes = sum_by length journals;
      leaves = sum_by (count_by is_leaf) journals;
      skipped = sum_by
          (count_by is_skipped) journals;
      faces = faces;
    }

-- the line of a report
abbrev pub report_line_of : Report → List ℕ
report_line_of r =
    codes "boxes " ++ decimal r.boxes ++ codes " leaves " ++ decimal r.leaves ++ codes " skipped " ++
    decimal r.skipped ++ codes " faces " ++ decimal r.faces ++ codes "\n"
