-- The boxes that a run ended, and what is reported of them
use Rattle.std.specs.Prelude.{ℕ, List, [], ◌∷◌, map}
use Rattle.ember_job.specs.declared.job.Entry.{Entry}
use Rattle.ember_job.specs.declared.job.Job.{Job}
use Rattle.ember_job.specs.Visited.{entry_of, visited}
use Rattle.ember_job.specs.Weights.{SameEntries}
use Rattle.ember_job.specs.Works.{Shape}
use Rattle.ember_report.specs.declared.report.Report.{Report}
use Rattle.ember_report.specs.Reports.{report_from}

-- the entries of all visited boxes
abbrev pub entries : (Job → Shape) → Job → List Entry
entries shape root = map (entry_of shape) (visited shape root)

-- the journals have the entries of the visited boxes, and no others
abbrev pub AreJournalsOf : (Job → Shape) → Job → List (List Entry) → Type 0
AreJournalsOf shape root journals = SameEntries journals (entries shape root)

-- the report of the visited boxes and this number of faces
abbrev pub run_report : (Job → Shape) → Job → ℕ → Report
run_report shape root faces = report_from (entries shape root ∷ []) faces
