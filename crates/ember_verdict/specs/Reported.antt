-- What err takes of a call
use Rattle.std.specs.Prelude.{◌≡◌, ℕ, Bool, true, false, List, [], None, Some}
use Rattle.std.specs.declared.option.Option.{Option}
use Rattle.ember_words.specs.declared.command.Command.{Command}
use Rattle.ember_words.specs.declared.command.Command.TheVariants as command
use Rattle.ember_verdict.specs.declared.status.Status.{Status}
use Rattle.ember_verdict.specs.declared.status.Status.TheVariants.{Done}
use Rattle.ember_io.specs.Calls.{SinkCall}
use Rattle.ember_verdict.specs.Held.{MayHold}
use Rattle.ember_verdict.specs.Lines.{line_on_err}
use Rattle.ember_verdict.specs.Messages.{AppendsUntilFault}
use Rattle.ember_verdict.specs.Outputs.{Output, FaceTexts, Counts, MeetingPairs, SolidFaces, SolidReport, Lattice}
use Rattle.ember_verdict.specs.Solids.{IsReportText}
use Rattle.ember_verdict.specs.Verdict.{Verdict, Unknown, Refused, Writes, Slices, names_of, verdict_of}

-- whether a report is asked for
abbrev pub asks_report : Option Command → Bool
asks_report None = false
asks_report (Some (command.Faces places file)) = false
asks_report (Some (command.At point expr places files)) = false
asks_report (Some (command.Boole expr workers places report files)) = report
asks_report (Some (command.Demo boxes workers)) = false
asks_report (Some (command.Voxels expr size workers places files)) = false
asks_report (Some (command.Pairs workers places files)) = false
asks_report (Some (command.Slice at file)) = false

-- the line is the report of this output; only that of `bool` has one
abbrev pub IsReportOfOutput : Output → List ℕ → Type 0
IsReportOfOutput (FaceTexts tris) line = ⊥
IsReportOfOutput (Counts point meshes tris expr) line = ⊥
IsReportOfOutput (MeetingPairs tris) line = ⊥
IsReportOfOutput (SolidFaces tris formula) line = IsReportText tris formula line
IsReportOfOutput (SolidReport tris formula) line = ⊥
IsReportOfOutput (Lattice tris formula size) line = ⊥

-- the verdict is told, and the line is the report of what it writes
abbrev pub IsReportOfVerdict : Verdict → List ℕ → Type 0
IsReportOfVerdict Unknown line = ⊥
IsReportOfVerdict (Refused refusal) line = ⊥
IsReportOfVerdict (Writes output) line = IsReportOfOutput output line
IsReportOfVerdict (Slices at bytes) line = ⊥

-- a report if one is asked for, otherwise nothing
abbrev pub IsReportOfVerdictIfAsked : Bool → Verdict → List ℕ → Type 0
IsReportOfVerdictIfAsked false verdict line = line ≡ []
IsReportOfVerdictIfAsked true verdict line = IsReportOfVerdict verdict line

-- err took the report up to its first fault; nothing if no report is asked for
abbrev pub IsReported : Bool → Verdict → SinkCall → Type 0
IsReported asked verdict err = (line : List ℕ) × IsReportOfVerdictIfAsked asked verdict line ×
    AppendsUntilFault err.faults err.faults_after err.taken err.taken_after line

-- the text on err: after success the report of contents that the files may have, if one is asked for, otherwise the
-- line of the status
abbrev pub IsErrText : Option Command → (List ℕ → Option (List ℕ)) → Status → List ℕ → Type 0
IsErrText command told Done text =
    MayHold told (names_of command)
    (λ contents. IsReportOfVerdictIfAsked (asks_report command) (verdict_of command contents) text)
IsErrText command told status text = text ≡ line_on_err (names_of command) status
