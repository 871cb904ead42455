-- What a call promises: which status it may end with, and what it then did to each device
use Rattle.std.specs.Prelude.{◌≡◌, ◌≢◌, ◌≤◌, ◌⊎◌, Bool, true, false, ℕ, ◌-◌, List, length, map, None, Some}
use Rattle.std.specs.Prelude.{String, string_bytes}
use Rattle.std.specs.declared.alloc.Global.{Global}
use Rattle.std.specs.declared.option.Option.{Option}
use Rattle.ember_io.specs.Sinks.{IsFlushed}
use Rattle.ember_words.specs.declared.command.Command.{Command}
use Rattle.ember_words.specs.Canonical.{CommandLine, IsCanonical, command_of_line, words_of}
use Rattle.ember_words.specs.WordsCommand.{command_of}
use Rattle.ember_verdict.specs.Statuses.{HasOutput, IsBegun, IsBegunIfTold, IsRefusal, IsRefusalIfTold}
use Rattle.ember_verdict.specs.Statuses.{IsText, IsWritten, IsWrittenIfTold, hides_memory}
use Rattle.ember_verdict.specs.Statuses.{is_before_files, is_refusal, refused_file}
use Rattle.ember_io.specs.Calls.{ShelfCall, SinkCall, HasShelfFailed, HasSinkFailed}
use Rattle.ember_io.specs.Shelves.{IsFileIn, Told}
use Rattle.ember_verdict.specs.Held.{MayHold}
use Rattle.ember_verdict.specs.Messages.{AppendsUntilFault}
use Rattle.ember_verdict.specs.Reported.{IsErrText, IsReported, IsReportOfVerdictIfAsked, asks_report}
use Rattle.ember_verdict.specs.NoReplies.{with_others}
use Rattle.ember_verdict.specs.Verdict.{Contents, Verdict, Unknown, Refused, names_of, told_verdict, verdict_before}
use Rattle.ember_verdict.specs.Verdict.{first_told, verdict_of}
use Rattle.ember_run.specs.declared.reply.Reply.{Reply}
use Rattle.ember_verdict.specs.declared.status.Status.{Status}
use Rattle.ember_verdict.specs.declared.status.Status.TheVariants.{Done, Words, ReadFault, WriteFault, OutOfMemory}

-- the text is the output of the verdict, and the report is there if it is asked for
pub record IsReply (asked : Bool) (verdict : Verdict) (reply : Reply) : Type 0 where
  pub text : IsText verdict reply.text.items
  pub report : IsReportOfVerdictIfAsked asked verdict reply.report.items

-- it is the reply to a verdict over contents that the files with these names may have
abbrev pub IsReplyOver : Bool → (Contents → Verdict) → List (List ℕ) → Told → Reply → Type 0
IsReplyOver asked verdict names told reply = MayHold told names (λ contents. IsReply asked (verdict contents) reply)

-- this is the reply to a command over contents that its files may have
abbrev pub IsReplyTo : Command → Told → Reply → Type 0
IsReplyTo command told reply =
    MayHold told (names_of (Some command))
    (λ contents. IsReply (asks_report (Some command)) (verdict_of (Some command) contents) reply)

-- words in the canonical spelling give the command of their values
abbrev pub ReadsCanonical : List (List ℕ) → Type 0
ReadsCanonical words =
    (line : CommandLine) → IsCanonical line → words ≡ words_of line → command_of words ≡ command_of_line line

-- what a call promises if its words ask for this command, or for none. The fields say nothing of
-- `told_verdict` if it is
-- Unknown, nor of bytes that aren't told; those whose names end in `_read` say what holds then, too. The system's files
-- and streams tell no bytes (README.md, "What is guaranteed")
pub record Serves (command : Option Command) (shelf : ShelfCall) (out err : SinkCall) (status : Status) : Type 0 where
  -- the shelf has what it had, and no count of faults falls
  pub contents : shelf.told_after ≡ shelf.told
  pub later : shelf.faults ≤ shelf.faults_after
  pub out_later : out.faults ≤ out.faults_after
  -- the whole output was taken, and is flushed
  pub done : status ≡ Done → IsWrittenIfTold (told_verdict command shelf.told) out.taken out.taken_after ×
      IsFlushed out.taken_after out.flushed_after
  -- the output is that of contents that the files may have, told or not
  pub done_read : status ≡ Done → MayHold shelf.told (names_of command)
      (λ contents. IsWritten (verdict_of command contents) out.taken out.taken_after)
  -- the output and the report, if one is asked for, are those of the same contents
  pub reported_read : status ≡ Done → MayHold shelf.told (names_of command)
      (λ contents. IsWritten (verdict_of command contents) out.taken out.taken_after ×
      IsReported (asks_report command) (verdict_of command contents) err)
  -- a refusal is that of the verdict
  pub refused : is_refusal status ≡ true → IsRefusalIfTold status (told_verdict command shelf.told)
  -- a refusal is that of contents that the files may have, told or not
  pub refused_read : is_refusal status ≡ true → MayHold shelf.told (names_of command)
      (λ contents. IsRefusal status (verdict_of command contents))
  -- the words alone decide whether they are refused
  pub words : status ≡ Words → command ≡ None
  pub no_command : command ≡ None → (status ≡ Words) ⊎ (status ≡ OutOfMemory)
  -- a refusal of the words or of the expression doesn't depend on any file, nor on what the devices do.
  -- `verdict_before i` tells the files before file i, counted from 1, so `verdict_before 1` tells none. (`first_told n`
  -- of `IsNoReply` tells the first n files, so none is `first_told 0` there)
  pub before_files : is_before_files status ≡ true → verdict_before 1 command shelf.told ≡ Refused status
  pub before_files_given : (refusal : Status) → verdict_before 1 command shelf.told ≡ Refused refusal →
      (status ≡ refusal) ⊎ (status ≡ OutOfMemory)
  -- a refusal of file i doesn't depend on the contents of the files after it
  pub in_file : (i : ℕ) → refused_file status ≡ Some i → (others : Contents) →
      length others ≡ length (names_of command) →
      IsRefusalIfTold status (verdict_of command (with_others i (map shelf.told (names_of command)) others))
  -- file i is one that the command names
  pub one_of : (i : ℕ) → refused_file status ≡ Some i → IsFileIn (names_of command) i
  -- out-of-memory isn't hidden in another status
  pub memory : hides_memory status ≡ false
  -- a read fault: the shelf failed at file i of the command, and nothing before it is refused
  pub read_fault : (i : ℕ) → status ≡ ReadFault i → HasShelfFailed shelf × (shelf.fault_at ≡ i) ×
      (verdict_before i command shelf.told ≡ Unknown) × IsFileIn (names_of command) i
  -- nothing before file i is refused, by contents that the files before it may have, told or not
  pub read_fault_read : (i : ℕ) → status ≡ ReadFault i → MayHold shelf.told (names_of command)
      (λ contents. verdict_of command (first_told (i - 1) contents) ≡ Unknown)
  -- a write fault: out failed, and took a prefix of the output
  pub write_fault : status ≡ WriteFault → HasSinkFailed out ×
      IsBegunIfTold (told_verdict command shelf.told) out.taken out.taken_after
  -- it is one of the output of contents that the files may have
  pub begun_read : status ≡ WriteFault → MayHold shelf.told (names_of command)
      (λ contents. IsBegun (verdict_of command contents) out.taken out.taken_after)
  -- with any other status, out took nothing
  pub untouched : status ≢ Done → status ≢ WriteFault → out.taken_after ≡ out.taken
  -- if no device failed, the call does what the verdict asks for, or memory was short
  pub output_given : HasOutput (told_verdict command shelf.told) → ¬ HasShelfFailed shelf → ¬ HasSinkFailed out →
      (status ≡ Done) ⊎ (status ≡ OutOfMemory)
  pub refusal_given : (refusal : Status) → IsRefusal refusal (told_verdict command shelf.told) →
      ¬ HasShelfFailed shelf → (status ≡ refusal) ⊎ (status ≡ OutOfMemory)
  -- err took the report, or the line of the status, up to its first fault
  pub err_text : (text : List ℕ) × IsErrText command shelf.told status text ×
      AppendsUntilFault err.faults err.faults_after err.taken err.taken_after text

-- what a call promises for its words
abbrev pub ServesWords : List (String Global) → ShelfCall → SinkCall → SinkCall → Status → Type 0
ServesWords words shelf out err status = Serves (command_of (map string_bytes words)) shelf out err status
