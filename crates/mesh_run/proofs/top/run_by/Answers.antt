use Rattle.std.proofs.Common.{◌≡◌, ℕ, List, map, refl, subst, arith}
use Rattle.std.specs.Prelude.{string_bytes, Ok, Err}
use Rattle.mesh_words.specs.Commands.{Reads, command_of}
use Rattle.mesh_words.specs.declared.command.Command.{Command}
use Rattle.mesh_words.specs.declared.command.Command.TheVariants.{Boole, Snap, Export, Info, View, Help, Version}
use Rattle.mesh_words.specs.declared.faults.WordsFault.{WordsFault}
use Rattle.ember_io.specs.Calls.{sink_call}
use Rattle.mesh_run.specs.Serves.{IsMessageOutcome}
use Rattle.mesh_run.proofs.KeptNames.{names_hold_the_same}
use Rattle.mesh_run.proofs.Outcomes.{call_serves, words_without_memory}
use Rattle.mesh_run.proofs.top.run_by.Goals as goal

pub returns-in-Ok-Boole : goal.returns-in-Ok-Boole
returns-in-Ok-Boole g c =
    let json = c.words_ask_json-json.result in
    let asked = c.words_ask_json-json.ensures in
    let e = c.serve_solid.ensures in
    let words = map string_bytes c.args.words.now in
    let is : command_of words ≡ Ok (Boole c.in-Ok-Boole.request) =
    subst (λ (command : Command). command_of words ≡ Ok command) c.in-Ok-Boole.field-0-is
    c.in-Ok-Boole.ensures.command in
    call_serves json words (Ok (Boole c.in-Ok-Boole.request)) _ _ _ _ c.serve_solid.result e.outcome.0 asked is e.contents
    e.none_begun e.later e.later_out e.outcome.1 e.outcome.2 e.memory

pub returns-in-Ok-Info : goal.returns-in-Ok-Info
returns-in-Ok-Info g c =
    let json = c.words_ask_json-json.result in
    let asked = c.words_ask_json-json.ensures in
    let e = c.serve_infos.ensures in
    let words = map string_bytes c.args.words.now in
    let is : command_of words ≡ Ok (Info c.in-Ok-Info.names) =
    subst (λ (command : Command). command_of words ≡ Ok command) c.in-Ok-Info.field-0-is c.in-Ok-Info.ensures.command
    in
    call_serves json words (Ok (Info c.in-Ok-Info.names)) _ _ _ _ c.serve_infos.result e.outcome.0 asked is e.contents
    c.requires.begun (omega arith) e.later (e.outcome.1, names_hold_the_same (g.T.Target.held c.args.target.now))
    e.outcome.2 e.memory

pub returns-in-Ok-View : goal.returns-in-Ok-View
returns-in-Ok-View g c =
    let json = c.words_ask_json-json.result in
    let asked = c.words_ask_json-json.ensures in
    let e = c.serve_view.ensures in
    let words = map string_bytes c.args.words.now in
    let is : command_of words ≡ Ok (View c.in-Ok-View.request) =
    subst (λ (command : Command). command_of words ≡ Ok command) c.in-Ok-View.field-0-is c.in-Ok-View.ensures.command
    in
    call_serves json words (Ok (View c.in-Ok-View.request)) _ _ _ _ c.serve_view.result e.outcome.0 asked is e.contents
    e.none_begun e.later (omega arith) (e.outcome.1, refl) e.outcome.2 e.memory

pub returns-in-Ok-Snap : goal.returns-in-Ok-Snap
returns-in-Ok-Snap g c =
    let json = c.words_ask_json-json.result in
    let asked = c.words_ask_json-json.ensures in
    let e = c.serve_snap.ensures in
    let words = map string_bytes c.args.words.now in
    let is : command_of words ≡ Ok (Snap c.in-Ok-Snap.request) =
    subst (λ (command : Command). command_of words ≡ Ok command) c.in-Ok-Snap.field-0-is c.in-Ok-Snap.ensures.command
    in
    call_serves json words (Ok (Snap c.in-Ok-Snap.request)) _ _ _ _ c.serve_snap.result e.outcome.0 asked is e.contents
    e.none_begun e.later (omega arith) (e.outcome.1, refl) e.outcome.2 e.memory

pub returns-in-Ok-Export : goal.returns-in-Ok-Export
returns-in-Ok-Export g c =
    let json = c.words_ask_json-json.result in
    let asked = c.words_ask_json-json.ensures in
    let e = c.serve_export.ensures in
    let words = map string_bytes c.args.words.now in
    let is : command_of words ≡ Ok (Export c.in-Ok-Export.request) =
    subst (λ (command : Command). command_of words ≡ Ok command) c.in-Ok-Export.field-0-is
    c.in-Ok-Export.ensures.command in
    call_serves json words (Ok (Export c.in-Ok-Export.request)) _ _ _ _ c.serve_export.result e.outcome.0 asked is e.contents
    e.none_begun e.later e.later_out e.outcome.1 e.outcome.2 e.memory

pub returns-in-Ok-Help : goal.returns-in-Ok-Help
returns-in-Ok-Help g c =
    let json = c.words_ask_json-json.result in
    let asked = c.words_ask_json-json.ensures in
    let e = c.write_bytes.ensures in
    let out = sink_call g.O.Sink.taken g.O.Sink.flushed g.O.Sink.faults c.args.out.now c.write_bytes.new.out in
    let outcome = subst (λ (message : List ℕ). IsMessageOutcome json message out c.write_bytes.result e.outcome.0) c.as_bytes.ensures.value e.outcome.1 in
    let words = map string_bytes c.args.words.now in
    let is : command_of words ≡ Ok Help = subst (λ (command : Command). command_of words ≡ Ok command) c.in-Ok-Help.field-0-is c.in-Ok-Help.ensures.command in
    call_serves json words (Ok Help) _ _ _ _ c.write_bytes.result e.outcome.0 asked is
    (record { same = refl; later = omega arith }) c.requires.begun (omega arith) e.later (
      outcome,
      names_hold_the_same (g.T.Target.held c.args.target.now),
    ) e.outcome.2 e.memory

pub returns-in-Ok-Version : goal.returns-in-Ok-Version
returns-in-Ok-Version g c =
    let json = c.words_ask_json-json.result in
    let asked = c.words_ask_json-json.ensures in
    let e = c.write_bytes-in-Ok-Version.ensures in
    let out = sink_call g.O.Sink.taken g.O.Sink.flushed g.O.Sink.faults c.args.out.now c.write_bytes-in-Ok-Version.new.out in
    let outcome = subst (λ (message : List ℕ). IsMessageOutcome json message out c.write_bytes-in-Ok-Version.result
    e.outcome.0) c.as_bytes-in-Ok-Version.ensures.value e.outcome.1 in
    let words = map string_bytes c.args.words.now in
    let is : command_of words ≡ Ok Version = subst (λ (command : Command). command_of words ≡ Ok command)
    c.in-Ok-Version.field-0-is c.in-Ok-Version.ensures.command in
    call_serves json words (Ok Version) _ _ _ _ c.write_bytes-in-Ok-Version.result e.outcome.0 asked is
    (record { same = refl; later = omega arith }) c.requires.begun (omega arith) e.later (
      outcome,
      names_hold_the_same (g.T.Target.held c.args.target.now),
    ) e.outcome.2 e.memory

pub returns-in-Err-Refused : goal.returns-in-Err-Refused
returns-in-Err-Refused g c =
    let json = c.words_ask_json-json.result in
    let asked = c.words_ask_json-json.ensures in
    let e = c.refuse_words.ensures in
    let words = map string_bytes c.args.words.now in
    let is : command_of words ≡ Err c.in-Err-Refused.why =
    subst (λ (fault : WordsFault). Reads (command_of words) (Err fault)) c.in-Err-Refused.field-0-is
    c.in-Err-Refused.ensures.command in
    call_serves json words (Err c.in-Err-Refused.why) _ _ _ _ c.refuse_words.result e.outcome.0 asked is
    (record { same = refl; later = omega arith }) c.requires.begun (omega arith) (omega arith) (
      e.outcome.1,
      names_hold_the_same (g.T.Target.held c.args.target.now),
      refl,
    ) e.outcome.2 e.memory

pub returns-in-Err-OutOfMemory : goal.returns-in-Err-OutOfMemory
returns-in-Err-OutOfMemory g c =
    let json = c.words_ask_json-json.result in
    let asked = c.words_ask_json-json.ensures in
    let words = map string_bytes c.args.words.now in
    call_serves json words (command_of words) _ _ _ _ _ _ asked refl
    (record { same = refl; later = omega arith }) c.requires.begun (omega arith) (omega arith) (words_without_memory json words (command_of words) _ _ _ _
    (names_hold_the_same (g.T.Target.held c.args.target.now)) refl refl) c.say_out_of_memory.ensures refl
