use Rattle.std.proofs.Common.{ap, length, sym, take, ◌∷◌, ◌∙◌, string_bytes}
use Rattle.std.specs.Option.{option_copied_mut}
use Rattle.ember_io.proofs.ToldBytes.{success_has_appended}
use Rattle.mesh_outside.specs.Target.Several.{names_and_bytes}
use Rattle.mesh_outside.specs.Target.Targets.{Grows}
use Rattle.ember_call.specs.Taken.{TakenState, held_by}
use Rattle.std.proofs.Common.{subst}
use Rattle.ember_call.proofs.OwnNames.{piece_is_taken}
use Rattle.ember_call.proofs.taken_files.TakenFilesTarget.write.Goals as goal

pub returns-clause-bytes : goal.returns-clause-bytes
returns-clause-bytes c =
    let file = c.unwrap-new_file.result.now in
    let kept = names_and_bytes c.self.inside.kept.items in
    let bytes = c.extend_from_slice.new.self.items in
    let piece = c.args.piece.now in
    let taken = success_has_appended c.extend_from_slice.result file.bytes.items piece bytes
    (sym c.is_err.ensures.value ∙ c.if-is_err.false) c.extend_from_slice.ensures.items in
    subst (λ (s : TakenState). Grows s.begun (held_by s.files) (held_by ((string_bytes file.name, bytes) ∷ kept)) (take (length piece) piece))
    c.self.view_is
    (piece_is_taken c.self.inside.new_file file kept bytes piece
    (sym c.as_mut.ensures.value ∙ ap option_copied_mut c.unwrap-new_file.ensures) taken)
