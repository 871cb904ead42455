use Rattle.std.proofs.Common.{IfSome, ap, refl, subst, sym, ◌∙◌}
use Rattle.ember_io.specs.Files.{first_of}
use Rattle.mesh_outside.specs.Target.Several.{names_and_bytes}
use Rattle.mesh_outside.specs.Target.Targets.{Moves}
use Rattle.ember_call.specs.Taken.{TakenState, held_by, with_new}
use Rattle.ember_call.proofs.OwnNames.{kept_file_moves, own_names_with_kept}
use Rattle.ember_call.proofs.taken_files.TakenFilesTarget.keep.Goals as goal

pub invariant_of-self-2 : goal.invariant_of-self-2
invariant_of-self-2 c =
    own_names_with_kept _ c.remove_named.new.files.items c.push_reserved.new.self.items _ c.args.name.now c.take.new.self
    c.remove_named.ensures.without c.push_reserved.ensures.items c.in-Ok.ensures.ok c.take.ensures.after

pub returns-clause-kept : goal.returns-clause-kept
returns-clause-kept c =
    let after = with_new c.take.new.self (names_and_bytes c.push_reserved.new.self.items) in
    let without = rw c.reserve.ensures.items at c.remove_named.ensures.without in
    subst (λ (s : TakenState). IfSome s.begun (λ path. Moves (held_by s.files) (held_by after) path c.args.name.now (first_of s.files path)))
    c.self.view_is
    (kept_file_moves c.self.inside.new_file c.take.new.self c.unwrap-bytes.result _ c.self.inside.kept.items
    c.remove_named.new.files.items c.push_reserved.new.self.items c.args.name.now
    (sym c.take.ensures.value ∙ c.unwrap-bytes.ensures) c.self.invariant without c.push_reserved.ensures.items
    c.in-Ok.ensures.ok refl (λ e. c.requires.apart (ap (λ (s : TakenState). s.begun) (sym c.self.view_is) ∙ e)) c.take.ensures.after)
