use Rattle.std.proofs.Common.{◌≡◌, List, None, IsSome, ap, sym, ◌∙◌, subst, string_bytes}
use Rattle.std.specs.Option.{option_map}
use Rattle.ember_io.specs.Files.{first_of}
use Rattle.mesh_outside.specs.declared.target.several.NamedFile.{NamedFile}
use Rattle.mesh_outside.specs.Target.Several.{NamedBytes, names_and_bytes}
use Rattle.ember_call.specs.Taken.{TakenState}
use Rattle.ember_call.proofs.OwnNames.{found_is_held, only_kept}
use Rattle.ember_call.proofs.taken_files.TakenFilesTarget.begin.Goals as goal

pub returns-then-is_some-clause-taken : goal.returns-then-is_some-clause-taken
returns-then-is_some-clause-taken c = λ _.
    let none : option_map (λ (file : NamedFile). string_bytes file.name) c.self.inside.new_file ≡ None =
    ap (λ (s : TakenState). s.begun) c.self.view_is ∙ c.requires in
    let files : c.args.self.now.files ≡ names_and_bytes c.self.inside.kept.items =
    ap (λ (s : TakenState). s.files) (sym c.self.view_is)
    ∙ only_kept c.self.inside.new_file (names_and_bytes c.self.inside.kept.items) none in
    let held = found_is_held c.deref.result.now c.as_str.result.now c.index_of.result c.index_of.ensures
    (sym c.is_some.ensures ∙ c.if-is_some.true) in
    subst (λ (fs : List NamedBytes). IsSome (first_of fs (string_bytes c.args.path))) (sym files)
    (rw (c.deref.ensures.value, c.as_str.ensures.value) at held)
