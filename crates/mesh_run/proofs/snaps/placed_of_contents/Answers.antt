use Rattle.std.proofs.Common.{List, [], length, sym, ap, subst, ◌∙◌, arith}
use Rattle.std.specs.List.{All}
use Rattle.mesh_boolean.specs.declared.files.InputFile.{InputFile}
use Rattle.mesh_boolean.specs.Faults.{IsPlacingFault}
use Rattle.mesh_boolean.specs.Files.{IsPlaced, IsSmall}
use Rattle.mesh_refusal.specs.Statuses.{IsStatusOf, NamesFile}
use Rattle.mesh_run.proofs.FileStatuses.{placing_caused, unplaced_file_is_there}
use Rattle.mesh_run.proofs.ToldFiles.{all_names, files_are_of_contents, files_are_small, files_are_told}
use Rattle.mesh_run.proofs.snaps.placed_of_contents.Goals as goal

pub placed_files-requires-clause-few : goal.placed_files-requires-clause-few
placed_files-requires-clause-few g c =
    let many = files_are_of_contents c.in_ok-files.files.items c.args.contents.now c.in_ok-files.ensures.bytes in
    let same = ap length c.deref.ensures.value in
    omega (arith, many, same, c.requires.few, c.requires.one_each)

pub placed_files-requires-clause-sizes : goal.placed_files-requires-clause-sizes
placed_files-requires-clause-sizes g c =
    subst (All IsSmall) (sym c.deref.ensures.value) (files_are_small c.in_ok-files.files.items c.args.contents.now c.in_ok-files.ensures.bytes c.requires.small)

pub status_of-requires-clause-few : goal.status_of-requires-clause-few
status_of-requires-clause-few g c =
    let many = files_are_of_contents c.in_ok-files.files.items c.args.contents.now c.in_ok-files.ensures.bytes in
    let same = ap length c.deref-in-Err.ensures.value in
    omega (arith, many, same, c.requires.few, c.requires.one_each)

pub status_of-requires-clause-small : goal.status_of-requires-clause-small
status_of-requires-clause-small g c =
    subst (All IsSmall) (sym c.deref-in-Err.ensures.value)
    (files_are_small c.in_ok-files.files.items c.args.contents.now c.in_ok-files.ensures.bytes c.requires.small)

pub status_of-requires-clause-there : goal.status_of-requires-clause-there
status_of-requires-clause-there g c =
    let wanted = c.args.wanted in
    let fault = subst (λ (files : List InputFile). IsPlacingFault files [] wanted c.in-Err.fault) c.deref.ensures.value c.in-Err.ensures.fault in
    subst (λ (files : List InputFile). NamesFile files c.in-Err.fault) (sym c.deref-in-Err.ensures.value)
    (unplaced_file_is_there c.in_ok-files.files.items [] wanted c.in-Err.fault fault)

pub returns-in-Ok-clause-placed : goal.returns-in-Ok-clause-placed
returns-in-Ok-clause-placed g c = λ told h.
    let made = c.in_ok-files.ensures in
    let files = c.in_ok-files.files.items in
    record {
      files = files;
      are_files = files_are_told told _ _ files (made.names ∙ all_names _ c.args.contents.now c.requires.one_each) made.bytes h;
      is_placed = subst (λ (files : List InputFile). IsPlaced files [] c.args.wanted c.in-Ok.placed) c.deref.ensures.value c.in-Ok.ensures.placed;
    }

pub returns-clause-cause : goal.returns-clause-cause
returns-clause-cause g c = λ told h.
    let made = c.in_ok-files.ensures in
    let files = c.in_ok-files.files.items in
    let wanted = c.args.wanted in
    let fault = subst (λ (files : List InputFile). IsPlacingFault files [] wanted c.in-Err.fault) c.deref.ensures.value c.in-Err.ensures.fault in
    let status = subst (λ (files : List InputFile). IsStatusOf files c.in-Err.fault c.status_of.result) c.deref-in-Err.ensures.value c.status_of.ensures in
    placing_caused told c.args.names.now files (files_are_told told _ _ files
    (made.names ∙ all_names _ c.args.contents.now c.requires.one_each) made.bytes h) [] wanted c.in-Err.fault
    c.status_of.result fault status
