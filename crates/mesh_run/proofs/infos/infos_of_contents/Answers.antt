use Rattle.std.proofs.Common.{List, length, sym, ap, subst, ◌∙◌, arith}
use Rattle.std.specs.List.{All}
use Rattle.ember_algebra.specs.Relations.{Each}
use Rattle.mesh_boolean.specs.declared.files.InputFile.{InputFile}
use Rattle.mesh_boolean.specs.Faults.{IsReadFault}
use Rattle.mesh_boolean.specs.Files.{AreReadings, IsSmall}
use Rattle.mesh_read.specs.declared.surface.surface.Surface.{Surface}
use Rattle.mesh_run.specs.Infos.{IsFileLine}
use Rattle.mesh_refusal.specs.Statuses.{IsStatusOf}
use Rattle.mesh_run.proofs.FileStatuses.{refusal_caused, unread_file_is_there}
use Rattle.mesh_run.proofs.ToldFiles.{all_names, files_are_of_contents, files_are_small, files_are_told}
use Rattle.mesh_run.proofs.infos.infos_of_contents.Goals as goal

pub surfaces_in-requires-clause-few : goal.surfaces_in-requires-clause-few
surfaces_in-requires-clause-few c =
    let many = files_are_of_contents c.in_ok-made.made.items c.args.contents.now c.in_ok-made.ensures.bytes in
    let same = ap length c.as_slice-files.ensures.value in
    omega (arith, many, same, c.requires.few, c.requires.one_each)

pub surfaces_in-requires-clause-sizes : goal.surfaces_in-requires-clause-sizes
surfaces_in-requires-clause-sizes c =
    subst (All IsSmall) (sym c.as_slice-files.ensures.value)
    (files_are_small c.in_ok-made.made.items c.args.contents.now c.in_ok-made.ensures.bytes c.requires.small)

pub status_of-requires-clause-few : goal.status_of-requires-clause-few
status_of-requires-clause-few c =
    let many = files_are_of_contents c.in_ok-made.made.items c.args.contents.now c.in_ok-made.ensures.bytes in
    let same = ap length c.as_slice-files.ensures.value in
    omega (arith, many, same, c.requires.few, c.requires.one_each)

pub status_of-requires-clause-small : goal.status_of-requires-clause-small
status_of-requires-clause-small c =
    subst (All IsSmall) (sym c.as_slice-files.ensures.value)
    (files_are_small c.in_ok-made.made.items c.args.contents.now c.in_ok-made.ensures.bytes c.requires.small)

pub status_of-requires-clause-there : goal.status_of-requires-clause-there
status_of-requires-clause-there c = unread_file_is_there c.as_slice-files.result.now c.in-Err.fault c.in-Err.ensures.fault

pub info_lines-requires : goal.info_lines-requires
info_lines-requires c =
    subst (λ (surfaces : List Surface). AreReadings c.as_slice-files.result.now surfaces) (sym c.deref.ensures.value) c.in-Ok.ensures.readings

pub returns-in-Ok-clause-lines : goal.returns-in-Ok-clause-lines
returns-in-Ok-clause-lines c = λ told h.
    let made = c.in_ok-made.ensures in
    let files = c.in_ok-made.made.items in
    record {
      files = files;
      are_files = files_are_told told _ _ files (made.names ∙ all_names _ c.args.contents.now c.requires.one_each) made.bytes h;
      each = subst (λ (files : List InputFile). Each IsFileLine files c.in_ok-lines-in-Ok.lines.items)
          c.as_slice-files.ensures.value c.in_ok-lines-in-Ok.ensures;
    }

pub returns-clause-cause : goal.returns-clause-cause
returns-clause-cause c = λ told h.
    let made = c.in_ok-made.ensures in
    let files = c.in_ok-made.made.items in
    let fault = subst (λ (files : List InputFile). IsReadFault files c.in-Err.fault) c.as_slice-files.ensures.value c.in-Err.ensures.fault in
    let status = subst (λ (files : List InputFile). IsStatusOf files c.in-Err.fault c.status_of.result) c.as_slice-files.ensures.value c.status_of.ensures in
    refusal_caused told _ files (files_are_told told _ _ files
    (made.names ∙ all_names _ c.args.contents.now c.requires.one_each) made.bytes h) c.in-Err.fault c.status_of.result
    fault status
