use Rattle.std.proofs.Common.{List, length, sym, ap, subst, arith}
use Rattle.std.specs.List.{All}
use Rattle.mesh_boolean.specs.declared.files.InputFile.{InputFile}
use Rattle.mesh_boolean.specs.Faults.{IsReadFault}
use Rattle.mesh_boolean.specs.Files.{AreReadings, IsSmall}
use Rattle.mesh_refusal.specs.Statuses.{IsStatusOf, NamesFile}
use Rattle.mesh_run.proofs.FileStatuses.{cause_among_more, refusal_caused, unread_file_is_there}
use Rattle.mesh_run.proofs.ToldFiles.{files_are_of_contents, files_are_read, files_are_small, files_are_told}
use Rattle.mesh_run.proofs.reading.surfaces_of.Goals as goal

pub surfaces_in-requires-clause-few : goal.surfaces_in-requires-clause-few
surfaces_in-requires-clause-few c =
    let many = files_are_of_contents c.in_ok-files.files.items c.args.contents.now c.in_ok-files.ensures.bytes in
    let same = ap length c.deref.ensures.value in
    omega (arith, many, same, c.requires.few, c.requires.named)

pub surfaces_in-requires-clause-sizes : goal.surfaces_in-requires-clause-sizes
surfaces_in-requires-clause-sizes c =
    subst (All IsSmall) (sym c.deref.ensures.value) (files_are_small c.in_ok-files.files.items c.args.contents.now c.in_ok-files.ensures.bytes c.requires.small)

pub status_of-requires-clause-few : goal.status_of-requires-clause-few
status_of-requires-clause-few c =
    let many = files_are_of_contents c.in_ok-files.files.items c.args.contents.now c.in_ok-files.ensures.bytes in
    let same = ap length c.deref-in-Err.ensures.value in
    omega (arith, many, same, c.requires.few, c.requires.named)

pub status_of-requires-clause-small : goal.status_of-requires-clause-small
status_of-requires-clause-small c =
    subst (All IsSmall) (sym c.deref-in-Err.ensures.value)
    (files_are_small c.in_ok-files.files.items c.args.contents.now c.in_ok-files.ensures.bytes c.requires.small)

pub status_of-requires-clause-there : goal.status_of-requires-clause-there
status_of-requires-clause-there c =
    let fault = subst (λ (files : List InputFile). IsReadFault files c.in-Err.fault) c.deref.ensures.value c.in-Err.ensures.fault in
    subst (λ (files : List InputFile). NamesFile files c.in-Err.fault) (sym c.deref-in-Err.ensures.value)
    (unread_file_is_there c.in_ok-files.files.items c.in-Err.fault fault)

pub returns-in-Ok-clause-read : goal.returns-in-Ok-clause-read
returns-in-Ok-clause-read c = λ told h.
    let made = c.in_ok-files.ensures in
    files_are_read told _ _ c.in_ok-files.files.items c.in-Ok.surfaces.items made.names made.bytes h
    (subst (λ (files : List InputFile). AreReadings files c.in-Ok.surfaces.items) c.deref.ensures.value
    c.in-Ok.ensures.readings)

pub returns-clause-cause : goal.returns-clause-cause
returns-clause-cause c = λ told h.
    let made = c.in_ok-files.ensures in
    let files = c.in_ok-files.files.items in
    let fault = subst (λ (files : List InputFile). IsReadFault files c.in-Err.fault) c.deref.ensures.value c.in-Err.ensures.fault in
    let status = subst (λ (files : List InputFile). IsStatusOf files c.in-Err.fault c.status_of.result) c.deref-in-Err.ensures.value c.status_of.ensures in
    cause_among_more told c.args.names.now (length c.args.contents.now) c.status_of.result c.requires.named
    (refusal_caused told _ files (files_are_told told _ _ files made.names made.bytes h) c.in-Err.fault c.status_of.result fault status)
