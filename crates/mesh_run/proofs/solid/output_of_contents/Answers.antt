use Rattle.std.proofs.Common.{List, length, sym, ap, subst, ◌∙◌, arith}
use Rattle.std.specs.List.{All}
use Rattle.mesh_boolean.specs.declared.files.InputFile.{InputFile}
use Rattle.mesh_boolean.specs.Faults.{IsBooleanFault}
use Rattle.mesh_boolean.specs.Files.{IsSmall}
use Rattle.mesh_boolean.specs.Outputs.{IsOutput}
use Rattle.ember_expr.specs.Formula.{formula_of}
use Rattle.mesh_boolean.proofs.ImageLists.{for_each_of}
use Rattle.mesh_refusal.specs.Statuses.{IsStatusOf, NamesFile}
use Rattle.mesh_run.proofs.FileStatuses.{faulty_file_is_there, status_caused}
use Rattle.mesh_run.proofs.ToldFiles.{all_names, files_are_of_contents, files_are_small, files_are_told}
use Rattle.mesh_run.proofs.solid.output_of_contents.Goals as goal

pub solid_file-requires-clause-few : goal.solid_file-requires-clause-few
solid_file-requires-clause-few g c =
    let many = files_are_of_contents c.in_ok-files.files.items c.args.contents.now c.in_ok-files.ensures.bytes in
    let same = ap length c.deref.ensures.value in
    omega (arith, many, same, c.requires.few, c.requires.one_each)

pub solid_file-requires-clause-sizes : goal.solid_file-requires-clause-sizes
solid_file-requires-clause-sizes g c =
    subst (All IsSmall) (sym c.deref.ensures.value) (files_are_small c.in_ok-files.files.items c.args.contents.now c.in_ok-files.ensures.bytes c.requires.small)

pub solid_file-requires-clause-placings : goal.solid_file-requires-clause-placings
solid_file-requires-clause-placings g c =
    let many = files_are_of_contents c.in_ok-files.files.items c.args.contents.now c.in_ok-files.ensures.bytes in
    let same = ap length c.deref.ensures.value in
    for_each_of c.args.asked.now.wanted.placings.now c.args.names.now _ c.requires.placings (omega (arith, many, same, c.requires.one_each))

pub status_of-requires-clause-few : goal.status_of-requires-clause-few
status_of-requires-clause-few g c =
    let many = files_are_of_contents c.in_ok-files.files.items c.args.contents.now c.in_ok-files.ensures.bytes in
    let same = ap length c.deref-in-Err.ensures.value in
    omega (arith, many, same, c.requires.few, c.requires.one_each)

pub status_of-requires-clause-small : goal.status_of-requires-clause-small
status_of-requires-clause-small g c =
    subst (All IsSmall) (sym c.deref-in-Err.ensures.value)
    (files_are_small c.in_ok-files.files.items c.args.contents.now c.in_ok-files.ensures.bytes c.requires.small)

pub status_of-requires-clause-there : goal.status_of-requires-clause-there
status_of-requires-clause-there g c =
    let formula = formula_of c.args.asked.now.expr in
    let wanted = c.args.asked.now.wanted in
    let fault = subst (λ (files : List InputFile). IsBooleanFault files formula wanted c.in-Err.fault) c.deref.ensures.value c.in-Err.ensures.fault in
    subst (λ (files : List InputFile). NamesFile files c.in-Err.fault) (sym c.deref-in-Err.ensures.value)
    (faulty_file_is_there c.in_ok-files.files.items formula wanted c.in-Err.fault fault)

pub returns-in-Ok-clause-output : goal.returns-in-Ok-clause-output
returns-in-Ok-clause-output g c = λ told h.
    let made = c.in_ok-files.ensures in
    let files = c.in_ok-files.files.items in
    record {
      files = files;
      are_files = files_are_told told _ _ files (made.names ∙ all_names _ c.args.contents.now c.requires.one_each) made.bytes h;
      is_output = subst (λ (files : List InputFile). IsOutput files (formula_of c.args.asked.now.expr)
          c.args.asked.now.wanted c.in-Ok.output) c.deref.ensures.value c.in-Ok.ensures.output;
    }

pub returns-clause-cause : goal.returns-clause-cause
returns-clause-cause g c = λ told h.
    let made = c.in_ok-files.ensures in
    let files = c.in_ok-files.files.items in
    let formula = formula_of c.args.asked.now.expr in
    let wanted = c.args.asked.now.wanted in
    let fault = subst (λ (files : List InputFile). IsBooleanFault files formula wanted c.in-Err.fault) c.deref.ensures.value c.in-Err.ensures.fault in
    let status = subst (λ (files : List InputFile). IsStatusOf files c.in-Err.fault c.status_of.result) c.deref-in-Err.ensures.value c.status_of.ensures in
    status_caused told c.args.names.now files (files_are_told told _ _ files
    (made.names ∙ all_names _ c.args.contents.now c.requires.one_each) made.bytes h) formula wanted c.in-Err.fault
    c.status_of.result fault status
