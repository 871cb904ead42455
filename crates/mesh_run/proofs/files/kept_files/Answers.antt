use Rattle.std.proofs.Common.{ℕ, List, sym, ap, subst}
use Rattle.std.specs.declared.option.Option.{Option}
use Rattle.mesh_outside.specs.Target.Several.{names_and_bytes}
use Rattle.mesh_run.specs.Writes.{AreFilesIf, AreKeptFiles, AreOutputsKept, placed_of}
use Rattle.mesh_run.proofs.FilesMade.{all_are_appended}
use Rattle.mesh_run.proofs.files.kept_files.Goals as goal

pub returns-clause-files : goal.returns-clause-files
returns-clause-files c =
    let request = c.args.request.now in
    let out = c.args.output in
    let kept = c.unwrap-scene.result in
    let files = names_and_bytes c.put_kept.new.files.items in
    let all = all_are_appended (AreKeptFiles c.items.result.now (placed_of out kept) kept.document.items
    c.in-Some.folder) (names_and_bytes c.new-files.result.items) files (ap names_and_bytes c.new-files.ensures.items)
    c.in_ok-put_kept.ensures in
    subst (λ (keep : Option (List ℕ)). AreFilesIf keep (AreOutputsKept request.files out) files) (sym c.in-Some.is)
    (record {
      kept = kept;
      is_kept = c.unwrap-scene.ensures;
      are_files = subst (λ (names : List (List ℕ)). AreKeptFiles names (placed_of out kept) kept.document.items c.in-Some.folder files) c.items.ensures all;
    })
