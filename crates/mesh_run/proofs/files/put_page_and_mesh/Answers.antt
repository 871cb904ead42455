use Rattle.std.proofs.Common.{ℕ, List, ◌++◌, refl, subst}
use Rattle.mesh_outside.specs.Target.Several.{names_and_bytes}
use Rattle.mesh_number.proofs.Appended.{on_ok_both}
use Rattle.mesh_run.specs.Writes.{AreFilesIf, IsPageFile, mesh_file_at}
use Rattle.mesh_run.proofs.FilesMade.{others_are_appended}
use Rattle.mesh_run.proofs.files.put_page_and_mesh.Goals as goal

pub returns-clause-put : goal.returns-clause-put
returns-clause-put c =
    let mesh = c.args.mesh in
    let file = mesh_file_at c.args.output.now mesh.bytes.items in
    let pages = c.in_ok-put_pages.ensures in
    on_ok_both c.put_mesh_at.result
    (λ put again. record {
      made = pages.made ++ file;
      are = record {
        pages = pages.made;
        are_pages = subst (λ (title : List ℕ). AreFilesIf c.args.page.now (IsPageFile title c.args.names.now c.args.numbers.now mesh.shown) pages.made)
            c.title_at.ensures pages.are;
        all = refl;
      };
      all = others_are_appended (names_and_bytes c.args.files.now.items) (names_and_bytes c.put_pages.new.files.items)
          (names_and_bytes c.put_mesh_at.new.files.items) pages.made file pages.all put;
    })
    c.put_mesh_at.ensures.put c.put_mesh_at.ensures.put
