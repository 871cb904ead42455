use Rattle.std.proofs.Common.{ℕ, List, [], ◌∷◌, ◌++◌, refl, sym, ap, subst, ◌∙◌}
use Rattle.std.specs.declared.option.Option.{Option}
use Rattle.mesh_info.specs.Page.Pages.{page_of}
use Rattle.mesh_info.specs.Page.ReadBack.{IsReadBack}
use Rattle.mesh_write.specs.declared.stl.triangle.FloatTriangle.{FloatTriangle}
use Rattle.mesh_outside.specs.Target.Several.{NamedBytes, names_and_bytes}
use Rattle.mesh_run.specs.Writes.{AreFilesIf, IsPageFile}
use Rattle.mesh_number.proofs.Appended.{on_ok_both}
use Rattle.mesh_run.proofs.files.put_pages.Goals as goal

pub returns : goal.returns
returns c =
    let title = c.args.title.now in
    let names = c.args.names.now in
    let numbers = c.args.numbers.now in
    let triangles = c.unwrap-shown.result in
    let before = names_and_bytes c.args.files.now.items in
    let made : List NamedBytes = (c.in-Some.page, page_of title names triangles.items numbers) ∷ [] in
    on_ok_both c.put_page.result
    (λ put back. record {
      made = made;
      are = subst (λ (page : Option (List ℕ)). AreFilesIf page (IsPageFile title names numbers c.args.shown) made) (sym c.in-Some.is)
          (record {
            triangles = triangles;
            are_shown = c.unwrap-shown.ensures;
            all = refl;
            read_back =
                subst (λ (ts : List FloatTriangle). IsReadBack ts numbers (page_of title names ts numbers)) c.deref.ensures.value back;
          });
      all = put ∙ ap (λ (ts : List FloatTriangle). before ++ (c.in-Some.page, page_of title names ts numbers) ∷ []) c.deref.ensures.value;
    })
    c.put_page.ensures.is_page c.put_page.ensures.read_back
