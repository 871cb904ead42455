use Rattle.std.proofs.Common.{List, ℕ, subst, sym}
use Rattle.mesh_read.specs.declared.surface.surface.Surface.{Surface}
use Rattle.mesh_info.specs.View.Views.{IsView}
use Rattle.mesh_run.specs.Files.{AreContents, AreReadAs}
use Rattle.mesh_run.specs.Pages.{title_of}
use Rattle.mesh_run.proofs.ToldFiles.{all_names}
use Rattle.mesh_run.proofs.views.page_of_contents.Goals as goal

pub returns-in_ok-page-in-Ok-clause-page : goal.returns-in_ok-page-in-Ok-clause-page
returns-in_ok-page-in-Ok-clause-page c = λ told h.
    let names = c.args.names.now in
    let all = all_names names c.args.contents.now c.requires.one_each in
    let given = subst (λ (ns : List (List ℕ)). AreContents told ns c.args.contents.now) (sym all) h in
    record {
      surfaces = c.in-Ok.surfaces.items;
      read = subst (λ (ns : List (List ℕ)). AreReadAs told ns c.in-Ok.surfaces.items) all (c.in-Ok.ensures.read told given);
      shows = subst (λ (surfaces : List Surface). IsView (title_of names) names surfaces c.in_ok-page-in-Ok.page.items)
          c.deref.ensures.value c.in_ok-page-in-Ok.ensures;
    }

pub returns-in-Err-clause-cause : goal.returns-in-Err-clause-cause
returns-in-Err-clause-cause c = λ told h.
    let all = all_names c.args.names.now c.args.contents.now c.requires.one_each in
    c.in-Err.ensures.cause told (subst (λ (ns : List (List ℕ)). AreContents told ns c.args.contents.now) (sym all) h)
