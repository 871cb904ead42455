use Rattle.std.proofs.Common.{◌≤◌, ℕ, List, length, sym, ap, subst, ◌∙◌}
use Rattle.std.proofs.lemmas.Result.{IfErr-weaker, IfOk-weaker}
use Rattle.std.specs.declared.alloc.Global.{Global}
use Rattle.std.specs.List.{All}
use Rattle.std.specs.Prelude.{Vec}
use Rattle.ember_io.specs.Calls.{shelf_call}
use Rattle.mesh_run.specs.Causes.{IsReadingCause}
use Rattle.mesh_run.specs.Files.{AreContents}
use Rattle.mesh_run.specs.Pages.{IsPageOf}
use Rattle.mesh_run.proofs.InfoOutcomes.{refusal_is_reading}
use Rattle.mesh_run.proofs.ToldFiles.{contents_are_as_many, contents_are_small}
use Rattle.mesh_run.proofs.views.page_in.Goals as goal

pub page_of_contents-requires-clause-one_each : goal.page_of_contents-requires-clause-one_each
page_of_contents-requires-clause-one_each g c =
    ap length c.deref.ensures.value ∙ contents_are_as_many (g.S.Shelf.contents c.args.shelf.now) _ _ c.in-Ok.ensures.contents

pub page_of_contents-requires-clause-small : goal.page_of_contents-requires-clause-small
page_of_contents-requires-clause-small g c =
    subst (All (λ (bytes : Vec ℕ Global). length bytes.items ≤ 268435456)) (sym c.deref.ensures.value)
    (contents_are_small (g.S.Shelf.contents c.args.shelf.now) _ _ c.in-Ok.ensures.contents)

pub returns-in-Ok-clause-page : goal.returns-in-Ok-clause-page
returns-in-Ok-clause-page g c =
    let told = g.S.Shelf.contents c.args.shelf.now in
    let names = c.args.names.now in
    let contents = subst (λ (contents : List (Vec ℕ Global)). AreContents told names contents) (sym c.deref.ensures.value) c.in-Ok.ensures.contents in
    IfOk-weaker c.page_of_contents.result _ (λ (page : Vec ℕ Global). IsPageOf told names page.items)
    (λ page h. h told contents) c.page_of_contents.ensures.page

pub returns-in-Ok-clause-cause : goal.returns-in-Ok-clause-cause
returns-in-Ok-clause-cause g c =
    let told = g.S.Shelf.contents c.args.shelf.now in
    let shelf = shelf_call g.S.Shelf.contents g.S.Shelf.faults g.S.Shelf.fault_at g.S.Shelf.fault_kind c.args.shelf.now c.read_contents.new.shelf in
    let names = c.args.names.now in
    let contents = subst (λ (contents : List (Vec ℕ Global)). AreContents told names contents) (sym c.deref.ensures.value) c.in-Ok.ensures.contents in
    IfErr-weaker c.page_of_contents.result _ (IsReadingCause names shelf)
    (λ status h. refusal_is_reading names shelf status (h told contents)) c.page_of_contents.ensures.cause
