use Rattle.std.proofs.Common.{ℕ, List, [], ◌∷◌, Some, string_bytes, refl, ap, subst, ◌∙◌}
use Rattle.std.proofs.lemmas.Result.{IfErr-weaker, IfOk-weaker}
use Rattle.ember_io.specs.Calls.{shelf_call}
use Rattle.mesh_outside.specs.Target.Targets.{Puts}
use Rattle.mesh_outside.proofs.HeldNames.{Puts-before_same}
use Rattle.mesh_run.specs.Calls.{target_call}
use Rattle.mesh_run.specs.Causes.{IsReadingCause}
use Rattle.mesh_run.specs.Pages.{IsPageOf}
use Rattle.mesh_run.specs.Serves.{IsPageFor, IsPageUnmet}
use Rattle.mesh_run.proofs.InfoOutcomes.{reading_tells_memory}
use Rattle.mesh_run.proofs.KeptNames.{names_hold_the_same}
use Rattle.mesh_run.proofs.UnmetRequests.{cause_is_unmet, stop_is_unmet}
use Rattle.mesh_run.proofs.views.write_view.Goals as goal

pub returns-in-Err-clause-stop : goal.returns-in-Err-clause-stop
returns-in-Err-clause-stop g c =
    let shelf = shelf_call g.S.Shelf.contents g.S.Shelf.faults g.S.Shelf.fault_at g.S.Shelf.fault_kind c.args.shelf.now c.page_in.new.shelf in
    let target = target_call g.T.Target.held g.T.Target.begun g.T.Target.faults c.args.target.now c.args.target.now in
    let request = c.args.request.now in
    let cause = subst (λ (names : List (List ℕ)). IsReadingCause names shelf c.in-Err.status) c.items.ensures c.in-Err.ensures.cause in
    cause_is_unmet (IsReadingCause request.files shelf) (IsPageFor request shelf.told) target c.in-Err.status
    (λ name h. h) (names_hold_the_same (g.T.Target.held c.args.target.now)) cause
    (reading_tells_memory request.files shelf c.in-Err.status cause)

pub returns-clause-written : goal.returns-clause-written
returns-clause-written g c =
    let request = c.args.request.now in
    let told = g.S.Shelf.contents c.args.shelf.now in
    let old = g.T.Target.held c.args.target.now in
    let new = g.T.Target.held c.write_files.new.target in
    let page = c.in-Ok.page.items in
    let name = string_bytes c.in_ok-from_str.field-0 in
    let is_page = subst (λ (names : List (List ℕ)). IsPageOf told names page) c.items.ensures c.in-Ok.ensures.page in
    let same = c.in_ok-from_str.ensures.ok ∙ c.as_str.ensures in
    IfOk-weaker c.write_files.result _ _ (λ x h. record {
      page = page;
      is_page = is_page;
      written = subst (λ (n : List ℕ). Puts old new n (Some page)) same (Puts-before_same old h.0 new name (Some page) h.1 h.2);
      text_is = refl;
    })
    c.write_files.ensures.written

pub returns-clause-stop : goal.returns-clause-stop
returns-clause-stop g c =
    let request = c.args.request.now in
    let shelf = shelf_call g.S.Shelf.contents g.S.Shelf.faults g.S.Shelf.fault_at g.S.Shelf.fault_kind c.args.shelf.now c.page_in.new.shelf in
    let target = target_call g.T.Target.held g.T.Target.begun g.T.Target.faults c.args.target.now c.write_files.new.target in
    let page = c.in-Ok.page.items in
    let name = string_bytes c.in_ok-from_str.field-0 in
    let same = c.in_ok-from_str.ensures.ok ∙ c.as_str.ensures in
    let is_page = subst (λ (names : List (List ℕ)). IsPageOf shelf.told names page) c.items.ensures c.in-Ok.ensures.page in
    let is : IsPageFor request shelf.told ((name, page) ∷ []) =
    record { page = page; is_page = is_page; all = ap (λ (n : List ℕ). (n, page) ∷ []) same } in
    IfErr-weaker c.write_files.result _ (IsPageUnmet request shelf target)
    (λ status h. stop_is_unmet (IsReadingCause request.files shelf) (IsPageFor request shelf.told) target ((name, page) ∷ []) is status h)
    c.write_files.ensures.stop
