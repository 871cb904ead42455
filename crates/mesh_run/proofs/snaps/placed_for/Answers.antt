use Rattle.std.proofs.Common.{◌≤◌, List, [], ℕ, length, sym, ap, subst, ◌∙◌}
use Rattle.std.proofs.lemmas.Result.{IfErr-weaker, IfOk-weaker}
use Rattle.std.specs.declared.alloc.Global.{Global}
use Rattle.std.specs.List.{All}
use Rattle.std.specs.Prelude.{Vec}
use Rattle.ember_io.specs.Calls.{shelf_call}
use Rattle.mesh_run.specs.Causes.{IsPlacingCause, IsReadingCause, IsSnapStop}
use Rattle.mesh_run.specs.Files.{AreContents}
use Rattle.mesh_run.specs.Outputs.{AreFilesPlaced, IsPlacedFor}
use Rattle.mesh_run.proofs.SnapStops.{placing_stop, reading_stop}
use Rattle.mesh_run.proofs.ToldFiles.{contents_are_as_many, contents_are_small}
use Rattle.mesh_run.proofs.snaps.placed_for.Goals as goal

pub placed_of_contents-requires-clause-one_each : goal.placed_of_contents-requires-clause-one_each
placed_of_contents-requires-clause-one_each g c =
    ap length c.deref.ensures.value ∙ contents_are_as_many (g.S.Shelf.contents c.args.shelf.now) _ _ c.in-Ok.ensures.contents

pub placed_of_contents-requires-clause-small : goal.placed_of_contents-requires-clause-small
placed_of_contents-requires-clause-small g c =
    subst (All (λ (bytes : Vec ℕ Global). length bytes.items ≤ 268435456)) (sym c.deref.ensures.value)
    (contents_are_small (g.S.Shelf.contents c.args.shelf.now) _ _ c.in-Ok.ensures.contents)

pub returns-in-Ok-clause-placed : goal.returns-in-Ok-clause-placed
returns-in-Ok-clause-placed g c =
    let told = g.S.Shelf.contents c.args.shelf.now in
    let names = c.items-names.result.now in
    let wanted = c.in-Some.wanted in
    let contents = subst (λ (contents : List (Vec ℕ Global)). AreContents told names contents) (sym c.deref.ensures.value) c.in-Ok.ensures.contents in
    IfOk-weaker c.placed_of_contents.result _ (IsPlacedFor c.args.request.now told)
    (λ placed h. record {
      wanted = wanted;
      asks = c.in-Some.ensures.wanted;
      of_files =
          subst (λ (names : List (List ℕ)). AreFilesPlaced told names wanted placed) c.items-names.ensures (h told contents);
    })
    c.placed_of_contents.ensures.placed

pub returns-in-Ok-clause-stop : goal.returns-in-Ok-clause-stop
returns-in-Ok-clause-stop g c =
    let told = g.S.Shelf.contents c.args.shelf.now in
    let shelf = shelf_call g.S.Shelf.contents g.S.Shelf.faults g.S.Shelf.fault_at g.S.Shelf.fault_kind c.args.shelf.now c.read_contents.new.shelf in
    let names = c.items-names.result.now in
    let wanted = c.in-Some.wanted in
    let contents = subst (λ (contents : List (Vec ℕ Global)). AreContents told names contents) (sym c.deref.ensures.value) c.in-Ok.ensures.contents in
    IfErr-weaker c.placed_of_contents.result _ (IsSnapStop c.args.request.now shelf)
    (λ status h. placing_stop c.args.request.now shelf wanted c.in-Some.ensures.wanted status
    (subst (λ (names : List (List ℕ)). IsPlacingCause told names [] wanted status) c.items-names.ensures
    (h told contents)))
    c.placed_of_contents.ensures.cause

pub returns-in-Err-clause-stop : goal.returns-in-Err-clause-stop
returns-in-Err-clause-stop g c =
    let shelf = shelf_call g.S.Shelf.contents g.S.Shelf.faults g.S.Shelf.fault_at g.S.Shelf.fault_kind c.args.shelf.now c.read_contents.new.shelf in
    let status = c.in-Err.status in
    reading_stop c.args.request.now shelf c.in-Some.wanted c.in-Some.ensures.wanted status
    (subst (λ (names : List (List ℕ)). IsReadingCause names shelf status) c.items-names.ensures c.in-Err.ensures.cause)
