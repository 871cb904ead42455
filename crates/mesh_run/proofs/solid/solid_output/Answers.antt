use Rattle.std.proofs.Common.{◌≤◌, List, ℕ, length, sym, ap, subst, ◌∙◌}
use Rattle.std.proofs.lemmas.Result.{IfErr-weaker, IfOk-weaker}
use Rattle.std.specs.declared.alloc.Global.{Global}
use Rattle.std.specs.List.{All}
use Rattle.std.specs.Prelude.{Vec}
use Rattle.ember_expr.specs.Formula.{formula_of}
use Rattle.ember_io.specs.Calls.{shelf_call}
use Rattle.mesh_boolean.specs.Images.{AreForEach}
use Rattle.mesh_run.specs.Asked.{AreAsked}
use Rattle.mesh_run.specs.Causes.{IsFilesCause, IsReadingCause, IsStop}
use Rattle.mesh_run.specs.Files.{AreContents}
use Rattle.mesh_run.specs.Outputs.{IsFilesOutput, IsOutputFor}
use Rattle.mesh_run.proofs.OutputMeaning.{output_is_asked_for}
use Rattle.mesh_run.proofs.OutputParts.{placings_are_for_each}
use Rattle.mesh_run.proofs.UnmetRequests.{memory_given}
use Rattle.mesh_run.proofs.Stops.{files_stop, reading_stop, words_stop}
use Rattle.mesh_run.proofs.ToldFiles.{contents_are_as_many, contents_are_small}
use Rattle.mesh_run.proofs.solid.solid_output.Goals as goal

pub returns-in-Err-clause-stop : goal.returns-in-Err-clause-stop
returns-in-Err-clause-stop g c =
    let shelf = shelf_call g.S.Shelf.contents g.S.Shelf.faults g.S.Shelf.fault_at g.S.Shelf.fault_kind c.args.shelf.now c.args.shelf.now in
    words_stop c.args.request.now shelf c.in-Err.status c.in-Err.ensures.cause

pub output_of_contents-requires-clause-one_each : goal.output_of_contents-requires-clause-one_each
output_of_contents-requires-clause-one_each g c =
    ap length c.deref.ensures.value ∙ contents_are_as_many (g.S.Shelf.contents c.args.shelf.now) _ _ c.in-Ok-read_contents.ensures.contents

pub output_of_contents-requires-clause-small : goal.output_of_contents-requires-clause-small
output_of_contents-requires-clause-small g c =
    subst (All (λ (bytes : Vec ℕ Global). length bytes.items ≤ 268435456)) (sym c.deref.ensures.value)
    (contents_are_small (g.S.Shelf.contents c.args.shelf.now) _ _ c.in-Ok-read_contents.ensures.contents)

pub returns-in-Ok-read_contents-clause-output : goal.returns-in-Ok-read_contents-clause-output
returns-in-Ok-read_contents-clause-output g c =
    let told = g.S.Shelf.contents c.args.shelf.now in
    let names = c.items-names.result.now in
    let formula = formula_of c.in-Ok.asked.expr in
    let wanted = c.in-Ok.asked.wanted in
    let contents = subst (λ (contents : List (Vec ℕ Global)). AreContents told names contents)
    (sym c.deref.ensures.value) c.in-Ok-read_contents.ensures.contents in
    IfOk-weaker c.output_of_contents.result _ (IsOutputFor c.args.request.now told)
    (λ output h. output_is_asked_for c.args.request.now told wanted formula output c.in-Ok.ensures.asks
    (subst (λ (names : List (List ℕ)). IsFilesOutput told names formula wanted output) c.items-names.ensures
    (h told contents)))
    c.output_of_contents.ensures.output

pub returns-in-Ok-read_contents-clause-stop : goal.returns-in-Ok-read_contents-clause-stop
returns-in-Ok-read_contents-clause-stop g c =
    let told = g.S.Shelf.contents c.args.shelf.now in
    let shelf = shelf_call g.S.Shelf.contents g.S.Shelf.faults g.S.Shelf.fault_at g.S.Shelf.fault_kind c.args.shelf.now c.read_contents.new.shelf in
    let names = c.items-names.result.now in
    let formula = formula_of c.in-Ok.asked.expr in
    let wanted = c.in-Ok.asked.wanted in
    let contents = subst (λ (contents : List (Vec ℕ Global)). AreContents told names contents)
    (sym c.deref.ensures.value) c.in-Ok-read_contents.ensures.contents in
    IfErr-weaker c.output_of_contents.result _ (IsStop c.args.request.now shelf)
    (λ status h. files_stop c.args.request.now shelf formula wanted c.in-Ok.ensures.asks status
    (subst (λ (names : List (List ℕ)). IsFilesCause told names formula wanted status) c.items-names.ensures
    (h told contents)))
    c.output_of_contents.ensures.cause

pub returns-clause-stop : goal.returns-clause-stop
returns-clause-stop g c =
    let shelf = shelf_call g.S.Shelf.contents g.S.Shelf.faults g.S.Shelf.fault_at g.S.Shelf.fault_kind c.args.shelf.now c.read_contents.new.shelf in
    let status = c.in-Err-read_contents.status in
    reading_stop c.args.request.now shelf (formula_of c.in-Ok.asked.expr) c.in-Ok.asked.wanted c.in-Ok.ensures.asks status
    (subst (λ (names : List (List ℕ)). IsReadingCause names shelf status) c.items-names.ensures c.in-Err-read_contents.ensures.cause)

pub returns-in_err-placings-clause-stop : goal.returns-in_err-placings-clause-stop
returns-in_err-placings-clause-stop g c =
    let shelf = shelf_call g.S.Shelf.contents g.S.Shelf.faults g.S.Shelf.fault_at g.S.Shelf.fault_kind c.args.shelf.now c.args.shelf.now in
    memory_given (IsStop c.args.request.now shelf) c.from_residual.result c.from_residual.ensures.1 tt

pub asked_by-requires-clause-placings : goal.asked_by-requires-clause-placings
asked_by-requires-clause-placings g c = subst (AreAsked c.args.request.now) (sym c.as_slice.ensures.value) c.in_ok-placings.ensures

pub output_of_contents-requires-clause-placings : goal.output_of_contents-requires-clause-placings
output_of_contents-requires-clause-placings g c =
    let request = c.args.request.now in
    subst (AreForEach c.in-Ok.asked.wanted.placings.now) (sym c.items-names.ensures)
    (placings_are_for_each request.files request.places request.turns c.in-Ok.asked.wanted.placings.now c.in-Ok.ensures.asks.file.placings)
