use Rattle.std.proofs.Common.{ℕ, List, refl, subst}
use Rattle.ember_io.specs.Calls.{TakesUntilFault, shelf_call, sink_call}
use Rattle.mesh_run.specs.Causes.{IsReadingCause}
use Rattle.mesh_run.specs.Infos.{AreInfoLines}
use Rattle.mesh_refusal.specs.Said.{memory_said}
use Rattle.mesh_run.specs.Serves.{IsMessageOutcome}
use Rattle.mesh_run.proofs.InfoOutcomes.{lines_outcome, reading_tells_memory, unread_outcome}
use Rattle.mesh_run.proofs.infos.serve_infos.Goals as goal

pub returns-in-Ok-clause-outcome : goal.returns-in-Ok-clause-outcome
returns-in-Ok-clause-outcome g c =
    let told = g.S.Shelf.contents c.args.shelf.now in
    let shelf = shelf_call g.S.Shelf.contents g.S.Shelf.faults g.S.Shelf.fault_at g.S.Shelf.fault_kind c.args.shelf.now c.infos_in.new.shelf in
    let out = sink_call g.O.Sink.taken g.O.Sink.flushed g.O.Sink.faults c.args.out.now c.write_bytes.new.out in
    let lines = c.in-Ok.lines.items in
    let e = c.write_bytes.ensures.outcome in
    let are = subst (λ (names : List (List ℕ)). AreInfoLines told names lines) c.items.ensures c.in-Ok.ensures.lines in
    let written = subst (λ (bytes : List ℕ). IsMessageOutcome c.args.json bytes out c.write_bytes.result e.0) c.deref.ensures.value e.1 in
    (e.0, lines_outcome c.args.json c.args.names.now shelf out lines c.write_bytes.result e.0 are written, e.2)

pub returns-in-Ok-reading_said-clause-outcome : goal.returns-in-Ok-reading_said-clause-outcome
returns-in-Ok-reading_said-clause-outcome g c =
    let shelf = shelf_call g.S.Shelf.contents g.S.Shelf.faults g.S.Shelf.fault_at g.S.Shelf.fault_kind c.args.shelf.now c.infos_in.new.shelf in
    let out = sink_call g.O.Sink.taken g.O.Sink.flushed g.O.Sink.faults c.args.out.now c.args.out.now in
    let err = sink_call g.E.Sink.taken g.E.Sink.flushed g.E.Sink.faults c.args.err.now c.say.new.err in
    let text = c.in-Ok-reading_said.text.items in
    let cause = subst (λ (names : List (List ℕ)). IsReadingCause names shelf c.in-Err.status) c.items.ensures c.in-Err.ensures.cause in (
      text,
      unread_outcome c.args.json c.args.names.now shelf out c.in-Err.status text cause refl c.in-Ok-reading_said.ensures,
      subst (λ (text : List ℕ). TakesUntilFault err text) c.deref-in-Ok-reading_said.ensures.value c.say.ensures,
    )

pub returns-in-Ok-reading_said-clause-memory : goal.returns-in-Ok-reading_said-clause-memory
returns-in-Ok-reading_said-clause-memory g c =
    let shelf = shelf_call g.S.Shelf.contents g.S.Shelf.faults g.S.Shelf.fault_at g.S.Shelf.fault_kind c.args.shelf.now c.infos_in.new.shelf in
    reading_tells_memory c.items.result.now shelf c.in-Err.status c.in-Err.ensures.cause

pub returns-in-Err-reading_said-clause-outcome : goal.returns-in-Err-reading_said-clause-outcome
returns-in-Err-reading_said-clause-outcome g c = (memory_said c.args.json, (tt, refl, refl), c.say_out_of_memory.ensures)
