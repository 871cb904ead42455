use Rattle.std.proofs.Common.{arith, refl}
use Rattle.ember_run.proofs.CallsServe.{replied_call_serves, stopped_call_serves}
use Rattle.ember_run.proofs.top.serve.Goals as goal

pub returns-in-Ok : goal.returns-in-Ok
returns-in-Ok g c =
    let e = c.in-Ok.ensures in let w = c.write_output-status.ensures in
    replied_call_serves _ _ _ _ _ c.in-Ok.reply _ _ e.contents e.later w.out_later e.reply
    c.deref.ensures.value c.deref-in-Ok.ensures.value
    (λ d. let all = w.done d in (all.taken, all.flushed)) (λ f. let some = w.write_fault f in (some.failed, some.prefix))
    w.either c.say_status.ensures

pub returns-in-Err : goal.returns-in-Err
returns-in-Err g c =
    let e = c.in-Err.ensures in stopped_call_serves _ _ _ _ _ e.contents e.later (omega arith) refl e.no_reply c.say_status-in-Err.ensures
