use Rattle.std.proofs.Common.{◌≡◌, ℕ, length, sym, subst, arith, inr, Some, None, Ok, Err}
use Rattle.mesh_placing.specs.Words.{said_by, step_said, steps_said, steps_in, parts_by}
use Rattle.mesh_placing.proofs.TextParts.{steps_more, steps_read, steps_refused}
use Rattle.mesh_placing.proofs.words.read_steps.Goals as goal

pub loop-step-preserved : goal.loop-step-preserved
loop-step-preserved c =
    let l = c.loop-step in let first = c.cut.result.0.now in let s = c.in-Ok.step in
    let count : c.len-number.result ≡ length l.steps.items = omega (arith, c.len-number.ensures, l.steps.ok.0) in
    let said : step_said (length l.steps.items) first ≡ Ok (said_by s) =
    subst (λ (n : ℕ). step_said n first ≡ Ok (said_by s)) count c.in-Ok.ensures in
    let others = rw c.in-Some.is at c.cut.ensures.behind in
    steps_more _ l.steps.items c.push.new.self.items s l.rest.now first (Some c.in-Some.others.now) l.invariant c.cut.ensures.before
    (sym others) said c.in_ok-push.ensures.items

pub returns-in-None-clause-ok : goal.returns-in-None-clause-ok
unfolding steps_said
returns-in-None-clause-ok c =
    let l = c.loop-step in let first = c.cut.result.0.now in let s = c.in-Ok.step in
    let count : c.len-number.result ≡ length l.steps.items = omega (arith, c.len-number.ensures, l.steps.ok.0) in
    let said : step_said (length l.steps.items) first ≡ Ok (said_by s) =
    subst (λ (n : ℕ). step_said n first ≡ Ok (said_by s)) count c.in-Ok.ensures in
    let none = rw c.in-None.is at c.cut.ensures.behind in
    steps_read _ c.push.new.self.items
    (steps_more (steps_in 0 (parts_by 59 c.args.text.now)) l.steps.items c.push.new.self.items s l.rest.now first None l.invariant
    c.cut.ensures.before (sym none) said c.in_ok-push.ensures.items)

pub returns-in-Err-clause-fault : goal.returns-in-Err-clause-fault
unfolding steps_said
returns-in-Err-clause-fault c =
    let l = c.loop-step in let first = c.cut.result.0.now in let e = c.in-Err.fault in
    let count : c.len-number.result ≡ length l.steps.items = omega (arith, c.len-number.ensures, l.steps.ok.0) in
    let said : step_said (length l.steps.items) first ≡ Err e =
    subst (λ (n : ℕ). step_said n first ≡ Err e) count c.in-Err.ensures in
    inr (steps_refused (steps_in 0 (parts_by 59 c.args.text.now)) l.steps.items e l.rest.now first l.invariant c.cut.ensures.before said)
