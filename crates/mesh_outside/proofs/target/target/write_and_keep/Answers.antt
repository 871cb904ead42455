use Rattle.std.proofs.Common.{◌++◌, take, drop, arith, ◌∙◌, ap, sym, append_assoc}
use Rattle.std.proofs.lemmas.List.{take-append-drop}
use Rattle.std.proofs.lemmas.Result.{on_err_weaker}
use Rattle.mesh_outside.proofs.HeldNames.{Grows-twice, Grows-before_same, OnErr-holds}
use Rattle.mesh_outside.proofs.target.target.write_and_keep.Goals as goal

pub returns-in_err-count-clause-held : goal.returns-in_err-count-clause-held
returns-in_err-count-clause-held g c = OnErr-holds _ (Grows-before_same _ _ _ _ _ c.loop-rest.invariant.bytes.2 c.in_err-count.ensures.held)

pub loop-rest-preserved : goal.loop-rest-preserved
loop-rest-preserved g c =
    let i = c.loop-rest.invariant in
    let e = c.in_ok-count.ensures in
    let front = i.bytes.0 in
    let rest = c.loop-rest.rest.now in
    let n = c.in_ok-count.count in
    let whole = i.bytes.1 ∙ ap (λ w. front ++ w) (sym (take-append-drop n rest)) ∙ sym (append_assoc front (take n rest) (drop n rest)) in record {
      begun = e.begun ∙ i.begun;
      later = omega arith;
      bytes = rw c.split_at.ensures.back (front ++ take n rest, whole, Grows-twice _ _ _ _ front (take n rest) i.bytes.2 (rw i.begun at e.bytes));
    }

pub returns-clause-held : goal.returns-clause-held
returns-clause-held g c = on_err_weaker c.keep.result (λ h. Grows-before_same _ _ _ _ _ c.loop-rest.invariant.bytes.2 h) c.keep.ensures.held
