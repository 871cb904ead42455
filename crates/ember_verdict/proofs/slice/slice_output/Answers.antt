use Rattle.std.proofs.Common.{◌≡◌, ℕ, ℤ, true, List, [], ◌∷◌, IfOk, IfErr, subst, sym, to_z, of_z, w32, rules}
use Rattle.ember_io.specs.Calls.{shelf_call}
use Rattle.ember_io.specs.Shelves.{AreBytes}
use Rattle.ember_verdict.specs.Held.{MayHold}
use Rattle.ember_verdict.specs.NoReplies.{IsNoReply}
use Rattle.ember_verdict.specs.Statuses.{IsText, is_refusal}
use Rattle.ember_verdict.specs.Slices.{IsSlice, IsSliceRefusal}
use Rattle.ember_verdict.specs.Verdict.{file_at, slice_verdict}
use Rattle.ember_verdict.proofs.OneFile.{slice_held_if, slice_is_no_reply_if, unread_slice_is_no_reply}
use Rattle.ember_verdict.proofs.slice.slice_output.Goals as goal

pub returns-in-Err-clause-no_reply : goal.returns-in-Err-clause-no_reply
returns-in-Err-clause-no_reply g c =
    let a = c.args in
    let shelf = shelf_call g.S.Shelf.contents g.S.Shelf.faults g.S.Shelf.fault_at g.S.Shelf.fault_kind a.shelf.now c.read_bytes.new.shelf in
    subst (λ (name : List ℕ). IsNoReply (λ contents. slice_verdict a.at (file_at contents 1)) (name ∷ []) shelf c.in-Err.status) c.as_str.ensures
    (unread_slice_is_no_reply a.at _ shelf c.in-Err.status c.in-Err.ensures.no_file)

pub returns-clause-text : goal.returns-clause-text
returns-clause-text g c =
    let a = c.args in let told = g.S.Shelf.contents a.shelf.now in
    let level : to_z w32 (of_z w32 a.at) ≡ a.at = search rules in
    subst (λ (name : List ℕ). IfOk c.slice_of.result
    (λ text. MayHold told (name ∷ []) (λ contents. IsText (slice_verdict a.at (file_at contents 1))
    text.items))) c.as_str.ensures
    (slice_held_if told _ a.at _ c.slice_of.result
    (subst (λ (bytes : List ℕ). AreBytes told c.as_str.result.now bytes) (sym c.deref.ensures.value) c.in-Ok.ensures.bytes)
    (subst (λ (at : ℤ). IfOk c.slice_of.result (λ text. IsSlice at c.deref.result.now text.items)) level c.slice_of.ensures.text))

pub returns-clause-no_reply : goal.returns-clause-no_reply
returns-clause-no_reply g c =
    let a = c.args in let s = c.slice_of.ensures in
    let level : to_z w32 (of_z w32 a.at) ≡ a.at = search rules in
    let shelf = shelf_call g.S.Shelf.contents g.S.Shelf.faults g.S.Shelf.fault_at g.S.Shelf.fault_kind a.shelf.now c.read_bytes.new.shelf in
    subst (λ (name : List ℕ). IfErr c.slice_of.result (IsNoReply (λ contents. slice_verdict a.at (file_at contents 1)) (name ∷ []) shelf)) c.as_str.ensures
    (slice_is_no_reply_if a.at _ _ shelf c.slice_of.result
    (subst (λ (bytes : List ℕ). AreBytes shelf.told c.as_str.result.now bytes) (sym c.deref.ensures.value) c.in-Ok.ensures.bytes)
    (subst (λ (at : ℤ). IfErr c.slice_of.result (λ status. is_refusal status ≡ true →
    IsSliceRefusal at c.deref.result.now status)) level s.refused) s.no_read_fault s.never)
