use Rattle.std.proofs.Common.{◌≡◌, ℤ, to_z, of_z, w32, [], ◌∷◌, Some, IfOk, IfErr, rules, subst, sym}
use Rattle.ember_words.specs.declared.command.Command.{Command}
use Rattle.ember_io.specs.Calls.{shelf_call}
use Rattle.ember_verdict.specs.Held.{MayHold}
use Rattle.ember_verdict.specs.NoReplies.{IsNoReply}
use Rattle.ember_verdict.specs.Statuses.{IsText}
use Rattle.ember_verdict.specs.Verdict.{at_verdict, faces_verdict, file_at, names_of, pairs_verdict, slice_verdict, verdict_of}
use Rattle.ember_verdict.specs.Verdict.{voxels_verdict}
use Rattle.ember_verdict.proofs.Verdicts.{passed_on}
use Rattle.ember_run.specs.Serves.{IsReplyTo}
use Rattle.ember_run.proofs.Replies.{text_alone_replied, text_replied}
use Rattle.ember_run.proofs.top.reply_to.Goals as goal

pub returns-in_err-text-in-Faces-clause-no_reply : goal.returns-in_err-text-in-Faces-clause-no_reply
returns-in_err-text-in-Faces-clause-no_reply g c =
    let shelf = shelf_call g.S.Shelf.contents g.S.Shelf.faults g.S.Shelf.fault_at g.S.Shelf.fault_kind c.args.shelf.now c.faces_output.new.shelf in
    subst (λ (command : Command). IfErr c.from_residual.result
    (IsNoReply (verdict_of (Some command)) (names_of (Some command)) shelf)) (sym c.in-Faces.is) (search rules)

pub returns-in_err-text-in-At-clause-no_reply : goal.returns-in_err-text-in-At-clause-no_reply
returns-in_err-text-in-At-clause-no_reply g c =
    let shelf = shelf_call g.S.Shelf.contents g.S.Shelf.faults g.S.Shelf.fault_at g.S.Shelf.fault_kind c.args.shelf.now c.at_output.new.shelf in
    subst (λ (command : Command). IfErr c.from_residual-in_err-text-in-At.result
    (IsNoReply (verdict_of (Some command)) (names_of (Some command)) shelf)) (sym c.in-At.is) (search rules)

pub returns-in_err-text-in-Voxels-clause-no_reply : goal.returns-in_err-text-in-Voxels-clause-no_reply
returns-in_err-text-in-Voxels-clause-no_reply g c =
    let shelf = shelf_call g.S.Shelf.contents g.S.Shelf.faults g.S.Shelf.fault_at g.S.Shelf.fault_kind c.args.shelf.now c.voxels_output.new.shelf in
    subst (λ (command : Command). IfErr c.from_residual-in_err-text-in-Voxels.result
    (IsNoReply (verdict_of (Some command)) (names_of (Some command)) shelf)) (sym c.in-Voxels.is) (search rules)

pub returns-in_err-text-in-Pairs-clause-no_reply : goal.returns-in_err-text-in-Pairs-clause-no_reply
returns-in_err-text-in-Pairs-clause-no_reply g c =
    let shelf = shelf_call g.S.Shelf.contents g.S.Shelf.faults g.S.Shelf.fault_at g.S.Shelf.fault_kind c.args.shelf.now c.pairs_output.new.shelf in
    subst (λ (command : Command). IfErr c.from_residual-in_err-text-in-Pairs.result
    (IsNoReply (verdict_of (Some command)) (names_of (Some command)) shelf)) (sym c.in-Pairs.is) (search rules)

pub returns-in_err-text-in-Slice-clause-no_reply : goal.returns-in_err-text-in-Slice-clause-no_reply
returns-in_err-text-in-Slice-clause-no_reply g c =
    let shelf = shelf_call g.S.Shelf.contents g.S.Shelf.faults g.S.Shelf.fault_at g.S.Shelf.fault_kind c.args.shelf.now c.slice_output.new.shelf in
    let level : to_z w32 (of_z w32 c.in-Slice.at) ≡ c.in-Slice.at = search rules in
    let no_reply : IsNoReply (λ contents. slice_verdict c.in-Slice.at (file_at contents 1)) (c.in-Slice.file ∷ []) shelf
    c.in_err-text-in-Slice.field-0.0 = subst (λ (at : ℤ). IsNoReply
    (λ contents. slice_verdict at (file_at contents 1)) (c.in-Slice.file ∷ []) shelf c.in_err-text-in-Slice.field-0.0)
    level c.in_err-text-in-Slice.ensures.no_reply in
    passed_on (IsNoReply (verdict_of (Some c.args.command.now)) (names_of (Some c.args.command.now)) shelf) _ _ c.from_residual-in_err-text-in-Slice.ensures.1
    (subst (λ (command : Command). IsNoReply (verdict_of (Some command)) (names_of (Some command)) shelf
    c.in_err-text-in-Slice.field-0.0) (sym c.in-Slice.is) no_reply)

pub returns-in-Boole-clause-no_reply : goal.returns-in-Boole-clause-no_reply
returns-in-Boole-clause-no_reply g c =
    let shelf = shelf_call g.S.Shelf.contents g.S.Shelf.faults g.S.Shelf.fault_at g.S.Shelf.fault_kind c.args.shelf.now c.bool_output.new.shelf in
    subst (λ (command : Command). IfErr c.bool_output.result
    (IsNoReply (verdict_of (Some command)) (names_of (Some command)) shelf)) (sym c.in-Boole.is)
    c.bool_output.ensures.no_reply

pub returns-in_ok-text-in-Faces-clause-reply : goal.returns-in_ok-text-in-Faces-clause-reply
returns-in_ok-text-in-Faces-clause-reply g c =
    let told = g.S.Shelf.contents c.args.shelf.now in let reply = c.of.result in let made = c.of.ensures in
    subst (λ (command : Command). IsReplyTo command told reply) (sym c.in-Faces.is)
    (text_replied told (c.in-Faces.file ∷ []) (λ contents. faces_verdict c.in-Faces.places (file_at contents 1)) _ reply
    made.text made.report
    c.in_ok-text-in-Faces.ensures.text)

pub returns-in_ok-text-in-At-clause-reply : goal.returns-in_ok-text-in-At-clause-reply
returns-in_ok-text-in-At-clause-reply g c =
    let told = g.S.Shelf.contents c.args.shelf.now in let reply = c.of-in-At.result in let made = c.of-in-At.ensures in
    subst (λ (command : Command). IsReplyTo command told reply) (sym c.in-At.is)
    (text_replied told _ (λ contents. at_verdict c.in-At.point c.in-At.expr c.in-At.places contents) _ reply made.text made.report
    c.in_ok-text-in-At.ensures.text)

pub returns-in_ok-text-in-Voxels-clause-reply : goal.returns-in_ok-text-in-Voxels-clause-reply
returns-in_ok-text-in-Voxels-clause-reply g c =
    let told = g.S.Shelf.contents c.args.shelf.now in let reply = c.of-in-Voxels.result in let made = c.of-in-Voxels.ensures in
    subst (λ (command : Command). IsReplyTo command told reply) (sym c.in-Voxels.is)
    (text_replied told _ (λ contents. voxels_verdict c.in-Voxels.expr c.in-Voxels.size c.in-Voxels.places contents) _ reply
    made.text made.report c.in_ok-text-in-Voxels.ensures.text)

pub returns-in_ok-text-in-Pairs-clause-reply : goal.returns-in_ok-text-in-Pairs-clause-reply
returns-in_ok-text-in-Pairs-clause-reply g c =
    let told = g.S.Shelf.contents c.args.shelf.now in let reply = c.of-in-Pairs.result in let made = c.of-in-Pairs.ensures in
    subst (λ (command : Command). IsReplyTo command told reply) (sym c.in-Pairs.is)
    (text_replied told _ (λ contents. pairs_verdict c.in-Pairs.places contents) _ reply made.text made.report
    c.in_ok-text-in-Pairs.ensures.text)

pub returns-in_ok-text-in-Slice-clause-reply : goal.returns-in_ok-text-in-Slice-clause-reply
returns-in_ok-text-in-Slice-clause-reply g c =
    let told = g.S.Shelf.contents c.args.shelf.now in let reply = c.of-in-Slice.result in let made = c.of-in-Slice.ensures in
    let level : to_z w32 (of_z w32 c.in-Slice.at) ≡ c.in-Slice.at = search rules in
    let names = c.in-Slice.file ∷ [] in let text = c.in_ok-text-in-Slice.text.items in
    let read : MayHold told names (λ contents. IsText (slice_verdict c.in-Slice.at (file_at contents 1)) text) =
    subst (λ (at : ℤ). MayHold told names (λ contents. IsText (slice_verdict at (file_at contents 1)) text)) level
    c.in_ok-text-in-Slice.ensures.text in
    subst (λ (command : Command). IsReplyTo command told reply) (sym c.in-Slice.is)
    (text_replied told names (λ contents. slice_verdict c.in-Slice.at (file_at contents 1)) text reply made.text made.report read)

pub returns-in_ok-text-in-Demo-clause-reply : goal.returns-in_ok-text-in-Demo-clause-reply
returns-in_ok-text-in-Demo-clause-reply g c =
    let told = g.S.Shelf.contents c.args.shelf.now in let reply = c.of-in-Demo.result in let made = c.of-in-Demo.ensures in
    subst (λ (command : Command). IsReplyTo command told reply) (sym c.in-Demo.is)
    (text_alone_replied told _ _ reply made.text made.report c.in_ok-text-in-Demo.ensures.text)

pub returns-in-Boole-clause-reply : goal.returns-in-Boole-clause-reply
returns-in-Boole-clause-reply g c =
    let told = g.S.Shelf.contents c.args.shelf.now in
    subst (λ (command : Command). IfOk c.bool_output.result (IsReplyTo command told)) (sym c.in-Boole.is)
    c.bool_output.ensures.reply
