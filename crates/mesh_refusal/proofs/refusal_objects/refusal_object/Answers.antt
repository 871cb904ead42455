use Rattle.std.proofs.Common.{◌≡◌, List, ℕ, Vec, Global, Bor, codes, decimal, ap, ◌∙◌, option_map}
use Rattle.std.proofs.lemmas.Result.{IfOk-weaker}
use Rattle.std.specs.Option.{option_or}
use Rattle.mesh_refusal.specs.Refusals.{refusal_object}
use Rattle.mesh_texts.proofs.Entries.{entry}
use Rattle.mesh_refusal.proofs.RefusalParts.{option_map-or, refusal_of_entries}
use Rattle.mesh_refusal.proofs.refusal_objects.refusal_object.Goals as goal

pub returns : goal.returns
returns c =
    let file = option_map (λ (it : Bor (List ℕ)). it.now) c.args.file in
    let known = option_map (λ (it : Bor (List ℕ)). it.now) c.args.known in
    let place = option_map (λ (it : Bor (List ℕ)). it.now) c.parts_of.result.0 in
    let chosen = option_map (λ (it : Bor (List ℕ)). it.now) c.or.result in
    let remedy = option_map (λ (it : Bor (List ℕ)). it.now) c.reason_and_remedy.result.1 in
    let chosen_is : chosen ≡ option_or known place =
    ap (option_map (λ (it : Bor (List ℕ)). it.now)) c.or.ensures
    ∙ option_map-or (λ (it : Bor (List ℕ)). it.now) c.args.known c.parts_of.result.0 in
    IfOk-weaker c.object_line.result _
    (λ (text : Vec ℕ Global). text.items ≡ refusal_object c.args.status file known c.args.why.now)
    (λ text is. is ∙ refusal_of_entries c.args.status file known c.args.why.now place remedy chosen
    c.parts_of.result.1.now c.reason_and_remedy.result.0.now _ _ _ _ _ c.parts_of.ensures c.reason_and_remedy.ensures
    chosen_is
    (c.keyed.ensures ∙ ap (entry (codes "status")) (c.in_ok-status.ensures ∙ ap decimal c.from.ensures))
    (c.keyed-2.ensures ∙ ap (entry (codes "file")) c.in_ok-file.ensures)
    (c.keyed-3.ensures ∙ ap (entry (codes "place")) c.in_ok-place.ensures)
    (c.keyed-4.ensures ∙ ap (entry (codes "reason")) c.in_ok-reason.ensures)
    (c.keyed-5.ensures ∙ ap (entry (codes "remedy")) c.in_ok-remedy.ensures)) c.object_line.ensures
