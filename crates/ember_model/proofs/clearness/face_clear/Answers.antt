use Rattle.std.proofs.Common.{◌≡◌, sym, ◌∙◌}
use Rattle.ember_model.specs.ClearTest.{is_clear, face_with}
use Rattle.ember_model.proofs.ClearPoints.{clear_from, clear_to}
use Rattle.ember_model.proofs.clearness.face_clear.Goals as goal

pub returns : goal.returns
returns c =
    let f = c.args.f.now in let p = c.args.p.now in let w = c.requires.spot.weight in let es = c.items.ensures in
    let e : c.clear_of.result ≡ is_clear f p = c.clear_of.ensures ∙ (λ i. is_clear (face_with f.support (es i)) p) in
    (λ t. clear_from f p w (sym e ∙ t), λ q. e ∙ clear_to f p w q)
