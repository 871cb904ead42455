use Rattle.std.proofs.Common.{arith, inl, inr, ⊎_elim, ◌∙◌, map}
use Rattle.std.proofs.lemmas.List.{length-map}
use Rattle.std.proofs.lemmas.Result.{err_from_is_err_and}
use Rattle.ember_reread.specs.Cornered.{edge_of}
use Rattle.ember_reread.proofs.FaceTexts.{no_face_support, no_face_edges, face_lines_found}
use Rattle.ember_reread.proofs.cornered.take_cornered_face.Goals as goal

pub returns-in_default-clause-form : goal.returns-in_default-clause-form
returns-in_default-clause-form c = inr (no_face_support c.in_default.ensures.line)

pub returns-in_err-edges-clause-form : goal.returns-in_err-edges-clause-form
returns-in_err-edges-clause-form c =
    let s = c.in-Some.ensures in
    let p = err_from_is_err_and c.from_residual.result c.from_residual.ensures.1 in
    rw p.1 (⊎_elim (λ a. inl (p.2 ∙ a)) (λ f. inr (no_face_edges (omega arith) s.fits s.line f)) c.in_err-edges.ensures.form)

pub returns-clause-ok : goal.returns-clause-ok
returns-clause-ok c =
    let es = c.in_ok-edges.edges.items in
    face_lines_found (map edge_of es) c.in-Some.ensures.line c.in_ok-edges.ensures.ok.lines (length-map es edge_of ∙ c.in_ok-edges.ensures.ok.many)
