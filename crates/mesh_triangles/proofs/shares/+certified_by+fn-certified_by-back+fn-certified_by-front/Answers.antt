use Rattle.std.proofs.Common.{◌≡◌, ◌++◌, List, sym, subst}
use Rattle.std.proofs.lemmas.Result.{IfOk-at_ok}
use Rattle.std.specs.Prelude.{IsTrue}
use Rattle.mesh_certificate.specs.declared.certificate.segment.Segment.{Segment}
use Rattle.mesh_certificate.specs.declared.certificate.triangle.Triangle.{Triangle}
use Rattle.mesh_certificate.specs.Certificate.Certificate.{ArePartsCertified}
use Rattle.mesh_certificate.proofs.JoinedParts.{parts_certified-append}
use Rattle.mesh_triangles.proofs.shares.+certified_by+fn-certified_by-back+fn-certified_by-front.Goals as goal

pub returns-in_ok-second : goal.returns-in_ok-second
returns-in_ok-second g t c = λ yes.
    let ps = c.args.tables.now.planes.now in let ls = c.args.tables.now.lines.now in let cs = c.args.tables.now.corners.now in
    let faces = c.split_at.result.0.now in let other_faces = c.split_at.result.1.now in
    let own = c.split_at-2.result.0.now in let others = c.split_at-2.result.1.now in
    let both =
    parts_certified-append ps ls cs faces other_faces own others
    (IfOk-at_ok (λ certified. IsTrue certified → ArePartsCertified ps ls cs faces own) c.in_ok-first.was c.join-first.ensures.first c.if-branch.true)
    (IfOk-at_ok (λ certified. IsTrue certified → ArePartsCertified ps ls cs other_faces others) c.in_ok-second.was c.join-first.ensures.second yes)
    in
    subst (λ (ss : List Segment). ArePartsCertified ps ls cs ss c.args.triangles.now) (sym c.split_at.ensures.by_index.0)
    (subst (λ (ts : List Triangle). ArePartsCertified ps ls cs (faces ++ other_faces) ts) (sym c.split_at-2.ensures.by_index.0) both)
