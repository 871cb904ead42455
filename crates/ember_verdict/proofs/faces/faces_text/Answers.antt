use Rattle.ember_verdict.proofs.FaceLists.{face_file}
use Rattle.ember_verdict.proofs.faces.faces_text.Goals as goal

pub returns : goal.returns
returns c =
    face_file c.args.tris.now c.loop-tri.tri-index c.loop-tri.text.items _ c.loop-tri.count c.loop-tri-test.false
    c.loop-tri.invariant.has c.in_ok-end_file.ensures
