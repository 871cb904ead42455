use Rattle.std.proofs.Common.{◌+◌, take, refl, sym, subst}
use Rattle.std.specs.List.{AllZip}
use Rattle.std.proofs.lemmas.List.Elements.{all_zip_more}
use Rattle.mesh_solid.specs.Refusal.ClosedLines.{IsInPlaneZero}
use Rattle.mesh_solid.proofs.refusal.closed_lines.in_one_plane.Goals as goal

pub loop-s-preserved : goal.loop-s-preserved
loop-s-preserved c =
    subst (AllZip IsInPlaneZero (take (c.loop-s.s-index + 1) c.args.segments.now)) (sym c.in_ok-push.ensures.items)
    (all_zip_more IsInPlaneZero c.args.segments.now c.loop-s.moved.items c.loop-s.s-index c.s-item.result _
    c.loop-s-test.true c.s-item.is c.loop-s.invariant (record { plane = refl; line = refl; start = refl; end = refl }))
