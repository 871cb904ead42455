use Rattle.std.proofs.Common.{List, flat_map, subst, sym, ◌∙◌}
use Rattle.mesh_write.specs.declared.stl.triangle.FloatTriangle.{FloatTriangle}
use Rattle.mesh_info.specs.Info.Corners.{triangles_of}
use Rattle.mesh_info.specs.View.Views.{AreShown}
use Rattle.mesh_info.proofs.Viewed.{page_is_view}
use Rattle.mesh_info.proofs.view.views.view_of.Goals as goal

pub returns : goal.returns
returns c =
    let shown = subst (λ (ts : List FloatTriangle). AreShown (flat_map triangles_of c.args.surfaces.now) ts)
    (sym c.deref.ensures.value) c.in_ok-written.ensures in
    page_is_view c.args.title.now c.args.names.now c.args.surfaces.now c.deref.result.now c.deref-2.result.now c.page_bytes.result
    shown (c.deref-2.ensures.value ∙ c.in_ok-files.ensures) c.page_bytes.ensures.page c.page_bytes.ensures.read_back
