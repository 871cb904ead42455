use Rattle.std.proofs.Common.{[]}
use Rattle.std.proofs.lemmas.List.Elements.{All-nil, All-more}
use Rattle.mesh_read.specs.declared.surface.surface.Facet.{Facet}
use Rattle.mesh_grid.specs.Grid.Marks.{HasThreeCorners}
use Rattle.mesh_grid.proofs.CornerMarks.{marked_nothing, marked_facet}
use Rattle.mesh_grid.proofs.grid.marks.mark_all.Goals as goal

pub loop-facet-init : goal.loop-facet-init
loop-facet-init c =
    record { marks = marked_nothing c.args.marks.now; three = All-nil HasThreeCorners }

pub loop-facet-preserved : goal.loop-facet-preserved
loop-facet-preserved c =
    let none : Facet = record { corners = []; place = 0 } in
    record {
      marks = marked_facet c.args.facets.now c.loop-facet.facet-index none _ _ _ c.loop-facet-test.true
          c.loop-facet.invariant.marks c.mark_corners.ensures.marks;
      three = All-more HasThreeCorners c.args.facets.now c.loop-facet.facet-index none c.loop-facet-test.true
          c.loop-facet.invariant.three c.mark_corners.ensures.three;
    }
