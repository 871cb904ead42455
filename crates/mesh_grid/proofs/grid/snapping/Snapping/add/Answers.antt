use Rattle.std.proofs.Common.{refl, sym, ap, ◌∙◌, ◌+◌}
use Rattle.mesh_grid.specs.Grid.Images.{has_equal_corners}
use Rattle.mesh_grid.proofs.Growing.{snapped_kept, snapped_vanishing}
use Rattle.mesh_grid.proofs.grid.snapping.Snapping.add.Goals as goal

pub returns-then-has_equal_corners : goal.returns-then-has_equal_corners
returns-then-has_equal_corners c = λ at mesh fs e h. snapped_vanishing at mesh fs c.args.facet.now c.args.self.now _
    (sym (ap has_equal_corners e) ∙ sym c.has_equal_corners.ensures ∙ c.if-has_equal_corners.true) refl refl refl refl h

pub returns : goal.returns
returns c = λ at mesh fs e h. snapped_kept at mesh fs c.args.facet.now c.args.tri c.args.self.now _ e c.requires.valid
    (sym (ap has_equal_corners e) ∙ sym c.has_equal_corners.ensures ∙ c.if-has_equal_corners.false)
    c.in_ok-push.ensures.items c.in_ok-push-2.ensures.items refl (ap (λ n. c.args.self.now.flat + n) c.flat_count.ensures)
    h
