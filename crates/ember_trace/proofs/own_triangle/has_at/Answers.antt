use Rattle.std.proofs.Common.{ap, ◌∙◌, Some}
use Rattle.std.proofs.lemmas.Option.{slice_get-get_or}
use Rattle.ember_model.specs.declared.plane.Plane.{Plane}
use Rattle.ember_model.specs.Planes.{zero_plane}
use Rattle.ember_trace.proofs.own_triangle.has_at.Goals as goal

pub returns-then-index-list : goal.returns-then-index-list
returns-then-index-list c =
    λ t. slice_get-get_or c.args.list.now c.args.index zero_plane c.if-index-list.true ∙ ap (λ (p : Plane). Some p) (c.is_same.ensures t)
