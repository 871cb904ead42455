use Rattle.std.proofs.Common.{◌∙◌, SFits, to_z-of_z}
use mir.Syntax.{w64}
use Rattle.mesh_sources.proofs.Placed.{clash, placed}
use Rattle.mesh_sources.proofs.place.is_place.Goals as goal

pub returns : goal.returns
returns c =
    let v : SFits w64 c.facing.result = record { sfits = c.facing.type_inv } in
    let zero = rw (to_z-of_z v) at c.is_zero.ensures in
    placed c.args.facet.now c.args.t.now c.are_apart.result c.requires.proper (c.is_on.ensures.0 c.if-not-is_on.false)
    (λ e. clash c.if-is_zero.false (zero.1 (c.facing.ensures ∙ e))) c.are_apart.ensures
