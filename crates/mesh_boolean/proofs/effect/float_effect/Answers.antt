use Rattle.std.proofs.Common.{◌≡◌, ℕ, true, refl, subst, sym}
use Rattle.std.specs.List.{list_all}
use Rattle.mesh_written.specs.Triangles.{has_corners}
use Rattle.mesh_boolean.proofs.Outputs.{corners_are_there}
use Rattle.mesh_boolean.proofs.effect.float_effect.Goals as goal

pub float_facings-facings-requires-clause-corners : goal.float_facings-facings-requires-clause-corners
float_facings-facings-requires-clause-corners c =
    let among_corners = corners_are_there c.args.mesh.now.planes.items refl c.deref-4.ensures.value c.requires.proper in
    subst (λ (count : ℕ). list_all (has_corners count) c.deref-4.result.now ≡ true) (sym c.requires.points.count) among_corners
