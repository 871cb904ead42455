use Rattle.std.proofs.Common.{sym, subst}
use Rattle.std.specs.Prelude.{All}
use Rattle.ember_model.specs.Valid.{IsValidPlane}
use Rattle.mesh_solid.proofs.ValidTables.{tables_in_are_valid}
use Rattle.mesh_solid_tests.proofs.triangles.solids.solid_of.Goals as goal

pub returns : goal.returns
returns c =
    let solid = c.in_ok-solid.ensures.solid.mesh in
    let mesh = solid.of_document in
    subst (All IsValidPlane) (sym mesh.cut.planes) (tables_in_are_valid solid.bytes mesh.tables mesh.tables_are)
