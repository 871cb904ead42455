-- The triangles of an output have the meaning of its expression.
use Rattle.std.proofs.Common.{List, length}
use Rattle.ember_expr.specs.Formula.{Formula}
use Rattle.ember_meaning.specs.Regions.Meaning.{IsFalseOutside, HaveMeaning}
use Rattle.ember_meaning.specs.Regions.Nearby.{WindOnceAtMost}
use Rattle.mesh_scene.specs.Scene.Images.{images_of}
use Rattle.mesh_solid.specs.Mesh.MeshFaces.{faces_of_mesh}
use Rattle.mesh_solid.proofs.MeshMeaning.{mesh_means, mesh_winds_once_at_most}
use Rattle.mesh_boolean.specs.declared.files.InputFile.{InputFile}
use Rattle.mesh_boolean.specs.declared.wanted.WantedFile.{WantedFile}
use Rattle.mesh_boolean.specs.declared.output.SolidFile.{SolidFile}
use Rattle.mesh_boolean.specs.Outputs.{IsOutput}

module _ (files : List InputFile) (formula : Formula) (wanted : WantedFile) (out : SolidFile)
    (outside : IsFalseOutside formula) (is : IsOutput files formula wanted out) where
  pub output_means : HaveMeaning (images_of out.grid is.surfaces) formula (faces_of_mesh is.mesh)
  output_means = mesh_means (images_of out.grid is.surfaces) (length is.surfaces) formula is.mesh is.are_placed.scene outside is.solid

  pub output_winds_once_at_most : WindOnceAtMost (faces_of_mesh is.mesh)
  output_winds_once_at_most = mesh_winds_once_at_most (images_of out.grid is.surfaces) (length is.surfaces) formula is.mesh is.are_placed.scene outside is.solid
