use Rattle.mesh_scene.proofs.LowestTerms.{divisor_positive, divided_is_lowest}
use Rattle.mesh_scene.proofs.scene_file.numbers.lowest.Goals as goal

pub nonzero_div-result : goal.nonzero_div-result
nonzero_div-result c = divisor_positive _ _ c.requires c.gcd-divisor.ensures

pub nonzero_div-result-2 : goal.nonzero_div-result-2
nonzero_div-result-2 c = divisor_positive _ _ c.requires c.gcd-divisor.ensures

pub returns : goal.returns
returns c = divided_is_lowest _ _ c.requires c.gcd-divisor.ensures
