use Rattle.ember_step.proofs.KnownBesideBox.{known_has_one}
use Rattle.ember_leaf.proofs.WrittenRegionsUnique.{value_on_sides, nothing_written}
use Rattle.ember_step.proofs.law.known_boxes_write_nothing.Goals as goal

pub returns-clause-value : goal.returns-clause-value
returns-clause-value c = λ ts meshes scene f job known fit is e. known_has_one ts meshes scene f fit job is known e

pub returns-clause-sides : goal.returns-clause-sides
returns-clause-sides c = λ ts meshes scene f cell one region before after is sides. value_on_sides ts f meshes scene cell one region before after is sides

pub returns-clause-nothing : goal.returns-clause-nothing
returns-clause-nothing c = λ ts meshes scene f cell kept one w. nothing_written ts f meshes scene cell one kept w
