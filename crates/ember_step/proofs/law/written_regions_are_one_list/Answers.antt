use Rattle.ember_leaf.proofs.WrittenRegionsUnique.{written_in_unique, written_unique}
use Rattle.ember_step.proofs.law.written_regions_are_one_list.Goals as goal

pub returns-clause-leaf : goal.returns-clause-leaf
returns-clause-leaf c = λ ts meshes scene f cell one other a b. written_in_unique ts f meshes scene cell one other a b

pub returns-clause-scene : goal.returns-clause-scene
returns-clause-scene c = λ ts meshes f scene one other a b. written_unique ts f meshes scene one other a b
