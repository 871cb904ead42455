use Rattle.ember_leaf.proofs.LiteralRegions.{covered_nothing, one_value_nothing, some_of_triangle, some_of_leaf}
use Rattle.ember_leaf.proofs.LiteralRegions.{some_of_scene, literal_written, written_literal}
use Rattle.ember_leaf.proofs.law.special_cases_are_the_literal_definition.Goals as goal

pub returns-clause-covered : goal.returns-clause-covered
returns-clause-covered c = λ s meshes f is cell i h ks w. covered_nothing s f cell i h ks w

pub returns-clause-one_value : goal.returns-clause-one_value
returns-clause-one_value c = λ s meshes f is cell h ks w. one_value_nothing s f meshes is cell h ks w

pub returns-clause-triangles : goal.returns-clause-triangles
returns-clause-triangles c = λ s meshes f is cell i n. some_of_triangle s f is.valid cell i n

pub returns-clause-leaves : goal.returns-clause-leaves
returns-clause-leaves c = λ s meshes f is cell n. some_of_leaf s f is.valid cell n

pub returns-clause-scenes : goal.returns-clause-scenes
returns-clause-scenes c = λ s meshes f is n. some_of_scene s f is.valid n

pub returns-clause-written : goal.returns-clause-written
returns-clause-written c = λ s meshes f is ks w. literal_written s f ks w

pub returns-clause-literal : goal.returns-clause-literal
returns-clause-literal c = λ s meshes f is ks w n. written_literal s f meshes is ks w n
