use Rattle.ember_box.proofs.Lists.{listed_near_all, halving_axis_near, is_leaf_near}
use Rattle.ember_box.proofs.law.near_triangles_decide_the_halving.Goals as goal

pub returns-clause-list : goal.returns-clause-list
returns-clause-list c = λ tris box. listed_near_all tris box

pub returns-clause-axis : goal.returns-clause-axis
returns-clause-axis c = λ tris box. halving_axis_near 0 tris box

pub returns-clause-leaf : goal.returns-clause-leaf
returns-clause-leaf c = λ tris box. is_leaf_near 0 tris box

pub returns-clause-axis_on : goal.returns-clause-axis_on
returns-clause-axis_on c = halving_axis_near

pub returns-clause-leaf_on : goal.returns-clause-leaf_on
returns-clause-leaf_on c = is_leaf_near
