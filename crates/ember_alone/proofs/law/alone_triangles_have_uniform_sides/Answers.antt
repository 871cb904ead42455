use Rattle.ember_alone.proofs.UniformSides.{alone_have_uniform_sides}
use Rattle.ember_alone.proofs.law.alone_triangles_have_uniform_sides.Goals as goal

pub returns : goal.returns
returns c = alone_have_uniform_sides
