use mir.Syntax.{w64}
use Rattle.ember_algebra.proofs.Exact.{input, stored, ◌⊟◌, ◌&◌, done, exact, no_overflow}
use Rattle.ember_box.proofs.aabb.difference.Goals as goal

pub overflow_sub-result : goal.overflow_sub-result
overflow_sub-result c =
    no_overflow (c.requires.a & c.requires.b & done) w64 (stored w64 (input 0) ⊟ stored w64 (input 1)) tt

pub returns : goal.returns
returns c = exact (c.requires.a & c.requires.b & done) (stored w64 (stored w64 (input 0) ⊟ stored w64 (input 1))) tt
