use mir.Syntax.{w64}
use Rattle.ember_algebra.proofs.Exact.{Code, input, stored, ◌⊠◌, ◌⊟◌, ◌&◌, done, exact, bounded, no_overflow}
use Rattle.ember_slice.proofs.line.climb.Goals as goal

pub overflow_sub-result : goal.overflow_sub-result
overflow_sub-result c =
    no_overflow (c.requires.support.a & c.requires.plane.b & c.requires.support.b & c.requires.plane.a & done) w64
    (stored w64 (stored w64 (input 0) ⊠ stored w64 (input 1)) ⊟ stored w64
    (stored w64 (input 2) ⊠ stored w64 (input 3))) tt

abbrev climb_code : Code
climb_code =
    stored w64 (stored w64 (stored w64 (input 0) ⊠ stored w64 (input 1)) ⊟ stored w64 (stored w64 (input 2) ⊠ stored w64 (input 3)))

pub returns-clause-value : goal.returns-clause-value
returns-clause-value c =
    exact (c.requires.support.a & c.requires.plane.b & c.requires.support.b & c.requires.plane.a & done) climb_code tt

pub returns-clause-small : goal.returns-clause-small
returns-clause-small c =
    bounded (c.requires.support.a & c.requires.plane.b & c.requires.support.b & c.requires.plane.a & done) 2251799679467522 climb_code tt
