use mir.Syntax.{w64}
use Rattle.ember_algebra.proofs.Exact.{Code, input, stored, ◌⊠◌, ◌⊞◌, ◌&◌, done, exact, no_overflow}
use Rattle.ember_pairs.proofs.samples.sample_height.Goals as goal

-- the three products and their sums
abbrev first : Code
first = stored w64 (stored w64 (input 0) ⊠ stored w64 (input 1))

abbrev second : Code
second = stored w64 (stored w64 (input 2) ⊠ stored w64 (input 3))

abbrev third : Code
third = stored w64 (stored w64 (input 4) ⊠ stored w64 (input 5))

abbrev two : Code
two = stored w64 (first ⊞ second)

pub overflow_mul-result : goal.overflow_mul-result
overflow_mul-result c =
    no_overflow (c.requires.weights.a.small & c.requires.heights.a & done) w64 (stored w64 (input 0) ⊠ stored w64 (input 1)) tt

pub overflow_mul-result-2 : goal.overflow_mul-result-2
overflow_mul-result-2 c =
    no_overflow (c.requires.weights.b.small & c.requires.heights.b & done) w64 (stored w64 (input 0) ⊠ stored w64 (input 1)) tt

pub overflow_add-result : goal.overflow_add-result
overflow_add-result c =
    let w = c.requires.weights in let h = c.requires.heights in
    no_overflow (w.a.small & h.a & w.b.small & h.b & done) w64 (first ⊞ second) tt

pub overflow_mul-result-3 : goal.overflow_mul-result-3
overflow_mul-result-3 c =
    no_overflow (c.requires.weights.c.small & c.requires.heights.c & done) w64 (stored w64 (input 0) ⊠ stored w64 (input 1)) tt

pub overflow_add-result-2 : goal.overflow_add-result-2
overflow_add-result-2 c =
    let w = c.requires.weights in let h = c.requires.heights in
    no_overflow (w.a.small & h.a & w.b.small & h.b & w.c.small & h.c & done) w64 (two ⊞ third) tt

pub returns : goal.returns
returns c =
    let w = c.requires.weights in let h = c.requires.heights in
    exact (w.a.small & h.a & w.b.small & h.b & w.c.small & h.c & done) (stored w64 (two ⊞ third)) tt
