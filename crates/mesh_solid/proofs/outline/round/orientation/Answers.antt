use mir.Syntax.{w128}
use Rattle.std.proofs.Common.{◌∙◌, ◌+ℤ◌, ◌*ℤ◌}
use Rattle.ember_algebra.proofs.Exact.{Code, stored, wide, narrow, ◌⊠◌, ◌⊞◌, ◌⊟◌, ◌&◌, done, exact, no_overflow}
use Rattle.mesh_solid.proofs.outline.round.orientation.Goals as goal

abbrev two : Code
two = stored w128 (wide 0 ⊠ wide 1) ⊞ stored w128 (wide 2 ⊠ wide 3)

abbrev three : Code
three = stored w128 two ⊞ stored w128 (wide 4 ⊠ wide 5)

pub overflow_add-result : goal.overflow_add-result
overflow_add-result c =
    let p = c.requires.n in no_overflow (p.a & c.minor-x.ensures.small & p.b & c.minor-y.ensures.small & done) w128 two tt

pub overflow_add-result-2 : goal.overflow_add-result-2
overflow_add-result-2 c =
    let p = c.requires.n in
    no_overflow (p.a & c.minor-x.ensures.small & p.b & c.minor-y.ensures.small & p.c & c.minor-z.ensures.small & done) w128 three tt

-- an entry of the cross product
abbrev entry : Code
entry = (narrow 0 ⊠ narrow 3) ⊟ (narrow 1 ⊠ narrow 2)

pub returns : goal.returns
returns c =
    let p = c.requires.n in let g = c.requires.g in let h = c.requires.h in
    let n = c.args.n.now in
    let i = p.a & c.minor-x.ensures.small & p.b & c.minor-y.ensures.small & p.c & c.minor-z.ensures.small & done in
    let x = c.minor-x.ensures.value ∙ exact (g.b & g.c & h.b & h.c & done) entry tt in
    let y = c.minor-y.ensures.value ∙ exact (g.c & g.a & h.c & h.a & done) entry tt in
    let z = c.minor-z.ensures.value ∙ exact (g.a & g.b & h.a & h.b & done) entry tt in
    exact i (stored w128 three) tt ∙ (λ k. n.a *ℤ x k +ℤ n.b *ℤ y k +ℤ n.c *ℤ z k)
