use Rattle.std.proofs.Common.{◌≡◌, ℤ, pos, ◌-ℤ◌, neg_ℤ, ◌∙◌, arith}
use mir.Syntax.{w128}
use Rattle.ember_algebra.proofs.Exact.{Code, number, stored, kept, ◌⊟◌, ◌&◌, done, exact, bounded}
use Rattle.ember_algebra.proofs.Laws.{linear}
use Rattle.mesh_manifold.proofs.turns.opposite.Goals as goal

minus : (a : ℤ) → pos 0 -ℤ a ≡ neg_ℤ a
minus a = omega (arith, linear)

abbrev code : Code
code = stored w128 (number (pos 0) ⊟ kept 0)

pub returns-clause-value : goal.returns-clause-value
returns-clause-value c =
    let n = c.args.normal.now in
    let x = exact (c.requires.x & done) code tt ∙ minus n.x in
    let y = exact (c.requires.y & done) code tt ∙ minus n.y in
    let z = exact (c.requires.z & done) code tt ∙ minus n.z in
    λ i. record { x = x i; y = y i; z = z i }

pub returns-clause-small : goal.returns-clause-small
returns-clause-small c = record {
  x = bounded (c.requires.x & done) 33554431 code tt;
  y = bounded (c.requires.y & done) 33554431 code tt;
  z = bounded (c.requires.z & done) 33554431 code tt;
}
