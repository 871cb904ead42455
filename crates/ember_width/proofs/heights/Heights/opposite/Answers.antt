use Rattle.std.proofs.Common.{◌∙◌, pos}
use mir.Syntax.{w64}
use Rattle.ember_algebra.proofs.Ring.{◌⊖◌, ◌≈◌, num, neg, solve, cancels}
use Rattle.ember_algebra.proofs.Exact.{input, number, stored, ◌⊟◌, ◌&◌, done, exact}
use Rattle.ember_width.proofs.heights.Heights.opposite.Goals as goal

pub returns-clause-a : goal.returns-clause-a
returns-clause-a c =
    exact (c.requires.a & done) (stored w64 (number (pos 0) ⊟ stored w64 (input 0))) tt
    ∙ solve 1 (λ k. num (pos 0) ⊖ k ≈ neg k) cancels c.args.self.now.a

pub returns-clause-b : goal.returns-clause-b
returns-clause-b c =
    exact (c.requires.b & done) (stored w64 (number (pos 0) ⊟ stored w64 (input 0))) tt
    ∙ solve 1 (λ k. num (pos 0) ⊖ k ≈ neg k) cancels c.args.self.now.b

pub returns-clause-c : goal.returns-clause-c
returns-clause-c c =
    exact (c.requires.c & done) (stored w64 (number (pos 0) ⊟ stored w64 (input 0))) tt
    ∙ solve 1 (λ k. num (pos 0) ⊖ k ≈ neg k) cancels c.args.self.now.c
