use Rattle.std.proofs.Common.{◌∙◌, pos}
use mir.Syntax.{w64}
use Rattle.ember_algebra.proofs.Ring.{◌⊖◌, ◌≈◌, num, neg, solve, cancels}
use Rattle.ember_algebra.proofs.Exact.{input, number, stored, ◌⊟◌, ◌&◌, done, exact}
use Rattle.ember_poly.proofs.cutting.opposite.Goals as goal

pub returns : goal.returns
returns c =
    let p = c.args.p.now in
    let a = exact (c.requires.a & done) (stored w64 (number (pos 0) ⊟ stored w64 (input 0))) tt ∙ solve 1 (λ k. num (pos 0) ⊖ k ≈ neg k) cancels p.a in
    let b = exact (c.requires.b & done) (stored w64 (number (pos 0) ⊟ stored w64 (input 0))) tt ∙ solve 1 (λ k. num (pos 0) ⊖ k ≈ neg k) cancels p.b in
    let d = exact (c.requires.c & done) (stored w64 (number (pos 0) ⊟ stored w64 (input 0))) tt ∙ solve 1 (λ k. num (pos 0) ⊖ k ≈ neg k) cancels p.c in
    let e = exact (c.requires.d & done) (stored w64 (number (pos 0) ⊟ stored w64 (input 0))) tt ∙ solve 1 (λ k. num (pos 0) ⊖ k ≈ neg k) cancels p.d in
    λ i. record { a = a i; b = b i; c = d i; d = e i }
