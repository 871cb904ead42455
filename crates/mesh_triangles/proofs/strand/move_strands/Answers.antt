use Rattle.std.proofs.Common.{◌≡◌, ℤ, pos, ◌+ℤ◌, [], ap, ◌∙◌, arith, rules}
use Rattle.std.proofs.lemmas.List.{append-nil}
use Rattle.ember_algebra.proofs.Laws.{linear}
use Rattle.mesh_triangles.specs.Strands.{sign_in, coefficient}
use Rattle.mesh_triangles.proofs.Totals.{total-push}
use Rattle.mesh_triangles.proofs.strand.move_strands.Goals as goal

moved : (f t f' t' x s : ℤ) → t +ℤ f ≡ s → f ≡ f' +ℤ x → t' ≡ t +ℤ x → t' +ℤ f' ≡ s
moved f t f' t' x s e g h = omega (arith, linear, e, g, h)

none_left : (t f s : ℤ) → t +ℤ f ≡ s → f ≡ pos 0 → t ≡ s
none_left t f s e g = omega (arith, linear, e, g)

pub loop-strand-preserved : goal.loop-strand-preserved
loop-strand-preserved c =
    λ plane. moved (coefficient plane c.loop-strand.from.items) (coefficient plane c.loop-strand.to.items)
    (coefficient plane c.pop.new.self.items) (coefficient plane c.add_strand.new.strands.items)
    (sign_in plane c.in-Some.strand) _ (c.loop-strand.invariant plane)
    (total-push (sign_in plane) c.pop.new.self.items c.loop-strand.from.items c.in-Some.strand
    c.in-Some.ensures.items) (c.in_ok-add_strand.ensures plane)

pub returns-clause-moved : goal.returns-clause-moved
returns-clause-moved c =
    let none : c.pop.new.self.items ≡ [] = search rules in
    let empty = c.in_default.ensures.items ∙ append-nil c.pop.new.self.items ∙ none in
    λ plane. none_left (coefficient plane c.loop-strand.to.items) (coefficient plane c.loop-strand.from.items) _
    (c.loop-strand.invariant plane) (ap (coefficient plane) empty)
