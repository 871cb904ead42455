use Rattle.std.proofs.Common.{◌≡◌, ℤ, pos, ◌+ℤ◌, List, Some, slice_get, sym, ap, subst, ◌∙◌, arith}
use Rattle.std.proofs.lemmas.Option.{slice_get_within}
use Rattle.ember_algebra.proofs.Laws.{linear}
use Rattle.mesh_triangles.specs.declared.strand.Strand.{Strand}
use Rattle.mesh_triangles.specs.Strands.{sign_in, coefficient}
use Rattle.mesh_triangles.proofs.Totals.{total-insert, total-remove}
use Rattle.mesh_triangles.proofs.strand.add_strand.Goals as goal

instead : (a b x y : ℤ) → b +ℤ x ≡ a → x +ℤ y ≡ pos 0 → b ≡ a +ℤ y
instead a b x y e f = omega (arith, linear, e, f)

pub remove-requires : goal.remove-requires
remove-requires c =
    let l = slice_get_within c.deref-2.result.now c.partition_point-place.result c.in-Some.s (sym c.strand_at.ensures ∙ c.in-Some.is) in
    omega (arith, l, c.deref-2.ensures.len)

pub returns : goal.returns
returns c =
    λ plane. let ss = c.args.strands.now.items in let place = c.partition_point-place.result in
    let there : slice_get ss place ≡ Some c.in-Some.s =
    subst (λ (ss : List Strand). slice_get ss place ≡ Some c.in-Some.s) c.deref-2.ensures.value
    (sym c.strand_at.ensures ∙ c.in-Some.is) in
    instead (coefficient plane ss) (coefficient plane c.remove.new.self.items) (sign_in plane c.in-Some.s)
    (sign_in plane c.args.strand) (ap (λ (z : ℤ). z +ℤ sign_in plane c.in-Some.s)
    (ap (coefficient plane) c.remove.ensures.by_index.2) ∙ total-remove (sign_in plane) ss place c.in-Some.s there)
    (c.cancel.ensures plane c.if-cancel.true)

pub returns-2 : goal.returns-2
returns-2 c =
    λ plane. ap (coefficient plane) c.in_ok-insert.ensures.items
    ∙ total-insert (sign_in plane) c.args.strands.now.items c.partition_point-place.result c.args.strand
