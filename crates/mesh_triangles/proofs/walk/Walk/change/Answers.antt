use Rattle.std.proofs.Common.{◌+ℤ◌, refl, sym, ap, ◌∙◌}
use Rattle.mesh_triangles.specs.declared.marks.What.{What}
use Rattle.mesh_triangles.specs.Strands.{coefficient}
use Rattle.mesh_triangles.specs.Marks.{change}
use Rattle.mesh_triangles.proofs.LineSweeps.{changed, on_all, unchanged}
use Rattle.mesh_triangles.proofs.walk.Walk.change.Goals as goal

pub returns-in-Start : goal.returns-in-Start
returns-in-Start c =
    λ line done before after m h at what. let old = c.args.self.now in
    on_all c.add_strand.result c.add_strand.ensures
    (λ k. changed line done before old _ after m at refl refl refl refl
    (λ plane. k plane ∙ ap (λ (w : What). coefficient plane old.changes.items +ℤ change plane w)
    (sym (what ∙ c.in-Start.is))) h)

pub returns-in-End : goal.returns-in-End
returns-in-End c =
    λ line done before after m h at what. let old = c.args.self.now in
    on_all c.add_strand-in-End.result c.add_strand-in-End.ensures
    (λ k. changed line done before old _ after m at refl refl refl refl
    (λ plane. k plane ∙ ap (λ (w : What). coefficient plane old.changes.items +ℤ change plane w)
    (sym (what ∙ c.in-End.is))) h)

pub returns-in-Split : goal.returns-in-Split
returns-in-Split c =
    λ line done before after m h at what. let old = c.args.self.now in
    changed line done before old _ after m at refl refl refl refl
    (λ plane. unchanged (coefficient plane old.changes.items) (change plane m.what)
    (ap (change plane) (what ∙ c.in-Split.is))) h
