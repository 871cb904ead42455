use Rattle.std.proofs.Common.{ℕ, List, refl, subst}
use Rattle.std.proofs.lemmas.List.{take_all}
use Rattle.mesh_triangulate.specs.Lines.{AreNamed}
use Rattle.mesh_triangulate.proofs.NamedTriangles.{next_is_named, named_have_lines, of_the_value}
use Rattle.mesh_triangulate.proofs.WholeTriangles.{only_one_has_lines}
use Rattle.mesh_triangulate.proofs.lines.with_lines.Goals as goal

pub loop-corners-preserved : goal.loop-corners-preserved
loop-corners-preserved c =
    let x = c.in_ok-triangle.ensures.extended in
    record {
      right = x.right c.args.boundary.now c.args.first_free_line c.loop-corners.invariant.right;
      named = next_is_named c.args.plane c.args.triangles.now c.loop-corners.corners-index c.loop-corners.lines
          c.triangle.new.self x c.loop-corners.named.items c.push.new.self.items _ _ c.in-Some-2.triangle
          c.loop-corners-test.true refl c.in_ok-push.ensures.items c.loop-corners.invariant.named
          (of_the_value _ c.in_ok-triangle.field-0 c.in-Some-2.triangle c.in-Some-2.is c.in_ok-triangle.ensures.named);
    }

pub returns : goal.returns
returns c =
    only_one_has_lines c.args.boundary.now c.args.plane c.args.first_free_line c.args.triangles.now
    c.in_ok-only.only.items c.in-Some.triangle c.in-len1.len_at_least c.in-len1.len_below c.in_ok-only.ensures.items
    c.in-Some.ensures

pub returns-2 : goal.returns-2
returns-2 c =
    let i = c.loop-corners.invariant in
    named_have_lines c.args.boundary.now c.args.first_free_line c.loop-corners.lines i.right c.args.plane
    c.args.triangles.now c.loop-corners.named.items
    (subst (λ (cs : List (List ℕ)). AreNamed c.args.plane cs c.loop-corners.lines c.loop-corners.named.items)
    (take_all c.loop-corners.corners-index c.args.triangles.now c.loop-corners-test.false) i.named)
