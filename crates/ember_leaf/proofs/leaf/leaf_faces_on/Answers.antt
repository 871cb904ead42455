use Rattle.std.proofs.Common.{◌∙◌, ap, sym, subst, arith, ◌≡◌, [], length}
use Rattle.std.proofs.lemmas.List.{length-map}
use Rattle.ember_algebra.specs.Relations.{Each, none}
use Rattle.ember_expr.specs.Formula.{formula_of}
use Rattle.ember_box.specs.Boxes.{in_steps}
use Rattle.ember_trace.specs.NearTriangles.{tri_of}
use Rattle.ember_leaf.specs.KeptRegions.{tris_of}
use Rattle.ember_leaf.specs.Written.{IsWrittenOf}
use Rattle.ember_leaf.proofs.RegionOrder.{placed_none}
use Rattle.ember_leaf.proofs.WrittenRegions.{next_written, all_written}
use Rattle.ember_leaf.proofs.leaf.leaf_faces_on.Goals as goal

pub loop-i-init : goal.loop-i-init
loop-i-init g c =
    let ns = tris_of c.deref.result.now in (
      placed_none ns 0 c.new-kept.result.items c.new-kept.ensures.items,
      λ scene h. subst (Each (IsWrittenOf scene (formula_of c.args.e.now) (in_steps g.W.Width.scale c.args.c.now) ns) [])
          (sym c.new-kept.ensures.items) none,
    )

pub loop-i-preserved : goal.loop-i-preserved
loop-i-preserved g c =
    let ns = tris_of c.deref.result.now in (
      c.in_ok-write_triangle.ensures.placed,
      next_written g.W.Width.corner g.W.Width.fine ns (in_steps g.W.Width.scale c.args.c.now) c.args.v.now.counts
          (λ scene. IsWrittenOf scene (formula_of c.args.e.now) (in_steps g.W.Width.scale c.args.c.now) ns) c.loop-i.i c.loop-i.kept.items
          c.write_triangle.new.kept.items c.loop-i.invariant.1 c.in_ok-write_triangle.ensures.written,
    )

pub returns-clause-written : goal.returns-clause-written
returns-clause-written g c =
    let fs = c.deref.result.now in let a = c.len-i-end.ensures in let b = c.loop-i-test.false in let d =
    c.loop-i.auto.i-end in let l = c.deref.ensures.len in let q = length-map fs tri_of in
    let e : c.loop-i.i ≡ length (tris_of fs) = omega (arith, a, b, d, l, q) in
    all_written g.W.Width.corner g.W.Width.fine (tris_of fs) c.args.near.now (in_steps g.W.Width.scale c.args.c.now) c.args.v.now.counts (formula_of c.args.e.now) c.loop-i.i
    c.loop-i.kept.items c.of.result (ap tris_of c.deref.ensures.value ∙ c.in_ok-near_triangles.ensures.tris) e
    c.of.ensures c.loop-i.invariant.1
