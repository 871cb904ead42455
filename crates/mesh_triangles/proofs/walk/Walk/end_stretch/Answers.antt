use Rattle.std.proofs.Common.{List, ◌≤◌, ◌∷◌, [], length, sym, subst}
use Rattle.std.proofs.lemmas.List.{take_all}
use Rattle.mesh_triangles.specs.declared.strand.Strand.{Strand}
use Rattle.mesh_triangles.specs.Walks.{AddsStretch}
use Rattle.mesh_triangles.proofs.Strands.{next_strand}
use Rattle.mesh_triangles.proofs.walk.Walk.end_stretch.Goals as goal

pub loop-s-preserved : goal.loop-s-preserved
loop-s-preserved c =
    let w = c.args.self.now in let middle = c.loop-s.segments.items in
    next_strand w c.deref-s-items.result.now w.stretch.items c.loop-s.s-index _ c.args.segments.now.items middle
    c.push.new.self.items c.deref-s-items.ensures.value c.loop-s-test.true c.loop-s.invariant
    (subst (AddsStretch w (_ ∷ []) middle) (sym c.in_ok-push.ensures.items) (c.segment.ensures middle))

pub returns : goal.returns
returns c =
    let w = c.args.self.now in let before = c.args.segments.now.items in let middle = c.loop-s.segments.items in
    let l = subst (λ (ss : List Strand). length ss ≤ c.loop-s.s-index) c.deref-s-items.ensures.value c.loop-s-test.false in
    c.push_pairs.ensures w.stretch.items before
    (subst (λ (ss : List Strand). AddsStretch w ss before middle) (take_all c.loop-s.s-index w.stretch.items l)
    c.loop-s.invariant)
