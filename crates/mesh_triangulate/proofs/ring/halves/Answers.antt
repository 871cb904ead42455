use Rattle.mesh_triangulate.proofs.Corners.{three_are_corners, each_half_has_corners}
use Rattle.mesh_triangulate.proofs.ring.halves.Goals as goal

pub returns-then-is_first : goal.returns-then-is_first
returns-then-is_first c =
    λ ss h. let q = c.args.q.now in each_half_has_corners ss q.a q.b q.c q.a q.c q.d
    (three_are_corners ss q.a q.b q.c h.a h.b h.c) (three_are_corners ss q.a q.c q.d h.a h.c h.d)

pub returns : goal.returns
returns c =
    λ ss h. let q = c.args.q.now in each_half_has_corners ss q.b q.c q.d q.b q.d q.a
    (three_are_corners ss q.b q.c q.d h.b h.c h.d) (three_are_corners ss q.b q.d q.a h.b h.d h.a)
