use Rattle.std.proofs.Common.{[], ◌∷◌}
use Rattle.std.proofs.lemmas.List.Elements.{All-nil, All-cons, All-same}
use Rattle.mesh_triangulate.specs.Corners.{HasCornersOf}
use Rattle.mesh_triangulate.proofs.ring.ring_triangles.Goals as goal

pub returns-in-Some : goal.returns-in-Some
returns-in-Some c =
    let P = HasCornersOf c.args.boundary.now in
    All-same P c.in_ok-only.only.items (c.in-Some.triangle ∷ []) c.in_ok-only.ensures.items (All-cons P c.in-Some.triangle [] c.in-Some.ensures (All-nil P))

pub returns : goal.returns
returns c =
    All-same (HasCornersOf c.args.boundary.now) c.in_ok-both.both.items c.in-Some-better_halves.two
    c.in_ok-both.ensures.items (c.in-Some-better_halves.ensures c.args.boundary.now c.in-Some-quadrangle_of.ensures)
