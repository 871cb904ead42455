use Rattle.std.proofs.Common.{◌≡◌, ap, ◌∙◌, arith, [], ◌∷◌, All, length}
use Rattle.ember_model.specs.declared.plane.Plane.{Plane}
use Rattle.ember_model.specs.Limits.{broad_limit}
use Rattle.ember_model.specs.Planes.{support_of}
use Rattle.ember_width.specs.Broad.{IsBroadPlane}
use Rattle.ember_width.specs.Laws.{broad_planes}
use Rattle.ember_width.proofs.TakenPlanes.{tri_support_taken, edges_taken}
use Rattle.ember_width.specs.Heights.{heights_of}
use Rattle.ember_alone.proofs.Codes.{opposite_is, values_at_index}
use Rattle.ember_alone.proofs.touching.heights_over.Goals as goal

pub heights_of-above-requires-clause-plane : goal.heights_of-above-requires-clause-plane
heights_of-above-requires-clause-plane c = tri_support_taken broad_planes c.requires.support c.requires.one

-- the three edge planes are planes of the broad grid
pub heights_of-requires-clause-plane : goal.heights_of-requires-clause-plane
heights_of-requires-clause-plane c =
    edges_taken broad_planes c.main_edges.result (c.main_edges.ensures.within broad_limit c.requires.one) 0 _
    (omega (arith, ap length c.main_edges.ensures.value))

pub heights_of-requires-2-clause-plane : goal.heights_of-requires-2-clause-plane
heights_of-requires-2-clause-plane c =
    edges_taken broad_planes c.main_edges.result (c.main_edges.ensures.within broad_limit c.requires.one) 1 _
    (omega (arith, ap length c.main_edges.ensures.value))

pub heights_of-requires-3-clause-plane : goal.heights_of-requires-3-clause-plane
heights_of-requires-3-clause-plane c =
    edges_taken broad_planes c.main_edges.result (c.main_edges.ensures.within broad_limit c.requires.one) 2 _
    (omega (arith, ap length c.main_edges.ensures.value))

pub returns : goal.returns
returns c =
    let u = c.args.u.now in let n = support_of c.args.t.now in let e = c.main_edges.ensures.value in let o = c.opposite.ensures in
    let above : c.heights_of-above.result ≡ heights_of n u = c.heights_of-above.ensures.value ∙ ap (λ (p : Plane). heights_of p u) c.requires.support in
    let below = opposite_is n u c.heights_of-above.result c.opposite.result above o.a o.b o.c in
    let x = values_at_index _ _ 0 _ u _ c.heights_of.ensures.value e in
    let y = values_at_index _ _ 1 _ u _ c.heights_of-2.ensures.value e in
    let z = values_at_index _ _ 2 _ u _ c.heights_of-3.ensures.value e in
    λ i. above i ∷ below i ∷ x i ∷ y i ∷ z i ∷ []
