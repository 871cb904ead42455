use Rattle.std.proofs.Common.{◌≡◌, ◌∙◌, ℕ, List, length, map, true, ap, refl, subst, sym}
use Rattle.std.specs.List.{list_all}
use Rattle.mesh_point.specs.declared.space_point.SpacePoint.{SpacePoint}
use Rattle.mesh_write.specs.declared.stl.triangle.FloatPoint.{FloatPoint}
use Rattle.mesh_written.specs.Floats.{AreFloatPoints}
use Rattle.mesh_written.specs.Triangles.{has_corners, kept, triangle_at}
use Rattle.mesh_boolean.specs.Effects.{IsFloatEffect}
use Rattle.mesh_boolean.proofs.Outputs.{corners_are_there}
use Rattle.mesh_boolean.proofs.rounding.rounded_with_effect.Goals as goal

pub triangles_over-requires : goal.triangles_over-requires
triangles_over-requires c =
    let corners = c.args.mesh.now.corners.items in
    let among_corners = corners_are_there c.args.mesh.now.planes.items {cs = corners} refl c.deref-5.ensures.value c.requires.proper in
    let count : length c.deref-4.result.now ≡ length corners =
    ap (λ (ps : List FloatPoint). length ps) c.deref-4.ensures.value ∙ c.in_ok-points.ensures.points.count
    ∙ ap (λ (cs : List SpacePoint). length cs) c.deref.ensures.value in
    subst (λ (n : ℕ). list_all (has_corners n) c.deref-5.result.now ≡ true) (sym count) among_corners

pub returns-clause-rounded : goal.returns-clause-rounded
returns-clause-rounded c =
    let grid = c.args.grid.now in
    let mesh = c.args.mesh.now in
    let points = c.in_ok-points.points.items in
    record {
      rounded = record {
        points = points;
        rounded = subst (λ (cs : List SpacePoint). AreFloatPoints grid.step grid.offset cs points) c.deref.ensures.value c.in_ok-points.ensures.points;
        written = c.in_ok-triangles.ensures ∙ (λ i. kept
            (map (triangle_at (c.deref-3.ensures.value i) (c.deref-4.ensures.value i)) (c.deref-5.ensures.value i)));
      };
      is_effect = subst (λ (ps : List FloatPoint). IsFloatEffect grid mesh ps c.in_ok-effect.effect) c.deref-2.ensures.value c.in_ok-effect.ensures.effect;
    }
