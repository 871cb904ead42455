use Rattle.std.proofs.Common.{length, map, sym, ap, subst, ◌∙◌, arith}
use Rattle.std.proofs.lemmas.List.{take_all}
use Rattle.ember_model.specs.Limits.{broad_limit, most_meshes}
use Rattle.ember_width.specs.Scenes.{IsSceneWithin}
use Rattle.mesh_solid_tests.specs.Stretched.{stretched_tri}
use Rattle.mesh_solid_tests.proofs.StretchedScenes.{stretched_is_scene}
use Rattle.mesh_solid_tests.proofs.triangles.broad.stretched_scene.Goals as goal

pub returns : goal.returns
returns c =
    let scene = c.args.scene.now in
    let whole = take_all c.loop-t.t-index scene.tris (omega (arith, c.loop-t-test.false, ap length c.items-t-items.ensures)) in
    subst (λ ts. IsSceneWithin broad_limit ts most_meshes) (sym (c.loop-t.invariant ∙ ap (map stretched_tri) whole))
    (stretched_is_scene scene.tris scene.meshes scene.kept)
