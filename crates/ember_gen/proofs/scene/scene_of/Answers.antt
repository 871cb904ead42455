use Rattle.std.proofs.Common.{◌++◌, ◌∙◌, ap, sym, subst, List}
use Rattle.ember_model.specs.declared.tri.Tri.{Tri}
use Rattle.ember_model.specs.Meshes.{IsScene}
use Rattle.ember_gen.proofs.Scenes.{is_scene, scene_at}
use Rattle.ember_gen.proofs.scene.scene_of.Goals as goal

pub of-requires-2 : goal.of-requires-2
of-requires-2 c =
    let joined = c.in_ok-extend_from_slice.ensures.items ∙ ap (λ (ts : List Tri). c.in_ok-first.field-0.first.items ++ ts) c.as_slice.ensures.value in
    subst (λ (ts : List Tri). IsScene ts 2) (sym
    (c.of.ensures ∙ scene_at c.args.n c.in_ok-first.ensures.first c.in_ok-first.ensures.second joined))
    (is_scene c.args.n c.requires)

pub returns-clause-tris : goal.returns-clause-tris
returns-clause-tris c =
    let joined = c.in_ok-extend_from_slice.ensures.items ∙ ap (λ (ts : List Tri). c.in_ok-first.field-0.first.items ++ ts) c.as_slice.ensures.value in
    c.of-2.ensures.tris ∙ c.of.ensures ∙ scene_at c.args.n c.in_ok-first.ensures.first c.in_ok-first.ensures.second joined
