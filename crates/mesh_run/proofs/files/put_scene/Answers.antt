use Rattle.std.proofs.Common.{List, [], ◌∷◌, ◌++◌, length, append_assoc, refl, ap, subst, ◌∙◌}
use Rattle.ember_model.specs.declared.tri.Tri.{Tri}
use Rattle.mesh_grid.specs.declared.moves.length.Length.{Length}
use Rattle.mesh_scene.specs.declared.scene.counts.Counts.{Counts}
use Rattle.mesh_scene.specs.SceneFile.Texts.{IsSceneText}
use Rattle.mesh_outside.specs.Target.Several.{NamedBytes, names_and_bytes}
use Rattle.mesh_words.specs.Folders.{scene_name}
use Rattle.mesh_run.specs.Writes.{mesh_files}
use Rattle.mesh_number.proofs.Appended.{on_ok_both}
use Rattle.mesh_run.proofs.files.put_scene.Goals as goal

pub returns : goal.returns
returns c =
    let folder = c.args.folder.now in let names = c.args.names.now in let placed = c.args.placed.now in
    let before = names_and_bytes c.args.files.now.items in
    let text = c.in_ok-text.text.items in
    let meshes = mesh_files folder placed.scene.tris (length names) in
    let scene : List NamedBytes = (scene_name folder, text) ∷ [] in
    let listed = c.in_ok-put_meshes.ensures ∙ ap (λ (ts : List Tri). before ++ mesh_files folder ts (length names)) c.items.ensures in
    let moved = subst (λ (moves : List Length). IsSceneText placed.grid names c.deref.result.now moves text) c.deref-2.ensures.value c.in_ok-text.ensures in
    let counted = subst (λ (counts : List Counts). IsSceneText placed.grid names counts placed.moves.items text) c.deref.ensures.value moved in
    on_ok_both c.put_grid.result
    (λ put again. record {
      made = meshes ++ scene;
      are = record { text = text; is_text = counted; all = refl };
      all = put ∙ (ap (λ (xs : List NamedBytes). xs ++ scene) listed ∙ append_assoc before meshes scene);
    })
    c.put_grid.ensures c.put_grid.ensures
