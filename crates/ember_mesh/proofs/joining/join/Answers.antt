use Rattle.std.proofs.Common.{◌≡◌, ◌≤◌, ◌∙◌, length, ap, arith}
use Rattle.ember_mesh.specs.Joined.{triangles_of}
use Rattle.ember_mesh.proofs.Scenes.{scene_at}
use Rattle.ember_mesh.proofs.joining.join.Goals as goal

pub of-requires-2 : goal.of-requires-2
of-requires-2 c =
    let counted = c.deref.ensures.value ∙ c.into_vec-parts.ensures in
    let joined = c.deref-2.ensures.value ∙ c.into_vec-parts.ensures in
    let few : length (triangles_of c.args.parts) ≤ 262144 =
    omega (
      arith,
      c.if-count-gt-MOST_TRIANGLES.false,
      c.count_triangles-count.ensures,
      ap (λ ps. length (triangles_of ps)) counted,
    ) in
    let meshes : c.len.result ≡ length c.args.parts = omega (arith, c.len.ensures, c.deref-2.ensures.len, ap length joined) in
    scene_at c.args.parts (c.of.ensures ∙ c.in_ok-tris.ensures ∙ ap triangles_of joined) meshes c.requires.few few c.requires.numbered
