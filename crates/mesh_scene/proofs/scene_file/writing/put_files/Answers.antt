use Rattle.std.proofs.Common.{◌++◌, ◌∙◌, ◌<◌, ap, List, ℕ, length, arith}
use Rattle.std.proofs.lemmas.List.{get_or_default}
use Rattle.mesh_scene.proofs.FileLines.{file_appended, all_appended}
use Rattle.mesh_scene.proofs.scene_file.writing.put_files.Goals as goal

pub loop-index-preserved : goal.loop-index-preserved
loop-index-preserved c =
    let before = c.loop-index.text.items in
    let between = c.in_ok-extend_from_slice.ensures.items ∙ ap (λ (x : List ℕ). before ++ x) c.separator.ensures in
    let there : c.loop-index.index < length c.args.counts.now = omega (arith, c.requires.counts, c.loop-index-test.true) in
    let count = get_or_default c.args.counts.now c.loop-index.index _ _ there in
    file_appended _ _ _ c.loop-index.index _ _ _ _ _ _ _ c.loop-index-test.true c.requires.counts c.requires.moves
    c.index-names-index.is count c.index-moves-index.is c.loop-index.invariant between c.in_ok-put_file.ensures

pub returns : goal.returns
returns c = all_appended _ _ _ c.loop-index.index _ _ c.loop-index-test.false c.loop-index.invariant
