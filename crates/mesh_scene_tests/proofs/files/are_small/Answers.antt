use Rattle.std.proofs.Common.{List, subst}
use Rattle.std.specs.List.{All}
use Rattle.std.proofs.lemmas.List.{take_all}
use Rattle.mesh_boolean.specs.declared.files.InputFile.{InputFile}
use Rattle.mesh_boolean.specs.Files.{IsSmall}
use Rattle.mesh_scene_tests.proofs.Checked.{All-next}
use Rattle.mesh_scene_tests.proofs.files.are_small.Goals as goal

pub loop-file-preserved : goal.loop-file-preserved
loop-file-preserved c =
    All-next IsSmall c.args.files.now c.loop-file.file-index _ c.loop-file-test.true c.loop-file.invariant (c.is_small.ensures c.if-not-is_small.false)

pub returns : goal.returns
returns c =
    λ t. subst (λ (fs : List InputFile). All IsSmall fs) (take_all c.loop-file.file-index c.args.files.now c.loop-file-test.false) c.loop-file.invariant
