use Rattle.ember_verdict.proofs.SceneFiles.{joined_if, no_scene_if}
use Rattle.ember_verdict.proofs.scene.read_scene.Goals as goal

pub returns-clause-read : goal.returns-clause-read
returns-clause-read g c = joined_if _ _ _ _ _ c.in_ok-parts.ensures.parts c.join_parts.ensures.scene

pub returns-clause-no_reply : goal.returns-clause-no_reply
returns-clause-no_reply g c =
    let e = c.join_parts.ensures in no_scene_if _ _ _ _ _ c.in_ok-parts.ensures.parts e.refused e.kind e.no_read_fault e.never
