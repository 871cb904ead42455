use Rattle.std.proofs.Common.{not}
use Rattle.ember_gen.specs.Scene.{is_even}
use Rattle.ember_gen.proofs.Scenes.{laid_more}
use Rattle.ember_gen.proofs.scene.meshes_of.Goals as goal

pub loop-i-preserved : goal.loop-i-preserved
loop-i-preserved c =
    let drawn = c.next_block-block.ensures.block c.loop-i.i c.loop-i.invariant.0 in (
      c.next_block-block.ensures.next c.loop-i.i c.loop-i.invariant.0,
      laid_more 1 is_even c.loop-i.i _ c.loop-i.invariant.1 drawn c.in_ok-push.ensures.first,
      laid_more 2 (λ i. not (is_even i)) c.loop-i.i _ c.loop-i.invariant.2 drawn c.in_ok-push.ensures.second,
    )
