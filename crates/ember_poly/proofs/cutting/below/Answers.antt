use Rattle.ember_poly.proofs.ClipResult.{clip_cut}
use Rattle.ember_poly.proofs.cutting.below.Goals as goal

pub returns : goal.returns
returns g c =
    clip_cut c.args.r c.args.p.now c.in_ok-low.field-0-0 c.in_ok-low.low c.in_ok-low.ensures c.requires.cuts
