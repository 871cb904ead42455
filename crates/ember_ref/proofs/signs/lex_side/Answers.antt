use Rattle.std.proofs.Common.{◌^◌, lit<, lit≤}
use Rattle.ember_model.specs.Limits.{valid_normal_limit}
use Rattle.ember_width.specs.Laws.{narrow_is_broad}
use Rattle.ember_ref.proofs.ReferenceLegs.{corner_within}
use Rattle.ember_ref.proofs.signs.lex_side.Goals as goal

pub side_beside-requires-clause-plane : goal.side_beside-requires-clause-plane
side_beside-requires-clause-plane c = narrow_is_broad c.args.p.now c.requires.plane

pub side_beside-requires-clause-corner : goal.side_beside-requires-clause-corner
side_beside-requires-clause-corner c = corner_within (lit≤ tt) c.requires.corner

pub returns-clause-value : goal.returns-clause-value
returns-clause-value c =
    let p = c.requires.plane in
    c.side_beside.ensures.value valid_normal_limit (2 ^ 27) (record { a = p.a; b = p.b; c = p.c }) (lit< tt)
