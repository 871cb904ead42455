use Rattle.ember_poly.proofs.Classification.{next_first, known_low, corner_is_classified, straddles_by, entry_short, entry_long}
use Rattle.ember_poly.proofs.passage.classify.Goals as goal

pub count_not_below-rising-requires-clause-first : goal.count_not_below-rising-requires-clause-first
count_not_below-rising-requires-clause-first g c =
    next_first g.W.Width.spot c.args.plane.now c.count_below-leading.result.1 c.args.corners.now c.count_below-leading.result.0
    c.count_below-leading.ensures.next

pub count_below-falling-requires-clause-known : goal.count_below-falling-requires-clause-known
count_below-falling-requires-clause-known g c =
    let up = c.count_not_below-rising in
    known_low g.W.Width.spot c.args.plane.now c.args.corners.now c.count_below-leading.result.0 up.result.0 up.result.1 up.ensures

pub returns-then-turn-falling-clause-signs : goal.returns-then-turn-falling-clause-signs
returns-then-turn-falling-clause-signs g c =
    let p = c.args.plane.now in let ms = c.args.corners.now in let up = c.count_not_below-rising in let high = c.is_some_above-high in
    c.reach_by-reach.ensures p ms (corner_is_classified g.W.Width.spot p ms c.count_below-leading.result.0 up.result.0
    c.count_below-falling.result.0 up.result.1 high.result c.count_below-leading.ensures.run up.ensures
    c.count_below-falling.ensures.run high.ensures.some high.ensures.none)

pub returns-else-turn-falling-clause-signs : goal.returns-else-turn-falling-clause-signs
returns-else-turn-falling-clause-signs g c =
    let p = c.args.plane.now in let ms = c.args.corners.now in let up = c.count_not_below-rising in let high = c.is_some_above-high in
    c.reach_by-reach.ensures p ms (corner_is_classified g.W.Width.spot p ms c.count_below-leading.result.0 up.result.0
    c.count_below-falling.result.0 up.result.1 high.result c.count_below-leading.ensures.run up.ensures
    c.count_below-falling.ensures.run high.ensures.some high.ensures.none)

pub returns-then-turn-falling-clause-entry : goal.returns-then-turn-falling-clause-entry
returns-then-turn-falling-clause-entry g c =
    let p = c.args.plane.now in let ms = c.args.corners.now in let up = c.count_not_below-rising in let high = c.is_some_above-high in
    λ e. entry_short g.W.Width.spot p ms c.count_below-leading.result.0 up.result.0 c.count_below-falling.result.0 up.result.1
    high.result c.count_below-leading.ensures.run up.ensures c.count_below-falling.ensures.run high.ensures.some
    high.ensures.none (straddles_by g.W.Width.spot p ms c.reach_by-reach.result
    (c.reach_by-reach.ensures p ms (corner_is_classified g.W.Width.spot p ms c.count_below-leading.result.0 up.result.0
    c.count_below-falling.result.0 up.result.1 high.result c.count_below-leading.ensures.run up.ensures
    c.count_below-falling.ensures.run high.ensures.some high.ensures.none)) e) c.saturating_sub-entry_edge.result
    c.saturating_sub-entry_edge.ensures c.if-turn-falling.true

pub returns-else-turn-falling-clause-entry : goal.returns-else-turn-falling-clause-entry
returns-else-turn-falling-clause-entry g c =
    let p = c.args.plane.now in let ms = c.args.corners.now in let up = c.count_not_below-rising in let high = c.is_some_above-high in
    λ e. entry_long g.W.Width.spot p ms c.count_below-leading.result.0 up.result.0 c.count_below-falling.result.0 up.result.1
    high.result c.count_below-leading.ensures.run up.ensures c.count_below-falling.ensures.run high.ensures.some
    high.ensures.none (straddles_by g.W.Width.spot p ms c.reach_by-reach.result
    (c.reach_by-reach.ensures p ms (corner_is_classified g.W.Width.spot p ms c.count_below-leading.result.0 up.result.0
    c.count_below-falling.result.0 up.result.1 high.result c.count_below-leading.ensures.run up.ensures
    c.count_below-falling.ensures.run high.ensures.some high.ensures.none)) e) c.saturating_sub-entry_edge.result
    c.saturating_sub-entry_edge.ensures c.if-turn-falling.false
