use Rattle.std.proofs.Common.{List, map, sym, subst, ◌∙◌}
use Rattle.std.proofs.lemmas.Bool.{false≢true}
use Rattle.ember_point.specs.Points.{spot_of}
use Rattle.ember_poly.specs.Rings.{IsSideChain}
use Rattle.ember_reread.specs.declared.cornered_face.CorneredEdge.{CorneredEdge}
use Rattle.mesh_solid.specs.Outline.Sides.{side_at}
use Rattle.mesh_solid.proofs.Signs.{starts_found, starts_tested, lies_found, lies_tested}
use Rattle.mesh_solid.proofs.outline.round.is_chain.Goals as goal

pub returns-then-not-is_corner : goal.returns-then-not-is_corner
returns-then-not-is_corner c =
    let n = c.args.support.now in
    let before = c.loop-edge.before in
    let along : List CorneredEdge → Type 0 = λ es. IsSideChain n before.plane (map side_at es) in (
      λ e. absurd (false≢true e),
      λ h. absurd (false≢true
          (sym c.if-not-is_corner.true ∙ c.is_corner.ensures.1
          (subst along c.in-Some.ensures.cases.0 (c.loop-edge.invariant.0 h)).0)),
    )

pub returns-then-not-start_behind : goal.returns-then-not-start_behind
returns-then-not-start_behind c =
    let n = c.args.support.now in
    let before = c.loop-edge.before in
    let along : List CorneredEdge → Type 0 = λ es. IsSideChain n before.plane (map side_at es) in (
      λ e. absurd (false≢true e),
      λ h. absurd (false≢true
          (sym c.if-not-start_behind.true ∙ c.start_behind.ensures
          ∙ starts_tested before.plane c.in-Some.behind.now
          (subst along c.in-Some.ensures.cases.0 (c.loop-edge.invariant.0 h)).1)),
    )

pub returns-then-not-lies_behind : goal.returns-then-not-lies_behind
returns-then-not-lies_behind c =
    let n = c.args.support.now in
    let before = c.loop-edge.before in
    let along : List CorneredEdge → Type 0 = λ es. IsSideChain n before.plane (map side_at es) in (
      λ e. absurd (false≢true e),
      λ h. absurd (false≢true
          (sym c.if-not-lies_behind.true ∙ c.lies_behind.ensures
          ∙ lies_tested (spot_of c.in-Some.edge.now.start) c.in-Some.behind.now
          (subst along c.in-Some.ensures.cases.0 (c.loop-edge.invariant.0 h)).2)),
    )

pub loop-edge-preserved : goal.loop-edge-preserved
loop-edge-preserved c =
    let n = c.args.support.now in
    let before = c.loop-edge.before in
    let edge = c.in-Some.edge.now in
    let behind = c.in-Some.behind.now in
    let along : List CorneredEdge → Type 0 = λ es. IsSideChain n before.plane (map side_at es) in
    let corner = c.is_corner.ensures.0 c.if-not-is_corner.false in
    let starts = starts_found before.plane behind (sym c.start_behind.ensures ∙ c.if-not-start_behind.false) in
    let lies = lies_found (spot_of edge.start) behind (sym c.lies_behind.ensures ∙ c.if-not-lies_behind.false) in (
      λ h. (subst along c.in-Some.ensures.cases.0 (c.loop-edge.invariant.0 h)).3,
      λ h. c.loop-edge.invariant.1 (subst along (sym c.in-Some.ensures.cases.0) (corner, starts, lies, h)),
    )
