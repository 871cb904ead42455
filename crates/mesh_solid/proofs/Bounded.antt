-- A ray leaves an outlined face: not all its edge planes fall along the ray.
use Rattle.std.proofs.Common.{◌≡◌, sym, subst, ◌∙◌, arith, T, List, [], ◌∷◌, ℤ, pos, ◌-ℤ◌, ◌*ℤ◌, ◌<ℤ◌}
use Rattle.std.specs.List.{AllByRecursion}
use lib.IntN.{*ℤ_comm}
use Rattle.ember_algebra.specs.Vector.{Vector, dot}
use Rattle.ember_algebra.specs.declared.Sign.{Sign}
use Rattle.ember_algebra.specs.Sign.{is_neg}
use Rattle.ember_algebra.proofs.Laws.{linear}
use Rattle.ember_algebra.proofs.Order.{cross_trans}
use Rattle.ember_algebra.proofs.Signs.{neg_from_sgn, sgn_neg}
use Rattle.ember_model.specs.declared.point.Spot.{Spot}
use Rattle.ember_model.specs.declared.face.Face.{Face}
use Rattle.ember_model.specs.Edges.{RingEdge, IsEdge, IsEdgeChain, IsOutline, normal}
use Rattle.ember_model.specs.Planes.{value_at}
use Rattle.ember_meaning.proofs.EdgeForm.{start_on, end_on}
use Rattle.mesh_solid.proofs.EdgeCount.{far, step_is}
use Rattle.mesh_solid.proofs.Seen.{height}

module _ (f : Face) (e : Vector) (x : Spot) (wx : pos 0 <ℤ x.w) (flat : value_at f.support x ≡ pos 0) (level : dot (normal f.support) e ≡ pos 0) where
  abbrev high : Spot → ℤ
  high u = height f.support e x u

  abbrev Falls : RingEdge → Type 0
  Falls k = value_at k.plane (far e) <ℤ pos 0

  -- where the edge's plane falls, its end is lower than its start
  edge_falls : (k : RingEdge) (end : Spot) → IsEdge f k end → Falls k → (high end *ℤ k.start.w) <ℤ (high k.start *ℤ end.w)
  edge_falls k end edge l =
      let s = step_is f k end edge e x wx flat level ∙ sgn_neg l in
      let m = neg_from_sgn (k.start.w *ℤ high end -ℤ end.w *ℤ high k.start) (subst (λ (t : Sign). T (is_neg t)) (sym s) tt) in
      let a = *ℤ_comm k.start.w (high end) in let b = *ℤ_comm end.w (high k.start) in
      omega (arith, linear, m, a, b)

  chain_falls : (end : Spot) → pos 0 <ℤ end.w → (k : RingEdge) (es : List RingEdge) → IsEdgeChain f end (k ∷ es) →
      AllByRecursion Falls (k ∷ es) → (high end *ℤ k.start.w) <ℤ (high k.start *ℤ end.w)
  chain_falls end we k [] c b = edge_falls k end c b.0
  chain_falls end we k (d ∷ es) c b =
      let wd = (end_on f k d.start c.0).closed.weight in let wk = (start_on f k d.start c.0).closed.weight in
      cross_trans (high end) (high d.start) (high k.start) we wd wk (chain_falls end we d es c.1 b.1) (edge_falls k d.start c.0 b.0)

  -- round an outline the heights can't only fall
  pub some_edge_climbs : (es : List RingEdge) → IsOutline f es → AllByRecursion Falls es → ⊥
  some_edge_climbs es o b =
      let c = subst (λ (es : List RingEdge). IsEdgeChain f o.first.start es) o.begins o.round in
      let d = subst (λ (es : List RingEdge). AllByRecursion Falls es) o.begins b in
      let w = first_weight o.first o.rest c in
      let l = chain_falls o.first.start w o.first o.rest c d in
      absurd (omega (arith, linear, l))
    where
      first_weight : (k : RingEdge) (rest : List RingEdge) → IsEdgeChain f k.start (k ∷ rest) → pos 0 <ℤ k.start.w
      first_weight k [] c = (start_on f k k.start c).closed.weight
      first_weight k (d ∷ rest) c = (start_on f k d.start c.0).closed.weight
