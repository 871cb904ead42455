use Rattle.std.proofs.Common.{◌≡◌, ap, sym, subst, ◌∙◌, ℤ, ◌*ℤ◌, lit≤}
use mir.Syntax.{w64}
use Rattle.ember_algebra.proofs.Exact.{input, stored, ◌&◌, done, exact}
use Rattle.ember_algebra.specs.Vector.{Vector, cross, scale_v}
use Rattle.ember_algebra.proofs.Ring.{◌⊕◌, ◌⊗◌, ◌≈◌, solve, cancels}
use Rattle.ember_model.specs.declared.point.Corner.{Corner}
use Rattle.ember_model.specs.declared.plane.Plane.{Plane}
use Rattle.ember_model.specs.Limits.{broad_limit}
use Rattle.ember_model.specs.Within.{IsEdgeWithin}
use Rattle.ember_model.specs.Planes.{plane_through, times_plane, edge_through, unit}
use Rattle.ember_model.specs.Vectors3.{as_vector}
use Rattle.ember_model.proofs.PlaneSizes.{edge_within, vector_within}
use Rattle.ember_model.proofs.triangle_planes.side_plane.Goals as goal

-- a multiple of a normal gives the multiple of its plane
through_scaled : (s : ℤ) (n : Vector) (u : Corner) → plane_through (scale_v s n) u ≡ times_plane s (plane_through n u)
through_scaled s n u =
    let d = solve 7 (λ s a b c x y z. (s ⊗ a) ⊗ x ⊕ (s ⊗ b) ⊗ y ⊕ (s ⊗ c) ⊗ z ≈ s ⊗ (a ⊗ x ⊕ b ⊗ y ⊕ c ⊗ z)) cancels s n.x n.y n.z u.x u.y u.z in
    λ i. record { a = s *ℤ n.x; b = s *ℤ n.y; c = s *ℤ n.z; d = d i }

is_side : (c : goal.After-plane_with) → c.plane_with.result ≡ times_plane c.args.s (edge_through c.args.u.now c.args.v.now (unit c.args.k))
is_side c =
    let u = c.args.u.now in let s = c.args.s in let k = c.args.k in
    let kept = exact (c.requires.s & done) (stored w64 (input 0)) tt in
    c.plane_with.ensures ∙ ap (λ (n : Vector). plane_through n u)
    (c.edge_normal.ensures.value ∙ (λ i. scale_v (kept i) (cross (as_vector c.vector_between-step.result) (unit k)))
    ∙ ap (λ (w : Vector). scale_v s (cross w (unit k))) c.vector_between-step.ensures.value) ∙ through_scaled s _ u

pub returns-clause-value : goal.returns-clause-value
returns-clause-value c = is_side c

pub returns-clause-within : goal.returns-clause-within
returns-clause-within c m p q =
    subst (λ (p : Plane). IsEdgeWithin m p) (sym (is_side c)) (edge_within m c.args.u.now c.args.v.now c.args.k c.args.s p q c.requires.s)

pub edge_normal-requires-clause-step : goal.edge_normal-requires-clause-step
edge_normal-requires-clause-step c = c.vector_between-step.ensures.within broad_limit c.requires.from c.requires.to

pub plane_with-requires-clause-normal : goal.plane_with-requires-clause-normal
plane_with-requires-clause-normal c = vector_within (lit≤ tt) c.edge_normal.ensures.small
