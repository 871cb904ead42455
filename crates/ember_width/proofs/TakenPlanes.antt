-- The planes of triangles are planes of the grid.
use Rattle.std.proofs.Common.{◌≡◌, ℕ, ◌+◌, ◌≤◌, List, All, ℤ, sym, subst, arith}
use Rattle.ember_algebra.specs.Size.{Small}
use Rattle.ember_algebra.proofs.Size.{small_within}
use Rattle.ember_model.specs.declared.plane.Plane.{Plane}
use Rattle.ember_model.specs.declared.tri.Tri.{Tri}
use Rattle.ember_model.specs.Limits.{broad_limit}
use Rattle.ember_model.specs.Planes.{support_of}
use Rattle.ember_model.specs.Within.{IsTriWithin, IsSupportWithin, IsEdgeWithin, IsPlaneWithin}
use Rattle.ember_model.proofs.PlaneSizes.{support_within, tri_within}
use Rattle.ember_width.specs.Broad.{most_floor}
use Rattle.ember_width.proofs.Slides.{edge_within_planes, support_within_planes}

-- of triangles within m, where each plane within m is one of the grid
module _ {IsPlane : Plane → Type 0} {m : ℕ} (takes : (p : Plane) → IsPlaneWithin m p → IsPlane p) where
  -- a support plane
  pub support_taken : {p : Plane} → IsSupportWithin m p → IsPlane p
  support_taken {p} s = takes p (support_within_planes m p s)

  -- an edge plane
  pub edge_taken : {p : Plane} → IsEdgeWithin m p → IsPlane p
  edge_taken {p} s = takes p (edge_within_planes m p s)

  -- edge planes
  pub edges_taken : (es : List Plane) → All (IsEdgeWithin m) es → All IsPlane es
  edges_taken es h = λ k d l. takes _ (edge_within_planes m _ (h k d l))

  -- the support plane of a triangle
  pub tri_support_taken : {t : Tri} {n : Plane} → n ≡ support_of t → IsTriWithin m t → IsPlane n
  tri_support_taken {t} e v = subst (λ p. IsPlane p) (sym e) (support_taken (support_within m t v))

-- a triangle of any grid lies in the root
pub tri_in_root : {m : ℕ} {t : Tri} → m ≤ broad_limit → IsTriWithin m t → IsTriWithin most_floor t
tri_in_root l s = tri_within (omega (arith, l)) s

-- a coordinate that the root of any grid reaches to
pub coordinate_in_root : {m : ℕ} {z : ℤ} → m ≤ broad_limit → Small (m + 1) z → Small most_floor z
coordinate_in_root l s = small_within (omega (arith, l)) s
