-- Spans of whole numbers, boxes, and the boxes around triangles
use Rattle.std.specs.Prelude.{◌≡◌, ◌↔◌, ℤ, ◌*ℤ◌, ◌≤ℤ◌}
use Rattle.ember_algebra.specs.Size.{Small}
use Rattle.ember_model.specs.declared.point.Axis.{Axis}
use Rattle.ember_model.specs.declared.point.Axis.TheVariants.{X, Y, Z}
use Rattle.ember_model.specs.declared.tri.Tri.{Tri}
use Rattle.mesh_sources.specs.declared.spans.Span.{Span}
use Rattle.mesh_sources.specs.declared.spans.SpaceBox.{SpaceBox}
use Rattle.mesh_sources.specs.Places.{Spots, SomeSpot, EachSpot, coordinate, spots_in_order}

-- ---- spans
pub record HaveCommon (s t : Span) : Type 0 where
  pub one : s.low ≤ℤ t.high
  pub other : t.low ≤ℤ s.high

-- s is part of t
pub record IsSpanWithin (s t : Span) : Type 0 where
  pub low : t.low ≤ℤ s.low
  pub high : s.high ≤ℤ t.high

-- ---- boxes
abbrev pub span_along : Axis → SpaceBox → Span
span_along X b = b.x
span_along Y b = b.y
span_along Z b = b.z

abbrev pub EachAxis : (Axis → Type 0) → Type 0
EachAxis P = P X × P Y × P Z

abbrev pub HaveCommonBox : SpaceBox → SpaceBox → Type 0
HaveCommonBox b c = EachAxis (λ k. HaveCommon (span_along k b) (span_along k c))

abbrev pub IsBoxWithin : SpaceBox → SpaceBox → Type 0
IsBoxWithin b c = EachAxis (λ k. IsSpanWithin (span_along k b) (span_along k c))

-- ---- the box around a triangle of the scene
-- along the axis the span has the three points, and one of them is its start, one its end
pub record IsSpanAround (k : Axis) (s : Span) (r : Spots) : Type 0 where
  pub from : EachSpot (λ v. s.low ≤ℤ coordinate k v) r
  pub to : EachSpot (λ v. coordinate k v ≤ℤ s.high) r
  pub start : SomeSpot (λ v. s.low ≡ coordinate k v) r
  pub end : SomeSpot (λ v. s.high ≡ coordinate k v) r

abbrev pub IsBoxAround : SpaceBox → Tri → Type 0
IsBoxAround b t = EachAxis (λ k. IsSpanAround k (span_along k b) (spots_in_order t))

-- ---- the box around three rational points
-- a whole number of at most 2047 in size is at most the end exactly if it is at most some of the points, and at least
-- the start exactly if it is at least some of them
pub record IsSpanOver (k : Axis) (s : Span) (r : Spots) : Type 0 where
  pub to : (z : ℤ) → Small 2047 z → (z ≤ℤ s.high) ↔ SomeSpot (λ v. (v.w *ℤ z) ≤ℤ coordinate k v) r
  pub from : (z : ℤ) → Small 2047 z → (s.low ≤ℤ z) ↔ SomeSpot (λ v. coordinate k v ≤ℤ (v.w *ℤ z)) r

abbrev pub IsBoxOver : SpaceBox → Spots → Type 0
IsBoxOver b r = EachAxis (λ k. IsSpanOver k (span_along k b) r)
