-- What the tests of a segment's two corners say of the segment
use Rattle.std.proofs.Common.{◌≡◌, Option, Some, None, List, slice_get, refl, sym, subst, ◌∙◌}
use Rattle.std.specs.Option.{IfSome}
use Rattle.mesh_certificate.specs.declared.key.lines.LineKey.{LineKey}
use Rattle.mesh_certificate.specs.declared.certificate.segment.Segment.{Segment}
use Rattle.mesh_point.specs.declared.space_point.SpacePoint.{SpacePoint}
use Rattle.mesh_certificate.specs.Certificate.OnLines.{IsCornerOnLine, IsOnItsLine}

-- what holds of the value, if there is one
of_value : {X : Type 0} (P : X → Type 0) {m : Option X} (x : X) → m ≡ Some x → IfSome m P → P x
of_value {X} P x e h = subst (λ (m : Option X). IfSome m P) e h

of_each : {X : Type 0} (P : X → Type 0) (m : Option X) → ((x : X) → m ≡ Some x → P x) → IfSome m P
of_each P (Some x) h = h x refl
of_each P None h = tt

-- if both are found, the corner lies on the line
abbrev pub AreFound : Option LineKey → Option SpacePoint → Type 0
AreFound l c = IfSome l (λ k. IfSome c (λ d. IsCornerOnLine k d))

found_in : {l : Option LineKey} {c : Option SpacePoint} (k : LineKey) (d : SpacePoint) → l ≡ Some k → c ≡ Some d → AreFound l c → IsCornerOnLine k d
found_in {l} {c} k d p q h =
    of_value (λ d. IsCornerOnLine k d) d q (of_value (λ k. IfSome c (λ d. IsCornerOnLine k d)) k p h)

found_out : (l : Option LineKey) (c : Option SpacePoint) → ((k : LineKey) (d : SpacePoint) → l ≡ Some k → c ≡ Some d → IsCornerOnLine k d) → AreFound l c
found_out l c h =
    of_each (λ k. IfSome c (λ d. IsCornerOnLine k d)) l (λ k p. of_each (λ d. IsCornerOnLine k d) c (λ d q. h k d p q))

module _ (ls : List LineKey) (cs : List SpacePoint) (s : Segment) (l : Option LineKey) (u v : Option SpacePoint)
    (el : l ≡ slice_get ls s.line) (eu : u ≡ slice_get cs s.start) (ev : v ≡ slice_get cs s.end) where
  -- a segment both of whose corners pass the test is on its line
  pub on_its_line : AreFound l u → AreFound l v → IsOnItsLine ls cs s
  on_its_line h i =
      record { start = λ k c p q. found_in k c (el ∙ p) (eu ∙ q) h; end = λ k c p q. found_in k c (el ∙ p) (ev ∙ q) i }

  -- and the other way round
  pub start_found : IsOnItsLine ls cs s → AreFound l u
  start_found on = found_out l u (λ k c p q. on.start k c (sym el ∙ p) (sym eu ∙ q))

  pub end_found : IsOnItsLine ls cs s → AreFound l v
  end_found on = found_out l v (λ k c p q. on.end k c (sym el ∙ p) (sym ev ∙ q))
