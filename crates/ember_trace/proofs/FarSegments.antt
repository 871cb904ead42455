-- The last segment of a path doesn't cross the triangles that aren't near the box, though it ends a
-- little beside the inside point that lies in the box.
use Rattle.std.proofs.Common.{◌≡◌, ◌≢◌, ◌⊎◌, inl, inr, refl, sym, ap, subst, ◌∙◌, arith, ℕ, Bool, true, false, ◌&&◌, cond, pos, ◌*ℤ◌, ◌<ℤ◌}
use Rattle.ember_algebra.specs.Sign.{sign, sgn, times, is_neg, is_negative}
use Rattle.ember_algebra.specs.declared.Sign.{Sign}
use Rattle.ember_algebra.specs.declared.Sign.TheVariants.{Neg, Zero, Pos}
use Rattle.ember_algebra.proofs.Laws.{linear, one-*ℤ}
use Rattle.ember_algebra.proofs.Order.{by_sign}
use Rattle.ember_algebra.proofs.Signs.{sgn-mul, sgn_pos, sgn_neg}
use Rattle.ember_model.specs.declared.point.Spot.{Spot}
use Rattle.ember_model.specs.declared.point.Axis.{Axis}
use Rattle.ember_model.specs.declared.plane.Plane.{Plane}
use Rattle.ember_model.specs.declared.tri.Tri.{Tri}
use Rattle.ember_model.specs.Planes.{value_at, along, support_of, edge_planes}
use Rattle.ember_model.specs.Points.{scaled, moved, DifferAlong}
use Rattle.ember_model.specs.Within.{IsTriWithin, IsSupportWithin}
use Rattle.ember_model.specs.Faces.{size, is_flat, face_of, edges_of, hit, between, is_inside, leg}
use Rattle.ember_model.specs.ClearTest.{all_negative}
use Rattle.ember_model.proofs.SignTests.{clash, size_positive, positive_in, zero_scaled, zero_times, size_nonnegative}
use Rattle.ember_model.proofs.PlaneValues.{value_hit}
use Rattle.ember_model.proofs.PlaneSizes.{support_within}
use Rattle.ember_model.proofs.Hits.{Scales, same_all_negative, inside_on, inside_closed}
use Rattle.ember_model.proofs.Legs.{leg_off, leg_on, between_inside}
use Rattle.ember_model.proofs.LegSigns.{leg_is, moved_zero}
use Rattle.ember_model.proofs.FourSigns.{hit_edges}
use Rattle.ember_law.proofs.FlatTriangles.{flat_case, flat_out, flat_in, flat_leg}
use Rattle.ember_width.proofs.Slides.{support_within_planes}
use Rattle.ember_box.specs.Boxes.{Cell}
use Rattle.ember_box.specs.Near.{is_near}
use Rattle.ember_ref.specs.References.{or_sign}
use Rattle.ember_ref.specs.ClosedBoxes.{HasPoint}
use Rattle.ember_ref.proofs.NearPoints.{near_point}
use Rattle.ember_ref.proofs.FarTriangles.{misses_far}
use Rattle.ember_trace.specs.Paths.{inside_side, first_of, second_of}
use Rattle.ember_trace.proofs.PathVertices.{differ_last}
use Rattle.ember_trace.proofs.VertexSides.{AreStops, stop_at_start, stop_after_first, stop_after_second}
use Rattle.ember_trace.proofs.ClearVertices.{has_with, has_start}
use Rattle.ember_trace.proofs.SegmentSigns.{edges_behind}
use Rattle.ember_trace.proofs.SegmentCrossings.{IsEnd, or_zero, differ_back}

-- a segment in the box
leg_far : (c : Cell) (t : Tri) (p q : Spot) → is_flat t ≡ false → is_near c t ≡ false → HasPoint c p → HasPoint c q → leg (face_of t) p q ≡ pos 0
leg_far c t p q nf far i j = by (is_negative (value_at (face_of t).support p *ℤ value_at (face_of t).support q)) refl
  where
    by : (b : Bool) → is_negative (value_at (face_of t).support p *ℤ value_at (face_of t).support q) ≡ b → leg (face_of t) p q ≡ pos 0
    by false e = leg_off (face_of t) p q e
    by true e = inside (all_negative (face_of t).edges (between (face_of t).support p q)) refl
      where
        inside : (b : Bool) → all_negative (face_of t).edges (between (face_of t).support p q) ≡ b → leg (face_of t) p q ≡ pos 0
        inside false h = leg_on (face_of t) p q false _ i.weight j.weight e h refl
        inside true h =
            let n = (face_of t).support in let x = between n p q in
            absurd (clash (inside_closed (face_of t) x (between_inside (face_of t) p q i.weight j.weight e ∙ h))
            (misses_far c t p q nf far i j (size (value_at n q)) (size (value_at n p)) (size_nonnegative (value_at n q))
            (size_nonnegative (value_at n p))))

-- a point on the support plane with the edge planes along k behind it is inside the face
inside_along : (t : Tri) (k : Axis) (q : Spot) → pos 0 <ℤ q.w → along (support_of t) k ≢ pos 0 →
    value_at (support_of t) q ≡ pos 0 → all_negative (edge_planes t k) q ≡ true → is_inside (face_of t) q ≡ true
unfolding face_of
inside_along t k q w nz z h =
    inside_on (face_of t) q (positive_in w) z ∙ sym
    (same_all_negative (size (along n k)) q (hit n k q) (edges_of t) (size_positive (along n k) nz) index)
    ∙ hit_edges t k q w nz ∙ h
  where
    n : Plane
    n = support_of t

    index : Scales (size (along n k)) q (hit n k q)
    index g =
        let e = value_hit g n k q in let f = zero_times (sign (along n k) *ℤ value_at n q) (along g k)
        (zero_scaled (sign (along n k)) (value_at n q) z) in omega (arith, linear, e, f)

module _ (m f : ℕ) (c : Cell) (k : Axis) (a b d : Spot) (q : Spot) (n : ℕ) (s : AreStops m f k c.lo a b d q n)
    (in_box : HasPoint c q) (turn : Sign → Sign) (e : Spot) (end : IsEnd m k a b d turn e) (line : DifferAlong k (stop_after_second k c.lo q n) e)
  where
    abbrev p : Spot
    p = stop_after_second k c.lo q n

    has_p : HasPoint c p
    has_p =
        has_with c (second_of k) (stop_after_first k c.lo q n) q (has_with c (first_of k) (stop_at_start c.lo n) q (has_start c n s.two) in_box) in_box

    line_to_q : DifferAlong k q p
    line_to_q = differ_back k p q (subst (λ (r : Spot). DifferAlong k p r) same (differ_last k (stop_at_start c.lo n) q (pos 1) (pos 0)))
      where
        same : moved (scaled (pos 1) q) k (pos 0) ≡ q
        same =
            moved_zero (scaled (pos 1) q) k ∙ (let x = one-*ℤ q.x in let y = one-*ℤ q.y in let z = one-*ℤ q.z in let w =
            one-*ℤ q.w in λ i. record { x = x i; y = y i; z = z i; w = w i })

    module _ (t : Tri) (v : IsTriWithin m t) (nf : is_flat t ≡ false) (far : is_near c t ≡ false) where
      abbrev n' : Plane
      n' = support_of t

      sized : IsSupportWithin m n'
      sized = support_within m t v

      at_q : sgn (value_at n' q) ≡ inside_side n' a b d
      at_q = s.close.at_end n' (support_within_planes m n' sized)

      behind : all_negative (edge_planes t k) e ≡ all_negative (edge_planes t k) q
      behind =
          edges_behind (λ h. inside_side h a b d) t k e v
          (λ h i z. end.side h i ∙ or_zero (inside_side h a b d) (turn (sgn (along h k)))
          (ap turn (ap sgn z) ∙ end.level)) ∙ sym
          (edges_behind (λ h. inside_side h a b d) t k q v (λ h i z. s.close.at_end h (support_within_planes m h i)))

      -- the plane isn't 0 at q: the end lies on the same side
      aside : sgn (value_at n' e) ≡ sgn (value_at n' q) → leg (face_of t) e p ≡ pos 0
      aside g =
          let x = ap is_neg (sgn-mul (value_at n' e) (value_at n' p)) ∙ (λ i. is_neg (times (g i) (sgn (value_at n' p))))
          ∙ sym (ap is_neg (sgn-mul (value_at n' q) (value_at n' p))) in
          leg_is k e p t end.weight has_p.weight (differ_back k p e line)
          ∙ (λ i. cond (x i && behind i) (sign (value_at n' p)) (pos 0))
          ∙ sym (leg_is k q p t in_box.weight has_p.weight line_to_q) ∙ leg_far c t q p nf far in_box has_p

      same_side : (r : Sign) → (r ≡ Zero → ⊥) → sgn (value_at n' q) ≡ r → sgn (value_at n' e) ≡ sgn (value_at n' q)
      same_side r nz z =
          end.side n' sized ∙ kept (inside_side n' a b d) (turn (sgn (along n' k))) (λ o. nz (sym z ∙ at_q ∙ o)) ∙ sym at_q
        where
          kept : (s t : Sign) → (s ≡ Zero → ⊥) → or_sign s t ≡ s
          kept Neg t n = refl
          kept Zero t n = absurd (n refl)
          kept Pos t n = refl

      -- it is 0 at q: q would be inside the face
      on_plane : value_at n' q ≡ pos 0 → leg (face_of t) e p ≡ pos 0
      on_plane z = by (all_negative (edge_planes t k) q) refl
        where
          slope : along n' k ≢ pos 0
          slope f =
              let l = s.close.apart n' (sym at_q ∙ ap sgn z) f in clash (flat_in t (record { a = l.0; b = l.1; c = l.2 })) nf

          by : (b : Bool) → all_negative (edge_planes t k) q ≡ b → leg (face_of t) e p ≡ pos 0
          by true h = absurd (clash (near_point c t q nf in_box (inside_closed (face_of t) q (inside_along t k q in_box.weight slope z h))) far)
          by false h =
              leg_is k e p t end.weight has_p.weight (differ_back k p e line)
              ∙ ap (λ (b : Bool). cond (is_negative (value_at n' e *ℤ value_at n' p) && b) (sign (value_at n' p))
              (pos 0)) (behind ∙ h) ∙ none (is_negative (value_at n' e *ℤ value_at n' p))
            where
              none : (b : Bool) → cond (b && false) (sign (value_at n' p)) (pos 0) ≡ pos 0
              none true = refl
              none false = refl

      missed : leg (face_of t) e p ≡ pos 0
      missed =
          by_sign (value_at n' q) (λ l. aside (same_side Pos (λ x. cc) (sgn_pos l))) on_plane (λ l. aside (same_side Neg (λ x. cc) (sgn_neg l)))

    -- the last segment doesn't cross a triangle within m that isn't near the box
    pub last_far : (t : Tri) → IsTriWithin m t → is_near c t ≡ false → leg (face_of t) e p ≡ pos 0
    last_far t v far = by (flat_case t)
      where
        by : (is_flat t ≡ true) ⊎ (is_flat t ≡ false) → leg (face_of t) e p ≡ pos 0
        by (inl f) = flat_leg e p t (flat_out t f)
        by (inr f) = missed t v f far
