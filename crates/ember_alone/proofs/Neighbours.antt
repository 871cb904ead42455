-- Neighbours that no other triangle touches have equal values: there is a way from directly beside the one, around their
-- common edge, to directly beside the other.
use Rattle.std.proofs.Common.{◌≡◌, ◌≢◌, inl, inr, refl, sym, ap, subst, ◌∙◌, arith, le_refl, ℕ, Bool, true, false, cond, List, ℤ, pos, negsuc, ◌*ℤ◌, neg_ℤ, ◌<ℤ◌}
use Rattle.ember_algebra.specs.Large.{Eventually}
use Rattle.ember_algebra.specs.Sign.{is_positive}
use Rattle.ember_algebra.proofs.Laws.{linear}
use Rattle.ember_algebra.proofs.Large.{eventually_both, eventually_map}
use Rattle.ember_algebra.proofs.Order.{by_sign}
use Rattle.ember_model.specs.declared.plane.Plane.{Plane}
use Rattle.ember_model.specs.declared.point.Corner.{Corner}
use Rattle.ember_model.specs.declared.point.Spot.{Spot}
use Rattle.ember_model.specs.declared.point.Axis.{Axis}
use Rattle.ember_model.specs.declared.point.Axis.TheVariants.{X}
use Rattle.ember_model.specs.declared.face.Face.{Face}
use Rattle.ember_model.specs.declared.tri.Tri.{Tri}
use Rattle.ember_model.specs.Planes.{along, main_axis, support_of}
use Rattle.ember_model.specs.Points.{plus_s, offset_by}
use Rattle.ember_model.specs.Faces.{is_flat, face_of}
use Rattle.ember_model.specs.Clear.{AreClear}
use Rattle.ember_model.specs.Meshes.{faces_of, vector as vector_at}
use Rattle.ember_model.specs.Owners.{spot_of_corner}
use Rattle.ember_model.proofs.SignTests.{positive_in}
use Rattle.ember_law.proofs.CornerSides.{main_entry}
use Rattle.ember_law.proofs.GenericClear.{clear_shifted, clear_faces}
use Rattle.ember_alone.specs.UniformSides.{AreBalanced, IsPart}
use Rattle.ember_alone.specs.Whole.{behind, in_front}
use Rattle.ember_alone.specs.Neighbours.{HasEdge, NeighboursAgree}
use Rattle.ember_alone.proofs.CloseTo.{close, weight_close}
use Rattle.ember_alone.proofs.Frames.{IsTurned, from_a, from_b, from_c}
use Rattle.ember_alone.proofs.UniformSides.{SidesAt, sides_of_part}
use Rattle.ember_alone.proofs.Shares.{not_positive}
use Rattle.ember_alone.proofs.CommonEdges.{along_times}
use Rattle.ember_alone.proofs.AroundEdges.{AreBeside, swapped, IsMiddle, middle, middle_turned, IsWay, IsSeen}
use Rattle.ember_alone.proofs.AroundEdges.{seen_close_to_edge}
use Rattle.ember_alone.proofs.Ways.{way}

module _ (ts : List Tri) (balanced : AreBalanced ts) where
  -- ---- both
  -- what shifted points see
  abbrev Near : Spot → List ℤ → Type 0
  Near p counts = Eventually (λ l. AreClear (faces_of ts) (offset_by p (pos l)) → (a : Axis) → vector_at a ts (offset_by p (pos l)) ≡ counts)

  -- they see one vector
  near_alike : (p : Spot) (xs ys : List ℤ) → pos 0 <ℤ p.w → Near p xs → Near p ys → xs ≡ ys
  near_alike p xs ys w f g =
      let inner = eventually_both f (eventually_both g (clear_shifted p ts w)) in
      let l = inner.from in let e = inner.holds l (le_refl l) in let clear = clear_faces (offset_by p (pos l)) ts e.1.1 in
      sym (e.0 clear X) ∙ e.1.0 clear X

  seen_alike : (i j : ℕ) (t r : Tri) (u v w z : Corner) → AreBeside ts i j t r u v w z → (s : ℤ) → s ≢ pos 0 → (xs ys : List ℤ) →
      IsSeen ts t s xs → IsSeen ts r s ys → xs ≡ ys
  seen_alike i j t r u v w z b s nz xs ys see_t see_r = by (way ts balanced i j t r u v w z b x mid s nz)
    where
      x : Spot
      x = plus_s (spot_of_corner u) (spot_of_corner v)

      mid : IsMiddle u v x
      mid = middle u v

      by : (y : Spot) × IsWay s t r y → xs ≡ ys
      by c =
          let y = c.0 in let d = c.1 in
          let outer : Eventually (λ m. Near (close x y m) xs × (Near (close x y m) ys × (pos 0 <ℤ (close x y m).w))) =
          eventually_map (λ m e. (e.0, (e.1.0, e.1.1)))
          (eventually_both (seen_close_to_edge ts balanced i j t r u v w z b x mid s y d.here d.there xs see_t)
          (eventually_both (seen_close_to_edge ts balanced j i r t v u z w (swapped b) x (middle_turned mid) s y d.there d.here ys see_r) (weight_close x y mid.weight))) in
          let m = outer.from in let o = outer.holds m (le_refl m) in near_alike (close x y m) xs ys o.1.1 o.0 o.1.0

-- ---- the side that a Boolean stands for
abbrev side_sign : Bool → ℤ
side_sign front = cond front (pos 1) (negsuc 0)

abbrev side_of : Bool → Face → List ℤ → List ℤ → List ℤ
side_of front f before after = cond front (in_front f before after) (behind f before after)

-- the sides of a part, as seen beside t
module _ (ts : List Tri) (t : Tri) (full : is_flat t ≡ false) (f : Face) (same : f.support ≡ support_of t) (before after : List ℤ) (s : SidesAt ts t before after) where
  abbrev entry : ℤ
  entry = along (support_of t) (main_axis (support_of t))

  entry_is : is_positive (along f.support (main_axis f.support)) ≡ is_positive entry
  entry_is = ap (λ (n : Plane). is_positive (along n (main_axis n))) same

  seen_after : (c : ℤ) → pos 0 <ℤ (c *ℤ entry) → IsSeen ts t c after
  seen_after c l =
      let e = along_times c (support_of t) (main_axis (support_of t)) in
      record { at = s.at; inside = s.inside; way = pos 1; slope = λ z. main_entry t full (omega (arith, linear, z)); up = omega (arith, linear, e, l); bound = s.bound; sees = s.sees_after }

  seen_before : (c : ℤ) → (c *ℤ entry) <ℤ pos 0 → IsSeen ts t c before
  seen_before c l =
      let e = along_times c (support_of t) (main_axis (support_of t)) in
      record {
        at = s.at;
        inside = s.inside;
        way = neg_ℤ (pos 1);
        slope = λ z. main_entry t full (omega (arith, linear, z));
        up = omega (arith, linear, e, l);
        bound = s.bound;
        sees = s.sees_before;
      }

  seen_side : (front : Bool) → IsSeen ts t (side_sign front) (side_of front f before after)
  seen_side true =
      by_sign entry
      (λ l. subst (λ (y : List ℤ). IsSeen ts t (pos 1) y) (sym (ap (λ (b : Bool). cond b after before) (entry_is ∙ positive_in l))) (seen_after (pos 1) (omega (arith, linear, l))))
      (λ z. absurd (main_entry t full z))
      (λ l. subst (λ (y : List ℤ). IsSeen ts t (pos 1) y) (sym (ap (λ (b : Bool). cond b after before) (entry_is ∙ not_positive l))) (seen_before (pos 1) (omega (arith, linear, l))))
  seen_side false =
      by_sign entry
      (λ l. subst (λ (y : List ℤ). IsSeen ts t (negsuc 0) y) (sym (ap (λ (b : Bool). cond b before after) (entry_is ∙ positive_in l))) (seen_before (negsuc 0) (omega (arith, linear, l))))
      (λ z. absurd (main_entry t full z))
      (λ l. subst (λ (y : List ℤ). IsSeen ts t (negsuc 0) y) (sym (ap (λ (b : Bool). cond b before after) (entry_is ∙ not_positive l))) (seen_after (negsuc 0) (omega (arith, linear, l))))

-- ---- the law
turned_of : (t : Tri) (u v : Corner) → HasEdge t u v → (w : Corner) × IsTurned t u v w
turned_of t u v (inl e) = (t.c, from_a e.0 e.1 refl)
turned_of t u v (inr (inl e)) = (t.a, from_b e.0 e.1 refl)
turned_of t u v (inr (inr e)) = (t.b, from_c e.0 e.1 refl)

sign_nonzero : (front : Bool) → side_sign front ≢ pos 0
sign_nonzero true z = absurd (omega (arith, linear, z))
sign_nonzero false z = cc

support_of_part : (t : Tri) (f : Face) → IsPart (face_of t) f → f.support ≡ support_of t
unfolding face_of
support_of_part t f p = p.support

-- neighbours have equal values behind them and in front
pub neighbours_agree : (ts : List Tri) → AreBalanced ts → NeighboursAgree ts
neighbours_agree ts balanced i j t r f g before after before' after' n part part' sides sides' = (on false, on true)
  where
    on : (front : Bool) → side_of front f before after ≡ side_of front g before' after'
    on front =
        let w = turned_of t n.u n.v n.edge in let z = turned_of r n.v n.u n.back in
        seen_alike ts balanced i j t r n.u n.v w.0 z.0
        (record {
          different = n.different;
          here = n.here;
          there = n.there;
          full = n.full;
          full_there = n.full_there;
          alone = n.alone;
          alone_there = n.alone_there;
          edge = w.1;
          back = z.1;
          only = n.only;
        }) (side_sign front) (sign_nonzero front) (side_of front f before after) (side_of front g before' after')
        (seen_side ts t n.full f (support_of_part t f part) before after (sides_of_part ts balanced i t n.here n.alone n.full f before after part sides) front)
        (seen_side ts r n.full_there g (support_of_part r g part') before' after'
        (sides_of_part ts balanced j r n.there n.alone_there n.full_there g before' after' part' sides') front)
