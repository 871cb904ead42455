-- Legs between points near t: by the planes of the face at t.
use Rattle.std.proofs.Common.{◌≡◌, ◌≢◌, inl, inr, refl, sym, ap, ◌∙◌, arith, Bool, true, false, cond, ◌&&◌, List, [], ◌∷◌, map, ℤ, pos, ◌+ℤ◌, ◌*ℤ◌, ◌<ℤ◌, ◌≤ℤ◌}
use Rattle.std.specs.List.{AllByRecursion}
use Rattle.ember_algebra.specs.Sign.{sign, is_negative}
use Rattle.ember_algebra.proofs.Laws.{linear}
use Rattle.ember_algebra.proofs.Order.{by_sign, pos_mul, mul_pos_neg, mul_neg_neg}
use Rattle.ember_model.specs.declared.plane.Plane.{Plane}
use Rattle.ember_model.specs.declared.point.Spot.{Spot}
use Rattle.ember_model.specs.declared.face.Face.{Face}
use Rattle.ember_model.specs.Planes.{value_at}
use Rattle.ember_model.specs.Faces.{between, leg}
use Rattle.ember_model.specs.ClearTest.{none_positive, all_negative}
use Rattle.ember_model.specs.Edges.{RingEdge}
use Rattle.ember_model.proofs.SignTests.{negative_in, negative_not, size_positive, and_true}
use Rattle.ember_model.proofs.NearClearPoints.{Follows, FollowsEach, following_points_stay_above, not_below, all_below}
use Rattle.ember_model.proofs.Legs.{value_between, leg_off, leg_on}
use Rattle.ember_poly.specs.Rings.{IsBelow}
use Rattle.ember_meaning.proofs.RectangleCrossings.{cut, passed}
use Rattle.ember_meaning.proofs.OneEdge.{IsOnlyMet}

-- p is off the support plane, and where t is off a plane of f, p is on its side
pub record IsBeside (f : Face) (t p : Spot) : Type 0 where
  pub weight : pos 0 <ℤ p.w
  pub off : value_at f.support p ≢ pos 0
  pub support : Follows t p f.support
  pub edges : FollowsEach t p f.edges

module _ (f : Face) (t p q : Spot) (bp : IsBeside f t p) (bq : IsBeside f t q) where
  abbrev middle : Spot
  middle = between f.support p q

  abbrev crosses : Bool
  crosses = is_negative (value_at f.support p *ℤ value_at f.support q)

  -- ---- the point between
  follows_middle : (h : Plane) → Follows t p h → Follows t q h → Follows t middle h
  follows_middle h fp fq =
      record {
        up = λ l. rw (value_between h f.support p q)
            (sum (size_positive (value_at f.support q) bq.off) (size_positive (value_at f.support p) bp.off) (fp.up l)
            (fq.up l));
        down = λ l. rw (value_between h f.support p q)
            (fall (size_positive (value_at f.support q) bq.off) (size_positive (value_at f.support p) bp.off) (fp.down l)
            (fq.down l));
      }
    where
      sum : {a b x y : ℤ} → pos 0 <ℤ a → pos 0 <ℤ b → pos 0 <ℤ x → pos 0 <ℤ y → pos 0 <ℤ (a *ℤ x +ℤ b *ℤ y)
      sum la lb lx ly = omega (arith, linear, pos_mul la lx, pos_mul lb ly)

      fall : {a b x y : ℤ} → pos 0 <ℤ a → pos 0 <ℤ b → x <ℤ pos 0 → y <ℤ pos 0 → (a *ℤ x +ℤ b *ℤ y) <ℤ pos 0
      fall la lb lx ly = omega (arith, linear, mul_pos_neg la lx, mul_pos_neg lb ly)

  follow_middle : (hs : List Plane) → FollowsEach t p hs → FollowsEach t q hs → FollowsEach t middle hs
  follow_middle [] fp fq = tt
  follow_middle (h ∷ hs) fp fq = (follows_middle h fp.0 fq.0, follow_middle hs fp.1 fq.1)

  pub middle_follows : FollowsEach t middle f.edges
  middle_follows = follow_middle f.edges bp.edges bq.edges

  -- ---- the leg
  leg_by : (b : Bool) → all_negative f.edges middle ≡ b → leg f p q ≡ cond (crosses && b) (sign (value_at f.support q)) (pos 0)
  leg_by b e = by crosses refl
    where
      by : (k : Bool) → crosses ≡ k → leg f p q ≡ cond (crosses && b) (sign (value_at f.support q)) (pos 0)
      by true k =
          leg_on f p q b (sign (value_at f.support q)) bp.weight bq.weight k e refl
          ∙ sym (ap (λ (k : Bool). cond (k && b) (sign (value_at f.support q)) (pos 0)) k)
      by false k =
          leg_off f p q k ∙ sym (ap (λ (k : Bool). cond (k && b) (sign (value_at f.support q)) (pos 0)) k)

  -- off the support plane
  pub leg_off_plane : value_at f.support t ≢ pos 0 → leg f p q ≡ pos 0
  leg_off_plane n =
      leg_off f p q (negative_not (value_at f.support p *ℤ value_at f.support q)
      (by_sign (value_at f.support t) (λ l. weak (pos_mul (bp.support.up l) (bq.support.up l))) (λ z. absurd (n z))
      (λ l. weak (mul_neg_neg (bp.support.down l) (bq.support.down l)))))
    where
      weak : {z : ℤ} → pos 0 <ℤ z → pos 0 ≤ℤ z
      weak l = omega (arith, linear)

  -- beyond an edge
  pub leg_beyond : none_positive f.edges t ≡ false → leg f p q ≡ pos 0
  leg_beyond h =
      leg_by false (not_below t middle f.edges (following_points_stay_above t middle f.edges middle_follows) h) ∙ none crosses
    where
      none : (b : Bool) → cond (b && false) (sign (value_at f.support q)) (pos 0) ≡ pos 0
      none true = refl
      none false = refl

  -- below all edges
  pub leg_below : all_negative f.edges t ≡ true → leg f p q ≡ passed (value_at f.support p) (value_at f.support q)
  leg_below h =
      leg_by true (all_below t middle f.edges middle_follows h) ∙ ap (λ (b : Bool). cond b (sign (value_at f.support q)) (pos 0)) (and_true crosses)

  -- on one
  pub leg_on_edge : (g : Plane) → all_negative f.edges middle ≡ is_negative (value_at g middle) →
      leg f p q ≡ cut (value_at f.support p) (value_at f.support q) (value_at g p) (value_at g q)
  leg_on_edge g e =
      leg_by (is_negative (value_at g middle)) e
      ∙ ap (λ (v : ℤ). cond (crosses && is_negative v) (sign (value_at f.support q)) (pos 0))
      (value_between g f.support p q)

-- ---- the planes of edges at a point that follows t
-- if a point is below all edge planes, they are negative there
pub under_negative : (t : Spot) (es : List RingEdge) → AllByRecursion (λ e. IsBelow e.plane t) es → all_negative (map (λ e. e.plane) es) t ≡ true
under_negative t [] us = refl
under_negative t (e ∷ es) us =
    let x = negative_in us.0.under in let y = under_negative t es us.1 in λ i. x i && y i

-- where one plane is met it decides
pub only_met_decides : (t x : Spot) (g : Plane) (es : List RingEdge) → IsOnlyMet t g es →
    FollowsEach t x (map (λ e. e.plane) es) → all_negative (map (λ e. e.plane) es) x ≡ is_negative (value_at g x)
only_met_decides t x g [] o fs = absurd o
only_met_decides t x g (e ∷ es) (inl o) fs =
    let y = ap (λ (h : Plane). is_negative (value_at h x)) o.0 in
    let z = all_below t x (map (λ e. e.plane) es) fs.1 (under_negative t es o.2) in
    (λ i. y i && z i) ∙ and_true (is_negative (value_at g x))
only_met_decides t x g (e ∷ es) (inr o) fs =
    let y = negative_in (fs.0.down o.0.under) in let z = only_met_decides t x g es o.1 fs.1 in λ i. y i && z i
