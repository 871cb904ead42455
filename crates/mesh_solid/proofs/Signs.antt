-- What tests of signs say of corners, one by one and of all.
use Rattle.std.proofs.Common.{◌≡◌, ◌≢◌, zero, suc, ℤ, pos, negsuc, ◌<ℤ◌, Bool, true, false, not, ◌&&◌, List, [], ◌∷◌, map, refl, sym, ap, ◌∙◌, arith}
use Rattle.std.specs.List.{AllByRecursion, Any, list_all}
use Rattle.std.proofs.lemmas.Bool.{false≢true}
use Rattle.std.proofs.lemmas.Int.{ints}
use Rattle.ember_algebra.specs.Sign.{is_negative, is_positive, is_zero}
use Rattle.ember_algebra.proofs.Booleans.{and_first, and_second}
use Rattle.ember_model.specs.declared.plane.Plane.{Plane}
use Rattle.ember_model.specs.declared.point.Spot.{Spot}
use Rattle.ember_model.specs.Edges.{RingEdge}
use Rattle.ember_model.specs.Planes.{value_at}
use Rattle.ember_model.proofs.SignTests.{nonzero_out}
use Rattle.ember_point.specs.Points.{spot_of}
use Rattle.ember_poly.specs.Rings.{Side, IsBelow}
use Rattle.ember_reread.specs.declared.cornered_face.CorneredEdge.{CorneredEdge}
use Rattle.ember_reread.specs.Cornered.{edge_of}
use Rattle.mesh_solid.specs.Outline.Rounds.{side_of}
use Rattle.mesh_solid.specs.Outline.Sides.{side_at}

-- ---- one number
pub positive_tested : (z : ℤ) (b : Bool) → b ≡ is_positive z → (b ≡ true → pos 0 <ℤ z) × (pos 0 <ℤ z → b ≡ true)
positive_tested (pos zero) b e = (λ t. absurd (false≢true (sym e ∙ t)), λ l. absurd (omega (arith, ints, l)))
positive_tested (pos (suc n)) b e = (λ t. omega (arith, ints), λ l. e)
positive_tested (negsuc n) b e = (λ t. absurd (false≢true (sym e ∙ t)), λ l. absurd (omega (arith, ints, l)))

-- the negation of a test for 0
pub off_tested : (z : ℤ) (b : Bool) → b ≡ is_zero z → (not b ≡ true → z ≢ pos 0) × (z ≢ pos 0 → not b ≡ true)
off_tested (pos zero) b e = (λ t. absurd (false≢true (ap not (sym e) ∙ t)), λ p. absurd (p refl))
off_tested (pos (suc n)) b e = (λ t. nonzero_out (pos (suc n)) refl, λ p. ap not e)
off_tested (negsuc n) b e = (λ t. nonzero_out (negsuc n) refl, λ p. ap not e)

pub below_found : (p : Plane) (v : Spot) → is_negative (value_at p v) ≡ true → IsBelow p v
below_found p v e = record { under = negative (value_at p v) e }
  where
    negative : (z : ℤ) → is_negative z ≡ true → z <ℤ pos 0
    negative (pos zero) e = absurd (false≢true e)
    negative (pos (suc n)) e = absurd (false≢true e)
    negative (negsuc n) e = omega (arith, ints)

pub below_tested : (p : Plane) (v : Spot) → IsBelow p v → is_negative (value_at p v) ≡ true
below_tested p v h = negative (value_at p v) h.under
  where
    negative : (z : ℤ) → z <ℤ pos 0 → is_negative z ≡ true
    negative (pos zero) l = absurd (omega (arith, ints, l))
    negative (pos (suc n)) l = absurd (omega (arith, ints, l))
    negative (negsuc n) l = refl

-- ---- all of a list
both_true : (a b : Bool) → a ≡ true → b ≡ true → a && b ≡ true
both_true a b e f = (λ i. e i && f i)

module _ {X Y : Type 0} (p : X → Bool) (f : X → Y) (P : Y → Type 0) where
  -- what a test of all says of all
  pub all_found : ((x : X) → p x ≡ true → P (f x)) → (xs : List X) → list_all p xs ≡ true → AllByRecursion P (map f xs)
  all_found says [] e = tt
  all_found says (x ∷ xs) e =
      (says x (and_first (p x) (list_all p xs) e), all_found says xs (and_second (p x) (list_all p xs) e))

  -- and the test is passed if it holds
  pub all_tested : ((x : X) → P (f x) → p x ≡ true) → (xs : List X) → AllByRecursion P (map f xs) → list_all p xs ≡ true
  all_tested passes [] h = refl
  all_tested passes (x ∷ xs) h = both_true (p x) (list_all p xs) (passes x h.0) (all_tested passes xs h.1)

-- ---- all corners on a plane
abbrev on_plane : Plane → CorneredEdge → Bool
on_plane n e = is_zero (value_at n (spot_of e.start))

abbrev HasCornerOff : Plane → List CorneredEdge → Type 0
HasCornerOff n es = Any (λ (e : RingEdge). value_at n e.start ≢ pos 0) (map edge_of es)

off_here_or_later : (n : Plane) (x : CorneredEdge) (xs : List CorneredEdge) (b : Bool) → on_plane n x ≡ b →
    on_plane n x && list_all (on_plane n) xs ≡ false → (list_all (on_plane n) xs ≡ false → HasCornerOff n xs) →
    HasCornerOff n (x ∷ xs)
off_here_or_later n x xs false q e later = (0, edge_of x, omega arith, refl, nonzero_out _ q)
off_here_or_later n x xs true q e later =
    let rest = later (sym (ap (λ b. b && list_all (on_plane n) xs) q) ∙ e) in
    (suc rest.0, rest.1, omega (arith, rest.2), rest.3, rest.4)

-- a corner is off the plane if not all are on it
pub off_found : (n : Plane) (es : List CorneredEdge) →
    list_all (λ (e : CorneredEdge). is_zero (value_at n (spot_of e.start))) es ≡ false →
    Any (λ (e : RingEdge). value_at n e.start ≢ pos 0) (map edge_of es)
off_found n [] e = absurd (false≢true (sym e))
off_found n (x ∷ xs) e = off_here_or_later n x xs (on_plane n x) refl e (off_found n xs)

-- ---- all corners behind a plane
pub starts_found : (g : Plane) (es : List CorneredEdge) →
    list_all (λ (e : CorneredEdge). is_negative (value_at g (spot_of e.start))) es ≡ true →
    AllByRecursion (λ t. IsBelow g t.corner) (map side_at es)
starts_found g es e = all_found _ side_at (λ t. IsBelow g t.corner) (λ x q. below_found g (spot_of x.start) q) es e

pub starts_tested : (g : Plane) (es : List CorneredEdge) → AllByRecursion (λ t. IsBelow g t.corner) (map side_at es) →
    list_all (λ (e : CorneredEdge). is_negative (value_at g (spot_of e.start))) es ≡ true
starts_tested g es h = all_tested _ side_at (λ t. IsBelow g t.corner) (λ x q. below_tested g (spot_of x.start) q) es h

-- ---- a corner behind all planes
pub lies_found : (v : Spot) (es : List CorneredEdge) →
    list_all (λ (e : CorneredEdge). is_negative (value_at e.plane v)) es ≡ true →
    AllByRecursion (λ t. IsBelow t.plane v) (map side_at es)
lies_found v es e = all_found _ side_at (λ t. IsBelow t.plane v) (λ x q. below_found x.plane v q) es e

pub lies_tested : (v : Spot) (es : List CorneredEdge) → AllByRecursion (λ t. IsBelow t.plane v) (map side_at es) →
    list_all (λ (e : CorneredEdge). is_negative (value_at e.plane v)) es ≡ true
lies_tested v es h = all_tested _ side_at (λ t. IsBelow t.plane v) (λ x q. below_tested x.plane v q) es h

-- the sides of the edges
pub sides_are : (es : List CorneredEdge) → map side_at es ≡ map side_of (map edge_of es)
sides_are [] = refl
sides_are (e ∷ es) = ap (λ (xs : List Side). side_at e ∷ xs) (sides_are es)
