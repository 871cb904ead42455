-- Rings are bounded.
use Rattle.std.proofs.Common.{subst, ℕ, List, [], ◌∷◌}
use Rattle.std.specs.List.{AllByRecursion}
use Rattle.ember_model.specs.declared.point.Spot.{Spot}
use Rattle.ember_model.specs.declared.plane.Plane.{Plane}
use Rattle.ember_poly.specs.Rings.{Side, IsInClosedRing, IsConvexRing, Represents}
use Rattle.ember_poly.specs.Sides.{IsRing, sides_of}
use Rattle.ember_poly.specs.Bounds.{IsBoundedBy}
use Rattle.ember_poly.proofs.Chains.{each-back}
use Rattle.ember_poly.proofs.Hull.{Best, find_best, best_above, ring-rooted}
use Rattle.ember_poly.proofs.InsideBelow.{ring-closed}
use Rattle.ember_poly.proofs.Face.{closed_from_face, face_from_closed}

-- the corner at which a plane is greatest is one of the closed ring
best_is_closed : (n p : Plane) (xs : List Side) (b : Best p xs) → IsConvexRing n xs → IsInClosedRing n xs b.at.corner
best_is_closed n p xs b h =
    (each-back (λ s. IsInClosedRing n xs s.corner) b.before (b.at ∷ b.behind)
    (subst (λ ys. AllByRecursion (λ s. IsInClosedRing n xs s.corner) ys) b.split (ring-closed n xs h))).0

by_best : (n p : Plane) (gs : List Plane) (xs : List Side) → Represents n gs xs → Best p xs → IsBoundedBy p (record { support = n; edges = gs })
by_best n p gs xs is b =
    record {
      farthest = b.at.corner;
      member = face_from_closed n gs xs b.at.corner is (best_is_closed n p xs b is.sound);
      greatest = λ v inside. best_above n p v xs b is.sound (closed_from_face n gs xs v is inside);
    }

some_best : (n p : Plane) (xs : List Side) → IsConvexRing n xs → Best p xs
some_best n p [] h = absurd h
some_best n p (s ∷ xs) h = find_best n p s xs (ring-rooted n (s ∷ xs) h)

module _ {M : Type 0} {IsPlane : Plane → Type 0} (spot : M → Spot) where
  -- the closed face of a ring is bounded by every plane
  pub ring_bounded : (n p : Plane) (gs es : List Plane) (ms : List M) (bs : List ℕ) → IsRing IsPlane spot n gs es ms bs →
      IsBoundedBy p (record { support = n; edges = gs })
  ring_bounded n p gs es ms bs is =
      by_best n p gs (sides_of spot es ms bs) is.represents (some_best n p (sides_of spot es ms bs) is.represents.sound)
