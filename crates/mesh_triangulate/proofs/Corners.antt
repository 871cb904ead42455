-- Corners of a boundary
use Rattle.std.proofs.Common.{◌≡◌, Some, inl, inr, ℕ, ◌<◌, List, [], ◌∷◌, length, get_or, refl, sym}
use Rattle.std.specs.List.{All, Contains, slice_get}
use Rattle.std.proofs.lemmas.List.Elements.{All-nil, All-cons}
use Rattle.std.proofs.lemmas.Option.{slice_get_within, get_or_from_slice_get}
use Rattle.mesh_certificate.specs.declared.certificate.segment.Segment.{Segment}
use Rattle.mesh_triangulate.specs.Corners.{IsCornerOf, HasCornersOf}

-- a segment that was read from the boundary is in it
pub read_is_contained : (ss : List Segment) (k : ℕ) (s : Segment) → k < length ss → s ≡ get_or ss k s → Contains ss s
read_is_contained ss k s l e = (k, l, sym e)

-- a segment that is found in a list is in it
pub found_is_contained : (ss : List Segment) (k : ℕ) (s : Segment) → Some s ≡ slice_get ss k → Contains ss s
found_is_contained ss k s e =
    (k, slice_get_within ss k s (sym e), get_or_from_slice_get ss k s s (sym e))

-- its end is a corner, and so is its start
pub end_is_corner : (ss : List Segment) (s : Segment) → Contains ss s → IsCornerOf ss s.end
end_is_corner ss s c = (s, c, inr refl)

-- the start of a segment is a corner of the boundary
pub start_is_corner : (ss : List Segment) (s : Segment) → Contains ss s → IsCornerOf ss s.start
start_is_corner ss s c = (s, c, inl refl)

-- three corners one by one
pub three_are_corners : (ss : List Segment) (a b c : ℕ) → IsCornerOf ss a → IsCornerOf ss b → IsCornerOf ss c → HasCornersOf ss (a ∷ b ∷ c ∷ [])
three_are_corners ss a b c p q r =
    All-cons (IsCornerOf ss) a (b ∷ c ∷ []) p (All-cons (IsCornerOf ss) b (c ∷ []) q (All-cons (IsCornerOf ss) c [] r (All-nil (IsCornerOf ss))))

-- two triangles one by one
pub each_half_has_corners : (ss : List Segment) (a b c d e f : ℕ) → HasCornersOf ss (a ∷ b ∷ c ∷ []) →
    HasCornersOf ss (d ∷ e ∷ f ∷ []) → All (HasCornersOf ss) ((a ∷ b ∷ c ∷ []) ∷ (d ∷ e ∷ f ∷ []) ∷ [])
each_half_has_corners ss a b c d e f p q =
    All-cons (HasCornersOf ss) (a ∷ b ∷ c ∷ []) ((d ∷ e ∷ f ∷ []) ∷ []) p (All-cons (HasCornersOf ss) (d ∷ e ∷ f ∷ []) [] q (All-nil (HasCornersOf ss)))
