-- Which pairs of triangles meet, and the list of those that do
use Rattle.std.specs.Prelude.{◌≡◌, ◌⊎◌, ℕ, false, List, [], ◌∷◌, ◌++◌, map}
use Rattle.ember_algebra.specs.Relations.{Each}
use Rattle.ember_model.specs.declared.tri.Tri.{Tri}
use Rattle.ember_model.specs.Faces.{is_flat, face_of, Meets}
use Rattle.ember_box.specs.Near.{tri_at, all_indices}
use Rattle.ember_pairs.specs.declared.pair.Pair.{Pair}

-- neither is flat, and some inside point of the face of one lies in the closed face of the other
pub record AreMeeting (t u : Tri) : Type 0 where
  pub one : is_flat t ≡ false
  pub other : is_flat u ≡ false
  pub meet : Meets (face_of t) (face_of u) ⊎ Meets (face_of u) (face_of t)

-- a pair of indices
abbrev pub pair : ℕ → ℕ → Pair
pair i j = record { low = i; high = j }

-- what a pair of indices gives: itself if its triangles meet, and otherwise nothing
pub data AtPair (ts : List Tri) (p : Pair) : List Pair → Type 0 where
  meeting : AreMeeting (tri_at ts p.low) (tri_at ts p.high) → AtPair ts p (p ∷ [])
  apart : (AreMeeting (tri_at ts p.low) (tri_at ts p.high) → ⊥) → AtPair ts p []

-- the pairs of i with these
abbrev pub row : ℕ → List ℕ → List Pair
row i indices = map (λ j. pair i j) indices

-- all pairs of members of a list, the earlier member first: by the first, and then by the second
abbrev pub pairs_of : List ℕ → List Pair
pairs_of [] = []
pairs_of (i ∷ later) = row i later ++ pairs_of later

-- the pairs among these indices whose triangles meet, in order
abbrev pub AreMeetingPairs : List Tri → List ℕ → List Pair → Type 0
AreMeetingPairs ts indices ps = Each (AtPair ts) (pairs_of indices) ps

-- the pairs of all triangles of a scene that meet, in order
abbrev pub ArePairs : List Tri → List Pair → Type 0
ArePairs ts ps = AreMeetingPairs ts (all_indices ts) ps

-- ---- used inside the crate
-- `out`, followed by what `later` gives, is what `all` gives
pub record Completes (ts : List Tri) (all later out : List Pair) : Type 0 where
  pub completed : (more : List Pair) → Each (AtPair ts) later more → Each (AtPair ts) all (out ++ more)
