-- The regions of some leaves as one list
use Rattle.std.specs.Prelude.{◌≡◌, ℕ, Bool, not, ◌&&◌, nat_lt, List, [], ◌∷◌, map, length}
use Rattle.std.specs.List.{list_any, range_with_len}
use Rattle.ember_algebra.specs.Relations.{Each}
use Rattle.ember_model.specs.declared.tri.Tri.{Tri}
use Rattle.ember_model.specs.declared.point.Spot.{Spot}
use Rattle.ember_model.specs.declared.face.Face.{Face}
use Rattle.ember_model.specs.Faces.{is_inside, is_flat, face_of}
use Rattle.ember_box.specs.Boxes.{Cell}
use Rattle.ember_box.specs.Near.{near, tri_at}
use Rattle.ember_box.specs.Regions.{IsRegions}
use Rattle.ember_expr.specs.Formula.{Formula}
use Rattle.ember_leaf.specs.KeptRegions.{NarrowKept as Kept}
use Rattle.ember_leaf.specs.Written.{IsWrittenOfRegion}
use Rattle.ember_leaf.specs.Scenes.{HasOneValue}
use Rattle.ember_meaning.proofs.CountedPoints.{is_in_box}

-- a region of triangle `tri` of those near a leaf
pub record Entry : Type 0 where
  pub cell : Cell
  pub tri : ℕ
  pub face : Face

abbrev pub entry : Cell → ℕ → Face → Entry
entry c i f = record { cell = c; tri = i; face = f }

-- those of one triangle in a leaf
pub record IsEntriesOf (ts : List Tri) (c : Cell) (i : ℕ) (es : List Entry) : Type 0 where
  pub faces : List Face
  pub are_regions : IsRegions c (near ts c) i faces
  pub is : es ≡ map (entry c i) faces

-- those of a leaf, in order
abbrev pub IsEntriesIn : List Tri → Cell → List Entry → Type 0
IsEntriesIn ts c es = Each (IsEntriesOf ts c) (range_with_len 0 (length (near ts c))) es

abbrev pub IsEntries : List Tri → List Cell → List Entry → Type 0
IsEntries ts cs es = Each (IsEntriesIn ts) cs es

-- the triangle at place i of ts is not flat, and has x inside its face
abbrev pub has_inside : List Tri → ℕ → Spot → Bool
has_inside ts i x =
    nat_lt i (length ts) && (not (is_flat (tri_at ts i)) && is_inside (face_of (tri_at ts i)) x)

-- the same of those near the box of the list that holds x
abbrev pub is_hit_at : List Tri → List Cell → Spot → ℕ → Bool
is_hit_at ts cs x i = list_any (λ c. is_in_box c x && has_inside (near ts c) i x) cs

-- ---- which leaves are listed
-- ys has the members of xs in order, but for some that have the property
pub data Without {X : Type 0} (P : X → Type 0) : List X → List X → Type 0 where
  ends : Without P [] []
  keeps : {x : X} {xs ys : List X} → Without P xs ys → Without P (x ∷ xs) (x ∷ ys)
  drops : {x : X} {xs ys : List X} → P x → Without P xs ys → Without P (x ∷ xs) ys

-- of all leaves, the entries of cs give the written regions ks; in the other leaves the expression has
-- one value
pub record IsListing (scene : List Tri) (x : Formula) (all : List Cell) (ks : List Kept) (cs : List Cell) (es : List Entry) : Type 0 where
  pub listed : Without (HasOneValue scene x) all cs
  pub are_entries : IsEntries scene cs es
  pub are_written : Each (λ e us. IsWrittenOfRegion scene x (near scene e.cell) e.tri e.face us) es ks
