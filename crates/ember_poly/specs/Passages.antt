-- Where a plane cuts a ring. Here `low` and `under` are about what is below the plane, `high` and `over` about what is
-- above it
use Rattle.std.specs.Prelude.{◌≡◌, ◌⊎◌, ℕ, ◌+◌, ◌<◌, ◌≤◌, suc, Bool, true, false, not, List, [], ◌∷◌}
use Rattle.std.specs.Prelude.{◌++◌, length, take, drop, pos, ⊤}
use Rattle.std.specs.List.{AllByRecursion}
use Rattle.ember_algebra.specs.Sign.{is_negative}
use Rattle.ember_model.specs.declared.point.Spot.{Spot}
use Rattle.ember_model.specs.declared.plane.Plane.{Plane}
use Rattle.ember_model.specs.Planes.{value_at}
use Rattle.ember_poly.specs.declared.passage.Passage.{Passage}
use Rattle.ember_poly.specs.declared.reach_and_cut.Reach.{Reach}
use Rattle.ember_poly.specs.declared.reach_and_cut.Reach.TheVariants.{Below, Above, On, Both}
use Rattle.ember_poly.specs.Rings.{Side, IsBelow, IsAbove, IsOnPlane, IsNotAbove, IsNotBelow, IsNotEmpty, IsMeet}

-- ---- the signs at the corners: here M is the type of corners, and spot gives the point that a corner represents
-- some member has the property
abbrev pub HasMember : {X : Type 0} → (X → Type 0) → List X → Type 0
HasMember P [] = ⊥
HasMember P (x ∷ xs) = P x ⊎ HasMember P xs

-- what the corners say of the side on which the ring lies
abbrev pub AreSigns : {M : Type 0} → (M → Spot) → Plane → List M → Reach → Type 0
AreSigns spot p ms Below =
    AllByRecursion (λ m. IsNotAbove p (spot m)) ms × HasMember (λ m. IsBelow p (spot m)) ms
AreSigns spot p ms Above =
    AllByRecursion (λ m. IsNotBelow p (spot m)) ms × HasMember (λ m. IsAbove p (spot m)) ms
AreSigns spot p ms On = AllByRecursion (λ m. IsOnPlane p (spot m)) ms
AreSigns spot p ms Both = HasMember (λ m. IsBelow p (spot m)) ms × HasMember (λ m. IsAbove p (spot m)) ms

-- of these corners, `low` are known to be below the plane, and `high` says whether some are above. `under`: some corner
-- is below if low isn't 0; `least`: otherwise none is. `over`: some corner is above if high is true; `most`: otherwise
-- none is
pub record AreClassified {M : Type 0} (spot : M → Spot) (p : Plane) (low : ℕ) (high : Bool) (ms : List M) : Type 0 where
  pub under : 0 < low → HasMember (λ m. IsBelow p (spot m)) ms
  pub least : low ≡ 0 → AllByRecursion (λ m. IsNotBelow p (spot m)) ms
  pub over : high ≡ true → HasMember (λ m. IsAbove p (spot m)) ms
  pub most : high ≡ false → AllByRecursion (λ m. IsNotAbove p (spot m)) ms

-- some corner is above the plane, and some is below (`under`): not all are not above it, and not all are not below it
pub record Straddles {M : Type 0} (spot : M → Spot) (p : Plane) (ms : List M) : Type 0 where
  pub above : AllByRecursion (λ m. IsNotAbove p (spot m)) ms → ⊥
  pub under : AllByRecursion (λ m. IsNotBelow p (spot m)) ms → ⊥

-- ---- the corners one after another
-- whether the corner is below the plane
abbrev pub is_under : {M : Type 0} → (M → Spot) → Plane → M → Bool
is_under spot p m = is_negative (value_at p (spot m))

-- the next corner is on the other side
abbrev pub Stops : {M : Type 0} → (M → Spot) → Plane → Bool → List M → Type 0
Stops spot p below [] = ⊤
Stops spot p below (m ∷ ms) = is_under spot p m ≡ not below

-- the first k corners lie below the plane, or none of them does, and the next one, if there is one, is on the
-- other side
pub record IsOneSidedRun {M : Type 0} (spot : M → Spot) (p : Plane) (below : Bool) (ms : List M) (k : ℕ) : Type 0 where
  pub at_most_all : k ≤ length ms
  pub all : AllByRecursion (λ m. is_under spot p m ≡ below) (take k ms)
  pub stops : Stops spot p below (drop k ms)

-- whether one of corners that do not lie below the plane is above it
pub record AreNotBelow {M : Type 0} (spot : M → Spot) (p : Plane) (high : Bool) (ms : List M) : Type 0 where
  pub all : AllByRecursion (λ m. is_under spot p m ≡ false) ms
  pub some : high ≡ true → HasMember (λ m. IsAbove p (spot m)) ms
  pub none : high ≡ false → AllByRecursion (λ m. IsNotAbove p (spot m)) ms

-- the first k corners do not lie below the plane, and the next one, if there is one, does
pub record IsRunNotBelow {M : Type 0} (spot : M → Spot) (p : Plane) (ms : List M) (k : ℕ) (high : Bool) : Type 0 where
  pub run : IsOneSidedRun spot p false ms k
  pub risen : AreNotBelow spot p high (take k ms)

-- the first corner is not below the plane, the second is
abbrev pub Enters : {M : Type 0} → (M → Spot) → Plane → List M → Type 0
Enters spot p [] = ⊥
Enters spot p (m ∷ []) = ⊥
Enters spot p (m ∷ c ∷ ms) = (is_under spot p m ≡ false) × (is_under spot p c ≡ true)

-- begun at this index, the corners enter the plane's negative side, and `below_count` are below it
pub record EntersAt {M : Type 0} (spot : M → Spot) (p : Plane) (ms : List M) (entry_edge below_count : ℕ) : Type 0 where
  pub within : entry_edge < length ms
  pub enters : Enters spot p (drop entry_edge ms ++ take entry_edge ms)
  pub run : IsOneSidedRun spot p true (drop (entry_edge + 1) ms ++ take entry_edge ms) below_count

-- ---- the passage
-- after the sides below the plane the boundary leaves the plane's negative side. `f` is the head, the side on whose
-- edge the boundary passed below the plane; the list has the sides after those below: `d` is the first of them, and
-- `ds` has the others. So the corners that aren't below are those of f and of the list, and one of them is above: f's,
-- d's, or one of ds. If ds has a side, these are three corners or more, so this is sure: three corners of a ring are
-- never on one line.
abbrev pub Leaves : Plane → Side → List Side → Type 0
Leaves p f [] = IsAbove p f.corner
Leaves p f (d ∷ ds) =
    IsNotBelow p d.corner × (IsAbove p f.corner ⊎ (IsAbove p d.corner ⊎ IsNotEmpty ds))

-- the ring begun where the plane's negative side is entered: the side on whose edge that is, the sides whose corners
-- lie below the plane (the `firsts` and the `last`), and the others; and the two ends of the chord
pub record IsPassage {W M : Type 0} (spot : M → Spot) (n p : Plane) (xs : List Side) (at : Passage W M) : Type 0 where
  pub head : Side
  pub firsts : List Side
  pub last : Side
  pub others : List Side
  pub within : at.entry_edge < length xs
  pub turned : drop at.entry_edge xs ++ take at.entry_edge xs ≡ head ∷ (firsts ++ last ∷ []) ++ others
  pub count : at.below_count ≡ suc (length firsts)
  pub under : AllByRecursion (λ s. IsBelow p s.corner) (firsts ++ last ∷ [])
  pub enters : IsNotBelow p head.corner
  pub leaves : Leaves p head others
  pub entry : IsMeet n head.plane p (spot at.entry)
  pub exit : IsMeet n last.plane p (spot at.exit)
