-- The 1-chains of oriented planes on lines, and their boundaries
use Rattle.std.specs.Prelude.{◌≡◌, ℕ, nat_eq, ℤ, pos, ◌-ℤ◌, Bool, ◌&&◌, if◌then◌else◌, List, filter}
use Rattle.ember_algebra.specs.Sign.{is_negative}
use Rattle.ember_algebra.specs.Sums.{total}
use Rattle.mesh_certificate.specs.declared.certificate.segment.Segment.{Segment}

-- the segment belongs to the plane, and runs on the line
abbrev pub is_on : ℕ → ℕ → Segment → Bool
is_on plane line s = nat_eq plane s.plane && nat_eq line s.line

-- ---- over points
-- 1 if the rank of a corner is at most that of the point x
abbrev pub reached : ℤ → ℤ → ℤ
reached rank x = if is_negative (x -ℤ rank) then pos 0 else pos 1

-- 1 if the segment runs over the points just after x along the line, -1 if it runs back over them, 0 otherwise
abbrev pub coverage : (ℕ → ℤ) → ℤ → Segment → ℤ
coverage rank x s = reached (rank s.start) x -ℤ reached (rank s.end) x

-- the coefficient of the plane's 1-chain on the line at the point x
abbrev pub chain : ℕ → ℕ → (ℕ → ℤ) → ℤ → List Segment → ℤ
chain plane line rank x ss = total (coverage rank x) (filter (is_on plane line) ss)

-- over each point of each line each plane has the same chain, whatever the order of the corners on the line
pub record HaveSameChains (ss ts : List Segment) : Type 0 where
  pub each : (plane line : ℕ) (rank : ℕ → ℤ) (x : ℤ) → chain plane line rank x ss ≡ chain plane line rank x ts

-- the sum of a quantity of the starts less that of the ends
abbrev pub sum_on : ℕ → ℕ → (ℕ → ℤ) → List Segment → ℤ
sum_on plane line f ss = total (λ s. f s.start -ℤ f s.end) (filter (is_on plane line) ss)

-- ---- at corners
-- 1 if both numbers are equal
abbrev pub one_at : ℕ → ℕ → ℤ
one_at corner n = if nat_eq corner n then pos 1 else pos 0

-- how many of the plane's segments on the line end at the corner, less how many start there
abbrev pub boundary : ℕ → ℕ → ℕ → List Segment → ℤ
boundary plane line corner ss =
    total (λ s. one_at corner s.end -ℤ one_at corner s.start) (filter (is_on plane line) ss)

-- the chains of each plane on each line have the same boundary
pub record HaveSameBoundary (ss ts : List Segment) : Type 0 where
  pub each : (plane line corner : ℕ) → boundary plane line corner ss ≡ boundary plane line corner ts
