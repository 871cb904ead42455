-- Sums of weights over lists. Lists with the same sum for every weight have the same members, each equally often.
use Rattle.std.specs.Prelude.{◌≡◌, ℕ, ◌+◌, List, [], ◌∷◌, if◌then◌else◌, ◌==◌}
use Rattle.ember_job.specs.declared.job.Entry.{Entry}

-- the sum of the weights of all members
abbrev pub weigh : {X : Type 0} → (X → ℕ) → List X → ℕ
weigh h [] = 0
weigh h (x ∷ xs) = h x + weigh h xs

-- 1 at this number, and 0 elsewhere
abbrev pub one : ℕ → ℕ → ℕ
one x y = if y == x then 1 else 0

-- the entries of all journals are a permutation of these: for every weight h, both have the same sum
abbrev pub SameEntries : List (List Entry) → List Entry → Type 0
SameEntries journals entries = (h : Entry → ℕ) → weigh (weigh h) journals ≡ weigh h entries
