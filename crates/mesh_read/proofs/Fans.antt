-- The corners of a fan
use Rattle.std.proofs.Common.{ℕ, ◌<◌, List, [], ◌∷◌, All}
use Rattle.std.proofs.lemmas.List.Elements.{All-nil, All-cons, All-head, All-tail}
use Rattle.mesh_read.specs.Surface.Surfaces.{fan, fan_round, IsWithin}

fan_round_within : (v place first : ℕ) (others : List ℕ) → first < v → All (λ c. c < v) others → All (IsWithin v) (fan_round place first others)
fan_round_within v place first [] h hs = All-nil (IsWithin v)
fan_round_within v place first (p ∷ []) h hs = All-nil (IsWithin v)
fan_round_within v place first (p ∷ q ∷ more) h hs =
    let rest : All (λ c. c < v) (q ∷ more) = All-tail (λ c. c < v) p (q ∷ more) hs in
    let third : All (λ c. c < v) (q ∷ []) = All-cons (λ c. c < v) q [] (All-head (λ c. c < v) q more rest) (All-nil (λ c. c < v)) in
    let second : All (λ c. c < v) (p ∷ q ∷ []) = All-cons (λ c. c < v) p (q ∷ []) (All-head (λ c. c < v) p (q ∷ more) hs) third in
    All-cons (IsWithin v) (record { corners = first ∷ p ∷ q ∷ []; place = place }) (fan_round place first (q ∷ more))
    (All-cons (λ c. c < v) first (p ∷ q ∷ []) h second) (fan_round_within v place first (q ∷ more) h rest)

-- triangles of corners below a limit have corners below it
pub fan_within : (v place : ℕ) (corners : List ℕ) → All (λ c. c < v) corners → All (IsWithin v) (fan place corners)
fan_within v place [] hs = All-nil (IsWithin v)
fan_within v place (first ∷ others) hs = fan_round_within v place first others (All-head (λ c. c < v) first others hs) (All-tail (λ c. c < v) first others hs)
