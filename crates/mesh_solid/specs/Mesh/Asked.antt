-- What is there exactly if it is asked for
use Rattle.std.specs.Prelude.{◌≡◌, Bool, true, false, Option, MatchOption}

-- it is there exactly if it is asked for, and then it has the property
abbrev pub IsThereIf : {T : Type 0} → Bool → (T → Type 0) → Option T → Type 0
IsThereIf asked P given = MatchOption given (asked ≡ false) (λ it. (asked ≡ true) × P it)
