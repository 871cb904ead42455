-- Lists of which each element may be missing
use Rattle.std.specs.Prelude.{List, ◌∷◌, Option, None, Some}

-- an element in front of others, if all of them are there
abbrev pub with_head : {A : Type 0} → Option A → Option (List A) → Option (List A)
with_head None more = None
with_head (Some a) None = None
with_head (Some a) (Some more) = Some (a ∷ more)
