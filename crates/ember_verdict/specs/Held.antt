-- Contents that files may have, as far as a shelf tells them
use Rattle.std.specs.Prelude.{ℕ, List, map, Some}
use Rattle.std.specs.declared.option.Option.{Option}
use Rattle.std.specs.List.{AllZip}
use Rattle.ember_io.specs.Shelves.{Tells, Told}
use Rattle.ember_verdict.specs.Verdict.{Contents, Verdict, PassesOn}

-- there are bytes of which P holds, and which a file may have of which the shelf tells this: the told bytes, or any
-- bytes if none are told
abbrev pub MayHoldOne : Option (List ℕ) → (Option (List ℕ) → Type 0) → Type 0
MayHoldOne told P = (bytes : List ℕ) × Tells told bytes × P (Some bytes)

-- these are contents of the files with these names, in order; what the shelf tells of a file is what it has here
abbrev pub AreContentsOf : Told → List (List ℕ) → List (List ℕ) → Type 0
AreContentsOf told names contents = AllZip (λ name bytes. Tells (told name) bytes) names contents

-- there are bytes for each file such that P holds of all of them together. For a file that the shelf tells, these are
-- the told bytes; for another, any bytes. P gets all of them as told, so no command's verdict on them is Unknown
abbrev pub MayHold : Told → List (List ℕ) → (Contents → Type 0) → Type 0
MayHold told names P = (contents : List (List ℕ)) × AreContentsOf told names contents × P (map Some contents)

-- ---- what steps of a verdict pass on
-- the step passes on this result of bytes that the file may have of which the shelf tells this
abbrev pub MayPassOn : {A : Type 0} → (Option (List ℕ) → (A → Verdict) → Verdict) → Option (List ℕ) → A → Type 0
MayPassOn {A} step told result = MayHoldOne told (λ content. PassesOn (step content) result)

-- the step passes on this result of contents that the files with these names may have
abbrev pub MayAllPassOn : {A : Type 0} → (Contents → (A → Verdict) → Verdict) → List (List ℕ) → Told → A → Type 0
MayAllPassOn {A} step names told result = MayHold told names (λ contents. PassesOn (step contents) result)
