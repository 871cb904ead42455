-- Contents that files may have.
use Rattle.std.proofs.Common.{◌≡◌, ℕ, ◌+◌, ◌<◌, suc, List, [], ◌∷◌, ◌++◌, length, map, Some, None, refl, ap, subst, arith, ◌∙◌}
use Rattle.std.specs.Prelude.{replicate}
use Rattle.std.proofs.lemmas.List.{length-map, length-replicate}
use Rattle.std.specs.declared.option.Option.{Option}
use Rattle.ember_io.specs.Shelves.{Tells}
use Rattle.ember_verdict.specs.Held.{AreContentsOf, MayHold, MayHoldOne}
use Rattle.ember_verdict.specs.Verdict.{Contents, file_at}

-- what is told, or nothing
abbrev pub told_or_empty : Option (List ℕ) → List ℕ
told_or_empty None = []
told_or_empty (Some bytes) = bytes

told_tells : (told : Option (List ℕ)) → Tells told (told_or_empty told)
told_tells None = tt
told_tells (Some bytes) = refl

-- the files may have what is told of them, and nothing where nothing is
pub some_contents : (told : List ℕ → Option (List ℕ)) (names : List (List ℕ)) → AreContentsOf told names (map (λ name. told_or_empty (told name)) names)
some_contents told [] = tt
some_contents told (name ∷ names) = (told_tells (told name), some_contents told names)

-- there are as many contents as names
pub contents_count : (told : List ℕ → Option (List ℕ)) (names contents : List (List ℕ)) → AreContentsOf told names contents → length contents ≡ length names
contents_count told [] [] h = refl
contents_count told [] (bytes ∷ contents) h = absurd h
contents_count told (name ∷ names) [] h = absurd h
contents_count told (name ∷ names) (bytes ∷ contents) h = ap suc (contents_count told names contents h.1)

-- contents of these files and of those are contents of all
pub contents_joined : (told : List ℕ → Option (List ℕ)) (names more contents others : List (List ℕ)) →
    AreContentsOf told names contents → AreContentsOf told more others →
    AreContentsOf told (names ++ more) (contents ++ others)
contents_joined told [] more [] others h k = k
contents_joined told [] more (bytes ∷ contents) others h k = absurd h
contents_joined told (name ∷ names) more [] others h k = absurd h
contents_joined told (name ∷ names) more (bytes ∷ contents) others h k =
    (h.0, contents_joined told names more contents others h.1 k)

-- what holds of any contents holds of some that the files may have
pub held_always : (told : List ℕ → Option (List ℕ)) (names : List (List ℕ)) (P : Contents → Type 0) →
    ((contents : Contents) → length contents ≡ length names → P contents) → MayHold told names P
held_always told names P holds =
    let contents = map (λ name. told_or_empty (told name)) names in let are = some_contents told names in
    (contents, are, holds (map Some contents) (length-map contents Some ∙ contents_count told names contents are))

-- what follows from contents that the files may have
pub held_then : (told : List ℕ → Option (List ℕ)) (names : List (List ℕ)) (P Q : Contents → Type 0) →
    ((contents : Contents) → length contents ≡ length names → P contents → Q contents) → MayHold told names P →
    MayHold told names Q
held_then told names P Q follows h =
    (h.0, h.1, follows (map Some h.0) (length-map h.0 Some ∙ contents_count told names h.0 h.1) h.2)

-- the same for one file
pub held_one_then : (told : Option (List ℕ)) (P Q : Option (List ℕ) → Type 0) →
    ((content : Option (List ℕ)) → P content → Q content) → MayHoldOne told P → MayHoldOne told Q
held_one_then told P Q follows h = (h.0, h.1, follows (Some h.0) h.2)

-- what holds of contents that the file may have, and of none told, holds of what is told
pub held_one_told : (told : Option (List ℕ)) (P : Option (List ℕ) → Type 0) → P None → MayHoldOne told P → P told
held_one_told None P none h = none
held_one_told (Some bytes) P none h = subst (λ (b : List ℕ). P (Some b)) h.1 h.2

-- one file is all files of a command that has one
pub held_only : (told : List ℕ → Option (List ℕ)) (name : List ℕ) (P : Option (List ℕ) → Type 0) →
    MayHoldOne (told name) P → MayHold told (name ∷ []) (λ contents. P (file_at contents 1))
held_only told name P h = (h.0 ∷ [], (h.1, tt), h.2)

-- some bytes are more than n
pub more_bytes : (n : ℕ) → (bytes : List ℕ) × (n < length bytes)
more_bytes n = (replicate (n + 1) 0, omega (arith, length-replicate {A = ℕ} (n + 1) 0))
