-- The placings of files, one after another
use Rattle.std.proofs.Common.{◌≡◌, ◌==◌, ◌⊎◌, inl, inr, Bool, true, false, cond, ℕ, zero, suc, ◌+◌, List, [], ◌∷◌, ◌++◌, Option, Some, None, Err, refl, sym, ap, ◌∙◌, arith, add-one}
use Rattle.std.specs.List.{AllZip, range_with_len}
use Rattle.std.specs.Option.{option_or}
use Rattle.std.proofs.lemmas.Option.{none-some, same_Some}
use Rattle.ember_algebra.proofs.Lists.{AllZip-push}
use Rattle.mesh_placing.specs.declared.files.PlaceFault.TheVariants.{Steps}
use Rattle.mesh_placing.specs.declared.files.Placing.{Placing}
use Rattle.mesh_placing.specs.declared.words.TextFault.{TextFault}
use Rattle.mesh_placing.specs.declared.words.TextFault.TheVariants.{OutOfMemory}
use Rattle.mesh_placing.specs.Words.{steps_said}
use Rattle.mesh_placing.specs.Files.{IsPlacingOf, place_said, place_fault, fault_in, steps_fault, first_place_fault, place_of, steps_if}

range_from_more : (a n : ℕ) → range_with_len a (suc n) ≡ range_with_len a n ++ (a + n) ∷ []
range_from_more a zero = ap (λ (k : ℕ). k ∷ []) (omega arith)
range_from_more a (suc n) =
    ap (λ (ks : List ℕ). a ∷ ks) (range_from_more (a + 1) n) ∙ ap (λ (k : ℕ). a ∷ (range_with_len (a + 1) n ++ k ∷ [])) (omega arith)

-- the placing of a file more
pub placings_more : (files : ℕ) (places turns : List (List ℕ)) (index : ℕ) (now new : List (Option Placing)) (placing : Option Placing) →
    AllZip (IsPlacingOf files places turns) (range_with_len 1 index) now → IsPlacingOf files places turns (index + 1) placing →
    new ≡ now ++ placing ∷ [] → AllZip (IsPlacingOf files places turns) (range_with_len 1 (index + 1)) new
placings_more files places turns index now new placing before is add =
    let last : 1 + index ≡ index + 1 = omega arith in
    let more : range_with_len 1 (index + 1) ≡ range_with_len 1 index ++ (index + 1) ∷ [] =
    ap (range_with_len 1) (add-one index) ∙ range_from_more 1 index ∙ ap (λ (k : ℕ). range_with_len 1 index ++ k ∷ []) last in
    rw (more, add)
    (AllZip-push (IsPlacingOf files places turns) (range_with_len 1 index) now (index + 1) placing before is)

-- ---- texts that place files
-- steps without a fault
steps_are_said : (number : ℕ) (place : Option (ℕ × List ℕ)) (text : List ℕ) (fault : TextFault) → fault_in place ≡ None →
    steps_if number place ≡ Some text → steps_said text ≡ Err fault → ⊥
steps_are_said number None text fault none e f = none-some text e
steps_are_said number (Some place) text fault none e f =
    by (place.0 == number) e
  where
    by : (here : Bool) → cond here (Some place.1) None ≡ Some text → ⊥
    by true e =
        let same : place.1 ≡ text = same_Some place.1 text e in
        none-some (Steps place.0 fault) (sym none ∙ ap (λ (t : List ℕ). steps_fault place.0 (steps_said t)) same ∙ ap (steps_fault place.0) f)
    by false e = none-some text e

both_none : {A : Type 0} (x y : Option A) → option_or x y ≡ None → (x ≡ None) × (y ≡ None)
both_none None y e = (refl, e)
both_none (Some x) y e = absurd (none-some x (sym e))

-- the steps of a file have no fault if no text has one
pub steps_have_no_fault : (files number : ℕ) (places : List (List ℕ)) (text : List ℕ) (fault : TextFault) →
    first_place_fault files places ≡ None → place_of files number places ≡ Some text → steps_said text ≡ Err fault → ⊥
steps_have_no_fault files number [] text fault none e f = none-some text e
steps_have_no_fault files number (place ∷ places) text fault none e f =
    let parts = both_none (place_fault files place) (first_place_fault files places) none in
    by (place_of files number places) (steps_are_said number (place_said files place) text fault parts.0)
    (λ h. steps_have_no_fault files number places text fault parts.1 h f) e
  where
    by : (later : Option (List ℕ)) → (steps_if number (place_said files place) ≡ Some text → steps_said text ≡ Err fault → ⊥) →
        (later ≡ Some text → ⊥) → option_or later (steps_if number (place_said files place)) ≡ Some text → ⊥
    by None here there e = here e f
    by (Some t) here there e = there e

-- the only fault that is left is want of memory
pub memory_is_left : (files number : ℕ) (places : List (List ℕ)) (text : List ℕ) (fault : TextFault) →
    first_place_fault files places ≡ None → place_of files number places ≡ Some text →
    (fault ≡ OutOfMemory) ⊎ (steps_said text ≡ Err fault) → fault ≡ OutOfMemory
memory_is_left files number places text fault none e (inl h) = h
memory_is_left files number places text fault none e (inr h) = absurd (steps_have_no_fault files number places text fault none e h)
