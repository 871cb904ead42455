-- Steps, one after another
use Rattle.std.proofs.Common.{◌≡◌, ◌<◌, ◌≤◌, ℕ, ◌+◌, Bool, true, false, List, [], ◌∷◌, ◌++◌, length, take, drop, get_or, refl, sym, ap, subst}
use Rattle.std.proofs.Common.{◌∙◌, arith, nat_le, Option, None, Some}
use Rattle.std.proofs.lemmas.Bool.Decides.{nat_tests}
use Rattle.std.proofs.lemmas.List.{take_more, drop_more, drop_all, take_all}
use Rattle.ember_algebra.specs.Relations.{Chain}
use Rattle.ember_algebra.proofs.Relations.{chain_push}
use Rattle.mesh_place.specs.declared.maps.steps.Step.{Step}
use Rattle.mesh_place.specs.declared.maps.steps.StepsFault.TheVariants.{TooLong, TooFine}
use Rattle.mesh_place.specs.AffineMaps.{Affine, identity, composed}
use Rattle.mesh_place.specs.Steps.{IsMapOf, Leads, IsMapOfSteps, is_short_step, places_of_step, fault_from}

pub placing_more : (steps : List Step) (i : ℕ) (s : Step) (before after map : Affine) → i < length steps → s ≡ get_or steps i s →
    IsMapOfSteps (take i steps) before → IsMapOf s map → after ≡ composed map before → IsMapOfSteps (take (i + 1) steps) after
placing_more steps i s before after map h read placed is then_it =
    let more : take (i + 1) steps ≡ take i steps ++ s ∷ [] =
    take_more steps i s h ∙ ap (λ (x : Step). take i steps ++ x ∷ []) (sym read) in
    subst (λ (xs : List Step). Chain Leads xs identity after) (sym more)
    (chain_push placed (record { map = map; is = is; then_it = then_it }))

pub placing_all : (steps : List Step) (i : ℕ) (a : Affine) → length steps ≤ i → IsMapOfSteps (take i steps) a → IsMapOfSteps steps a
placing_all steps i a h placed = subst (λ (xs : List Step). Chain Leads xs identity a) (take_all i steps h) placed

in_front : (steps : List Step) (i : ℕ) (s : Step) → i < length steps → s ≡ get_or steps i s → drop i steps ≡ s ∷ drop (i + 1) steps
in_front steps i s h read = drop_more steps i s h ∙ ap (λ (x : Step). x ∷ drop (i + 1) steps) (sym read)

pub fault_more : (steps : List Step) (i places : ℕ) (s : Step) → i < length steps → s ≡ get_or steps i s → is_short_step s ≡ true →
    places + places_of_step s ≤ 4999 →
    fault_from i places (drop i steps) ≡ fault_from (i + 1) (places + places_of_step s) (drop (i + 1) steps)
fault_more steps i places s h read short few =
    let test : nat_le (places + places_of_step s) 4999 ≡ true = grind (arith, nat_tests) in
    ap (fault_from i places) (in_front steps i s h read) ∙ rw (short, test) refl

pub fault_long : (steps : List Step) (i places : ℕ) (s : Step) → i < length steps → s ≡ get_or steps i s → is_short_step s ≡ false →
    fault_from i places (drop i steps) ≡ Some (TooLong i)
fault_long steps i places s h read long = ap (fault_from i places) (in_front steps i s h read) ∙ rw long refl

pub fault_fine : (steps : List Step) (i places : ℕ) (s : Step) → i < length steps → s ≡ get_or steps i s → is_short_step s ≡ true →
    4999 < places + places_of_step s → fault_from i places (drop i steps) ≡ Some (TooFine i)
fault_fine steps i places s h read short many =
    let test : nat_le (places + places_of_step s) 4999 ≡ false = grind (arith, nat_tests) in
    ap (fault_from i places) (in_front steps i s h read) ∙ rw (short, test) refl

pub no_fault_left : (steps : List Step) (i places : ℕ) → length steps ≤ i → fault_from i places (drop i steps) ≡ None
no_fault_left steps i places h = ap (fault_from i places) (drop_all i steps h)
