-- Texts cut at a byte
use Rattle.std.proofs.Common.{◌≡◌, ℕ, ◌==◌, Bool, true, false, List, [], ◌∷◌, ◌++◌, refl, sym, ap, ◌∙◌, if◌then◌else◌, map, length, arith, ◌+◌}
use Rattle.std.proofs.Common.{Option, None, Some, Result, Ok, Err}
use Rattle.std.proofs.lemmas.List.{map-append, append_assoc, append-nil, length-append}
use Rattle.ember_obj.specs.Scan.{onward}
use Rattle.mesh_placing.specs.declared.words.TextFault.{TextFault}
use Rattle.mesh_place.specs.declared.maps.steps.Step.{Step}
use Rattle.mesh_placing.specs.Words.{Said, said_by, behind, behind_first, part_before, parts_by, onto_first, step_said, steps_in, before_others}

-- the parts of what is left of a text, if anything is
abbrev pub parts_left : ℕ → Option (List ℕ) → List (List ℕ)
parts_left stop None = []
parts_left stop (Some text) = parts_by stop text

onto : (b : ℕ) (first : List ℕ) (rest parts : List (List ℕ)) → parts ≡ first ∷ rest → onto_first b parts ≡ (b ∷ first) ∷ rest
onto b first rest parts e = ap (onto_first b) e

-- the first part of a text, and the others
pub parts_cut : (stop : ℕ) (text : List ℕ) → parts_by stop text ≡ part_before stop text ∷ parts_left stop (behind stop text)
parts_cut stop [] = refl
parts_cut stop (b ∷ bs) =
    elim (b == stop) as (λ (here : Bool). (if here then [] ∷ parts_by stop bs else onto_first b (parts_by stop bs))
    ≡ (if here then [] else b ∷ part_before stop bs) ∷ parts_left stop (behind_first (if here then b ∷ bs else onward (λ c. c == stop) bs)))
    [ true ↦ refl | false ↦ onto b (part_before stop bs) (parts_left stop (behind stop bs)) (parts_by stop bs) (parts_cut stop bs) ]

-- ---- steps, one after another
-- the steps that are read, in front of those that follow
abbrev pub steps_behind : List Said → Result (List Said) TextFault → Result (List Said) TextFault
steps_behind read (Err fault) = Err fault
steps_behind read (Ok others) = Ok (read ++ others)

steps_joined : (read new : List Said) (said : Said) (rest : Result (List Said) TextFault) → new ≡ read ++ said ∷ [] →
    steps_behind read (before_others (Ok said) rest) ≡ steps_behind new rest
steps_joined read new said (Err fault) e = refl
steps_joined read new said (Ok others) e = ap Ok (sym (append_assoc read (said ∷ []) others) ∙ ap (λ (xs : List Said). xs ++ others) (sym e))

-- a step more
pub steps_more : (all : Result (List Said) TextFault) (now new : List Step) (s : Step) (text first : List ℕ) (rest : Option (List ℕ)) →
    all ≡ steps_behind (map said_by now) (steps_in (length now) (parts_by 59 text)) →
    first ≡ part_before 59 text → rest ≡ behind 59 text → step_said (length now) first ≡ Ok (said_by s) → new ≡ now ++ s ∷ [] →
    all ≡ steps_behind (map said_by new) (steps_in (length new) (parts_left 59 rest))
steps_more all now new s text first rest so_far front others said add =
    let parts : parts_by 59 text ≡ first ∷ parts_left 59 rest =
    parts_cut 59 text ∙ ap (λ (xs : List ℕ). xs ∷ parts_left 59 (behind 59 text)) (sym front) ∙ ap (λ (o : Option (List ℕ)). first ∷ parts_left 59 o) (sym others) in
    let count : length now + 1 ≡ length new = omega (arith, ap length add, length-append now (s ∷ [])) in
    let added : map said_by new ≡ map said_by now ++ said_by s ∷ [] = ap (map said_by) add ∙ map-append said_by now (s ∷ []) in
    so_far
    ∙ ap (λ (ps : List (List ℕ)). steps_behind (map said_by now) (steps_in (length now) ps)) parts
    ∙ ap (λ (r : Result Said TextFault). steps_behind (map said_by now) (before_others r (steps_in (length now + 1) (parts_left 59 rest)))) said
    ∙ steps_joined (map said_by now) (map said_by new) (said_by s) (steps_in (length now + 1) (parts_left 59 rest)) added
    ∙ ap (λ (n : ℕ). steps_behind (map said_by new) (steps_in n (parts_left 59 rest))) count

-- a fault
pub steps_refused : (all : Result (List Said) TextFault) (now : List Step) (fault : TextFault) (text first : List ℕ) →
    all ≡ steps_behind (map said_by now) (steps_in (length now) (parts_by 59 text)) →
    first ≡ part_before 59 text → step_said (length now) first ≡ Err fault → all ≡ Err fault
steps_refused all now fault text first so_far front said =
    so_far
    ∙ ap (λ (ps : List (List ℕ)). steps_behind (map said_by now) (steps_in (length now) ps)) (parts_cut 59 text)
    ∙ ap (λ (xs : List ℕ). steps_behind (map said_by now) (before_others (step_said (length now) xs) (steps_in (length now + 1) (parts_left 59 (behind 59 text))))) (sym front)
    ∙ ap (λ (r : Result Said TextFault). steps_behind (map said_by now) (before_others r (steps_in (length now + 1) (parts_left 59 (behind 59 text))))) said

-- all steps
pub steps_read : (all : Result (List Said) TextFault) (now : List Step) →
    all ≡ steps_behind (map said_by now) (steps_in (length now) (parts_left 59 None)) → all ≡ Ok (map said_by now)
steps_read all now so_far = so_far ∙ ap Ok (append-nil (map said_by now))
