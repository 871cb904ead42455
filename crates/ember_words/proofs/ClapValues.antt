-- What the getters of clap's matches give, as values of its rows
use Rattle.std.proofs.Common.{◌≡◌, Bool, true, false, ◌&&◌, refl, length, ◌<◌, ◌≤◌, arith, List, map, not, option_map}
use Rattle.std.specs.Borrow.{Bor}
use Rattle.std.specs.List.{list_all}
use Rattle.std.specs.Prelude.{nat_le}
use Rattle.std.proofs.lemmas.List.{length-map}
use Rattle.std.proofs.lemmas.Bool.Decides.{nat_tests}
use Rattle.ember_words.specs.Limits.{are_names}
use Rattle.std.proofs.lemmas.List.Folds.{list_all-map}
use Rattle.clap.specs.Walk.{Text, all_of, first_of, is_empty, rows_of}
use Rattle.clap.specs.Matches.{first_value, matched_of, raw_values}
use Rattle.clap.specs.declared.parser.matches.Found.{Found}
use Rattle.clap.proofs.WalkLemmas.{first_value-rows, raw_values-rows}

-- the first value of an argument is that of its row
pub first_value_rows : (f : Found) (id : Text) → first_value f id ≡ first_of id (rows_of f)
first_value_rows = first_value-rows

-- all values of an argument are those of its row
pub raw_values_rows : (f : Found) (id : Text) → option_map raw_values (matched_of f id) ≡ all_of id (rows_of f)
raw_values_rows = raw_values-rows

-- at most 64 names are file names exactly if none is empty
pub names_held : (names : List (Bor Text)) → length names ≤ 64 → are_names (map (λ name. name.now) names) ≡ list_all (λ name. not (is_empty name.now)) names
names_held names few =
    let same = list_all-map (λ name. not (is_empty name)) (λ (name : Bor Text). name.now) names in
    let fits : nat_le (length (map (λ (name : Bor Text). name.now) names)) 64 ≡ true = simp length-map (grind (arith, nat_tests)) in
    rw (fits, same) refl

-- more than 64 names aren't file names
pub too_many_names : (names : List (Bor Text)) → 64 < length names → nat_le (length names) 64 ≡ are_names (map (λ name. name.now) names)
too_many_names names many =
    let few : nat_le (length names) 64 ≡ false = grind (arith, nat_tests) in
    let fits : nat_le (length (map (λ (name : Bor Text). name.now) names)) 64 ≡ false = simp length-map few in
    rw (few, fits) refl

-- the first part of a true conjunction is true
pub first_half : (a b : Bool) → (a && b) ≡ true → a ≡ true
first_half true b h = refl
first_half false b h = h
