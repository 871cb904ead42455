-- The names of files in their folders, and the fronts of such names
use Rattle.std.proofs.Common.{◌≡◌, ℕ, ◌+◌, ◌-◌, ◌<◌, ◌≤◌, List, length, get_or, ap, sym, ◌∙◌, arith, Some}
use Rattle.std.specs.Prelude.{◌==◌, not, take, Bool, true, false}
use Rattle.std.specs.List.{suffix_len}
use Rattle.std.proofs.Math.Dec.{eqb_refl}
use Rattle.std.proofs.lemmas.Bool.{ne_eqb}
use Rattle.std.proofs.lemmas.List.Sums.{suffix_len_is, suffix_len-le-length}
use Rattle.std.specs.declared.option.Option.{Option}
use Rattle.mesh_outside.specs.Target.Targets.{length_in_folder}

abbrev is_in_name : ℕ → Bool
is_in_name byte = not (byte == 47)

other_bytes_are_in_names : (byte : ℕ) → ¬ (byte ≡ 47) → is_in_name byte ≡ true
other_bytes_are_in_names byte other = ap not (ne_eqb byte 47 other)

slashes_are_in_no_name : (byte : ℕ) → byte ≡ 47 → is_in_name byte ≡ false
slashes_are_in_no_name byte same = ap is_in_name same

-- a name begins behind the last slash
pub last_slash_begins_the_name : (path : List ℕ) (slash : ℕ) → slash < length path → get_or path slash 0 ≡ 47 →
    ((i : ℕ) → slash < i → i < length path → ¬ (get_or path i 0 ≡ 47)) → length path - slash - 1 ≡ length_in_folder path
last_slash_begins_the_name path slash inside is none =
    let back : slash + 1 - 1 ≡ slash = omega arith in
    let counted = suffix_len_is is_in_name path (slash + 1) 0 (omega (arith, inside))
    (λ k from below. other_bytes_are_in_names (get_or path k 0) (none k (omega (arith, from)) below))
    (λ _. slashes_are_in_no_name (get_or path (slash + 1 - 1) 0) (ap (λ i. get_or path i 0) back ∙ is)) in
    omega (arith, counted)

-- without a slash the path is the name
pub paths_without_slashes_are_names : (path : List ℕ) → ((i : ℕ) → i < length path → ¬ (get_or path i 0 ≡ 47)) →
    length path ≡ length_in_folder path
paths_without_slashes_are_names path none =
    let counted = suffix_len_is is_in_name path 0 0 (omega arith)
    (λ k _ below. other_bytes_are_in_names (get_or path k 0) (none k below)) (λ no. absurd (omega (arith, no))) in
    omega (arith, counted)

-- a name in a folder is no longer than its path
pub names_fit_in_their_paths : (path : List ℕ) → length_in_folder path ≤ length path
names_fit_in_their_paths path = suffix_len-le-length is_in_name path
