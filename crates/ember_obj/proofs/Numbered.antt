-- Corners by their numbers.
use Rattle.std.proofs.Common.{◌≡◌, ℕ, Bool, true, false, ◌<◌, ◌≤◌, ◌+◌, ◌*◌, ◌-◌, ◌^◌, List, length, drop, get_or, suc, arith, None}
use Rattle.std.specs.Prelude.{if◌then◌else◌, reverse}
use Rattle.std.proofs.lemmas.Bool.{ne_eqb}
use Rattle.std.proofs.lemmas.Option.{slice_get_past}
use Rattle.std.proofs.lemmas.List.{length-reverse}
use Rattle.ember_dec.specs.Digits.{number_from}
use Rattle.ember_dec.proofs.Numbers.{number_from-grows, number_from-drop}
use Rattle.ember_model.specs.declared.point.Corner.{Corner}
use Rattle.ember_obj.specs.References.{nth_corner}

-- a number that is too large stays so as digits follow
pub too_large : (v i : ℕ) (ds : List ℕ) → i < length ds → 2 ^ 64 ≤ v * 10 → 2 ^ 64 ≤ number_from v (drop i ds)
too_large v i ds h large = rw (number_from-drop v i ds h) (omega (arith, number_from-grows (v * 10 + (get_or ds i 0 - 48)) (drop (suc i) ds)))

-- if the digits so far spell a number of 2^64 or more, all digits do
pub too_large_so_far : (v i : ℕ) (ds : List ℕ) → i < length ds → 2 ^ 64 ≤ v * 10 + (get_or ds i 0 - 48) → 2 ^ 64 ≤ number_from v (drop i ds)
too_large_so_far v i ds h large = rw (number_from-drop v i ds h) (omega (arith, number_from-grows (v * 10 + (get_or ds i 0 - 48)) (drop (suc i) ds)))

counted_past_in : (corners : List Corner) (k : ℕ) → length corners < k → nth_corner corners k ≡ None
counted_past_in corners k past = rw (ne_eqb k 0 (λ e. omega arith)) (slice_get_past corners (k - 1) (omega arith))

-- no corner has a number above their count
pub counted_past : (corners : List Corner) (back : Bool) (k : ℕ) → length corners < k → nth_corner (if back then reverse corners else corners) k ≡ None
counted_past corners true k past = counted_past_in (reverse corners) k (omega (arith, length-reverse corners))
counted_past corners false k past = counted_past_in corners k past
