-- A command that was read is within the limits
use Rattle.std.proofs.Common.{◌≡◌, ◌<◌, ◌≤◌, ℕ, ℤ, pos, negsuc, neg_ℤ, unsigned_abs, Bool, true, false, not, ◌&&◌, List}
use Rattle.std.proofs.Common.{[], ◌∷◌, refl, Option, Some, None, Result, Ok, Err, cond, length, arith, codes, subst}
use Rattle.std.proofs.Common.{slice_index_or}
use Rattle.std.proofs.lemmas.Int.{ints}
use Rattle.std.proofs.lemmas.List.Sums.{AllPass-from_list_all}
use Rattle.clap.proofs.WalkLemmas.{both}
use Rattle.ember_words.specs.Limits.{is_in_range}
use Rattle.std.specs.Prelude.{All, IfOk, IfSome, ◌≤ℤ◌, ◌<ℤ◌, int_lt, nat_le, option_and_then}
use Rattle.std.specs.Bool.{Decides}
use Rattle.std.specs.Int.{IsInRange}
use Rattle.std.specs.List.{list_all}
use Rattle.std.proofs.lemmas.Bool.Decides.{nat_tests}
use Rattle.clap.specs.Kinds.{Kinds}
use Rattle.clap.specs.Walk.{Row, Text, all_of, first_of, is_empty}
use Rattle.ember_model.specs.declared.point.Spot.{Spot}
use Rattle.ember_model.specs.Valid.{IsValidSpot}
use Rattle.ember_words.specs.declared.command.Command.{Command}
use Rattle.ember_words.specs.declared.command.WordsFault.{WordsFault}
use Rattle.ember_words.specs.declared.verb.Verb.{Verb}
use Rattle.ember_words.specs.declared.verb.Verb.TheVariants.{Faces, At, Boole, Demo, Voxels, Pairs, Slice}
use Rattle.ember_words.specs.Limits.{are_names, as_height, as_spot, decimal_of, four_of, height_of, is_height, is_set}
use Rattle.ember_words.specs.Limits.{is_valid_spot, names_in_limits, nonempty_of, number_within, optional_of, parts_of}
use Rattle.ember_words.specs.Limits.{point_of, spot_of_four, spot_of_numbers, whole_of, within}
use Rattle.ember_words.specs.WordsCommand.{Reads, at_with, bool_with, command_of, demo_with, faces_with, files_in}
use Rattle.ember_words.specs.WordsCommand.{number_in, pairs_with, slice_with, taken_by, places_in, text_in}
use Rattle.ember_words.specs.WordsCommand.{unless_refused, command_of_rows, verb_of, voxels_with, workers_in}
use Rattle.ember_words.specs.Within.{AreNames, IsNonempty, IsWithinLimits}

and_then : {A B : Type 0} (P : B → Type 0) (f : A → Option B) → ((a : A) → IfSome (f a) P) → (o : Option A) → IfSome (option_and_then f o) P
and_then P f h None = tt
and_then P f h (Some a) = h a

within_range : (least most n : ℕ) → IfSome (within least most n) (IsInRange least most)
within_range least most n = go (nat_le least n && nat_le n most) refl
  where
    go : (b : Bool) → (nat_le least n && nat_le n most) ≡ b → IfSome (cond b (Some n) None) (IsInRange least most)
    go false e = tt
    go true e = (grind (arith, nat_tests), grind (arith, nat_tests))

number_range : (least most : ℕ) (text : Text) → IfSome (number_within least most text) (IsInRange least most)
number_range least most text = and_then (IsInRange least most) (within least most) (within_range least most) (decimal_of 9 text)

number_limits : (least most : ℕ) (id : Text) (rows : List Row) → IfSome (number_in least most id rows) (IsInRange least most)
number_limits least most id rows = and_then (IsInRange least most) (number_within least most) (number_range least most) (first_of id rows)

nonempty : (text : Text) → IfSome (nonempty_of text) IsNonempty
nonempty [] = tt
nonempty (b ∷ bs) = omega arith

text_limits : (id : Text) (rows : List Row) → IfSome (text_in id rows) IsNonempty
text_limits id rows = and_then IsNonempty nonempty_of nonempty (first_of id rows)

optional_limits : (o : Option Text) → IfSome (optional_of o) (λ text. IfSome text IsNonempty)
optional_limits None = tt
optional_limits (Some []) = tt
optional_limits (Some (b ∷ bs)) = omega arith

all_nonempty : (names : List Text) → list_all (λ name. not (is_empty name)) names ≡ true → All IsNonempty names
all_nonempty names h = λ i d low. one (slice_index_or names i d) (AllPass-from_list_all (λ name. not (is_empty name)) names h i d low)
  where
    one : (name : Text) → not (is_empty name) ≡ true → 0 < length name
    one [] e = cc
    one (b ∷ bs) e = omega arith

names_limits : (names : List Text) → IfSome (names_in_limits names) AreNames
names_limits names = go (are_names names) refl
  where
    go : (b : Bool) → are_names names ≡ b → IfSome (cond b (Some names) None) AreNames
    go false e = tt
    go true e =
        let two = both (nat_le (length names) 64) (list_all (λ name. not (is_empty name)) names) e in
        (grind (arith, nat_tests), all_nonempty names two.1)

height_within : (z : ℤ) → is_height z ≡ true → (neg_ℤ (pos 2048) ≤ℤ z) × (z ≤ℤ pos 2047)
height_within (pos n) e = (grind (arith, nat_tests, ints), grind (arith, nat_tests, ints))
height_within (negsuc n) e = (grind (arith, nat_tests, ints), grind (arith, nat_tests, ints))

height_range : (z : ℤ) → IfSome (as_height z) (λ h. (neg_ℤ (pos 2048) ≤ℤ h) × (h ≤ℤ pos 2047))
height_range z = go (is_height z) refl
  where
    go : (b : Bool) → is_height z ≡ b → IfSome (cond b (Some z) None) (λ h. (neg_ℤ (pos 2048) ≤ℤ h) × (h ≤ℤ pos 2047))
    go false e = tt
    go true e = height_within z e

small : (z : ℤ) → is_in_range z ≡ true → unsigned_abs z ≤ 1099511627775
small z e = grind (arith, nat_tests)

above : (z : ℤ) → int_lt (pos 0) z ≡ true → pos 0 <ℤ z
above (pos n) e = grind (arith, nat_tests, ints)
above (negsuc n) e = grind (arith, nat_tests, ints)

spot_valid : (p : Spot) → IfSome (as_spot p) IsValidSpot
spot_valid p = go (is_valid_spot p) refl
  where
    go : (b : Bool) → is_valid_spot p ≡ b → IfSome (cond b (Some p) None) IsValidSpot
    go false e = tt
    go true e =
        let x = both (is_in_range p.x) (is_in_range p.y && (is_in_range p.z && (is_in_range p.w && int_lt (pos 0) p.w))) e in
        let y = both (is_in_range p.y) (is_in_range p.z && (is_in_range p.w && int_lt (pos 0) p.w)) x.1 in
        let z = both (is_in_range p.z) (is_in_range p.w && int_lt (pos 0) p.w) y.1 in
        let w = both (is_in_range p.w) (int_lt (pos 0) p.w) z.1 in
        record {
          x = record { small = small p.x x.0 };
          y = record { small = small p.y y.0 };
          z = record { small = small p.z z.0 };
          w = record { small = small p.w w.0 };
          weight = above p.w w.1;
        }

tested_above : (z : ℤ) → pos 0 <ℤ z → int_lt (pos 0) z ≡ true
tested_above (pos n) h = grind (arith, nat_tests, ints)
tested_above (negsuc n) h = grind (arith, nat_tests, ints)

tested_small : (z : ℤ) → unsigned_abs z ≤ 1099511627775 → is_in_range z ≡ true
tested_small z h = grind (arith, nat_tests)

-- the test of a point is that of the model
pub spot_decides : (p : Spot) → Decides (is_valid_spot p) (IsValidSpot p)
spot_decides p = (
  λ e. rw e at (spot_valid p),
  λ v. rw (
    tested_small p.x v.x.small,
    tested_small p.y v.y.small,
    tested_small p.z v.z.small,
    tested_small p.w v.w.small,
    tested_above p.w v.weight,
  ) refl,
)

numbers_valid : (x y z w : Option ℤ) → IfSome (spot_of_numbers x y z w) IsValidSpot
numbers_valid None y z w = tt
numbers_valid (Some x) None z w = tt
numbers_valid (Some x) (Some y) None w = tt
numbers_valid (Some x) (Some y) (Some z) None = tt
numbers_valid (Some x) (Some y) (Some z) (Some w) = spot_valid (record { x = x; y = y; z = z; w = w })

point_valid : (text : Text) → IfSome (point_of text) IsValidSpot
point_valid text = and_then IsValidSpot spot_of_four
    (λ t. numbers_valid (whole_of 13 t.0) (whole_of 13 t.1) (whole_of 13 t.2) (whole_of 13 t.3)) (four_of (parts_of text))

height_limits : (text : Text) → IfSome (height_of text) (λ h. (neg_ℤ (pos 2048) ≤ℤ h) × (h ≤ℤ pos 2047))
height_limits text = and_then (λ h. (neg_ℤ (pos 2048) ≤ℤ h) × (h ≤ℤ pos 2047)) as_height height_range (whole_of 9 text)

places_limits : (rows : List Row) → IfSome (places_in rows) (λ n. n ≤ 3)
places_limits rows = go (places_in rows) (number_limits 0 3 (codes "places") rows)
  where
    go : (o : Option ℕ) → IfSome o (IsInRange 0 3) → IfSome o (λ n. n ≤ 3)
    go None h = tt
    go (Some n) h = h.1

-- ---- each command

faces_limits : (p : Option ℕ) (f : Option Text) → IfSome p (λ n. n ≤ 3) → IfSome f IsNonempty → IfSome (faces_with p f) IsWithinLimits
faces_limits None f hp hf = tt
faces_limits (Some p) None hp hf = tt
faces_limits (Some p) (Some f) hp hf = (hp, hf)

at_limits : (s : Option Spot) (e : Option (Option Text)) (p : Option ℕ) (f : Option (List Text)) →
    IfSome s IsValidSpot → IfSome e (λ text. IfSome text IsNonempty) → IfSome p (λ n. n ≤ 3)
    → IfSome f AreNames → IfSome (at_with s e p f) IsWithinLimits
at_limits None e p f hs he hp hf = tt
at_limits (Some s) None p f hs he hp hf = tt
at_limits (Some s) (Some e) None f hs he hp hf = tt
at_limits (Some s) (Some e) (Some p) None hs he hp hf = tt
at_limits (Some s) (Some e) (Some p) (Some f) hs he hp hf = (hs, he, hp, hf)

bool_limits : (e : Option Text) (w p : Option ℕ) (r : Bool) (f : Option (List Text)) → IfSome e IsNonempty →
    IfSome w (IsInRange 1 64) → IfSome p (λ n. n ≤ 3) → IfSome f AreNames
    → IfSome (bool_with e w p r f) IsWithinLimits
bool_limits None w p r f he hw hp hf = tt
bool_limits (Some e) None p r f he hw hp hf = tt
bool_limits (Some e) (Some w) None r f he hw hp hf = tt
bool_limits (Some e) (Some w) (Some p) r None he hw hp hf = tt
bool_limits (Some e) (Some w) (Some p) r (Some f) he hw hp hf = (he, hw, hp, hf)

demo_limits : (b w : Option ℕ) → IfSome b (IsInRange 1 20000) → IfSome w (IsInRange 1 64) → IfSome (demo_with b w) IsWithinLimits
demo_limits None w hb hw = tt
demo_limits (Some b) None hb hw = tt
demo_limits (Some b) (Some w) hb hw = (hb, hw)

voxels_limits : (e : Option Text) (s w p : Option ℕ) (f : Option (List Text)) → IfSome e IsNonempty →
    IfSome s (IsInRange 4 12) → IfSome w (IsInRange 1 64) → IfSome p (λ n. n ≤ 3)
    → IfSome f AreNames → IfSome (voxels_with e s w p f) IsWithinLimits
voxels_limits None s w p f he hs hw hp hf = tt
voxels_limits (Some e) None w p f he hs hw hp hf = tt
voxels_limits (Some e) (Some s) None p f he hs hw hp hf = tt
voxels_limits (Some e) (Some s) (Some w) None f he hs hw hp hf = tt
voxels_limits (Some e) (Some s) (Some w) (Some p) None he hs hw hp hf = tt
voxels_limits (Some e) (Some s) (Some w) (Some p) (Some f) he hs hw hp hf = (he, hs, hw, hp, hf)

pairs_limits : (w p : Option ℕ) (f : Option (List Text)) → IfSome w (IsInRange 1 64) → IfSome p (λ n. n ≤ 3) →
    IfSome f AreNames → IfSome (pairs_with w p f) IsWithinLimits
pairs_limits None p f hw hp hf = tt
pairs_limits (Some w) None f hw hp hf = tt
pairs_limits (Some w) (Some p) None hw hp hf = tt
pairs_limits (Some w) (Some p) (Some f) hw hp hf = (hw, hp, hf)

slice_limits : (h : Option ℤ) (f : Option Text) → IfSome h (λ h. (neg_ℤ (pos 2048) ≤ℤ h) × (h ≤ℤ pos 2047)) →
    IfSome f IsNonempty → IfSome (slice_with h f) IsWithinLimits
slice_limits None f hh hf = tt
slice_limits (Some h) None hh hf = tt
slice_limits (Some h) (Some f) hh hf = (hh.0, hh.1, hf)

files_limits : (rows : List Row) → IfSome (files_in rows) AreNames
files_limits rows = and_then AreNames names_in_limits names_limits (all_of (codes "files") rows)

workers_limits : (rows : List Row) → IfSome (workers_in rows) (IsInRange 1 64)
workers_limits rows = number_limits 1 64 (codes "workers") rows

values_limits : (v : Verb) (rows : List Row) → IfSome (command_of_rows v rows) IsWithinLimits
values_limits Faces rows = faces_limits (places_in rows) (text_in (codes "file") rows) (places_limits rows) (text_limits (codes "file") rows)
values_limits At rows =
    at_limits (option_and_then point_of (first_of (codes "point") rows)) (optional_of (first_of (codes "expr") rows)) (places_in rows) (files_in rows)
    (and_then IsValidSpot point_of point_valid (first_of (codes "point") rows))
    (optional_limits (first_of (codes "expr") rows)) (places_limits rows) (files_limits rows)
values_limits Boole rows =
    bool_limits (text_in (codes "expr") rows) (workers_in rows) (places_in rows)
    (is_set (first_of (codes "report") rows)) (files_in rows) (text_limits (codes "expr") rows) (workers_limits rows)
    (places_limits rows) (files_limits rows)
values_limits Demo rows = demo_limits (number_in 1 20000 (codes "boxes") rows) (workers_in rows)
    (number_limits 1 20000 (codes "boxes") rows) (workers_limits rows)
values_limits Voxels rows =
    voxels_limits (text_in (codes "expr") rows) (number_in 4 12 (codes "size") rows) (workers_in rows) (places_in rows)
    (files_in rows) (text_limits (codes "expr") rows)
    (number_limits 4 12 (codes "size") rows) (workers_limits rows) (places_limits rows) (files_limits rows)
values_limits Pairs rows = pairs_limits (workers_in rows) (places_in rows) (files_in rows) (workers_limits rows) (places_limits rows) (files_limits rows)
values_limits Slice rows =
    slice_limits (option_and_then height_of (first_of (codes "at") rows)) (text_in (codes "file") rows)
    (and_then (λ h. (neg_ℤ (pos 2048) ≤ℤ h) × (h ≤ℤ pos 2047)) height_of height_limits (first_of (codes "at") rows)) (text_limits (codes "file") rows)

unrefused : {T : Type 0} (P : T → Type 0) (kinds : Kinds) (value : Option T) → IfSome value P → IfSome (unless_refused kinds value) P
unrefused P [] value h = h
unrefused P (kind ∷ kinds) value h = tt

command_limits : (words : List Text) → IfSome (command_of words) IsWithinLimits
command_limits [] = tt
command_limits (name ∷ words) = and_then IsWithinLimits (λ v. taken_by v (name ∷ words)) (λ v. unrefused IsWithinLimits _ _ (values_limits v _)) (verb_of name)

-- a command that was read is within the limits
pub read_limits : (words : List Text) (result : Result Command WordsFault) → Reads (command_of words) result → IfOk result IsWithinLimits
read_limits words (Ok command) h = subst (λ (value : Option Command). IfSome value IsWithinLimits) h (command_limits words)
read_limits words (Err fault) h = tt
