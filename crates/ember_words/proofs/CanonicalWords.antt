-- Canonical words are read as the command of their values
use Rattle.std.proofs.Common.{◌≡◌, ◌∙◌, ◌<◌, ◌-◌, ◌^◌, Bool, true, false, codes, List, [], ◌∷◌, ◌++◌, refl, Option}
use Rattle.std.proofs.Common.{Some, None, Result, ap, subst, length, arith}
use Rattle.std.proofs.lemmas.Bool.Decides.{nat_tests}
use Rattle.clap.specs.Lexer.{usize_max}
use Rattle.clap.specs.Walk.{Row, Text, walk_from, nothing_held}
use Rattle.clap.specs.Simple.{Shape, built}
use Rattle.clap.specs.Kinds.{range_kinds, values_kinds}
use Rattle.clap.specs.Faults.{defaults_fault}
use Rattle.clap.specs.declared.builder.value_parser.ValueParser.TheVariants.{String}
use Rattle.ember_words.specs.declared.command.Command.{Command}
use Rattle.ember_words.specs.declared.command.WordsFault.{WordsFault}
use Rattle.ember_words.specs.declared.verb.Verb.{Verb}
use Rattle.ember_words.specs.declared.verb.Verb.TheVariants.{Faces, At, Boole, Demo, Voxels, Pairs, Slice}
use Rattle.ember_words.specs.WordsCommand.{Reads, app_for, command_of, taken_by}
use Rattle.ember_words.specs.Canonical.{Given, IsCanonical, CommandLine, arguments_of, command_of_line, words_of}
use Rattle.ember_words.specs.Canonical.{faces_line, at_line, bool_line, demo_line, voxels_line, pairs_line, slice_line}
use Rattle.ember_words.proofs.OptionWalk.{IsFlag, IsOption, Reaches, at_word, at_words, walk_begins, flag_gives}
use Rattle.ember_words.proofs.OptionWalk.{flag_rows, given_rows, option_gives, still_new, word_ends, words_end}

abbrev top_of : Verb → Shape
top_of v = (built (app_for v)).top

-- ---- faces

faces_places : IsOption (top_of Faces) (codes "file") (codes "places") false (codes "0" ∷ [])
faces_places = record { dashes = λ rest. refl; dash = refl; attached = λ value. refl; apart = refl; by_long = refl; by_id = refl; itself = refl; other = refl }

faces_read : (words : List Text) (places : Option Given) (file : Text) →
    Reaches (top_of Faces) (walk_from nothing_held) words
    (at_word (codes "file") (given_rows (codes "places") places) file)
    → taken_by Faces (codes "faces" ∷ words) ≡ command_of_line (faces_line places file)
unfolding defaults_fault
faces_read words None file r = simp (r.walks, r.free)
faces_read words (Some places) file r = simp (r.walks, r.free)

faces_taken : (places : Option Given) (file : Text) → IsCanonical (faces_line places file) →
    command_of (words_of (faces_line places file)) ≡ command_of_line (faces_line places file)
faces_taken places file h =
    let options = option_gives (top_of Faces) (codes "file") (codes "places") false (codes "0" ∷ []) faces_places
    (walk_from nothing_held) [] [] places (walk_begins (top_of Faces) (codes "file")) refl h.0 in
    faces_read (arguments_of (faces_line places file)) places file
    (word_ends (top_of Faces) (codes "file") (record { by_index = refl; itself = refl }) (walk_from nothing_held) _ _ file options h.1)

-- ---- demo

demo_workers : IsOption (top_of Demo) (codes "boxes") (codes "workers") false (codes "1" ∷ [])
demo_workers = record { dashes = λ rest. refl; dash = refl; attached = λ value. refl; apart = refl; by_long = refl; by_id = refl; itself = refl; other = refl }

demo_read : (words : List Text) (workers : Option Given) (boxes : Text) →
    Reaches (top_of Demo) (walk_from nothing_held) words
    (at_word (codes "boxes") (given_rows (codes "workers") workers) boxes)
    → taken_by Demo (codes "demo" ∷ words) ≡ command_of_line (demo_line workers boxes)
unfolding defaults_fault
demo_read words None boxes r = simp (r.walks, r.free)
demo_read words (Some workers) boxes r = simp (r.walks, r.free)

demo_taken : (workers : Option Given) (boxes : Text) → IsCanonical (demo_line workers boxes) →
    command_of (words_of (demo_line workers boxes)) ≡ command_of_line (demo_line workers boxes)
demo_taken workers boxes h =
    let options = option_gives (top_of Demo) (codes "boxes") (codes "workers") false (codes "1" ∷ []) demo_workers
    (walk_from nothing_held) [] [] workers (walk_begins (top_of Demo) (codes "boxes")) refl h.0 in
    demo_read (arguments_of (demo_line workers boxes)) workers boxes
    (word_ends (top_of Demo) (codes "boxes") (record { by_index = refl; itself = refl }) (walk_from nothing_held) _ _ boxes options h.1)

-- ---- slice

slice_at : IsOption (top_of Slice) (codes "file") (codes "at") true []
slice_at = record { dashes = λ rest. refl; dash = refl; attached = λ value. refl; apart = refl; by_long = refl; by_id = refl; itself = refl; other = refl }

slice_read : (words : List Text) (height : Given) (file : Text) →
    Reaches (top_of Slice) (walk_from nothing_held) words
    (at_word (codes "file") (given_rows (codes "at") (Some height)) file)
    → taken_by Slice (codes "slice" ∷ words) ≡ command_of_line (slice_line height file)
unfolding defaults_fault
slice_read words height file r = simp (r.walks, r.free)

slice_taken : (height : Given) (file : Text) → IsCanonical (slice_line height file) →
    command_of (words_of (slice_line height file)) ≡ command_of_line (slice_line height file)
slice_taken height file h =
    let options = option_gives (top_of Slice) (codes "file") (codes "at") true [] slice_at (walk_from nothing_held) []
    [] (Some height) (walk_begins (top_of Slice) (codes "file")) refl h.0 in
    slice_read (arguments_of (slice_line height file)) height file
    (word_ends (top_of Slice) (codes "file") (record { by_index = refl; itself = refl }) (walk_from nothing_held) _ _ file options h.1)

-- ---- several files

none_past : (file : Text) (more : List Text) → length more < 2 ^ 64 - 1 → range_kinds 1 usize_max (length (file ∷ more)) ≡ []
none_past file more few = grind (arith, nat_tests)

all_read : (words : List Text) → values_kinds false String words ≡ []
all_read [] = refl
all_read (word ∷ words) = all_read words

-- ---- pairs

pairs_workers : IsOption (top_of Pairs) (codes "files") (codes "workers") false (codes "1" ∷ [])
pairs_workers = record { dashes = λ rest. refl; dash = refl; attached = λ value. refl; apart = refl; by_long = refl; by_id = refl; itself = refl; other = refl }

pairs_places : IsOption (top_of Pairs) (codes "files") (codes "places") false (codes "0" ∷ [])
pairs_places = record { dashes = λ rest. refl; dash = refl; attached = λ value. refl; apart = refl; by_long = refl; by_id = refl; itself = refl; other = refl }

pairs_read : (words : List Text) (workers places : Option Given) (file : Text) (more : List Text) → length more < 2 ^ 64 - 1
    → Reaches (top_of Pairs) (walk_from nothing_held) words
    (at_words (codes "files") (given_rows (codes "workers") workers ++ given_rows (codes "places") places)
    (file ∷ more))
    → taken_by Pairs (codes "pairs" ∷ words) ≡ command_of_line (pairs_line workers places file more)
unfolding defaults_fault
pairs_read words None None file more few r = simp (r.walks, r.free, none_past file more few, all_read (file ∷ more))
pairs_read words None (Some places) file more few r = simp (r.walks, r.free, none_past file more few, all_read (file ∷ more))
pairs_read words (Some workers) None file more few r = simp (r.walks, r.free, none_past file more few, all_read (file ∷ more))
pairs_read words (Some workers) (Some places) file more few r = simp (r.walks, r.free, none_past file more few, all_read (file ∷ more))

pairs_taken : (workers places : Option Given) (file : Text) (more : List Text) → IsCanonical (pairs_line workers places file more)
    → command_of (words_of (pairs_line workers places file more)) ≡ command_of_line (pairs_line workers places file more)
pairs_taken workers places file more h =
    let s = top_of Pairs in
    let last = codes "files" in
    let counted = option_gives s last (codes "workers") false (codes "1" ∷ []) pairs_workers (walk_from nothing_held) []
    [] workers (walk_begins s last) refl h.0 in
    let placed =
    option_gives s last (codes "places") false (codes "0" ∷ []) pairs_places (walk_from nothing_held) _ _ places counted
    (still_new (codes "places") (codes "workers") [] workers refl refl) h.1 in
    pairs_read (arguments_of (pairs_line workers places file more)) workers places file more h.2.2
    (words_end s last (record { by_index = refl; itself = refl }) (walk_from nothing_held) _ _ file more placed h.2.0 h.2.1)

-- ---- at

at_point : IsOption (top_of At) (codes "files") (codes "point") true []
at_point = record { dashes = λ rest. refl; dash = refl; attached = λ value. refl; apart = refl; by_long = refl; by_id = refl; itself = refl; other = refl }

at_expr : IsOption (top_of At) (codes "files") (codes "expr") false []
at_expr = record { dashes = λ rest. refl; dash = refl; attached = λ value. refl; apart = refl; by_long = refl; by_id = refl; itself = refl; other = refl }

at_places : IsOption (top_of At) (codes "files") (codes "places") false (codes "0" ∷ [])
at_places = record { dashes = λ rest. refl; dash = refl; attached = λ value. refl; apart = refl; by_long = refl; by_id = refl; itself = refl; other = refl }

at_read : (words : List Text) (point : Given) (expr places : Option Given) (file : Text) (more : List Text) → length more < 2 ^ 64 - 1
    → Reaches (top_of At) (walk_from nothing_held) words
    (at_words (codes "files") ((given_rows (codes "point") (Some point) ++ given_rows (codes "expr") expr) ++ given_rows (codes "places") places) (file ∷ more))
    → taken_by At (codes "at" ∷ words) ≡ command_of_line (at_line point expr places file more)
unfolding defaults_fault
at_read words point None None file more few r = simp (r.walks, r.free, none_past file more few, all_read (file ∷ more))
at_read words point None (Some places) file more few r = simp (r.walks, r.free, none_past file more few, all_read (file ∷ more))
at_read words point (Some expr) None file more few r = simp (r.walks, r.free, none_past file more few, all_read (file ∷ more))
at_read words point (Some expr) (Some places) file more few r = simp (r.walks, r.free, none_past file more few, all_read (file ∷ more))

at_taken : (point : Given) (expr places : Option Given) (file : Text) (more : List Text) → IsCanonical (at_line point expr places file more)
    → command_of (words_of (at_line point expr places file more)) ≡ command_of_line (at_line point expr places file more)
at_taken point expr places file more h =
    let s = top_of At in
    let last = codes "files" in
    let pointed = option_gives s last (codes "point") true [] at_point (walk_from nothing_held) [] [] (Some point) (walk_begins s last) refl h.0 in
    let asked = option_gives s last (codes "expr") false [] at_expr (walk_from nothing_held) _ _ expr pointed refl h.1 in
    let placed =
    option_gives s last (codes "places") false (codes "0" ∷ []) at_places (walk_from nothing_held) _ _ places asked
    (still_new (codes "places") (codes "expr") (given_rows (codes "point") (Some point)) expr refl refl) h.2 in
    at_read (arguments_of (at_line point expr places file more)) point expr places file more h.3.2
    (words_end s last (record { by_index = refl; itself = refl }) (walk_from nothing_held) _ _ file more placed h.3.0 h.3.1)

-- ---- bool

bool_expr : IsOption (top_of Boole) (codes "files") (codes "expr") true []
bool_expr = record { dashes = λ rest. refl; dash = refl; attached = λ value. refl; apart = refl; by_long = refl; by_id = refl; itself = refl; other = refl }

bool_workers : IsOption (top_of Boole) (codes "files") (codes "workers") false (codes "1" ∷ [])
bool_workers = record { dashes = λ rest. refl; dash = refl; attached = λ value. refl; apart = refl; by_long = refl; by_id = refl; itself = refl; other = refl }

bool_places : IsOption (top_of Boole) (codes "files") (codes "places") false (codes "0" ∷ [])
bool_places = record { dashes = λ rest. refl; dash = refl; attached = λ value. refl; apart = refl; by_long = refl; by_id = refl; itself = refl; other = refl }

bool_report : IsFlag (top_of Boole) (codes "report")
bool_report = record { dash = refl; apart = refl; by_long = refl }

bool_read : (words : List Text) (expr : Given) (workers places : Option Given) (report : Bool) (file : Text) (more : List Text) → length more < 2 ^ 64 - 1
    → Reaches (top_of Boole) (walk_from nothing_held) words
    (at_words (codes "files")
    (((given_rows (codes "expr") (Some expr) ++ given_rows (codes "workers") workers)
    ++ given_rows (codes "places") places) ++ flag_rows (codes "report") report) (file ∷ more))
    → taken_by Boole (codes "bool" ∷ words) ≡ command_of_line (bool_line expr workers places report file more)
unfolding defaults_fault
bool_read words expr None None false file more few r = simp (r.walks, r.free, none_past file more few, all_read (file ∷ more))
bool_read words expr None None true file more few r = simp (r.walks, r.free, none_past file more few, all_read (file ∷ more))
bool_read words expr None (Some places) false file more few r = simp (r.walks, r.free, none_past file more few, all_read (file ∷ more))
bool_read words expr None (Some places) true file more few r = simp (r.walks, r.free, none_past file more few, all_read (file ∷ more))
bool_read words expr (Some workers) None false file more few r = simp (r.walks, r.free, none_past file more few, all_read (file ∷ more))
bool_read words expr (Some workers) None true file more few r = simp (r.walks, r.free, none_past file more few, all_read (file ∷ more))
bool_read words expr (Some workers) (Some places) false file more few r = simp (r.walks, r.free, none_past file more few, all_read (file ∷ more))
bool_read words expr (Some workers) (Some places) true file more few r = simp (r.walks, r.free, none_past file more few, all_read (file ∷ more))

bool_taken : (expr : Given) (workers places : Option Given) (report : Bool) (file : Text) (more : List Text) →
    IsCanonical (bool_line expr workers places report file more)
    → command_of (words_of (bool_line expr workers places report file more)) ≡ command_of_line (bool_line expr workers places report file more)
bool_taken expr workers places report file more h =
    let s = top_of Boole in
    let last = codes "files" in
    let e : List Row = given_rows (codes "expr") (Some expr) in
    let w : List Row = e ++ given_rows (codes "workers") workers in
    let asked = option_gives s last (codes "expr") true [] bool_expr (walk_from nothing_held) [] [] (Some expr) (walk_begins s last) refl h.0 in
    let counted = option_gives s last (codes "workers") false (codes "1" ∷ []) bool_workers (walk_from nothing_held) _ _ workers asked refl h.1 in
    let placed =
    option_gives s last (codes "places") false (codes "0" ∷ []) bool_places (walk_from nothing_held) _ _ places counted
    (still_new (codes "places") (codes "workers") e workers refl refl) h.2 in
    let flagged =
    flag_gives s last (codes "report") bool_report (walk_from nothing_held) _ _ report placed
    (still_new (codes "report") (codes "places") w places refl (still_new (codes "report") (codes "workers") e workers refl refl)) in
    bool_read (arguments_of (bool_line expr workers places report file more)) expr workers places report file more h.3.2
    (words_end s last (record { by_index = refl; itself = refl }) (walk_from nothing_held) _ _ file more flagged h.3.0 h.3.1)

-- ---- voxels

voxels_expr : IsOption (top_of Voxels) (codes "files") (codes "expr") true []
voxels_expr = record { dashes = λ rest. refl; dash = refl; attached = λ value. refl; apart = refl; by_long = refl; by_id = refl; itself = refl; other = refl }

voxels_size : IsOption (top_of Voxels) (codes "files") (codes "size") true []
voxels_size = record { dashes = λ rest. refl; dash = refl; attached = λ value. refl; apart = refl; by_long = refl; by_id = refl; itself = refl; other = refl }

voxels_workers : IsOption (top_of Voxels) (codes "files") (codes "workers") false (codes "1" ∷ [])
voxels_workers = record {
  dashes = λ rest. refl;
  dash = refl;
  attached = λ value. refl;
  apart = refl;
  by_long =
      refl;
  by_id = refl;
  itself = refl;
  other = refl;
}

voxels_places : IsOption (top_of Voxels) (codes "files") (codes "places") false (codes "0" ∷ [])
voxels_places = record { dashes = λ rest. refl; dash = refl; attached = λ value. refl; apart = refl; by_long = refl; by_id = refl; itself = refl; other = refl }

voxels_read : (words : List Text) (expr size : Given) (workers places : Option Given) (file : Text) (more : List Text) → length more < 2 ^ 64 - 1
    → Reaches (top_of Voxels) (walk_from nothing_held) words
    (at_words (codes "files")
    (((given_rows (codes "expr") (Some expr) ++ given_rows (codes "size") (Some size))
    ++ given_rows (codes "workers") workers) ++ given_rows (codes "places") places) (file ∷ more))
    → taken_by Voxels (codes "voxels" ∷ words) ≡ command_of_line (voxels_line expr size workers places file more)
unfolding defaults_fault
voxels_read words expr size None None file more few r = simp (r.walks, r.free, none_past file more few, all_read (file ∷ more))
voxels_read words expr size None (Some places) file more few r = simp (r.walks, r.free, none_past file more few, all_read (file ∷ more))
voxels_read words expr size (Some workers) None file more few r = simp (r.walks, r.free, none_past file more few, all_read (file ∷ more))
voxels_read words expr size (Some workers) (Some places) file more few r = simp (r.walks, r.free, none_past file more few, all_read (file ∷ more))

voxels_taken : (expr size : Given) (workers places : Option Given) (file : Text) (more : List Text) →
    IsCanonical (voxels_line expr size workers places file more)
    → command_of (words_of (voxels_line expr size workers places file more)) ≡ command_of_line (voxels_line expr size workers places file more)
voxels_taken expr size workers places file more h =
    let s = top_of Voxels in
    let last = codes "files" in
    let e : List Row = given_rows (codes "expr") (Some expr) ++ given_rows (codes "size") (Some size) in
    let asked = option_gives s last (codes "expr") true [] voxels_expr (walk_from nothing_held) [] [] (Some expr) (walk_begins s last) refl h.0 in
    let sized = option_gives s last (codes "size") true [] voxels_size (walk_from nothing_held) _ _ (Some size) asked refl h.1 in
    let counted = option_gives s last (codes "workers") false (codes "1" ∷ []) voxels_workers (walk_from nothing_held) _ _ workers sized refl h.2 in
    let placed =
    option_gives s last (codes "places") false (codes "0" ∷ []) voxels_places (walk_from nothing_held) _ _ places counted
    (still_new (codes "places") (codes "workers") e workers refl refl) h.3 in
    voxels_read (arguments_of (voxels_line expr size workers places file more)) expr size workers places file more h.4.2
    (words_end s last (record { by_index = refl; itself = refl }) (walk_from nothing_held) _ _ file more placed h.4.0 h.4.1)

-- ---- each line

canonical : (line : CommandLine) → IsCanonical line → command_of (words_of line) ≡ command_of_line line
canonical (faces_line places file) h = faces_taken places file h
canonical (at_line point expr places file more) h = at_taken point expr places file more h
canonical (bool_line expr workers places report file more) h = bool_taken expr workers places report file more h
canonical (demo_line workers boxes) h = demo_taken workers boxes h
canonical (voxels_line expr size workers places file more) h = voxels_taken expr size workers places file more h
canonical (pairs_line workers places file more) h = pairs_taken workers places file more h
canonical (slice_line height file) h = slice_taken height file h

-- canonical words are read as the command of their values
pub canonical_reads : (words : List Text) (result : Result Command WordsFault) → Reads (command_of words) result
    → (line : CommandLine) → IsCanonical line → words ≡ words_of line → Reads (command_of_line line) result
canonical_reads words result reads line h is = subst (λ (value : Option Command). Reads value result) (ap command_of is ∙ canonical line h) reads
