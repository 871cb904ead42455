-- Arguments that are spelled as words are read back
use Rattle.std.proofs.Common.{◌≡◌, ℕ, ◌+◌, ◌==◌, Bool, true, false, List, [], ◌∷◌, Option, Some, None, Result, Ok, option_map, refl, ap, sym, subst, ◌∙◌, cond}
use Rattle.std.specs.Prelude.{option_and_then, codes, ◌&&◌, not}
use Rattle.std.specs.Str.{bytes_eq}
use Rattle.std.proofs.lemmas.Bool.{false≢true}
use Rattle.std.proofs.lemmas.Slice.Eq.{bytes_eq-Decides}
use Rattle.ember_dec.specs.Decimal.{is_minus}
use Rattle.mesh_words.specs.declared.command.Command.{Command}
use Rattle.mesh_words.specs.declared.faults.Refusal.{Refusal}
use Rattle.mesh_words.specs.declared.faults.WordsFault.{WordsFault}
use Rattle.mesh_words.specs.declared.names.Operation.{Operation}
use Rattle.mesh_words.specs.declared.names.Operation.TheVariants as operation
use Rattle.mesh_words.specs.declared.names.Setting.{Setting}
use Rattle.mesh_words.specs.declared.names.Setting.TheVariants as setting
use Rattle.mesh_words.specs.declared.arguments.Argument.{Argument}
use Rattle.mesh_words.specs.declared.arguments.Argument.TheVariants.{File, Value, Quiet, Json, Help}
use Rattle.mesh_words.specs.declared.arguments.WordMeaning.{WordMeaning}
use Rattle.mesh_words.specs.declared.arguments.WordMeaning.TheVariants.{Whole, Waiting, Unknown}
use Rattle.mesh_words.specs.Names.{Text, setting_of}
use Rattle.mesh_words.specs.Arguments.{in_front, parts_of, with_value, attached_in, is_help, is_json, said, said_by}
use Rattle.mesh_words.specs.Arguments.{waiting_in, prepend, arguments_with, arguments_from}
use Rattle.mesh_words.specs.Commands.{Reads, command_of, command_with, snap_command, export_command, view_command}
use Rattle.mesh_words.specs.Spelling.{name_of, option_of, spelling_of, AreSpelled}
use Rattle.mesh_words.specs.Streams.{is_option_word, is_stream}

-- ---- one word
option_waits : (s : Setting) → Waiting s ≡ said None (option_of s)
option_waits setting.Expression = refl
option_waits setting.Output = refl
option_waits setting.Format = refl
option_waits setting.Step = refl
option_waits setting.Workers = refl
option_waits setting.Digits = refl
option_waits setting.Folder = refl
option_waits setting.Scene = refl
option_waits setting.Page = refl
option_waits setting.Keep = refl
option_waits setting.Place = refl
option_waits setting.Turn = refl

-- a word that doesn't begin with a hyphen has no option before an equals sign
not_attached : (b : ℕ) (bs : List ℕ) → (b == 45) ≡ false → attached_in (b ∷ bs) ≡ None
not_attached b bs h = go (b == 61) (parts_of bs)
  where
    go : (t : Bool) (r : Option (Text × Text)) →
        option_and_then (λ (p : Text × Text). with_value p.1 (setting_of p.0))
        (cond t (Some ([], bs)) (option_map (in_front b) r)) ≡ None
    go true r = refl
    go false None = refl
    go false (Some p) = rw h refl

no_option : (w : Text) (quiet json help : Bool) (s : Option Setting) (a : Option (Setting × Text)) →
    quiet ≡ false → json ≡ false → help ≡ false → s ≡ None → a ≡ None
    → is_option_word w ≡ false → Whole (File w) ≡ cond quiet (Whole Quiet) (cond json (Whole Json) (cond help (Whole Help) (said_by w s a)))
no_option w quiet json help s a eq ej eh es ea m = rw (eq, ej, eh, es, ea) (ap (λ (t : Bool). cond t Unknown (Whole (File w))) (sym m))

plain_is_whole : (name : Text) → is_minus name ≡ false → Whole (File name) ≡ said None name
plain_is_whole [] h = refl
plain_is_whole (b ∷ bs) h =
    no_option (b ∷ bs) (bytes_eq (b ∷ bs) (codes "--quiet")) (is_json (b ∷ bs)) (is_help (b ∷ bs)) (setting_of (b ∷ bs)) (attached_in (b ∷ bs))
    (rw h refl) (rw h refl) (rw h refl) (rw h refl) (not_attached b bs h) (rw h refl)

-- `-` itself
stream_is_whole : (name : Text) → is_stream name ≡ true → Whole (File name) ≡ said None name
stream_is_whole name h =
    subst (λ (w : Text). Whole (File w) ≡ said None w) (sym ((bytes_eq-Decides name (codes "-")).0 h)) refl

file_is_whole : (name : Text) → is_option_word name ≡ false → Whole (File name) ≡ said None name
file_is_whole name h = go (is_minus name) (is_stream name) refl refl h
  where
    go : (m s : Bool) → is_minus name ≡ m → is_stream name ≡ s → (m && not s) ≡ false →
        Whole (File name) ≡ said None name
    go false s minus stream e = plain_is_whole name minus
    go true true minus stream e = stream_is_whole name stream
    go true false minus stream e = absurd (false≢true (sym e))

-- ---- all words
whole_behind : (n : ℕ) (waits : Option Setting) (w : Text) (ws : List Text) (i : Argument) (is : List Argument) → Whole i ≡ said waits w
    → arguments_from (n + 1) None ws ≡ Ok is → arguments_from n waits (w ∷ ws) ≡ Ok (i ∷ is)
whole_behind n waits w ws i is e r =
    subst (λ (t : WordMeaning). arguments_with n t (arguments_from (n + 1) (waiting_in t) ws) ≡ Ok (i ∷ is)) e (ap (prepend i) r)

option_behind : (n : ℕ) (w : Text) (ws : List Text) (s : Setting) (is : List Argument) → Waiting s ≡ said None w
    → arguments_from (n + 1) (Some s) ws ≡ Ok is → arguments_from n None (w ∷ ws) ≡ Ok is
option_behind n w ws s is e r =
    subst (λ (t : WordMeaning). arguments_with n t (arguments_from (n + 1) (waiting_in t) ws) ≡ Ok is) e r

read_back : (is : List Argument) (n : ℕ) → AreSpelled is → arguments_from n None (spelling_of is) ≡ Ok is
read_back [] n h = refl
read_back (File name ∷ is) n h = whole_behind n None name (spelling_of is) (File name) is (file_is_whole name h.0) (read_back is (n + 1) h.1)
read_back (Quiet ∷ is) n h = whole_behind n None (codes "--quiet") (spelling_of is) Quiet is refl (read_back is (n + 1) h.1)
read_back (Json ∷ is) n h = whole_behind n None (codes "--json") (spelling_of is) Json is refl (read_back is (n + 1) h.1)
read_back (Help ∷ is) n h = whole_behind n None (codes "--help") (spelling_of is) Help is refl (read_back is (n + 1) h.1)
read_back (Value s text ∷ is) n h =
    option_behind n (option_of s) (text ∷ spelling_of is) s (Value s text ∷ is) (option_waits s)
    (whole_behind (n + 1) (Some s) text (spelling_of is) (Value s text) is refl (read_back is (n + 1 + 1) h.1))

-- ---- the command
command_back : (o : Operation) (is : List Argument) → AreSpelled is → command_of (name_of o ∷ spelling_of is) ≡ command_with o (Ok is)
command_back operation.Union is h = ap (command_with operation.Union) (read_back is 1 h)
command_back operation.Difference is h = ap (command_with operation.Difference) (read_back is 1 h)
command_back operation.Intersection is h = ap (command_with operation.Intersection) (read_back is 1 h)
command_back operation.Expression is h = ap (command_with operation.Expression) (read_back is 1 h)

-- words that are spelled so give the command of their arguments
pub spelled_words : (words : List Text) (r : Result Command WordsFault) (o : Operation) (is : List Argument) → Reads (command_of words) r → AreSpelled is
    → words ≡ name_of o ∷ spelling_of is → Reads (command_with o (Ok is)) r
spelled_words words r o is h spelled e = subst (λ (c : Result Command Refusal). Reads c r) (ap command_of e ∙ command_back o is spelled) h

-- those of a page
pub spelled_view : (words : List Text) (r : Result Command WordsFault) (is : List Argument) → Reads (command_of words) r → AreSpelled is
    → words ≡ codes "view" ∷ spelling_of is → Reads (view_command (Ok is)) r
spelled_view words r is h spelled e = subst (λ (c : Result Command Refusal). Reads c r) (ap command_of e ∙ ap view_command (read_back is 1 spelled)) h

-- those of meshes on their grid
pub spelled_snap : (words : List Text) (r : Result Command WordsFault) (is : List Argument) → Reads (command_of words) r → AreSpelled is
    → words ≡ codes "snap" ∷ spelling_of is → Reads (snap_command (Ok is)) r
spelled_snap words r is h spelled e = subst (λ (c : Result Command Refusal). Reads c r) (ap command_of e ∙ ap snap_command (read_back is 1 spelled)) h

-- those of a document's mesh
pub spelled_export : (words : List Text) (r : Result Command WordsFault) (is : List Argument) → Reads (command_of words) r → AreSpelled is
    → words ≡ codes "export" ∷ spelling_of is → Reads (export_command (Ok is)) r
spelled_export words r is h spelled e = subst (λ (c : Result Command Refusal). Reads c r) (ap command_of e ∙ ap export_command (read_back is 1 spelled)) h
