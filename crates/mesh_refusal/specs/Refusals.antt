-- A refusal as an object of JSON: the parts of its line, under keys
use Rattle.std.specs.Prelude.{◌≡◌, ℕ, ◌+◌, ◌-◌, ◌==◌, nat_lt, not, List, [], ◌∷◌, length, map, take, drop, codes, decimal}
use Rattle.std.specs.Prelude.{Some, None, option_map, option_and_then, unwrap_or, if◌then◌else◌}
use Rattle.std.specs.declared.option.Option.{Option}
use Rattle.std.specs.Borrow.{Bor}
use Rattle.std.specs.Char.{is_ascii_digit}
use Rattle.std.specs.Global.{Vec}
use Rattle.std.specs.List.{prefix_len}
use Rattle.std.specs.Option.{option_or}
use Rattle.std.specs.Str.{bytes_eq}
use Rattle.mesh_info.specs.Info.Lines.{quoted}
use Rattle.mesh_texts.specs.Objects.{object_line, optional}
use Rattle.mesh_refusal.specs.declared.refusal_objects.TheConstants.{REMEDIES}

-- ---- cutting texts
-- what follows this at the front of a text, if it stands there
abbrev pub behind_front : List ℕ → List ℕ → Option (List ℕ)
behind_front front text =
    if bytes_eq (take (length front) text) front then Some (drop (length front) text) else None

-- what stands before this at the end of a text, if it ends so
abbrev pub before_end : List ℕ → List ℕ → Option (List ℕ)
before_end end text =
    if bytes_eq (drop (length text - length end) text) end then Some (take (length text - length end) text) else None

-- ---- the file
-- without `NAME: ` at the front
abbrev pub without_name : List ℕ → List ℕ → List ℕ
without_name name why =
    unwrap_or (option_and_then (behind_front (codes ": ")) (behind_front name why)) why

-- ---- the place
-- how many bytes there are before the first blank
abbrev pub noun_length : List ℕ → ℕ
noun_length text = prefix_len (λ b. not (b == 32)) text

-- how many digits follow it
abbrev pub digits_behind : List ℕ → ℕ
digits_behind text = prefix_len is_ascii_digit (drop (noun_length text + 1) text)

-- how long `NOUN NUMBER` is at the front of a text
abbrev pub place_length : List ℕ → ℕ
place_length text = noun_length text + 1 + digits_behind text

-- what follows `NOUN NUMBER: ` at the front of a text, if this stands there
abbrev pub behind_place : List ℕ → Option (List ℕ)
behind_place text =
    if nat_lt 0 (digits_behind text) then behind_front (codes ": ") (drop (place_length text) text) else None

-- the place at the front of a text, if there is one, and the rest
abbrev pub placed : List ℕ → Option (List ℕ) × List ℕ
placed text =
    (option_map (λ rest. take (place_length text) text) (behind_place text), unwrap_or (behind_place text) text)

-- the place in the text of a line, and the rest without the name; a line that names no file has no place
abbrev pub parts_of : Option (List ℕ) → List ℕ → Option (List ℕ) × List ℕ
parts_of None why = (None, why)
parts_of (Some name) why = placed (without_name name why)

-- ---- the remedy
-- what helps
abbrev pub remedies : List (List ℕ)
remedies = map (λ remedy. remedy.now) REMEDIES

-- the text before `; REMEDY`, if it ends so
abbrev pub before_remedy : List ℕ → List ℕ → Option (List ℕ)
before_remedy remedy text = option_and_then (before_end (codes "; ")) (before_end remedy text)

-- the reason before a remedy, or what was found otherwise
abbrev pub split_at : Option (List ℕ) → List ℕ → List ℕ × Option (List ℕ) → List ℕ × Option (List ℕ)
split_at None remedy otherwise = otherwise
split_at (Some reason) remedy otherwise = (reason, Some remedy)

-- the reason, and the first of these remedies that the text ends in
abbrev pub reason_and_remedy : List (List ℕ) → List ℕ → List ℕ × Option (List ℕ)
reason_and_remedy [] text = (text, None)
reason_and_remedy (remedy ∷ others) text =
    split_at (before_remedy remedy text) remedy (reason_and_remedy others text)

-- ---- the object
-- the text behind a reference, if there is one
abbrev pub text_behind : Option (Bor (List ℕ)) → Option (List ℕ)
text_behind reference = option_map (λ (it : Bor (List ℕ)). it.now) reference

-- of a line with this text: the exit status, the file, the place in the text or the known one, the reason and the
-- remedy
unfoldable pub refusal_object : ℕ → Option (List ℕ) → Option (List ℕ) → List ℕ → List ℕ
refusal_object number file known why =
    let parts = parts_of file why in
    let said = reason_and_remedy remedies parts.1 in
    object_line (
    (codes "status", decimal number) ∷ (codes "file", optional file) ∷
    (codes "place", optional (option_or known parts.0)) ∷
    (codes "reason", quoted said.0) ∷ (codes "remedy", optional said.1) ∷ [])

-- the text is that object; the file and the known place are behind references, if there are some
abbrev pub IsRefusalObject : ℕ → Option (Bor (List ℕ)) → Option (Bor (List ℕ)) → List ℕ → Vec ℕ → Type 0
IsRefusalObject number file known why text =
    text.items ≡ refusal_object number (text_behind file) (text_behind known) why
