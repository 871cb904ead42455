-- The walk of clap over options in the canonical spelling
use Rattle.std.proofs.Common.{◌≡◌, Bool, true, false, ◌||◌, codes, List, [], ◌∷◌, ◌++◌, refl, Option, Some, None, ap, append_assoc, append-nil, fold}
use Rattle.std.specs.Prelude.{if◌then◌else◌}
use Rattle.std.specs.Option.{option_map_or}
use Rattle.std.specs.Str.{bytes_eq}
use Rattle.clap.specs.Lexer.{long_of, short_of, usize_max}
use Rattle.clap.specs.Walk.{Row, Rule, Text, Walk, walked, walk_from, nothing_held, idle, option, positional}
use Rattle.clap.specs.Walk.{settled_rows, used, has_row, with_values, without, arg_by_id, arg_by_long, arg_by_index}
use Rattle.clap.specs.Simple.{Shape, filled, new_rule, with_index}
use Rattle.clap.specs.Kinds.{Kinds, or_else}
use Rattle.clap.specs.Faults.{settle_fault, turn_fault, walk_fault}
use Rattle.clap.specs.declared.builder.action.ArgAction.TheVariants.{SetTrue}
use Rattle.clap.specs.declared.parser.matches.ValueSource.TheVariants.{CommandLine}
use Rattle.clap.specs.declared.builder.value_parser.Reading.TheVariants.{AsWritten}
use Rattle.clap.proofs.OnLiterals.{clap_on_literals}
use Rattle.ember_words.specs.Limits.{is_minus}
use Rattle.ember_words.specs.Canonical.{ArePlain, Given, flag_words, AttachesSignIfGiven, given_words, option_words}

-- ---- some words lead from one place of the walk to another without a fault

pub record Reaches (s : Shape) (w : Walk) (words : List Text) (end : Walk) : Type 0 where
  pub walks : fold (walked s.rules []) w words ≡ end
  pub free : walk_fault s [] w words ≡ []

or_else_empty : (a b : Kinds) → or_else a b ≡ [] → (a ≡ []) × (b ≡ [])
or_else_empty [] b h = (refl, h)
or_else_empty (k ∷ ks) b h = cc

reaches_none : (s : Shape) (w : Walk) → Reaches s w [] w
unfolding clap_on_literals
reaches_none s w = record { walks = refl; free = refl }

reaches_one : (s : Shape) (w end : Walk) (word : Text) → walked s.rules [] w word ≡ end → turn_fault s [] w word ≡ [] → Reaches s w (word ∷ []) end
unfolding walk_fault
reaches_one s w end word e f = record { walks = e; free = rw f refl }

reaches_more : (s : Shape) (w middle end : Walk) (word : Text) (words : List Text) → walked s.rules [] w word ≡ middle →
    turn_fault s [] w word ≡ [] → Reaches s middle words end
    → Reaches s w (word ∷ words) end
unfolding walk_fault
reaches_more s w middle end word words e f r = record { walks = rw e r.walks; free = rw (f, e) r.free }

reaches_then : (s : Shape) (w middle end : Walk) (xs ys : List Text) → Reaches s w xs middle → Reaches s middle ys end → Reaches s w (xs ++ ys) end
unfolding walk_fault
reaches_then s w middle end [] ys a b = rw a.walks b
reaches_then s w middle end (x ∷ xs) ys a b =
    let both = or_else_empty (turn_fault s [] w x) (walk_fault s [] (walked s.rules [] w x) xs) a.free in
    reaches_more s w (walked s.rules [] w x) end x (xs ++ ys) refl both.0
    (reaches_then s (walked s.rules [] w x) middle end xs ys (record { walks = a.walks; free = both.1 }) b)

-- ---- options

-- nothing is open; an option of one value may be pending
abbrev pub pend : Option (Text × Text) → Option (Text × List Text)
pend None = None
pend (Some q) = Some (q.0, q.1 ∷ [])

abbrev pub resting : List Row → Option (Text × Text) → Walk
resting rows p = record {
  held = record { rows = rows; pending = pend p; skip = 0 };
  waiting = idle;
  position = 1;
  is_trailing = false;
  stopped = None;
}

-- the option waits for its value
abbrev pub open_at : Text → List Row → Walk
open_at name rows = record {
  held = record { rows = rows; pending = Some (name, []); skip = 0 };
  waiting = option name;
  position = 1;
  is_trailing = false;
  stopped = None;
}

abbrev pub option_rule : Text → Bool → List Text → Rule
option_rule name required defaults = filled (record (new_rule name) { long = Some name; required = required; defaults = defaults })

-- the command has this option, and its name is none of the last words'
pub record IsOption (s : Shape) (last name : Text) (required : Bool) (defaults : List Text) : Type 0 where
  pub dashes : (rest : Text) → bytes_eq (45 ∷ 45 ∷ (name ++ rest)) (45 ∷ 45 ∷ []) ≡ false
  pub dash : bytes_eq (45 ∷ 45 ∷ name) (45 ∷ 45 ∷ []) ≡ false
  pub attached : (value : Text) → long_of (45 ∷ 45 ∷ (name ++ 61 ∷ value)) ≡ Some (name, Some value)
  pub apart : long_of (45 ∷ 45 ∷ name) ≡ Some (name, None)
  pub by_long : arg_by_long s.rules name ≡ Some (option_rule name required defaults)
  pub by_id : arg_by_id s.rules name ≡ Some (option_rule name required defaults)
  pub itself : bytes_eq name name ≡ true
  pub other : bytes_eq name last ≡ false

attached_walks : (s : Shape) (last name : Text) (r : Bool) (d : List Text) → IsOption s last name r d →
    (rows : List Row) (p : Option (Text × Text)) (value : Text)
    → walked s.rules [] (resting rows p) (45 ∷ 45 ∷ (name ++ 61 ∷ value)) ≡ resting
    (used (option_rule name r d) (value ∷ []) (settled_rows s.rules (pend p) rows)) None
unfolding walked
attached_walks s last name r d o rows p value = simp (o.dashes (61 ∷ value), o.attached value, o.by_long)

name_walks : (s : Shape) (last name : Text) (r : Bool) (d : List Text) → IsOption s last name r d → (rows : List Row) (p : Option (Text × Text))
    → walked s.rules [] (resting rows p) (45 ∷ 45 ∷ name) ≡ open_at name (settled_rows s.rules (pend p) rows)
unfolding walked
name_walks s last name r d o rows p = simp (o.dash, o.apart, o.by_long)

plain_word : (word : Text) → is_minus word ≡ false → (bytes_eq word (45 ∷ 45 ∷ []) ≡ false) × (long_of word ≡ None) × (short_of word ≡ None)
plain_word [] h = (refl, refl, refl)
plain_word (b ∷ bs) h = (rw h refl, rw h refl, rw h refl)

value_walks : (s : Shape) (last name : Text) (r : Bool) (d : List Text) → IsOption s last name r d → (rows : List Row) (value : Text) → is_minus value ≡ false
    → walked s.rules [] (open_at name rows) value ≡ resting rows (Some (name, value))
unfolding walked
value_walks s last name r d o rows value h =
    let plain = plain_word value h in
    simp (plain.0, plain.1, plain.2, o.by_id, o.itself)

abbrev pub row_of_values : Text → List Text → Row
row_of_values name values = record { id = name; values = values; count = None; source = Some CommandLine; reading = AsWritten }

-- a new argument's row is the last
fresh : (name : Text) (values : List Text) (rows : List Row) → has_row name rows ≡ false →
    with_values name AsWritten CommandLine values (without name rows) ≡ rows ++ row_of_values name values ∷ []
fresh name values [] h = refl
fresh name values (row ∷ rows) h = go (bytes_eq row.id name) refl h (fresh name values rows)
  where
    go : (b : Bool) → bytes_eq row.id name ≡ b → (b || has_row name rows) ≡ false
        → (has_row name rows ≡ false → with_values name AsWritten CommandLine values (without name rows) ≡ rows ++ row_of_values name values ∷ [])
        → with_values name AsWritten CommandLine values (without name (row ∷ rows)) ≡ (row ∷ rows) ++ row_of_values name values ∷ []
    go true e h rest = cc
    go false e h rest = simp e (ap (λ (more : List Row). row ∷ more) (rest h))

attached_free : (s : Shape) (last name : Text) (r : Bool) (d : List Text) → IsOption s last name r d →
    (rows : List Row) (p : Option (Text × Text)) (value : Text)
    → settle_fault s.rules s.args_override_self (resting rows p).held ≡ [] → has_row name (settled_rows s.rules (pend p) rows) ≡ false
    → turn_fault s [] (resting rows p) (45 ∷ 45 ∷ (name ++ 61 ∷ value)) ≡ []
unfolding walked
attached_free s last name r d o rows p value free new = simp (o.dashes (61 ∷ value), o.attached value, o.by_long, free, new)

name_free : (s : Shape) (last name : Text) (r : Bool) (d : List Text) → IsOption s last name r d → (rows : List Row) (p : Option (Text × Text))
    → settle_fault s.rules s.args_override_self (resting rows p).held ≡ [] → turn_fault s [] (resting rows p) (45 ∷ 45 ∷ name) ≡ []
unfolding walked
name_free s last name r d o rows p free = simp (o.dash, o.apart, o.by_long, free)

value_free : (s : Shape) (last name : Text) (r : Bool) (d : List Text) → IsOption s last name r d → (rows : List Row) (value : Text) → is_minus value ≡ false
    → turn_fault s [] (open_at name rows) value ≡ []
unfolding walked
value_free s last name r d o rows value h =
    let plain = plain_word value h in
    simp (plain.0, plain.1, plain.2)

-- the walk rests between two options, and the rows so far are these
pub record Stands (s : Shape) (last : Text) (w : Walk) (rows : List Row) : Type 0 where
  pub held : List Row
  pub pending : Option (Text × Text)
  pub rests : w ≡ resting held pending
  pub settles : settled_rows s.rules (pend pending) held ≡ rows
  pub free : settle_fault s.rules s.args_override_self (resting held pending).held ≡ []
  pub other : option_map_or (λ q. bytes_eq q.0 last) (pend pending) false ≡ false

-- the words lead to a place with these rows
pub record Gives (s : Shape) (last : Text) (w : Walk) (words : List Text) (rows : List Row) : Type 0 where
  pub end : Walk
  pub reaches : Reaches s w words end
  pub stands : Stands s last end rows

-- a walk over the words walk_begins with nothing given
pub walk_begins : (s : Shape) (last : Text) → Gives s last (walk_from nothing_held) [] []
walk_begins s last = record {
  end = walk_from nothing_held;
  reaches = reaches_none s (walk_from nothing_held);
  stands = record { held = []; pending = None; rests = refl; settles = refl; free = refl; other = refl };
}

attached_stands : (s : Shape) (last name : Text) (r : Bool) (d : List Text) → IsOption s last name r d →
    (rows : List Row) (value : Text) → has_row name rows ≡ false
    → Stands s last (resting (used (option_rule name r d) (value ∷ []) rows) None) (rows ++ row_of_values name (value ∷ []) ∷ [])
attached_stands s last name r d o rows value new = record {
  held = used (option_rule name r d) (value ∷ []) rows;
  pending = None;
  rests = refl;
  settles = fresh name (value ∷ []) rows new;
  free = refl;
  other = refl;
}

apart_stands : (s : Shape) (last name : Text) (r : Bool) (d : List Text) → IsOption s last name r d →
    (rows : List Row) (value : Text) → has_row name rows ≡ false
    → Stands s last (resting rows (Some (name, value))) (rows ++ row_of_values name (value ∷ []) ∷ [])
apart_stands s last name r d o rows value new = record {
  held = rows;
  pending = Some (name, value);
  rests = refl;
  settles = rw o.by_id (fresh name (value ∷ []) rows new);
  free = simp (o.by_id, new);
  other = o.other;
}

-- an option with its value adds its row
given_gives : (s : Shape) (last name : Text) (r : Bool) (d : List Text) → IsOption s last name r d →
    (rows held : List Row) (p : Option (Text × Text)) (value : Text) (attached : Bool)
    → settled_rows s.rules (pend p) held ≡ rows → settle_fault s.rules s.args_override_self (resting held p).held ≡ [] →
    has_row name rows ≡ false → (attached ≡ false → is_minus value ≡ false)
    → Gives s last (resting held p) (given_words name (record { value = value; attached = attached })) (rows ++ row_of_values name (value ∷ []) ∷ [])
given_gives s last name r d o rows held p value true settles free new spelled = record {
  end = resting (used (option_rule name r d) (value ∷ []) rows) None;
  reaches = reaches_one s _ _ _ (rw settles at (attached_walks s last name r d o held p value))
      (attached_free s last name r d o held p value free (rw (← settles) at new));
  stands = attached_stands s last name r d o rows value new;
}
given_gives s last name r d o rows held p value false settles free new spelled = record {
  end = resting rows (Some (name, value));
  reaches =
      reaches_more s (resting held p) (open_at name rows) (resting rows (Some (name, value))) (45 ∷ 45 ∷ name)
      (value ∷ []) (rw settles at (name_walks s last name r d o held p))
      (name_free s last name r d o held p free)
      (reaches_one s (open_at name rows) (resting rows (Some (name, value))) value
      (value_walks s last name r d o rows value (spelled refl))
      (value_free s last name r d o rows value (spelled refl)));
  stands = apart_stands s last name r d o rows value new;
}

abbrev pub given_rows : Text → Option Given → List Row
given_rows name None = []
given_rows name (Some g) = row_of_values name (g.value ∷ []) ∷ []

-- and where it may be left out
pub option_gives : (s : Shape) (last name : Text) (r : Bool) (d : List Text) → IsOption s last name r d →
    (w : Walk) (words : List Text) (rows : List Row) (g : Option Given)
    → Gives s last w words rows → has_row name rows ≡ false → AttachesSignIfGiven g → Gives s last w (words ++ option_words name g) (rows ++ given_rows name g)
option_gives s last name r d o w words rows None before new spelled = rw (append-nil words, append-nil rows) before
option_gives s last name r d o w words rows (Some g) before new spelled =
    let next = given_gives s last name r d o rows before.stands.held before.stands.pending g.value g.attached
    before.stands.settles before.stands.free new spelled in
    record {
      end = next.end;
      reaches = reaches_then s w before.end next.end words (given_words name g) before.reaches (rw (← before.stands.rests) at next.reaches);
      stands = next.stands;
    }

-- ---- flags

abbrev pub flag_rule : Text → Rule
flag_rule name = filled (record (new_rule name) { long = Some name; action = Some SetTrue })

pub record IsFlag (s : Shape) (name : Text) : Type 0 where
  pub dash : bytes_eq (45 ∷ 45 ∷ name) (45 ∷ 45 ∷ []) ≡ false
  pub apart : long_of (45 ∷ 45 ∷ name) ≡ Some (name, None)
  pub by_long : arg_by_long s.rules name ≡ Some (flag_rule name)

flag_walks : (s : Shape) (name : Text) → IsFlag s name → (rows : List Row) (p : Option (Text × Text))
    → walked s.rules [] (resting rows p) (45 ∷ 45 ∷ name) ≡ resting (used (flag_rule name) [] (settled_rows s.rules (pend p) rows)) None
unfolding walked
flag_walks s name f rows p = simp (f.dash, f.apart, f.by_long)

flag_free : (s : Shape) (name : Text) → IsFlag s name → (rows : List Row) (p : Option (Text × Text)) →
    settle_fault s.rules s.args_override_self (resting rows p).held ≡ []
    → has_row name (settled_rows s.rules (pend p) rows) ≡ false → turn_fault s [] (resting rows p) (45 ∷ 45 ∷ name) ≡ []
unfolding walked
flag_free s name f rows p free new = simp (f.dash, f.apart, f.by_long, free, new)

abbrev pub flag_rows : Text → Bool → List Row
flag_rows name given = if given then row_of_values name (codes "true" ∷ []) ∷ [] else []

flag_given : (s : Shape) (last name : Text) → IsFlag s name → (rows held : List Row) (p : Option (Text × Text)) → settled_rows s.rules (pend p) held ≡ rows
    → settle_fault s.rules s.args_override_self (resting held p).held ≡ [] → has_row name rows ≡ false
    → Gives s last (resting held p) ((45 ∷ 45 ∷ name) ∷ []) (rows ++ row_of_values name (codes "true" ∷ []) ∷ [])
flag_given s last name f rows held p settles free new = record {
  end = resting (used (flag_rule name) [] rows) None;
  reaches =
      reaches_one s (resting held p) (resting (used (flag_rule name) [] rows) None) (45 ∷ 45 ∷ name)
      (rw settles at (flag_walks s name f held p)) (flag_free s name f held p free (rw (← settles) at new));
  stands = record {
    held = used (flag_rule name) [] rows;
    pending = None;
    rests = refl;
    settles = fresh name (codes "true" ∷ []) rows new;
    free = refl;
    other = refl;
  };
}

-- a flag, if it is given, adds its row
pub flag_gives : (s : Shape) (last name : Text) → IsFlag s name → (w : Walk) (words : List Text) (rows : List Row) (given : Bool)
    → Gives s last w words rows → has_row name rows ≡ false → Gives s last w (words ++ flag_words name given) (rows ++ flag_rows name given)
flag_gives s last name f w words rows false before new = rw (append-nil words, append-nil rows) before
flag_gives s last name f w words rows true before new =
    let next = flag_given s last name f rows before.stands.held before.stands.pending before.stands.settles before.stands.free new in
    record {
      end = next.end;
      reaches = reaches_then s w before.end next.end words ((45 ∷ 45 ∷ name) ∷ []) before.reaches (rw (← before.stands.rests) at next.reaches);
      stands = next.stands;
    }

-- ---- the last word, or the last words

abbrev pub word_rule : Text → Rule
word_rule last = with_index 1 (filled (record (new_rule last) { required = true }))

abbrev pub words_rule : Text → Rule
words_rule last = with_index 1 (filled (record (new_rule last) { required = true; range = Some (record { start_inclusive = 1; end_inclusive = usize_max }) }))

pub record IsLast (s : Shape) (last : Text) (a : Rule) : Type 0 where
  pub by_index : arg_by_index s.rules 1 ≡ Some a
  pub itself : bytes_eq last last ≡ true

abbrev pub at_word : Text → List Row → Text → Walk
at_word last rows word = record {
  held = record { rows = rows; pending = Some (last, word ∷ []); skip = 0 };
  waiting = idle;
  position = 2;
  is_trailing = false;
  stopped = None;
}

abbrev pub at_words : Text → List Row → List Text → Walk
at_words last rows words = record {
  held = record { rows = rows; pending = Some (last, words); skip = 0 };
  waiting = positional;
  position = 1;
  is_trailing = false;
  stopped = None;
}

word_walks : (s : Shape) (last : Text) → IsLast s last (word_rule last) → (rows : List Row) (p : Option (Text × Text)) (word : Text) → is_minus word ≡ false
    → option_map_or (λ q. bytes_eq q.0 last) (pend p) false ≡ false →
    walked s.rules [] (resting rows p) word ≡ at_word last (settled_rows s.rules (pend p) rows) word
unfolding walked
word_walks s last l rows p word h other =
    let plain = plain_word word h in
    simp (plain.0, plain.1, plain.2, l.by_index, other)

word_free : (s : Shape) (last : Text) → IsLast s last (word_rule last) → (rows : List Row) (p : Option (Text × Text)) (word : Text) → is_minus word ≡ false
    → option_map_or (λ q. bytes_eq q.0 last) (pend p) false ≡ false →
    settle_fault s.rules s.args_override_self (resting rows p).held ≡ [] → turn_fault s [] (resting rows p) word ≡ []
unfolding walked
word_free s last l rows p word h other free =
    let plain = plain_word word h in
    simp (plain.0, plain.1, plain.2, l.by_index, other, free)

-- one plain word ends a walk, given to the last option
pub word_ends : (s : Shape) (last : Text) → IsLast s last (word_rule last) →
    (w : Walk) (words : List Text) (rows : List Row) (word : Text) → Gives s last w words rows → is_minus word ≡ false
    → Reaches s w (words ++ word ∷ []) (at_word last rows word)
word_ends s last l w words rows word before h =
    let stands = before.stands in
    let walks = rw stands.settles at (word_walks s last l stands.held stands.pending word h stands.other) in
    let free = word_free s last l stands.held stands.pending word h stands.other stands.free in
    let next = reaches_one s (resting stands.held stands.pending) (at_word last rows word) word walks free in
    reaches_then s w before.end (at_word last rows word) words (word ∷ []) before.reaches (rw (← stands.rests) at next)

first_walks : (s : Shape) (last : Text) → IsLast s last (words_rule last) → (rows : List Row) (p : Option (Text × Text)) (word : Text) → is_minus word ≡ false
    → option_map_or (λ q. bytes_eq q.0 last) (pend p) false ≡ false →
    walked s.rules [] (resting rows p) word ≡ at_words last (settled_rows s.rules (pend p) rows) (word ∷ [])
unfolding walked
first_walks s last l rows p word h other =
    let plain = plain_word word h in
    simp (plain.0, plain.1, plain.2, l.by_index, other)

first_free : (s : Shape) (last : Text) → IsLast s last (words_rule last) → (rows : List Row) (p : Option (Text × Text)) (word : Text) → is_minus word ≡ false
    → option_map_or (λ q. bytes_eq q.0 last) (pend p) false ≡ false →
    settle_fault s.rules s.args_override_self (resting rows p).held ≡ [] → turn_fault s [] (resting rows p) word ≡ []
unfolding walked
first_free s last l rows p word h other free =
    let plain = plain_word word h in
    simp (plain.0, plain.1, plain.2, l.by_index, other, free)

next_walks : (s : Shape) (last : Text) → IsLast s last (words_rule last) → (rows : List Row) (words : List Text) (word : Text) → is_minus word ≡ false
    → walked s.rules [] (at_words last rows words) word ≡ at_words last rows (words ++ word ∷ [])
unfolding walked
next_walks s last l rows words word h =
    let plain = plain_word word h in
    simp (plain.0, plain.1, plain.2, l.by_index, l.itself)

next_free : (s : Shape) (last : Text) → IsLast s last (words_rule last) → (rows : List Row) (words : List Text) (word : Text) → is_minus word ≡ false
    → turn_fault s [] (at_words last rows words) word ≡ []
unfolding walked
next_free s last l rows words word h =
    let plain = plain_word word h in
    simp (plain.0, plain.1, plain.2, l.by_index, l.itself)

more_words : (s : Shape) (last : Text) → IsLast s last (words_rule last) → (rows : List Row) (words more : List Text) → ArePlain more
    → Reaches s (at_words last rows words) more (at_words last rows (words ++ more))
more_words s last l rows words [] plain = rw (append-nil words) (reaches_none s (at_words last rows words))
more_words s last l rows words (word ∷ more) plain =
    let rest = more_words s last l rows (words ++ word ∷ []) more plain.1 in
    reaches_more s (at_words last rows words) (at_words last rows (words ++ word ∷ []))
    (at_words last rows (words ++ word ∷ more)) word more (next_walks s last l rows words word plain.0)
    (next_free s last l rows words word plain.0) (rw (append_assoc words (word ∷ []) more) at rest)

-- plain words end a walk, each of them given to the last option
pub words_end : (s : Shape) (last : Text) → IsLast s last (words_rule last) →
    (w : Walk) (words : List Text) (rows : List Row) (word : Text) (more : List Text) → Gives s last w words rows
    → is_minus word ≡ false → ArePlain more → Reaches s w (words ++ word ∷ more) (at_words last rows (word ∷ more))
words_end s last l w words rows word more before h plain =
    let stands = before.stands in
    let walks = rw stands.settles at (first_walks s last l stands.held stands.pending word h stands.other) in
    let free = first_free s last l stands.held stands.pending word h stands.other stands.free in
    let next =
    reaches_more s (resting stands.held stands.pending) (at_words last rows (word ∷ []))
    (at_words last rows (word ∷ more)) word more walks free (more_words s last l rows (word ∷ []) more plain) in
    reaches_then s w before.end (at_words last rows (word ∷ more)) words (word ∷ more) before.reaches (rw (← stands.rests) at next)

-- ---- rows of other names

has_row-append : (name : Text) (xs ys : List Row) → has_row name (xs ++ ys) ≡ (has_row name xs || has_row name ys)
has_row-append name [] ys = refl
has_row-append name (x ∷ xs) ys = rw (has_row-append name xs ys) (or_assoc (bytes_eq x.id name) (has_row name xs) (has_row name ys))
  where
    or_assoc : (a b c : Bool) → (a || (b || c)) ≡ ((a || b) || c)
    or_assoc true b c = refl
    or_assoc false b c = refl

-- a name that wasn't given isn't given after another one
pub still_new : (name other : Text) (rows : List Row) (g : Option Given) → bytes_eq other name ≡ false →
    has_row name rows ≡ false → has_row name (rows ++ given_rows other g) ≡ false
still_new name other rows None apart new = rw (append-nil rows) new
still_new name other rows (Some g) apart new = rw (has_row-append name rows (given_rows other (Some g)), new) (rw apart refl)
