-- A command that may name several files names one at least.
use Rattle.std.proofs.Common.{◌≡◌, ◌<◌, ◌≤◌, ℕ, zero, suc, Bool, true, false, not, ◌&&◌, cond, codes, ℤ, List, []}
use Rattle.std.proofs.Common.{◌∷◌, ◌++◌, length, length-append, refl, sym, subst, Option, Some, None, Result, Ok, Err}
use Rattle.std.proofs.Common.{arith, fold}
use Rattle.std.specs.Prelude.{⊤, ◌+◌, ◌||◌, min, IfOk, IfSome, is_some, find, encode_utf8, slice_get, option_and_then, option_map, drop}
use Rattle.std.specs.List.{AllByRecursion, list_all}
use Rattle.std.specs.Str.{bytes_eq, chars}
use Rattle.std.proofs.lemmas.Slice.Eq.{bytes_eq-Decides}
use Rattle.clap.specs.Lexer.{long_of, short_of}
use Rattle.clap.specs.Matches.{count_text}
use Rattle.clap.specs.Walk.{Held, Names, Outcome, Row, Rule, Step, Text, Waiting, Walk}
use Rattle.clap.specs.Walk.{action_of, after_flag, after_step, all_of, arg_by_id, arg_by_index, arg_by_long}
use Rattle.clap.specs.Walk.{arg_by_short, at_row, attached_value, bundle_met, bundle_step, counted, default_rows}
use Rattle.clap.specs.Walk.{flag_met, has_long, has_row, has_short, long_met, long_or_other, more_values, new_count}
use Rattle.clap.specs.Walk.{nothing_held, option_met, option_word, plain_word, pushed, reacted, reading_by, rows_after}
use Rattle.clap.specs.Walk.{settled, settled_rows, short_met, short_or_plain, started, subcommand_met}
use Rattle.clap.specs.Walk.{subcommand_or_other, takes_several, takes_values, to_positional, trailing, used, used_as}
use Rattle.clap.specs.Walk.{used_by_id, values_or_missing, walk, walk_from, walked, walked_from, with_count}
use Rattle.clap.specs.Walk.{with_default, with_values, without, word_met}
use Rattle.clap.specs.Walk as walk
use Rattle.clap.specs.declared.builder.action.ArgAction.{ArgAction}
use Rattle.clap.specs.declared.builder.action.ArgAction.TheVariants as action
use Rattle.clap.specs.declared.builder.value_parser.Reading.{Reading}
use Rattle.clap.specs.Kinds.{Kinds}
use Rattle.clap.specs.Simple.{App, argument_words, built, matches_of}
use Rattle.clap.specs.Simple as simple
use Rattle.clap.specs.declared.parser.matches.ValueSource.{ValueSource}
use Rattle.clap.specs.declared.parser.matches.ValueSource.TheVariants.{DefaultValue, CommandLine}
use Rattle.clap.proofs.OnLiterals.{clap_on_literals}
use Rattle.ember_algebra.proofs.Booleans.{and_first, and_second}
use Rattle.ember_model.specs.declared.point.Spot.{Spot}
use Rattle.ember_model.proofs.SignTests.{clash, not_true}
use Rattle.ember_words.specs.Commands.{at_app, bool_app, pairs_app, voxels_app}
use Rattle.ember_words.specs.Limits.{are_names, names_in_limits}
use Rattle.ember_words.specs.WordsCommand.{Reads, app_for, at_with, bool_with, command_of, demo_with, faces_with}
use Rattle.ember_words.specs.WordsCommand.{files_in, pairs_with, slice_with, taken_by, unless_refused, command_of_rows}
use Rattle.ember_words.specs.WordsCommand.{verb_of, voxels_with}
use Rattle.ember_words.specs.Within.{NamesFiles}
use Rattle.ember_words.specs.declared.command.Command.{Command}
use Rattle.ember_words.specs.declared.command.WordsFault.{WordsFault}
use Rattle.ember_words.specs.declared.verb.Verb.{Verb}
use Rattle.ember_words.specs.declared.verb.Verb.TheVariants.{Faces, At, Boole, Demo, Voxels, Pairs, Slice}

-- ---- tests
-- a row of this id has a value
module _ (id : Text) where
  abbrev HasValue : Text → List Text → Type 0
  HasValue key values = bytes_eq key id ≡ true → 0 < length values

  abbrev RowHasValue : Row → Type 0
  RowHasValue r = HasValue r.id r.values

  abbrev HaveValues : List Row → Type 0
  HaveValues rows = AllByRecursion RowHasValue rows

  abbrev IsPendingGood : Option (Text × List Text) → Type 0
  IsPendingGood None = ⊤
  IsPendingGood (Some p) = HasValue p.0 p.1

  record Holds (h : Held) : Type 0 where
    rows : HaveValues h.rows
    pending : IsPendingGood h.pending

  -- an argument that isn't a positional has another id
  abbrev IsOther : Rule → Type 0
  IsOther a = is_some a.index ≡ false → bytes_eq a.id id ≡ false

  -- ---- rows
  append_values : (xs ys : List Row) → HaveValues xs → HaveValues ys → HaveValues (xs ++ ys)
  append_values [] ys h k = k
  append_values (x ∷ xs) ys h k = (h.0, append_values xs ys h.1 k)

  at_row_holds : (key : Text) (change : Row → List Row) (missing rs : List Row) →
      ((r : Row) → RowHasValue r → HaveValues (change r)) → HaveValues missing → HaveValues rs →
      HaveValues (at_row key change missing rs)
  at_row_holds key change missing [] c m h = m
  at_row_holds key change missing (r ∷ rs) c m h = by (bytes_eq r.id key) (at_row_holds key change missing rs c m h.1)
    where
      by : (b : Bool) → HaveValues (at_row key change missing rs) → HaveValues (cond b (change r ++ rs) (r ∷ at_row key change missing rs))
      by true k = append_values (change r) rs (c r h.0) h.1
      by false k = (h.0, k)

  without_holds : (key : Text) (rows : List Row) → HaveValues rows → HaveValues (without key rows)
  without_holds key rows h = at_row_holds key (λ _. []) [] rows (λ r k. tt) tt h

  longer : (xs ys : List Text) → 0 < length xs → 0 < length (xs ++ ys)
  longer xs ys l = let e = length-append xs ys in omega (arith, e, l)

  with_values_holds : (key : Text) (how : Reading) (s : ValueSource) (values : List Text) (rows : List Row) →
      HasValue key values → HaveValues rows → HaveValues (with_values key how s values rows)
  with_values_holds key how s values rows v h =
      at_row_holds key (more_values s values) _ rows (λ r k. (λ e. longer r.values values (k e), tt)) (v, tt) h

  with_count_holds : (key : Text) (how : Reading) (s : ValueSource) (n : ℕ) (rows : List Row) → HaveValues rows → HaveValues (with_count key how s n rows)
  with_count_holds key how s n rows h =
      at_row_holds key (new_count s n) _ rows (λ r k. (λ e. longer r.values (count_text n ∷ []) (k e), tt)) (λ e. omega arith, tt) h

  given_or_missing : (a : Rule) (key : Text) (values : List Text) → HasValue key values → HasValue key (values_or_missing a values)
  given_or_missing a key [] v e = absurd (omega (arith, v e))
  given_or_missing a key (x ∷ xs) v e = omega arith

  counted_holds : (key : Text) (how : Reading) (values : List Text) (rows : List Row) → HasValue key values →
      HaveValues rows → HaveValues (counted key how values rows)
  counted_holds key how [] rows v h = with_count_holds key how CommandLine (min (walk.count_of key rows + 1) 255) (without key rows) (without_holds key rows h)
  counted_holds key how (x ∷ xs) rows v h = with_values_holds key how CommandLine (x ∷ xs) (without key rows) v (without_holds key rows h)

  used_as_holds : (x : ArgAction) (key : Text) (how : Reading) (values : List Text) (rows : List Row) →
      HasValue key values → HaveValues rows → HaveValues (used_as x key how values rows)
  used_as_holds action.Set key how values rows v h = with_values_holds key how CommandLine values (without key rows) v (without_holds key rows h)
  used_as_holds action.SetTrue key how values rows v h = with_values_holds key how CommandLine values (without key rows) v (without_holds key rows h)
  used_as_holds action.SetFalse key how values rows v h = with_values_holds key how CommandLine values (without key rows) v (without_holds key rows h)
  used_as_holds action.Append key how values rows v h = with_values_holds key how CommandLine values rows v h
  used_as_holds action.Count key how values rows v h = counted_holds key how values rows v h
  used_as_holds _ key how values rows v h = h

  used_holds : (a : Rule) (values : List Text) (rows : List Row) → HasValue a.id values → HaveValues rows → HaveValues (used a values rows)
  used_holds a values rows v h = used_as_holds (action_of a) a.id (reading_by a) (values_or_missing a values) rows (given_or_missing a a.id values v) h

  -- ---- arguments that are found
  found : {X : Type 0} (P : X → Type 0) (test : X → Bool) (xs : List X) → AllByRecursion P xs → IfSome (find test xs) (λ x. P x × (test x ≡ true))
  found P test [] h = tt
  found P test (x ∷ xs) h = by (test x) refl (found P test xs h.1)
    where
      by : (b : Bool) → test x ≡ b → IfSome (find test xs) (λ x. P x × (test x ≡ true)) → IfSome (cond b (Some x) (find test xs)) (λ x. P x × (test x ≡ true))
      by true e k = (h.0, e)
      by false e k = k

  any : {X : Type 0} (xs : List X) → AllByRecursion (λ x. ⊤) xs
  any [] = tt
  any (x ∷ xs) = (tt, any xs)

  module _ (c : List Rule) (others : AllByRecursion IsOther c) where
    settled_rows_hold : (pending : Option (Text × List Text)) (rows : List Row) → IsPendingGood pending →
        HaveValues rows → HaveValues (settled_rows c pending rows)
    settled_rows_hold None rows p h = h
    settled_rows_hold (Some q) rows p h = by (arg_by_id c q.0) (found (λ a. ⊤) (λ a. bytes_eq a.id q.0) c (any c))
      where
        by : (o : Option Rule) → IfSome o (λ a. ⊤ × (bytes_eq a.id q.0 ≡ true)) → HaveValues (used_by_id o q.1 rows)
        by None f = h
        by (Some a) f =
            let same : a.id ≡ q.0 = (bytes_eq-Decides a.id q.0).0 f.1 in
            used_holds a q.1 rows (λ e. p (subst (λ (key : Text). bytes_eq key id ≡ true) same e)) h

    settled_holds : (h : Held) → Holds h → Holds (settled c h)
    settled_holds h k = record { rows = settled_rows_hold h.pending h.rows k.pending k.rows; pending = tt }

    reacted_holds : (a : Rule) (values : List Text) (h : Held) → HasValue a.id values → Holds h → Holds (reacted c a values h)
    reacted_holds a values h v k = record { rows = used_holds a values (settled c h).rows v (settled_holds h k).rows; pending = tt }

    pushed_holds : (key word : Text) (h : Held) → HaveValues h.rows → Holds (pushed key word h)
    pushed_holds key word h k = record { rows = k; pending = λ e. some (started key h.pending).1 }
      where
        some : (xs : List Text) → 0 < length (xs ++ word ∷ [])
        some xs = let e = length-append xs (word ∷ []) in omega (arith, e)

    -- ---- options
    option_holds : (a : Rule) (v : Option Text) (h : Held) → bytes_eq a.id id ≡ false → Holds h → Holds (option_met c a v h).0
    option_holds a (Some v) h o k = reacted_holds a (v ∷ []) h (λ e. absurd (clash e o)) k
    option_holds a None h o k = record { rows = (settled_holds h k).rows; pending = λ e. absurd (clash e o) }

    flag_holds : (a : Rule) (v : Option Text) (h : Held) → bytes_eq a.id id ≡ false → Holds h → Holds (flag_met c a v h).0
    flag_holds a (Some v) h o k = k
    flag_holds a None h o k = reacted_holds a [] h (λ e. absurd (clash e o)) k

    long_holds : (a : Option Rule) (v : Option Text) (h : Held) → IfSome a (λ a. bytes_eq a.id id ≡ false) → Holds h → Holds (long_met c a v h).0
    long_holds None v h o k = k
    long_holds (Some a) v h o k = by (takes_values a)
      where
        by : (b : Bool) → Holds (cond b (option_met c a v h) (flag_met c a v h)).0
        by true = option_holds a v h o k
        by false = flag_holds a v h o k

    short_holds : (a : Option Rule) (rest : Text) (h : Held) (after : Held → Held × Outcome) →
        IfSome a (λ a. bytes_eq a.id id ≡ false) → ((h : Held) → Holds h → Holds (after h).0) → Holds h →
        Holds (short_met c a rest h after).0
    short_holds None rest h after o f k = k
    short_holds (Some a) rest h after o f k = by (takes_values a)
      where
        by : (b : Bool) → Holds (cond b (option_met c a (attached_value rest) h) (after (reacted c a [] h))).0
        by true = option_holds a (attached_value rest) h o k
        by false = f (reacted c a [] h) (reacted_holds a [] h (λ e. absurd (clash e o)) k)

    other_if : (test : Rule → Bool) (o : Option Rule) →
        IfSome o (λ a. IsOther a × (not (is_some a.index) && test a ≡ true)) → IfSome o (λ a. bytes_eq a.id id ≡ false)
    other_if test None f = tt
    other_if test (Some a) f = f.0 (not_true (is_some a.index) (and_first (not (is_some a.index)) (test a) f.1))

    by_long : (name : Text) → IfSome (arg_by_long c name) (λ a. bytes_eq a.id id ≡ false)
    by_long name = other_if (λ a. has_long a name) (arg_by_long c name) (found IsOther (λ a. not (is_some a.index) && has_long a name) c others)

    by_short : (x : ℕ) → IfSome (arg_by_short c x) (λ a. bytes_eq a.id id ≡ false)
    by_short x = other_if (λ a. has_short a x) (arg_by_short c x) (found IsOther (λ a. not (is_some a.index) && has_short a x) c others)

    bundle_step_holds : (o : Option ℕ) (flags : Text) (skip : ℕ) (so_far : Outcome) (h : Held) (after : Text → ℕ →
        Outcome → Held → Held × Outcome) → ((flags : Text) (skip : ℕ) (so_far : Outcome) (h : Held) → Holds h →
        Holds (after flags skip so_far h).0) → Holds h → Holds (bundle_step c o flags skip so_far h after).0
    bundle_step_holds None flags skip so_far h after f k = k
    bundle_step_holds (Some x) flags zero so_far h after f k =
        let rest = drop (length (encode_utf8 x)) flags in
        short_holds (arg_by_short c x) rest h (after rest 0 walk.done) (by_short x) (λ h k. f rest 0 walk.done h k) k
    bundle_step_holds (Some x) flags (suc skip) so_far h after f k = f (drop (length (encode_utf8 x)) flags) skip so_far h k

    bundle_holds : (k : ℕ) (flags : Text) (skip : ℕ) (so_far : Outcome) (h : Held) → Holds h → Holds (bundle_met c k flags skip so_far h).0
    unfolding bundle_met
    bundle_holds zero flags skip so_far h g = g
    bundle_holds (suc k) flags skip so_far h g =
        bundle_step_holds (slice_get (chars flags) 0) flags skip so_far h (bundle_met c k) (bundle_holds k) g

    -- ---- a word
    option_word_holds : (o : Option Rule) (key word : Text) (h : Held) → Holds h → Holds (option_word o key word h).0
    option_word_holds None key word h k = k
    option_word_holds (Some a) key word h k = pushed_holds key word h k.rows

    plain_holds : (waiting : Waiting) (word : Text) (h : Held) → Holds h → Holds (plain_word c waiting word h).0
    plain_holds walk.idle word h k = k
    plain_holds (walk.option key) word h k = option_word_holds (arg_by_id c key) key word h k
    plain_holds walk.positional word h k = k

    after_flag_holds : (waiting : Waiting) (word : Text) (h : Held) (outcome : Outcome) → Holds h → Holds (after_flag c waiting word h outcome).0
    after_flag_holds waiting word h walk.done k = k
    after_flag_holds waiting word h (walk.waits key) k = k
    after_flag_holds waiting word h walk.plain k = plain_holds waiting word h k
    after_flag_holds waiting word h walk.refused k = plain_holds waiting word h k

    short_word_holds : (waiting : Waiting) (word : Text) (flags : Option Text) (h : Held) → Holds h → Holds (short_or_plain c waiting word flags h).0
    short_word_holds waiting word None h k = plain_holds waiting word h k
    short_word_holds waiting word (Some flags) h k =
        after_flag_holds waiting word _ _ (bundle_holds (length flags) flags h.skip walk.plain (record h { skip = 0 })
        (record { rows = k.rows; pending = k.pending }))

    long_word_holds : (waiting : Waiting) (word : Text) (name : Option (Text × Option Text)) (h : Held) → Holds h →
        Holds (long_or_other c waiting word name h).0
    long_word_holds waiting word None h k = short_word_holds waiting word (short_of word) h k
    long_word_holds waiting word (Some p) h k = after_flag_holds waiting word _ _ (long_holds (arg_by_long c p.0) p.1 h (by_long p.0) k)

    other_word_holds : (name : Option Text) (waiting : Waiting) (position : ℕ) (word : Text) (h : Held) → Holds h →
        Holds (subcommand_or_other c name waiting position word h).0
    other_word_holds (Some name) waiting position word h k = k
    other_word_holds None waiting position word h k = by (bytes_eq word (45 ∷ 45 ∷ []))
      where
        by : (b : Bool) → Holds (cond b (h, trailing position) (long_or_other c waiting word (long_of word) h)).0
        by true = k
        by false = long_word_holds waiting word (long_of word) h k

    word_holds : (names : Names) (is_trailing : Bool) (waiting : Waiting) (position : ℕ) (word : Text) (h : Held) →
        Holds h → Holds (word_met c names is_trailing waiting position word h).0
    word_holds names true waiting position word h k = k
    word_holds names false waiting position word h k = other_word_holds (subcommand_met names waiting word) waiting position word h k

    positional_holds : (o : Option Rule) (word : Text) (w : Walk) (h : Held) → Holds h → Holds (to_positional c o word w h).held
    positional_holds None word w h k = k
    positional_holds (Some a) word w h k = by (walk.is_pending a h.pending && takes_several a)
      where
        by : (b : Bool) → Holds (pushed a.id word (cond b h (settled c h)))
        by true = pushed_holds a.id word h k.rows
        by false = pushed_holds a.id word (settled c h) (settled_holds h k).rows

    step_holds : (word : Text) (w : Walk) (h : Held) (step : Step) → Holds h → Holds (after_step c word w h step).held
    step_holds word w h (walk.next waiting) k = k
    step_holds word w h (walk.trailing position) k = k
    step_holds word w h (walk.subcommand name) k = k
    step_holds word w h walk.value k = positional_holds (arg_by_index c w.position) word w h k

    walked_holds : (names : Names) (w : Walk) (word : Text) → Holds w.held → Holds (walked c names w word).held
    unfolding walked
    walked_holds names w word k = by w.stopped
      where
        by : (o : Option (Text × List Text)) → Holds (walked_from c names o w word).held
        by (Some p) = k
        by None = step_holds word w _ _ (word_holds names w.is_trailing w.waiting w.position word w.held k)

    walk_holds : (names : Names) (words : List Text) (w : Walk) → Holds w.held → Holds (fold (walked c names) w words).held
    walk_holds names [] w k = k
    walk_holds names (word ∷ words) w k = walk_holds names words (walked c names w word) (walked_holds names w word k)

    -- ---- defaults
    default_holds : (key : Text) (how : Reading) (values : List Text) (rows : List Row) → HaveValues rows → HaveValues (default_rows key how values rows)
    default_holds key how [] rows h = h
    default_holds key how (v ∷ vs) rows h = with_values_holds key how DefaultValue (v ∷ vs) rows (λ e. omega arith) h

    with_default_holds : (rows : List Row) (a : Rule) → HaveValues rows → HaveValues (with_default rows a)
    with_default_holds rows a h = by (has_row a.id rows)
      where
        by : (b : Bool) → HaveValues (cond b rows (default_rows a.id (reading_by a) a.defaults rows))
        by true = h
        by false = default_holds a.id (reading_by a) a.defaults rows h

    defaults_hold : (rules : List Rule) (rows : List Row) → HaveValues rows → HaveValues (fold with_default rows rules)
    defaults_hold [] rows h = h
    defaults_hold (a ∷ rules) rows h = defaults_hold rules (with_default rows a) (with_default_holds rows a h)

    rows_hold : (names : Names) (words : List Text) → HaveValues (rows_after c names words)
    rows_hold names words =
        let k = walk_holds names words (walk_from nothing_held) (record { rows = tt; pending = tt }) in
        defaults_hold c _ (settled_holds _ k).rows

    found_values : (rows : List Row) → HaveValues rows → IfSome (all_of id rows) (λ values. 0 < length values)
    found_values rows h = by (find (λ r. bytes_eq r.id id) rows) (found RowHasValue (λ r. bytes_eq r.id id) rows h)
      where
        by : (o : Option Row) → IfSome o (λ r. RowHasValue r × (bytes_eq r.id id ≡ true)) →
            IfSome (option_map (λ (r : Row). r.values) o) (λ values. 0 < length values)
        by None f = tt
        by (Some r) f = f.0 f.1

    -- the values of this id, where there are any
    all_hold : (names : Names) (words : List Text) → IfSome (all_of id (rows_after c names words)) (λ values. 0 < length values)
    all_hold names words = found_values (rows_after c names words) (rows_hold names words)

-- ---- the commands
abbrev is_other : Rule → Bool
is_other a = is_some a.index || not (bytes_eq a.id (codes "files"))

others_from : (c : List Rule) → list_all is_other c ≡ true → AllByRecursion (IsOther (codes "files")) c
others_from [] e = tt
others_from (a ∷ c) e = (one (is_some a.index) (bytes_eq a.id (codes "files")) (left e), others_from c (right e))
  where
    left : is_other a && list_all is_other c ≡ true → is_other a ≡ true
    left h = and_first (is_other a) (list_all is_other c) h

    right : is_other a && list_all is_other c ≡ true → list_all is_other c ≡ true
    right h = and_second (is_other a) (list_all is_other c) h

    one : (b d : Bool) → b || not d ≡ true → b ≡ false → d ≡ false
    one true d h f = absurd (clash refl f)
    one false true h f = absurd (clash refl (sym h))
    one false false h f = refl

names_some : (names : List Text) → 0 < length names → IfSome (names_in_limits names) (λ files. 1 ≤ length files)
names_some names l = by (are_names names)
  where
    by : (b : Bool) → IfSome (cond b (Some names) None) (λ files. 1 ≤ length files)
    by true = omega (arith, l)
    by false = tt

files_some : (app : App) (words : List Text) → list_all is_other (built app).top.rules ≡ true →
    IfSome (files_in (matches_of app words)) (λ files. 1 ≤ length files)
files_some app words e = by (all_of (codes "files") (matches_of app words))
    (all_hold (codes "files") (built app).top.rules (others_from (built app).top.rules e) (simple.names_of (built app))
    (argument_words app words))
  where
    by : (o : Option (List Text)) → IfSome o (λ values. 0 < length values) → IfSome (option_and_then names_in_limits o) (λ files. 1 ≤ length files)
    by None h = tt
    by (Some names) h = names_some names h

at_files : list_all is_other (built at_app).top.rules ≡ true
unfolding clap_on_literals
at_files = refl

bool_files : list_all is_other (built bool_app).top.rules ≡ true
unfolding clap_on_literals
bool_files = refl

voxels_files : list_all is_other (built voxels_app).top.rules ≡ true
unfolding clap_on_literals
voxels_files = refl

pairs_files : list_all is_other (built pairs_app).top.rules ≡ true
unfolding clap_on_literals
pairs_files = refl

abbrev HaveFile : Option (List Text) → Type 0
HaveFile files = IfSome files (λ files. 1 ≤ length files)

at_named : (s : Option Spot) (e : Option (Option Text)) (p : Option ℕ) (f : Option (List Text)) → HaveFile f → IfSome (at_with s e p f) NamesFiles
at_named None e p f h = tt
at_named (Some s) None p f h = tt
at_named (Some s) (Some e) None f h = tt
at_named (Some s) (Some e) (Some p) None h = tt
at_named (Some s) (Some e) (Some p) (Some f) h = h

bool_named : (e : Option Text) (w p : Option ℕ) (r : Bool) (f : Option (List Text)) → HaveFile f → IfSome (bool_with e w p r f) NamesFiles
bool_named None w p r f h = tt
bool_named (Some e) None p r f h = tt
bool_named (Some e) (Some w) None r f h = tt
bool_named (Some e) (Some w) (Some p) r None h = tt
bool_named (Some e) (Some w) (Some p) r (Some f) h = h

voxels_named : (e : Option Text) (s w p : Option ℕ) (f : Option (List Text)) → HaveFile f → IfSome (voxels_with e s w p f) NamesFiles
voxels_named None s w p f h = tt
voxels_named (Some e) None w p f h = tt
voxels_named (Some e) (Some s) None p f h = tt
voxels_named (Some e) (Some s) (Some w) None f h = tt
voxels_named (Some e) (Some s) (Some w) (Some p) None h = tt
voxels_named (Some e) (Some s) (Some w) (Some p) (Some f) h = h

pairs_named : (w p : Option ℕ) (f : Option (List Text)) → HaveFile f → IfSome (pairs_with w p f) NamesFiles
pairs_named None p f h = tt
pairs_named (Some w) None f h = tt
pairs_named (Some w) (Some p) None h = tt
pairs_named (Some w) (Some p) (Some f) h = h

faces_named : (p : Option ℕ) (f : Option Text) → IfSome (faces_with p f) NamesFiles
faces_named None f = tt
faces_named (Some p) None = tt
faces_named (Some p) (Some f) = tt

demo_named : (b w : Option ℕ) → IfSome (demo_with b w) NamesFiles
demo_named None w = tt
demo_named (Some b) None = tt
demo_named (Some b) (Some w) = tt

slice_named : (h : Option ℤ) (f : Option Text) → IfSome (slice_with h f) NamesFiles
slice_named None f = tt
slice_named (Some h) None = tt
slice_named (Some h) (Some f) = tt

values_named : (v : Verb) (words : List Text) → IfSome (command_of_rows v (matches_of (app_for v) words)) NamesFiles
values_named Faces words = faces_named _ _
values_named At words = at_named _ _ _ _ (files_some at_app words at_files)
values_named Boole words = bool_named _ _ _ _ _ (files_some bool_app words bool_files)
values_named Demo words = demo_named _ _
values_named Voxels words = voxels_named _ _ _ _ _ (files_some voxels_app words voxels_files)
values_named Pairs words = pairs_named _ _ _ (files_some pairs_app words pairs_files)
values_named Slice words = slice_named _ _

unrefused : (kinds : Kinds) (given : Option Command) → IfSome given NamesFiles → IfSome (unless_refused kinds given) NamesFiles
unrefused [] given h = h
unrefused (kind ∷ kinds) given h = tt

named_by : (v : Option Verb) (words : List Text) → IfSome (option_and_then (λ v. taken_by v words) v) NamesFiles
named_by None words = tt
named_by (Some v) words = unrefused _ _ (values_named v words)

names_files : (words : List Text) → IfSome (command_of words) NamesFiles
names_files [] = tt
names_files (name ∷ words) = named_by (verb_of name) (name ∷ words)

-- a command that the words give, and that may have several files, has one at least
pub words_name_files : (words : List Text) (given : Command) → command_of words ≡ Some given → NamesFiles given
words_name_files words given e = subst (λ (o : Option Command). IfSome o NamesFiles) e (names_files words)

-- a command that was read names a file if it may name several
pub read_files : (words : List Text) (result : Result Command WordsFault) → Reads (command_of words) result → IfOk result NamesFiles
read_files words (Ok given) h = words_name_files words given h
read_files words (Err fault) h = tt
