-- The arguments of words, one word at a time
use Rattle.std.proofs.Common.{◌≡◌, ℕ, ◌+◌, List, [], ◌∷◌, ◌++◌, append_assoc, Option, Some, None, Result, Ok, Err, refl, ap, sym, subst}
use Rattle.std.specs.Option.{option_or}
use Rattle.mesh_words.specs.declared.faults.Refusal.{Refusal}
use Rattle.mesh_words.specs.declared.faults.Refusal.TheVariants.{UnknownOption}
use Rattle.mesh_words.specs.declared.names.Setting.{Setting}
use Rattle.mesh_words.specs.declared.arguments.Argument.{Argument}
use Rattle.mesh_words.specs.declared.arguments.WordMeaning.{WordMeaning}
use Rattle.mesh_words.specs.declared.arguments.WordMeaning.TheVariants.{Whole, Waiting, Unknown}
use Rattle.mesh_words.specs.Names.{Text}
use Rattle.mesh_words.specs.Arguments.{said, waiting_in, prepend, arguments_with, arguments_from, value_for, value_in}

-- arguments, and those that follow them
abbrev pub after : List Argument → Result (List Argument) Refusal → Result (List Argument) Refusal
after is (Ok js) = Ok (is ++ js)
after is (Err why) = Err why

prepended : (is : List Argument) (i : Argument) (r : Result (List Argument) Refusal) → after is (prepend i r) ≡ after (is ++ i ∷ []) r
prepended is i (Ok js) = ap Ok (sym (append_assoc is (i ∷ []) js))
prepended is i (Err why) = refl

-- a word that is an argument
pub argument_more : (n : ℕ) (waits : Option Setting) (w : Text) (ws : List Text) (is : List Argument) (i : Argument) → Whole i ≡ said waits w
    → after is (arguments_from n waits (w ∷ ws)) ≡ after (is ++ i ∷ []) (arguments_from (n + 1) None ws)
argument_more n waits w ws is i e =
    subst (λ (s : WordMeaning). after is (arguments_with n s (arguments_from (n + 1) (waiting_in s) ws)) ≡ after
    (is ++ i ∷ []) (arguments_from (n + 1) None ws)) e
    (prepended is i (arguments_from (n + 1) None ws))

-- a word that is an option whose value follows
pub option_more : (n : ℕ) (waits : Option Setting) (w : Text) (ws : List Text) (is : List Argument) (s : Setting) → Waiting s ≡ said waits w
    → after is (arguments_from n waits (w ∷ ws)) ≡ after is (arguments_from (n + 1) (Some s) ws)
option_more n waits w ws is s e =
    subst (λ (t : WordMeaning). after is (arguments_with n t (arguments_from (n + 1) (waiting_in t) ws)) ≡ after is (arguments_from (n + 1) (Some s) ws)) e refl

-- a word that is no option
pub unknown_more : (n : ℕ) (waits : Option Setting) (w : Text) (ws : List Text) (is : List Argument) → Unknown ≡ said waits w
    → after is (arguments_from n waits (w ∷ ws)) ≡ Err (UnknownOption n)
unknown_more n waits w ws is e =
    subst (λ (t : WordMeaning). after is (arguments_with n t (arguments_from (n + 1) (waiting_in t) ws)) ≡ Err (UnknownOption n)) e refl

option_or_assoc : {T : Type 0} (x y z : Option T) → option_or (option_or x y) z ≡ option_or x (option_or y z)
option_or_assoc (Some x) y z = refl
option_or_assoc None y z = refl

-- the last value of an option, behind the one that was found before
pub later_value : (s : Setting) (i : Argument) (is : List Argument) (v : Option Text)
    → option_or (value_in s (i ∷ is)) v ≡ option_or (value_in s is) (option_or (value_for s i) v)
later_value s i is v = option_or_assoc (value_in s is) (value_for s i) v
