-- Files in a map, and what their names hold.
use Rattle.std.proofs.Common.{◌≡◌, ℕ, List, [], ◌∷◌, Some, Bool, true, false, refl, ◌∙◌, ap, sym, subst, ◌++◌, Ok, Err}
use Rattle.std.proofs.Common.{Result, is_ok, is_err, if◌then◌else◌, Vec, String, string_bytes, Global}
use Rattle.std.specs.Option.{option_map}
use Rattle.std.specs.Str.{bytes_eq}
use Rattle.std.specs.String.{string_cmp}
use Rattle.std.specs.Ordering.{nat_cmp}
use Rattle.std.specs.Cmp.Lexicographic.{slice_cmp}
use Rattle.std.specs.Map.{lookup}
use Rattle.std.specs.BTreeMap.{BTreeMap, get_by_text, is_at, UpdatesBy}
use Rattle.std.specs.Bool.{one_answer}
use Rattle.std.specs.declared.option.Option.{Option}
use Rattle.std.specs.Io.KnownBytes.{append_known}
use Rattle.std.proofs.lemmas.Bool.{cond-false, false_from_ne_true}
use Rattle.std.proofs.lemmas.Map.Text.{is_eq-slice_cmp, btree_map_updates_text}
use Rattle.std.proofs.lemmas.Slice.Eq.{bytes_eq-Decides}
use Rattle.ember_io.specs.Files.{named, first_of}
use Rattle.mesh_outside.specs.Target.Memory.{held_by}
use Rattle.mesh_outside.specs.Target.Targets.{value_at, HoldsSame, Puts}
use Rattle.mesh_outside.proofs.HeldNames.{Puts-undone}

bytes_eq-swap : (xs ys : List ℕ) → bytes_eq xs ys ≡ bytes_eq ys xs
bytes_eq-swap xs ys =
    let d = bytes_eq-Decides ys xs in one_answer (bytes_eq xs ys) (bytes_eq ys xs) (bytes_eq-Decides xs ys) ((λ t. sym (d.0 t)), λ e. d.1 (sym e))

first : (b : Bool) (v : Vec ℕ Global) (r : Option (List ℕ)) (s : Option (Vec ℕ Global)) → r ≡ option_map (λ w. w.items) s
    → (if b then Some v.items else r) ≡ option_map (λ w. w.items) (if b then Some v else s)
first true v r s e = refl
first false v r s e = e

first_of-entries : (es : List (String Global × Vec ℕ Global)) (name : List ℕ)
    → first_of (named es) name ≡ option_map (λ w. w.items) (lookup (is_at (λ k. slice_cmp nat_cmp name (string_bytes k))) es)
first_of-entries [] name = refl
first_of-entries (e ∷ es) name =
    rw (is_eq-slice_cmp name (string_bytes e.0) ∙ bytes_eq-swap name (string_bytes e.0))
    (first (bytes_eq (string_bytes e.0) name) e.1 _ _ (first_of-entries es name))

-- a name holds the bytes that the map has for it
pub first_of-named : (m : BTreeMap (String Global) (Vec ℕ Global)) (name : List ℕ) →
    first_of (named m.entries) name ≡ option_map (λ w. w.items) (get_by_text m name)
first_of-named m name = first_of-entries m.entries name

-- a name at which the map is updated holds its new value
pub Puts-updated : (m n : BTreeMap (String Global) (Vec ℕ Global)) (name : List ℕ) (value : Option (Vec ℕ Global))
    → UpdatesBy string_cmp (λ k. slice_cmp nat_cmp name (string_bytes k)) m n value → Puts (held_by m) (held_by n) name (option_map (λ w. w.items) value)
Puts-updated m n name value u = (
  first_of-named n name ∙ ap (option_map (λ w. w.items)) u.1,
  λ other differs.
      let apart = false_from_ne_true (bytes_eq name other) (λ t. differs (sym ((bytes_eq-Decides name other).0 t))) in
      first_of-named n other ∙ ap (option_map (λ w. w.items)) (btree_map_updates_text name m n value u other ∙ cond-false (bytes_eq name other) value _ apart)
      ∙ sym (first_of-named m other),
)

-- a file that the map has is what its name holds
pub value_at-file : (m : BTreeMap (String Global) (Vec ℕ Global)) (name : List ℕ) (file : Vec ℕ Global) →
    Some file ≡ get_by_text m name → value_at (held_by m) name ≡ Some file.items
value_at-file m name file e = first_of-named m name ∙ ap (option_map (λ w. w.items)) (sym e)

-- a file that took bytes at its end
pub Puts-extended : {T E : Type 0} (r : Result T E) (m n : BTreeMap (String Global) (Vec ℕ Global))
    (name bytes : List ℕ) (old new : Vec ℕ Global) → Some old ≡ get_by_text m name
    → UpdatesBy string_cmp (λ k. slice_cmp nat_cmp name (string_bytes k)) m n (Some new) →
    new.items ≡ (if is_ok r then old.items ++ bytes else old.items) → is_err r ≡ false
    → Puts (held_by m) (held_by n) name (append_known (value_at (held_by m) name) bytes)
Puts-extended (Ok x) m n name bytes old new e u i f =
    rw (value_at-file m name old e) (subst (λ w. Puts (held_by m) (held_by n) name (Some w)) i (Puts-updated m n name (Some new) u))
Puts-extended (Err y) m n name bytes old new e u i f = absurd (cc)

-- a file that could not take bytes
pub HoldsSame-extended : {T E : Type 0} (r : Result T E) (m n : BTreeMap (String Global) (Vec ℕ Global))
    (name bytes : List ℕ) (old new : Vec ℕ Global) → Some old ≡ get_by_text m name
    → UpdatesBy string_cmp (λ k. slice_cmp nat_cmp name (string_bytes k)) m n (Some new) →
    new.items ≡ (if is_ok r then old.items ++ bytes else old.items) → is_err r ≡ true
    → HoldsSame (held_by m) (held_by n)
HoldsSame-extended (Ok x) m n name bytes old new e u i f = absurd (cc)
HoldsSame-extended (Err y) m n name bytes old new e u i f =
    Puts-undone (held_by m) (held_by n) name (Some new.items) (value_at-file m name old e ∙ ap (λ w. Some w) (sym i)) (Puts-updated m n name (Some new) u)
