-- What the names of a target hold, over several calls.
use Rattle.std.proofs.Common.{◌≡◌, ℕ, ◌+◌, ◌<◌, List, [], ◌++◌, length, Some, None, IfSome, Bool, true, false, refl}
use Rattle.std.proofs.Common.{◌∙◌, ap, sym, inl, inr, ◌⊎◌, arith, append_assoc, Ok, Err, Result, OnOk, OnErr}
use Rattle.std.proofs.Common.{length-append, length-take, ◌≤◌}
use Rattle.std.proofs.lemmas.Fmt.{length-decimal-le}
use Rattle.std.specs.Prelude.{decimal}
use Rattle.std.specs.Bool.{Decides}
use Rattle.std.specs.Str.{bytes_eq}
use Rattle.std.specs.declared.option.Option.{Option}
use Rattle.std.specs.Io.KnownBytes.{append_known}
use Rattle.std.proofs.lemmas.Slice.Eq.{bytes_eq-Decides}
use Rattle.mesh_outside.specs.Target.Targets.{Names, value_at, length_in_folder, new_name, IsFront, IsBeside, IsTaken, HoldsSame, HoldsOld, Puts, Grows, Moves}

decided : {P : Type 0} (b : Bool) → Decides b P → P ⊎ ¬ P
decided true d = inl (d.0 refl)
decided false d = inr (λ p. let h = d.1 p in absurd (cc))

-- two names are the same, or they aren't
pub names_are_decided : (x y : List ℕ) → (x ≡ y) ⊎ ¬ (x ≡ y)
names_are_decided x y = decided (bytes_eq x y) (bytes_eq-Decides x y)

-- names that hold the same over each of two calls do so over both
pub HoldsSame-trans : (a b c : Option Names) → HoldsSame a b → HoldsSame b c → HoldsSame a c
HoldsSame-trans None b c p q = tt
HoldsSame-trans (Some f) None c p q = absurd p
HoldsSame-trans (Some f) (Some g) None p q = absurd q
HoldsSame-trans (Some f) (Some g) (Some h) p q = λ other. q other ∙ p other

-- a call that changed nothing, and one that gave a name its value
pub Puts-after_same : (a b c : Option Names) (name : List ℕ) (value : Option (List ℕ)) → HoldsSame a b → Puts b c name value → Puts a c name value
Puts-after_same None b c name value p q = tt
Puts-after_same (Some f) None c name value p q = absurd p
Puts-after_same (Some f) (Some g) None name value p q = absurd q
Puts-after_same (Some f) (Some g) (Some h) name value p q = (q.0, λ other n. q.1 other n ∙ p other)

-- the other way round
pub Puts-before_same : (a b c : Option Names) (name : List ℕ) (value : Option (List ℕ)) → Puts a b name value → HoldsSame b c → Puts a c name value
Puts-before_same None b c name value p q = tt
Puts-before_same (Some f) None c name value p q = absurd p
Puts-before_same (Some f) (Some g) None name value p q = absurd q
Puts-before_same (Some f) (Some g) (Some h) name value p q = (q name ∙ p.0, λ other n. q other ∙ p.1 other n)

-- of two values that a name is given, it holds the second
pub Puts-twice : (a b c : Option Names) (name : List ℕ) (first second : Option (List ℕ)) → Puts a b name first → Puts b c name second → Puts a c name second
Puts-twice None b c name first second p q = tt
Puts-twice (Some f) None c name first second p q = absurd p
Puts-twice (Some f) (Some g) None name first second p q = absurd q
Puts-twice (Some f) (Some g) (Some h) name first second p q = (q.0, λ other n. q.1 other n ∙ p.1 other n)

-- a name that is given the value that it held leaves all as it was
pub Puts-undone : (a b : Option Names) (name : List ℕ) (value : Option (List ℕ)) → value_at a name ≡ value → Puts a b name value → HoldsSame a b
Puts-undone None b name value e p = tt
Puts-undone (Some f) None name value e p = absurd p
Puts-undone (Some f) (Some g) name value e p = λ other. elim (names_are_decided other name)
    [ inl same ↦ rw same (p.0 ∙ sym e) | inr differs ↦ p.1 other differs ]

append_known-twice : (value : Option (List ℕ)) (xs ys : List ℕ) → append_known (append_known value xs) ys ≡ append_known value (xs ++ ys)
append_known-twice None xs ys = refl
append_known-twice (Some zs) xs ys = ap (λ w. Some w) (append_assoc zs xs ys)

≤-or-< : (k n : ℕ) → (k ≤ n) ⊎ (n < k)
≤-or-< k n = grind arith

≡-or-< : (k n : ℕ) → k < n + 1 → (k ≡ n) ⊎ (k < n)
≡-or-< k n h = grind arith

-- a file that takes bytes, and then more, takes both
pub Puts-appended : (a b c : Option Names) (name xs ys : List ℕ) → Puts a b name (append_known (value_at a name) xs) →
    Puts b c name (append_known (value_at b name) ys)
    → Puts a c name (append_known (value_at a name) (xs ++ ys))
Puts-appended None b c name xs ys p q = tt
Puts-appended (Some f) None c name xs ys p q = absurd p
Puts-appended (Some f) (Some g) None name xs ys p q = absurd q
Puts-appended (Some f) (Some g) (Some h) name xs ys p q =
    (q.0 ∙ ap (λ w. append_known w ys) p.0 ∙ append_known-twice (f name) xs ys, λ other n. q.1 other n ∙ p.1 other n)

length-new_name : (front : List ℕ) (number : ℕ) → length (new_name front number) ≡ length front + 5 + length (decimal number)
length-new_name front number = grind (arith, length-append)

-- a front with an ending isn't the name, since it is longer or shorter
fronts_differ : (name front : List ℕ) (number : ℕ) → number < 100 → IsFront name front → ¬ (new_name front number ≡ name)
fronts_differ name front number less is e = elim (≤-or-< (length_in_folder name) 248) [
  | inl short ↦ absurd (omega (arith, length-new_name front number, ap length e, ap length (is.0 short)))
  | inr long ↦
      let shorter = is.1 long in
      absurd (omega (
        arith,
        length-new_name front number,
        ap length e,
        shorter.1,
        ap length shorter.2,
        length-take shorter.0 name,
        length-decimal-le 2 number (omega arith) less (omega (arith, less)),
      ))
]

-- a name isn't beside itself
pub IsBeside-differs : (name other : List ℕ) → IsBeside name other → ¬ (other ≡ name)
IsBeside-differs name other b e = fronts_differ name b.front b.number b.number_is_less b.is_front (sym b.is_new_name ∙ e)

-- where each name holds what it held, no file is left beside
pub HoldsOld-same : (a b : Option Names) (name : List ℕ) → HoldsSame a b → HoldsOld a b name
HoldsOld-same None b name p = tt
HoldsOld-same (Some f) None name p = absurd p
HoldsOld-same (Some f) (Some g) name p = (p name, λ other. inl (p other))

-- a new file beside a name may be left
pub HoldsOld-left : (a b : Option Names) (name path : List ℕ) (value : Option (List ℕ)) → IsBeside name path →
    value_at a path ≡ None → Puts a b path value → HoldsOld a b name
HoldsOld-left None b name path value i e p = tt
HoldsOld-left (Some f) None name path value i e p = absurd p
HoldsOld-left (Some f) (Some g) name path value i e p = (
  p.1 name (λ s. IsBeside-differs name path i (sym s)),
  λ other. elim (names_are_decided other path) [ inl same ↦ inr (rw same (i, e)) | inr differs ↦ inl (p.1 other differs) ],
)

-- a new file that takes bytes, and then more, takes both
pub Grows-twice : (begun : Option (List ℕ)) (a b c : Option Names) (xs ys : List ℕ) → Grows begun a b xs → Grows begun b c ys → Grows begun a c (xs ++ ys)
Grows-twice None a b c xs ys p q = tt
Grows-twice (Some path) a b c xs ys p q = Puts-appended a b c path xs ys p q

-- a new file that took bytes before a call that changed nothing
pub Grows-before_same : (begun : Option (List ℕ)) (a b c : Option Names) (xs : List ℕ) → Grows begun a b xs →
    HoldsSame b c → IfSome begun (λ path. (value : Option (List ℕ)) × Puts a c path value)
Grows-before_same None a b c xs p q = tt
Grows-before_same (Some path) a b c xs p q = (append_known (value_at a path) xs, Puts-before_same a b c path (append_known (value_at a path) xs) p q)

-- a fact holds after an error too
pub OnErr-holds : {T E P : Type 0} (r : Result T E) → P → OnErr r P
OnErr-holds (Ok x) p = tt
OnErr-holds (Err y) p = p

-- where names hold the same after a call, a name was taken before it
pub IsTaken-before_same : (a b : Option Names) (name : List ℕ) → HoldsSame a b → IsTaken b name → IsTaken a name
IsTaken-before_same None b name p t = tt
IsTaken-before_same (Some f) None name p t = absurd p
IsTaken-before_same (Some f) (Some g) name p t = rw (sym (p name)) t

-- a new file is removed, or it may be left
pub HoldsOld-discarded : {T E : Type 0} (r : Result T E) (a b c : Option Names) (name path : List ℕ)
    (value : Option (List ℕ)) → IsBeside name path → value_at a path ≡ None → Puts a b path value
    → OnOk r (Puts b c path None) → OnErr r (HoldsSame b c) → HoldsOld a c name
HoldsOld-discarded (Ok x) a b c name path value i e p q s = HoldsOld-same a c name (Puts-undone a c path None e (Puts-twice a b c path value None p q))
HoldsOld-discarded (Err y) a b c name path value i e p q s = HoldsOld-left a c name path value i e (Puts-before_same a b c path value p s)

-- where the new names of a front are taken up to a number, and this one is, they are up to the next number
pub IsTaken-next : (a b : Option Names) (front path : List ℕ) (n : ℕ) → ((k : ℕ) → k < n → IsTaken a (new_name front k)) →
    HoldsSame a b → path ≡ new_name front n → IsTaken b path
    → (k : ℕ) → k < n + 1 → IsTaken a (new_name front k)
IsTaken-next a b front path n before p e t k h =
    elim (≡-or-< k n h) [ inl same ↦ rw same (IsTaken-before_same a b (new_name front n) p (rw (sym e) t)) | inr less ↦ before k less ]
