-- Bytes that have grown: a line from its end to its start, and a text by those of the members of a list.
use Rattle.std.proofs.Common.{◌≡◌, sym, ap, subst, ◌∙◌, arith, ℕ, ◌+◌, ◌-◌, ◌<◌, ◌≤◌, if◌then◌else◌, List, [], ◌∷◌}
use Rattle.std.proofs.Common.{◌++◌, append_assoc, length, take, drop, get_or, slice_set, Result, Ok, Err, is_ok, OnOk}
use Rattle.std.proofs.Common.{OnErr}
use Rattle.std.proofs.lemmas.List.{append-nil, take_more, take_all, drop-set, length-set, length-drop}
use Rattle.ember_algebra.specs.Relations.{Each, none}
use Rattle.ember_algebra.proofs.Relations.{each_push}
use Rattle.ember_leaf.specs.Written.{HasGrown}
use Rattle.ember_text.specs.Texts.{Extends}

-- what holds anyway holds on Err
pub on_err : {X E : Type 0} {P : Type 0} (r : Result X E) → P → OnErr r P
on_err (Ok v) p = tt
on_err (Err e) p = p

-- a weaker fact of a result holds too
pub on_ok_weaker : {X E P Q : Type 0} (r : Result X E) → (P → Q) → OnOk r P → OnOk r Q
on_ok_weaker (Ok v) f p = f p
on_ok_weaker (Err e) f p = tt

-- a value chosen by a result is the first one if the result is Ok
pub on_ok_if : {X E A : Type 0} {new want : A} (ok err : A) (r : Result X E) → new ≡ (if is_ok r then ok else err) → ok ≡ want → OnOk r (new ≡ want)
on_ok_if ok err (Ok v) e f = e ∙ f
on_ok_if ok err (Err e) d f = tt

-- a number is written before those from a place on
pub written_before : (xs : List ℕ) (at y n : ℕ) {rest : List ℕ} → 1 ≤ at → at ≤ n → length xs ≡ n → drop at xs ≡ rest →
    take (n - (at - 1)) (drop (at - 1) (slice_set xs (at - 1) y)) ≡ y ∷ rest
written_before xs at y n a b l e =
    let next : at - 1 + 1 ≡ at = omega (arith, a) in
    let long = length-drop (at - 1) (slice_set xs (at - 1) y) in let same = length-set xs (at - 1) y in
    rw (
      take_all (n - (at - 1)) (drop (at - 1) (slice_set xs (at - 1) y)) (omega (arith, long, same, l)),
      drop-set xs (at - 1) y (omega (arith, a, b, l)),
      next,
    ) (ap (λ ys. y ∷ ys) e)

-- ---- and some more
pub extends_by : {P : List ℕ → Type 0} (old : List ℕ) {mid new : List ℕ} → HasGrown P old mid → new ≡ mid → Extends old new
extends_by old g e = record { more = g.more; is = e ∙ g.is; holds = tt }

-- ---- by the texts of members
pub grown_none : {X : Type 0} {R : X → List ℕ → Type 0} (old : List ℕ) → HasGrown (Each R []) old old
grown_none old = record { more = []; is = sym (append-nil old); holds = none }

-- one more member, with the text that it adds
pub grown_push : {X : Type 0} {R : X → List ℕ → Type 0} (xs : List X) (x : X) (old : List ℕ) {mid new : List ℕ} →
    HasGrown (Each R xs) old mid → HasGrown (R x) mid new → HasGrown (Each R (xs ++ x ∷ [])) old new
grown_push xs x old a b =
    record { more = a.more ++ b.more; is = b.is ∙ ap (λ t. t ++ b.more) a.is ∙ append_assoc old a.more b.more; holds = each_push a.holds b.holds }

-- one more member's text
pub grown_take : {X : Type 0} {R : X → List ℕ → Type 0} (xs : List X) (i : ℕ) (d : X) (old : List ℕ) {mid new : List ℕ}
    → i < length xs → HasGrown (Each R (take i xs)) old mid → HasGrown (R (get_or xs i d)) mid new →
    HasGrown (Each R (take (i + 1) xs)) old new
grown_take {R = R} xs i d old {mid} {new} l a b =
    subst (λ ys. HasGrown (Each R ys) old new) (sym (take_more xs i d l)) (grown_push (take i xs) (get_or xs i d) old a b)
