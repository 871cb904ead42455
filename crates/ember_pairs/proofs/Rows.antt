-- Lists of meeting pairs, made pair by pair.
use Rattle.std.proofs.Common.{◌≡◌, ℕ, ◌+◌, ◌<◌, ◌≤◌, refl, sym, subst, List, [], ◌∷◌, ◌++◌, append_assoc, length, drop}
use Rattle.std.proofs.Common.{get_or, Bool, true, false, if◌then◌else◌, IsTrue, ◌↔◌, add-one, drop-cons}
use Rattle.std.proofs.lemmas.List.{append-nil, drop_all}
use Rattle.std.proofs.lemmas.Bool.{false≢true}
use Rattle.ember_box.specs.Near.{tri_at}
use Rattle.ember_algebra.specs.Relations.{Each, none, more}
use Rattle.ember_model.specs.declared.tri.Tri.{Tri}
use Rattle.ember_pairs.specs.declared.pair.Pair.{Pair}
use Rattle.ember_pairs.specs.Pairs.{AtPair, meeting, apart, AreMeeting, pair, row, pairs_of, AreMeetingPairs, Completes}

-- one more pair is looked at, which gives zs
completes_more : (ts : List Tri) (all later out : List Pair) (p : Pair) (zs : List Pair) → AtPair ts p zs →
    Completes ts all (p ∷ later) out → Completes ts all later (out ++ zs)
completes_more ts all later out p zs r c =
    record { completed = λ rest e. subst (λ (l : List Pair). Each (AtPair ts) all l) (sym (append_assoc out zs rest)) (c.completed (zs ++ rest) (more r e)) }

-- nothing is looked at yet, and all is
pub completes_none : (ts : List Tri) (all : List Pair) → Completes ts all all []
completes_none ts all = record { completed = λ rest e. e }

completes_all : (ts : List Tri) (all out : List Pair) → Completes ts all [] out → Each (AtPair ts) all out
completes_all ts all out c = subst (λ (l : List Pair). Each (AtPair ts) all l) (append-nil out) (c.completed [] none)

-- what is appended if the test of a pair is exact
tested : (ts : List Tri) (p : Pair) (meet : Bool) → (IsTrue meet ↔ AreMeeting (tri_at ts p.low) (tri_at ts p.high)) → AtPair ts p (if meet then p ∷ [] else [])
tested ts p true e = meeting (e.0 refl)
tested ts p false e = apart (λ m. absurd (false≢true (e.1 m)))

-- one more pair of a row
pub row_more : (ts : List Tri) (list : List ℕ) (all later out : List Pair) (i b : ℕ) (meet : Bool) → b < length list →
    (IsTrue meet ↔ AreMeeting (tri_at ts i) (tri_at ts (get_or list b 0))) →
    Completes ts all (row i (drop b list) ++ later) out →
    Completes ts all (row i (drop (b + 1) list) ++ later) (out ++ (if meet then pair i (get_or list b 0) ∷ [] else []))
row_more ts list all later out i b meet l e c =
    let cut : drop b list ≡ get_or list b 0 ∷ drop (b + 1) list = rw (add-one b) (drop-cons list b 0 l) in
    completes_more ts all (row i (drop (b + 1) list) ++ later) out (pair i (get_or list b 0))
    (if meet then pair i (get_or list b 0) ∷ [] else []) (tested ts (pair i (get_or list b 0)) meet e)
    (subst (λ (js : List ℕ). Completes ts all (row i js ++ later) out) cut c)

-- one more row
pub rows_more : (ts : List Tri) (list : List ℕ) (all out new : List Pair) (a : ℕ) → a < length list →
    ((all later : List Pair) → Completes ts all (row (get_or list a 0) (drop (a + 1) list) ++ later) out →
    Completes ts all later new) → Completes ts all (pairs_of (drop a list)) out →
    Completes ts all (pairs_of (drop (a + 1) list)) new
rows_more ts list all out new a l f c =
    let cut : drop a list ≡ get_or list a 0 ∷ drop (a + 1) list = rw (add-one a) (drop-cons list a 0 l) in
    f all (pairs_of (drop (a + 1) list)) (subst (λ (is : List ℕ). Completes ts all (pairs_of is) out) cut c)

-- after the last row, the list has all meeting pairs
pub rows_done : (ts : List Tri) (list : List ℕ) (out : List Pair) (a : ℕ) → length list ≤ a →
    Completes ts (pairs_of list) (pairs_of (drop a list)) out → AreMeetingPairs ts list out
rows_done ts list out a l c =
    completes_all ts (pairs_of list) out (subst (λ (is : List ℕ). Completes ts (pairs_of list) (pairs_of is) out) (drop_all a list l) c)
