-- How sides are counted along edges, one side at a time
use Rattle.std.proofs.Common.{◌≡◌, ◌≢◌, ◌⊎◌, inl, inr, ℕ, ◌<◌, ◌+◌, ◌-◌, ◌^◌, ◌&&◌, not, Bool, true, false, cond, List}
use Rattle.std.proofs.Common.{length, map, take, get_or, replicate, set, Some, None, sym, ap, subst, ◌∙◌, arith, nat_eq}
use Rattle.std.proofs.Common.{nat_lt}
use Rattle.std.specs.Prelude.{count_by}
use Rattle.std.specs.List.{position, position_or_len, range_with_len}
use Rattle.std.proofs.Math.Nat.{add-zero}
use Rattle.std.proofs.lemmas.Bool.Decides.{eqb_tells, nat_tests}
use Rattle.std.proofs.lemmas.List.{get_or-set_other, get_or-replicate, get_or-set_same, length-take-le, take_all}
use Rattle.std.proofs.lemmas.List.FromFn.{fill_by_all}
use Rattle.std.proofs.lemmas.List.Sums.{count_by-le-length, sum_by_more}
use Rattle.mesh_info.specs.declared.info.edges.Edge.{Edge}
use Rattle.mesh_info.specs.declared.info.edges.Side.{Side}
use Rattle.mesh_info.specs.declared.info.edges.Uses.{Uses}
use Rattle.mesh_info.specs.Info.Edges.{same_edge, number_in, edges_of, uses_at, uses_of, with_use}

abbrev pub none : Uses
none = record { up = 0; down = 0 }

-- ---- numbers of edges
found_number : (p : Edge → Bool) (es : List Edge) (i : ℕ) → position p es ≡ Some i → position_or_len p es ≡ i
found_number p es i h = go (nat_lt (position_or_len p es) (length es)) h
  where
    go : (t : Bool) → cond t (Some (position_or_len p es)) None ≡ Some i → position_or_len p es ≡ i
    go true e = cc
    go false e = cc

no_number : (p : Edge → Bool) (es : List Edge) (n : ℕ) → position p es ≡ None → n < length es → nat_eq (position_or_len p es) n ≡ false
no_number p es n h l = grind (arith, nat_tests, h)

-- ---- one side more
abbrev one_if : Bool → ℕ
one_if b = cond b 1 0

-- d stands for any side past the end
module _ (es : List Edge) (sides : List Side) (i : ℕ) (d : Side) (l : i < length sides) (n : ℕ) where
  abbrev rising : Side → Bool
  rising t = nat_eq (number_in es t) n && t.rises

  abbrev falling : Side → Bool
  falling t = nat_eq (number_in es t) n && not t.rises

  abbrev next : Side
  next = get_or sides i d

  one_here : nat_eq (number_in es next) n ≡ true → uses_at es (take (i + 1) sides) n ≡ with_use next.rises (uses_at es (take i sides) n)
  one_here e =
      let up = sum_by_more (λ (t : Side). one_if (rising t)) sides i d l ∙ ap (λ (b : Bool). count_by rising (take i sides) + one_if (b && next.rises)) e in
      let down = sum_by_more (λ (t : Side). one_if (falling t)) sides i d l
      ∙ ap (λ (b : Bool). count_by falling (take i sides) + one_if (b && not next.rises)) e in
      λ k. record { up = up k; down = down k }

  none_here : nat_eq (number_in es next) n ≡ false → uses_at es (take (i + 1) sides) n ≡ uses_at es (take i sides) n
  none_here e =
      let up = sum_by_more (λ (t : Side). one_if (rising t)) sides i d l
      ∙ ap (λ (b : Bool). count_by rising (take i sides) + one_if (b && next.rises)) e
      ∙ add-zero (count_by rising (take i sides)) in
      let down = sum_by_more (λ (t : Side). one_if (falling t)) sides i d l
      ∙ ap (λ (b : Bool). count_by falling (take i sides) + one_if (b && not next.rises)) e
      ∙ add-zero (count_by falling (take i sides)) in
      λ k. record { up = up k; down = down k }

  -- no more uses than sides
  up_below : (uses_at es (take i sides) n).up < length sides
  up_below = omega (arith, count_by-le-length rising (take i sides), length-take-le i sides (omega arith))

  down_below : (uses_at es (take i sides) n).down < length sides
  down_below = omega (arith, count_by-le-length falling (take i sides), length-take-le i sides (omega arith))

-- ---- all edges
-- each edge has its uses among the sides before i
abbrev pub AreCounted : List Edge → List Side → ℕ → List Uses → Type 0
AreCounted es sides i us = (n : ℕ) → n < length es → get_or us n none ≡ uses_at es (take i sides) n

-- the uses of an edge can be counted
pub up_counts : (es : List Edge) (sides : List Side) (i : ℕ) (d : Side) (us : List Uses) (n : ℕ) → i < length sides →
    length sides < 2 ^ 64 → AreCounted es sides i us → n < length es → (get_or us n none).up < 2 ^ 64 - 1
up_counts es sides i d us n l m h b =
    let is : (get_or us n none).up ≡ (uses_at es (take i sides) n).up = ap (λ (u : Uses). u.up) (h n b) in
    let few = up_below es sides i d l n in
    subst (λ (k : ℕ). k < 2 ^ 64 - 1) (sym is) (omega arith)

pub down_counts : (es : List Edge) (sides : List Side) (i : ℕ) (d : Side) (us : List Uses) (n : ℕ) → i < length sides →
    length sides < 2 ^ 64 → AreCounted es sides i us → n < length es → (get_or us n none).down < 2 ^ 64 - 1
down_counts es sides i d us n l m h b =
    let is : (get_or us n none).down ≡ (uses_at es (take i sides) n).down = ap (λ (u : Uses). u.down) (h n b) in
    let few = down_below es sides i d l n in
    subst (λ (k : ℕ). k < 2 ^ 64 - 1) (sym is) (omega arith)

-- a side along the edge with this number is added to its uses
pub side_added : (es : List Edge) (sides : List Side) (i : ℕ) (d : Side) (number : ℕ) (us vs : List Uses) → i < length sides
    → position (same_edge (get_or sides i d).edge) es ≡ Some number → number < length us → AreCounted es sides i us
    → vs ≡ set us number (with_use (get_or sides i d).rises (get_or us number none)) → AreCounted es sides (i + 1) vs
side_added es sides i d number us vs l p within h e = λ n b. go n b (eqb_tells (number_in es (get_or sides i d)) n)
  where
    is : number_in es (get_or sides i d) ≡ number
    is = found_number (same_edge (get_or sides i d).edge) es number p

    go : (n : ℕ) → n < length es → ((nat_eq (number_in es (get_or sides i d)) n ≡ true) ×
        (number_in es (get_or sides i d) ≡ n)) ⊎ ((nat_eq (number_in es (get_or sides i d)) n ≡ false) ×
        (number_in es (get_or sides i d) ≢ n)) → get_or vs n none ≡ uses_at es (take (i + 1) sides) n
    go n b (inl t) =
        let same : number ≡ n = sym is ∙ t.1 in
        let here : get_or us number none ≡ uses_at es (take i sides) n = ap (λ (k : ℕ). get_or us k none) same ∙ h n b in
        ap (λ (ws : List Uses). get_or ws n none) e
        ∙ ap (λ (k : ℕ). get_or (set us number (with_use (get_or sides i d).rises (get_or us number none))) k none) (sym same)
        ∙ get_or-set_same us number _ none within
        ∙ ap (with_use (get_or sides i d).rises) here
        ∙ sym (one_here es sides i d l n t.0)
    go n b (inr t) =
        let other : n ≢ number = λ q. t.1 (is ∙ sym q) in
        ap (λ (ws : List Uses). get_or ws n none) e
        ∙ get_or-set_other us number n _ none other
        ∙ h n b
        ∙ sym (none_here es sides i d l n t.0)

-- a side along no edge adds nothing
pub side_passed : (es : List Edge) (sides : List Side) (i : ℕ) (d : Side) (us vs : List Uses) → i < length sides
    → position (same_edge (get_or sides i d).edge) es ≡ None → AreCounted es sides i us → vs ≡ us → AreCounted es sides (i + 1) vs
side_passed es sides i d us vs l p h e =
    λ n b. ap (λ (ws : List Uses). get_or ws n none) e ∙ h n b ∙ sym (none_here es sides i d l n (no_number (same_edge (get_or sides i d).edge) es n p b))

-- before the first side no edge has uses
pub none_counted : (es : List Edge) (sides : List Side) (us : List Uses) → us ≡ replicate (length es) none → AreCounted es sides 0 us
none_counted es sides us h = λ n b. ap (λ (vs : List Uses). get_or vs n none) h ∙ get_or-replicate (length es) n none none b

-- behind the last one the uses are those of all sides
pub all_counted : (es : List Edge) (sides : List Side) (us : List Uses) → es ≡ edges_of sides → length us ≡ length es →
    AreCounted es sides (length sides) us → us ≡ uses_of sides
unfolding uses_of
all_counted es sides us is many h =
    fill_by_all (uses_at es sides) us (length es) none many
    (λ n b. h n b ∙ ap (λ (ss : List Side). uses_at es ss n) (take_all (length sides) sides (omega arith)))
    ∙ ap (λ (fs : List Edge). map (uses_at fs sides) (range_with_len 0 (length fs))) is
