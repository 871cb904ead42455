-- The weights of all boxes of a run
use Rattle.std.proofs.Common.{◌≡◌, ◌<◌, ℕ, ◌+◌, ◌*◌, ◌%◌, ◌^◌, Bool, true, false, not, List, [], ◌∷◌, ◌++◌, cond, refl, zero-add, sym, ap, ◌∙◌, arith}
use Rattle.std.proofs.lemmas.List.Elements.{filter-append}
use Rattle.std.proofs.lemmas.List.Sums.{sum_by-append, sum_by-cons}
use Rattle.std.specs.Int.Count.{count_leading_zeros}
use Rattle.std.specs.Prelude.{filter, sum_by}
use Rattle.mesh_outside.specs.Progress.Weights.{is_left, weight_of}
use Rattle.mesh_outside.specs.Progress.Boxes.{Boxes, single, halved, paths, left_weight, other_weight}
use Rattle.mesh_outside.proofs.Halves.{halves_weigh_the_same}

-- ---- parity
even_is_left : (p : ℕ) → is_left (2 * p) ≡ true
even_is_left p = let even : 2 * p % 2 ≡ 0 = grind arith in rw even refl

odd_is_right : (p : ℕ) → is_left (2 * p + 1) ≡ false
odd_is_right p = let odd : (2 * p + 1) % 2 ≡ 1 = grind arith in rw odd refl

-- ---- weights of paths one behind another
left-append : (ps qs : List ℕ) → left_weight (ps ++ qs) ≡ left_weight ps + left_weight qs
left-append ps qs = ap (sum_by weight_of) (filter-append is_left ps qs) ∙ sum_by-append weight_of (filter is_left ps) (filter is_left qs)

other-append : (ps qs : List ℕ) → other_weight (ps ++ qs) ≡ other_weight ps + other_weight qs
other-append ps qs =
    ap (sum_by weight_of) (filter-append (λ p. not (is_left p)) ps qs)
    ∙ sum_by-append weight_of (filter (λ p. not (is_left p)) ps) (filter (λ p. not (is_left p)) qs)

left-cons : (p : ℕ) (ps : List ℕ) (left : Bool) → is_left p ≡ left → left_weight (p ∷ ps) ≡ cond left (weight_of p) 0 + left_weight ps
left-cons p ps true h = rw h (sum_by-cons weight_of p (filter is_left ps))
left-cons p ps false h = rw h (sym (zero-add (left_weight ps)))

other-cons : (p : ℕ) (ps : List ℕ) (left : Bool) → is_left p ≡ left → other_weight (p ∷ ps) ≡ cond left 0 (weight_of p) + other_weight ps
other-cons p ps true h = rw h (sym (zero-add (other_weight ps)))
other-cons p ps false h = rw h (sum_by-cons weight_of p (filter (λ q. not (is_left q)) ps))

-- ---- all boxes from one of them on
-- their weights make up that of the first, which is taken off if it is a left half
abbrev MakeUp : ℕ → Bool → List ℕ → Type 0
MakeUp p left ps = other_weight ps + cond left (weight_of p) 0 ≡ left_weight ps + cond left 0 (weight_of p)

halved_make_up : (p : ℕ) (left : Bool) (ls rs : List ℕ) → is_left p ≡ left → weight_of (2 * p) ≡ weight_of (2 * p + 1)
    → MakeUp (2 * p) true ls → MakeUp (2 * p + 1) false rs → MakeUp p left (p ∷ (ls ++ rs))
halved_make_up p true ls rs e w l r =
    rw (left-cons p (ls ++ rs) true e, other-cons p (ls ++ rs) true e, left-append ls rs, other-append ls rs) (omega (arith, w, l, r))
halved_make_up p false ls rs e w l r =
    rw (left-cons p (ls ++ rs) false e, other-cons p (ls ++ rs) false e, left-append ls rs, other-append ls rs) (omega (arith, w, l, r))

make_up : (boxes : Boxes) (p : ℕ) (left : Bool) → 0 < p → is_left p ≡ left → MakeUp p left (paths p boxes)
make_up single p true h e = rw (left-cons p [] true e, other-cons p [] true e) (omega arith)
make_up single p false h e = rw (left-cons p [] false e, other-cons p [] false e) (omega arith)
make_up (halved a b) p left h e =
    halved_make_up p left (paths (2 * p) a) (paths (2 * p + 1) b) e (halves_weigh_the_same p h)
    (make_up a (2 * p) true (omega arith) (even_is_left p)) (make_up b (2 * p + 1) false (omega arith) (odd_is_right p))

root_weighs : weight_of 1 ≡ 2 ^ 16
unfolding count_leading_zeros
root_weighs = refl

pub boxes_weigh_as_the_root : (boxes : Boxes) → other_weight (paths 1 boxes) ≡ left_weight (paths 1 boxes) + 2 ^ 16
boxes_weigh_as_the_root boxes = omega (arith, make_up boxes 1 false (omega arith) refl, root_weighs)
