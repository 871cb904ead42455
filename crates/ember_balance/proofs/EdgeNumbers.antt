-- The numbers of edges: they are one only for one edge, and rise as edges do
use Rattle.std.proofs.Common.{◌≡◌, ◌⊎◌, inl, inr, ℕ, ◌+◌, ◌*◌, ◌/◌, ◌%◌, ◌^◌, ◌<◌, Bool, true, false, ◌&&◌, ◌||◌, List}
use Rattle.std.proofs.Common.{[], ◌∷◌, length, get_or, refl, sym, ap, subst, ◌∙◌, arith, SFits, to_z, of_z}
use Rattle.std.proofs.Common.{ℤ, pos, ◌-ℤ◌, ◌<ℤ◌, ◌≤ℤ◌}
use borrow.Author.Differences.{ints}
use mir.Syntax.{w32}
use Rattle.std.proofs.lemmas.Nat.{same_from_place, div-mul-add, mod-mul-add}
use Rattle.std.proofs.lemmas.Int.{to_z_pos, to_z-of_z}
use Rattle.std.proofs.lemmas.Bool.{or_cases, or_parts, and_parts}
use Rattle.ember_algebra.specs.Size.{Small}
use Rattle.ember_algebra.specs.Sign.{is_negative, is_zero}
use Rattle.ember_algebra.proofs.Laws.{linear}
use Rattle.ember_algebra.proofs.Size.{fits_small}
use Rattle.ember_model.specs.declared.point.Corner.{Corner}
use Rattle.ember_model.specs.Limits.{broad_limit}
use Rattle.ember_model.specs.Meshes.{Edge}
use Rattle.ember_model.specs.Within.{IsCornerWithin}
use Rattle.ember_model.proofs.SignTests.{negative_out, zero_out, clash, negative_not_out}
use Rattle.ember_balance.specs.Numbers.{digit, corner_number, edge_number, IsBroadEdge}
use Rattle.ember_balance.specs.Loose.{precedes, coordinates, comes_before}

digit_small : {z : ℤ} → Small broad_limit z → digit z < 1048576
digit_small {z} p = omega (arith, ints, p.small)

digit_less : {x y : ℤ} → Small broad_limit x → Small broad_limit y → x <ℤ y → digit x < digit y
digit_less {x} {y} p q l = omega (arith, ints, p.small, q.small, l)

digit_same : {x y : ℤ} → Small broad_limit x → Small broad_limit y → digit x ≡ digit y → x ≡ y
digit_same {x} {y} p q e = omega (arith, ints, p.small, q.small, e)

corner_small : {c : Corner} → IsCornerWithin broad_limit c → corner_number c < 2 ^ 60
corner_small {c} v = omega (arith, digit_small v.x, digit_small v.y, digit_small v.z)

-- corners on the broad grid with one number are equal
pub same_corners : {c d : Corner} → IsCornerWithin broad_limit c → IsCornerWithin broad_limit d → corner_number c ≡ corner_number d → c ≡ d
same_corners {c} {d} v w e =
    let p = same_from_place (digit c.x * 1048576 + digit c.y) (digit c.z) (digit d.x * 1048576 + digit d.y) (digit d.z) 1048576 (digit_small v.z) (digit_small w.z) e in
    let q = same_from_place (digit c.x) (digit c.y) (digit d.x) (digit d.y) 1048576 (digit_small v.y) (digit_small w.y) p.0 in
    let x = digit_same v.x w.x q.0 in let y = digit_same v.y w.y q.1 in let z = digit_same v.z w.z p.1 in
    λ i. record { x = x i; y = y i; z = z i }

-- the number of an edge on the broad grid is below 2^120
pub edge_small : {e : Edge} → IsBroadEdge e → edge_number e < 2 ^ 120
edge_small {e} v = omega (arith, corner_small v.from, corner_small v.to)

-- edges on the broad grid with one number are equal
pub same_edges : {e f : Edge} → IsBroadEdge e → IsBroadEdge f → edge_number e ≡ edge_number f → e ≡ f
same_edges {e} {f} v w h =
    let p = same_from_place (corner_number e.from) (corner_number e.to) (corner_number f.from) (corner_number f.to)
    (2 ^ 60) (corner_small v.to) (corner_small w.to) h in
    let from = same_corners v.from w.from p.0 in let to = same_corners v.to w.to p.1 in
    λ i. record { from = from i; to = to i }

-- ---- order
first_difference : (x y : ℤ) (r : Bool) → is_negative (x -ℤ y) || (is_zero (x -ℤ y) && r) ≡ true → (x <ℤ y) ⊎ ((x ≡ y) × (r ≡ true))
first_difference x y r e = by (or_cases (is_negative (x -ℤ y)) (is_zero (x -ℤ y) && r) e)
  where
    by : (is_negative (x -ℤ y) ≡ true) ⊎ (is_zero (x -ℤ y) && r ≡ true) → (x <ℤ y) ⊎ ((x ≡ y) × (r ≡ true))
    by (inl n) = let l = negative_out (x -ℤ y) n in inl (omega (arith, linear, l))
    by (inr z) =
        let p = and_parts (is_zero (x -ℤ y)) r z in let q = zero_out (x -ℤ y) p.0 in inr (omega (arith, linear, q), p.1)

abbrev corner_precedes : Corner → Corner → Bool → Bool
corner_precedes c d r =
    is_negative (c.x -ℤ d.x) || (is_zero (c.x -ℤ d.x)
    && (is_negative (c.y -ℤ d.y) || (is_zero (c.y -ℤ d.y)
    && (is_negative (c.z -ℤ d.z) || (is_zero (c.z -ℤ d.z) && r)))))

corners_rise : (c d : Corner) (r : Bool) → IsCornerWithin broad_limit c → IsCornerWithin broad_limit d → corner_precedes c d r ≡ true →
    (corner_number c < corner_number d) ⊎ ((corner_number c ≡ corner_number d) × (r ≡ true))
corners_rise c d r v w e = by_x (first_difference c.x d.x _ e)
  where
    by_z : digit c.x ≡ digit d.x → digit c.y ≡ digit d.y → (c.z <ℤ d.z) ⊎ ((c.z ≡ d.z) × (r ≡ true)) →
        (corner_number c < corner_number d) ⊎ ((corner_number c ≡ corner_number d) × (r ≡ true))
    by_z p q (inl l) = let k = digit_less v.z w.z l in inl (omega (arith, p, q, k))
    by_z p q (inr t) = let k = ap digit t.0 in inr (omega (arith, p, q, k), t.1)

    by_y : digit c.x ≡ digit d.x → (c.y <ℤ d.y) ⊎
        ((c.y ≡ d.y) × ((is_negative (c.z -ℤ d.z) || (is_zero (c.z -ℤ d.z) && r)) ≡ true)) →
        (corner_number c < corner_number d) ⊎ ((corner_number c ≡ corner_number d) × (r ≡ true))
    by_y p (inl l) =
        let k = digit_less v.y w.y l in let z = digit_small v.z in inl (omega (arith, p, k, z))
    by_y p (inr t) = by_z p (ap digit t.0) (first_difference c.z d.z r t.1)

    by_x : (c.x <ℤ d.x) ⊎ ((c.x ≡ d.x) × ((is_negative (c.y -ℤ d.y)
        || (is_zero (c.y -ℤ d.y) && (is_negative (c.z -ℤ d.z) || (is_zero (c.z -ℤ d.z) && r)))) ≡ true)) →
        (corner_number c < corner_number d) ⊎ ((corner_number c ≡ corner_number d) × (r ≡ true))
    by_x (inl l) =
        let k = digit_less v.x w.x l in let y = digit_small v.y in let z = digit_small v.z in inl (omega (arith, k, y, z))
    by_x (inr t) = by_y (ap digit t.0) (first_difference c.y d.y _ t.1)

-- an edge that comes before another has the lower number
pub edges_rise : (e f : Edge) → IsBroadEdge e → IsBroadEdge f → comes_before e f ≡ true → edge_number e < edge_number f
edges_rise e f v w h = by (corners_rise e.from f.from (corner_precedes e.to f.to false) v.from w.from h)
  where
    by_end : corner_number e.from ≡ corner_number f.from →
        (corner_number e.to < corner_number f.to) ⊎ ((corner_number e.to ≡ corner_number f.to) × (false ≡ true)) →
        edge_number e < edge_number f
    by_end p (inl l) = omega (arith, p, l)
    by_end p (inr t) = absurd (clash t.1 refl)

    by : (corner_number e.from < corner_number f.from) ⊎
        ((corner_number e.from ≡ corner_number f.from) × (corner_precedes e.to f.to false ≡ true)) →
        edge_number e < edge_number f
    by (inl l) = let s = corner_small v.to in omega (arith, l, s)
    by (inr t) = by_end t.0 (corners_rise e.to f.to false v.to w.to t.1)

not_less : (x y : ℤ) → is_negative (x -ℤ y) ≡ false → y ≤ℤ x
not_less x y e = let l = negative_not_out (x -ℤ y) e in omega (arith, linear, l)

-- one of two different lists precedes the other
same_lists : (xs ys : List ℤ) → length xs ≡ length ys → precedes xs ys ≡ false → precedes ys xs ≡ false → xs ≡ ys
same_lists [] [] l p q = refl
same_lists [] (y ∷ ys) l p q = absurd (omega (arith, l))
same_lists (x ∷ xs) [] l p q = absurd (omega (arith, l))
same_lists (x ∷ xs) (y ∷ ys) l p q =
    let a = or_parts (is_negative (x -ℤ y)) (is_zero (x -ℤ y) && precedes xs ys) p in
    let b = or_parts (is_negative (y -ℤ x)) (is_zero (y -ℤ x) && precedes ys xs) q in
    let u = not_less x y a.0 in let v = not_less y x b.0 in
    let e : x ≡ y = omega (arith, linear, u, v) in
    let r = same_lists xs ys (omega (arith, l)) (after x y xs ys (omega (arith, linear, e)) a.1) (after y x ys xs (omega (arith, linear, e)) b.1) in
    λ i. e i ∷ r i
  where
    after : (x y : ℤ) (xs ys : List ℤ) → x -ℤ y ≡ pos 0 → is_zero (x -ℤ y) && precedes xs ys ≡ false → precedes xs ys ≡ false
    after x y xs ys e h = sym (ap (λ (z : ℤ). is_zero z && precedes xs ys) e) ∙ h

-- two edges, neither of them before the other, are equal
pub one_edge : (e f : Edge) → comes_before e f ≡ false → comes_before f e ≡ false → e ≡ f
one_edge e f p q =
    let c = same_lists (coordinates e) (coordinates f) refl p q in
    λ i. record {
      from = record { x = get_or (c i) 0 (pos 0); y = get_or (c i) 1 (pos 0); z = get_or (c i) 2 (pos 0) };
      to = record { x = get_or (c i) 3 (pos 0); y = get_or (c i) 4 (pos 0); z = get_or (c i) 5 (pos 0) };
    }

-- ---- read back
-- the coordinate that the code reads from its digit
pub read_digit : (z : ℤ) (n : ℕ) → Small broad_limit z → n ≡ digit z → to_z w32 (of_z w32 (to_z w32 n -ℤ pos 524287)) ≡ z
read_digit z n p e =
    let l = digit_small p in
    ap (λ (y : ℤ). to_z w32 (of_z w32 (y -ℤ pos 524287))) (to_z_pos w32 n (omega (arith, e, l)))
    ∙ to_z-of_z w32 (pos n -ℤ pos 524287) (subst (SFits w32) (sym same) (fits_small w32 p tt)) ∙ same
  where
    same : pos n -ℤ pos 524287 ≡ z
    same = omega (arith, ints, e, p.small)

-- the three digits of a corner's number are those of its coordinates
pub digits_of : (c : Corner) → IsCornerWithin broad_limit c → (n : ℕ) → corner_number c ≡ n →
    (n / 1099511627776 ≡ digit c.x) × (n / 1048576 % 1048576 ≡ digit c.y) × (n % 1048576 ≡ digit c.z)
digits_of c v n e =
    let x = digit_small v.x in let y = digit_small v.y in let z = digit_small v.z in
    let a : n / 1048576 ≡ digit c.x * 1048576 + digit c.y = rw (sym e) (div-mul-add (digit c.x * 1048576 + digit c.y) 1048576 (digit c.z) z) in
    (omega (arith, e, x, y, z), rw a (mod-mul-add (digit c.x) 1048576 (digit c.y) y), rw (sym e) (mod-mul-add (digit c.x * 1048576 + digit c.y) 1048576 (digit c.z) z))

-- the quotient and the rest of an edge's number by 2^60 are the numbers of its ends
pub ends_from : (e : Edge) → IsBroadEdge e → (n : ℕ) → edge_number e ≡ n → (corner_number e.from ≡ n / 2 ^ 60) × (corner_number e.to ≡ n % 2 ^ 60)
ends_from e v n h =
    let l = corner_small v.to in (
      rw (sym h) (sym (div-mul-add (corner_number e.from) (2 ^ 60) (corner_number e.to) l)),
      rw (sym h) (sym (mod-mul-add (corner_number e.from) (2 ^ 60) (corner_number e.to) l)),
    )
