-- Roots and quotients that are rounded up, and lengths that aren't below the true ones.
use Rattle.std.proofs.Common.{◌≡◌, ◌≤◌, ◌<◌, ⊎_elim, Bool, true, false, cond, ℕ, zero, suc, ◌+◌, ◌-◌, ◌*◌, ◌^◌, nat_le}
use Rattle.std.proofs.Common.{nat_lt, refl, ap, ◌∙◌, mul-le-mul, arith}
use Rattle.std.proofs.lemmas.Bool.{cases_lt, leb-true, leb-false}
use Rattle.mesh_grid.specs.Moves.Shown.{root_up_to, root_above, rounded_up, places_up_to, length_from}
use Rattle.mesh_grid.proofs.AxisMoves.{above_quotient}

-- ---- roots
-- of two squares the greater has the greater root
at_most_root : (m n : ℕ) → m * m ≤ n * n → m ≤ n
at_most_root m n h =
    ⊎_elim
    (λ l. let next : n + 1 ≤ m = omega (arith, l) in let more : (n + 1) * (n + 1) ≤ m * m = mul-le-mul next next in absurd (omega (arith, more, h)))
    (λ l. l)
    (cases_lt n m)

-- the root is the least whole number whose square isn't below n
pub record IsRootAbove (n root : ℕ) : Type 0 where
  pub enough : n ≤ root * root
  pub least : (m : ℕ) → n ≤ m * m → root ≤ m

root_is_up_to : (n most : ℕ) → n ≤ most * most → IsRootAbove n (root_up_to n most)
unfolding root_up_to
root_is_up_to n zero h = record { enough = h; least = λ m l. omega arith }
root_is_up_to n (suc most) h = by (nat_le n (most * most)) (leb-true n (most * most)) (leb-false n (most * most)) (root_is_up_to n most)
  where
    by : (b : Bool) → (b ≡ true → n ≤ most * most) → (b ≡ false → most * most < n) →
        (n ≤ most * most → IsRootAbove n (root_up_to n most)) → IsRootAbove n (cond b (root_up_to n most) (suc most))
    by true f g next = next (f refl)
    by false f g next = record {
      enough = h;
      least = λ m l.
          ⊎_elim
          (λ more. omega (arith, more))
          (λ less. let small : m * m ≤ most * most = mul-le-mul less less in absurd (omega (arith, small, l, g refl)))
          (cases_lt most m);
    }

own_square : (n : ℕ) → n ≤ n * n
own_square zero = omega arith
own_square (suc n) = omega arith

pub root_is : (n : ℕ) → IsRootAbove n (root_above n)
root_is n = root_is_up_to n n (own_square n)

same_root : (n r t : ℕ) → IsRootAbove n r → IsRootAbove n t → r ≡ t
same_root n r t a b =
    let low = a.least t b.enough in
    let high = b.least r a.enough in
    omega (arith, low, high)

pub root_exact : (n root : ℕ) → root * root ≤ n → n ≤ root * root → root ≡ root_above n
root_exact n root low high =
    same_root n root (root_above n) (record { enough = high; least = λ m h. at_most_root root m (omega (arith, low, h)) }) (root_is n)

pub root_next : (n root : ℕ) → root * root < n → n < (root + 1) * (root + 1) → root + 1 ≡ root_above n
root_next n root low high =
    same_root n (root + 1) (root_above n) (record {
      enough = omega (arith, high);
      least = λ m h.
          ⊎_elim
          (λ more. omega (arith, more))
          (λ less. let small : m * m ≤ root * root = mul-le-mul less less in absurd (omega (arith, small, low, h)))
          (cases_lt root m);
    }) (root_is n)

-- ---- places
-- with at most nine digits these are the places
pub places_found : (root under places : ℕ) → 0 < places → nat_lt (rounded_up root under places) (10 ^ 9) ≡ true → places_up_to root under places ≡ places
unfolding places_up_to
places_found root under zero some h = absurd (omega (arith, some))
places_found root under (suc places) some h = ap (λ (b : Bool). cond b (suc places) (places_up_to root under places)) h

-- and otherwise there are fewer
pub places_fewer : (root under places : ℕ) → 0 < places → nat_lt (rounded_up root under places) (10 ^ 9) ≡ false →
    places_up_to root under places ≡ places_up_to root under (places - 1)
unfolding places_up_to
places_fewer root under zero some h = absurd (omega (arith, some))
places_fewer root under (suc places) some h =
    let before : places ≡ suc places - 1 = omega arith in
    ap (λ (b : Bool). cond b (suc places) (places_up_to root under places)) h ∙ ap (places_up_to root under) before

pub no_places : (root under : ℕ) → places_up_to root under 0 ≡ 0
unfolding places_up_to
no_places root under = refl

-- ---- not below the true ones
-- n is the square of a length, times the square of `under`
pub length_not_below : (n under : ℕ) → 0 < under →
    n * (10 ^ (length_from (root_above n) under).places * 10 ^ (length_from (root_above n) under).places) ≤ under
    * (length_from (root_above n) under).size * (under * (length_from (root_above n) under).size)
length_not_below n under p =
    let size = (length_from (root_above n) under).size in
    let root = root_above n in
    let power = 10 ^ (length_from (root_above n) under).places in
    let above : root * power ≤ under * size = above_quotient (root * power) under p in
    let squares : root * power * (root * power) ≤ under * size * (under * size) = mul-le-mul above above in
    let scaled : n * (power * power) ≤ root * root * (power * power) = mul-le-mul (root_is n).enough (omega arith) in
    let same : root * root * (power * power) ≡ root * power * (root * power) = omega arith in
    omega (arith, squares, scaled, same)
