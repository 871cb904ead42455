-- What the signs at the corners say, with one corner more.
use Rattle.std.proofs.Common.{◌≡◌, sym, ap, subst, ◌∙◌, ℕ, ◌<◌, ◌+◌, length, List, [], ◌∷◌, ◌++◌, take, drop, arith, ℤ, pos, ◌<ℤ◌, ◌≤ℤ◌}
use lib.ListN.{get_or}
use Rattle.std.specs.List.{AllByRecursion}
use Rattle.std.proofs.lemmas.List.{take_more, take-append-drop}
use Rattle.ember_algebra.specs.declared.Sign.{Sign}
use Rattle.ember_algebra.specs.declared.Sign.TheVariants.{Neg, Zero, Pos}
use Rattle.ember_algebra.specs.Sign.{sgn}
use Rattle.ember_algebra.proofs.Signs.{zero_from_sgn, pos_from_sgn, neg_from_sgn}
use Rattle.ember_algebra.proofs.Laws.{linear}
use Rattle.ember_algebra.proofs.Numbers.{negative_at_most, zero_at_most}
use Rattle.ember_model.specs.declared.point.Spot.{Spot}
use Rattle.ember_model.specs.declared.plane.Plane.{Plane}
use Rattle.ember_model.specs.Planes.{value_at}
use Rattle.ember_poly.specs.declared.reach_and_cut.Reach.{Reach}
use Rattle.ember_poly.specs.declared.reach_and_cut.Reach.TheVariants.{Below, Above, On, Both}
use Rattle.ember_poly.specs.Rings.{IsBelow, IsAbove, IsOnPlane, IsNotAbove, IsNotBelow}
use Rattle.ember_poly.specs.Passages.{HasMember, AreSigns}
use Rattle.ember_poly.proofs.Chains.{each-push, each_map}
use Rattle.ember_poly.proofs.Members.{has-push, has-front}

-- ---- what a sign says of a number
-- an integer with the sign Neg is negative
pub neg_out : (a : ℤ) {s : Sign} → s ≡ sgn a → s ≡ Neg → a <ℤ pos 0
neg_out a e f = neg_from_sgn a (rw (← e, f) tt)

-- a number with the sign Zero is 0
pub zero_out : (a : ℤ) {s : Sign} → s ≡ sgn a → s ≡ Zero → a ≡ pos 0
zero_out a e f = zero_from_sgn a (rw (← e, f) tt)

-- a number with the sign Pos is positive
pub pos_out : (a : ℤ) {s : Sign} → s ≡ sgn a → s ≡ Pos → pos 0 <ℤ a
pos_out a e f = pos_from_sgn a (rw (← e, f) tt)

-- a positive integer is at least 0
pub above_least : {a : ℤ} → pos 0 <ℤ a → pos 0 ≤ℤ a
above_least p = omega (arith, linear, p)

-- 0 is at least 0
pub zero_least : {a : ℤ} → a ≡ pos 0 → pos 0 ≤ℤ a
zero_least p = omega (arith, linear, p)

module _ {M : Type 0} (spot : M → Spot) where
  module _ (p : Plane) (ms : List M) (m : M) where
    abbrev value : ℤ
    value = value_at p (spot m)

    push_most : value ≤ℤ pos 0 → AllByRecursion (λ m. IsNotAbove p (spot m)) ms → AllByRecursion (λ m. IsNotAbove p (spot m)) (ms ++ m ∷ [])
    push_most l h = each-push (λ m. IsNotAbove p (spot m)) ms m h (record { at_most = l })

    push_least : pos 0 ≤ℤ value → AllByRecursion (λ m. IsNotBelow p (spot m)) ms → AllByRecursion (λ m. IsNotBelow p (spot m)) (ms ++ m ∷ [])
    push_least l h = each-push (λ m. IsNotBelow p (spot m)) ms m h (record { at_least = l })

    push_on : value ≡ pos 0 → AllByRecursion (λ m. IsOnPlane p (spot m)) ms → AllByRecursion (λ m. IsOnPlane p (spot m)) (ms ++ m ∷ [])
    push_on l h = each-push (λ m. IsOnPlane p (spot m)) ms m h (record { on_plane = l })

    low : value <ℤ pos 0 → HasMember (λ m. IsBelow p (spot m)) (ms ++ m ∷ [])
    low l = has-push (λ m. IsBelow p (spot m)) ms m (record { under = l })

    high : pos 0 <ℤ value → HasMember (λ m. IsAbove p (spot m)) (ms ++ m ∷ [])
    high l = has-push (λ m. IsAbove p (spot m)) ms m (record { over = l })

    keep_low : HasMember (λ m. IsBelow p (spot m)) ms → HasMember (λ m. IsBelow p (spot m)) (ms ++ m ∷ [])
    keep_low h = has-front (λ m. IsBelow p (spot m)) ms (m ∷ []) h

    keep_high : HasMember (λ m. IsAbove p (spot m)) ms → HasMember (λ m. IsAbove p (spot m)) (ms ++ m ∷ [])
    keep_high h = has-front (λ m. IsAbove p (spot m)) ms (m ∷ []) h

    none_most : AllByRecursion (λ m. IsOnPlane p (spot m)) ms → AllByRecursion (λ m. IsNotAbove p (spot m)) ms
    none_most h =
        each_map (λ m. IsOnPlane p (spot m)) (λ m. IsNotAbove p (spot m)) ms (λ m o. record { at_most = zero_at_most o.on_plane }) h

    none_least : AllByRecursion (λ m. IsOnPlane p (spot m)) ms → AllByRecursion (λ m. IsNotBelow p (spot m)) ms
    none_least h =
        each_map (λ m. IsOnPlane p (spot m)) (λ m. IsNotBelow p (spot m)) ms (λ m o. record { at_least = zero_least o.on_plane }) h

    pub seen_zero : (r : Reach) → value ≡ pos 0 → AreSigns spot p ms r → AreSigns spot p (ms ++ m ∷ []) r
    seen_zero Below z s = (push_most (zero_at_most z) s.0, keep_low s.1)
    seen_zero Above z s = (push_least (zero_least z) s.0, keep_high s.1)
    seen_zero On z s = push_on z s
    seen_zero Both z s = (keep_low s.0, keep_high s.1)

    abbrev lowered : Reach → Reach
    lowered Below = Below
    lowered Above = Both
    lowered On = Below
    lowered Both = Both

    abbrev raised : Reach → Reach
    raised Below = Both
    raised Above = Above
    raised On = Above
    raised Both = Both

    -- one more corner, below the plane
    pub seen_low : (r : Reach) → value <ℤ pos 0 → AreSigns spot p ms r → AreSigns spot p (ms ++ m ∷ []) (lowered r)
    seen_low Below l s = (push_most (negative_at_most l) s.0, low l)
    seen_low Above l s = (low l, keep_high s.1)
    seen_low On l s = (push_most (negative_at_most l) (none_most s), low l)
    seen_low Both l s = (low l, keep_high s.1)

    -- one more corner, above the plane
    pub seen_high : (r : Reach) → pos 0 <ℤ value → AreSigns spot p ms r → AreSigns spot p (ms ++ m ∷ []) (raised r)
    seen_high Below l s = (keep_low s.1, high l)
    seen_high Above l s = (push_least (above_least l) s.0, high l)
    seen_high On l s = (push_least (above_least l) (none_least s), high l)
    seen_high Both l s = (keep_low s.0, high l)

  -- the signs of one corner more
  pub signs_next : (p : Plane) (ms : List M) (i : ℕ) (m : M) (r : Reach) → i < length ms → m ≡ get_or ms i m →
      AreSigns spot p (take i ms ++ m ∷ []) r → AreSigns spot p (take (i + 1) ms) r
  signs_next p ms i m r l e s =
      subst (λ ns. AreSigns spot p ns r) (sym (take_more ms i m l ∙ ap (λ n. take i ms ++ n ∷ []) (sym e))) s

  -- corners on both sides among the first ones
  pub seen_both : (p : Plane) (ms : List M) (k : ℕ) → AreSigns spot p (take k ms) Both → AreSigns spot p ms Both
  seen_both p ms k s =
      subst (λ ns. AreSigns spot p ns Both) (take-append-drop k ms) (
        has-front (λ m. IsBelow p (spot m)) (take k ms) (drop k ms) s.0,
        has-front (λ m. IsAbove p (spot m)) (take k ms) (drop k ms) s.1,
      )
