-- What planes leave of the segment between two points.
use Rattle.std.proofs.Common.{◌≡◌, ◌≢◌, ◌⊎◌, ⊎_elim, inl, inr, refl, sym, subst, ◌∙◌, arith, ℕ, zero, suc, ◌<◌, ◌≤◌}
use Rattle.std.proofs.Common.{◌+◌, Bool, true, false, List, [], ◌∷◌, ◌++◌, length, take, ℤ, pos, ◌+ℤ◌, ◌-ℤ◌, ◌*ℤ◌}
use Rattle.std.proofs.Common.{neg_ℤ, ◌<ℤ◌, ◌≤ℤ◌}
use lib.ListN.{get_or}
use Rattle.std.proofs.lemmas.List.{take_more, take_all}
use Rattle.std.specs.List.{AllByRecursion}
use Rattle.ember_algebra.proofs.Laws.{linear}
use Rattle.ember_algebra.proofs.Ring.{◌⊕◌, ◌⊗◌, neg, num, ◌≈◌, solve, cancels}
use Rattle.ember_algebra.proofs.Order.{pos_mul, nonneg_mul, mul_pos_neg, cancel_le, cancel_lt, zero_product}
use Rattle.ember_model.specs.declared.plane.Plane.{Plane}
use Rattle.ember_model.specs.declared.point.Spot.{Spot}
use Rattle.ember_model.specs.Planes.{value_at}
use Rattle.ember_model.specs.ClearTest.{none_positive}
use Rattle.ember_model.proofs.SignTests.{In}
use Rattle.ember_model.proofs.LastZero.{After, Last, last_zero, none_positive_member}
use Rattle.ember_poly.specs.declared.meeting.ChordPart.{ChordPart}
use Rattle.ember_poly.specs.declared.meeting.ChordPart.TheVariants.{Whole, Split, Empty}
use Rattle.ember_poly.specs.Rings.{IsNotAbove, IsMeet, orientation}
use Rattle.ember_poly.specs.Passages.{HasMember}
use Rattle.ember_poly.specs.Chords.{IsChordPart, combination, IsOpen, HasVertexWithin, IsLine}
use Rattle.ember_poly.proofs.Chains.{each_map, each_both, each-push}
use Rattle.ember_poly.proofs.Members.{has-push, has-front, has_pick}
use Rattle.ember_poly.proofs.Planar.{same_place}
use Rattle.ember_poly.proofs.CutOrientation.{swap_last, value_difference_by_orientation}
use Rattle.ember_poly.proofs.InsideSigns.{combination_value}
use Rattle.ember_poly.proofs.InsidePoints.{flat_sum, weight_sum, scaled_both}
use Rattle.ember_poly.proofs.FaceTests.{all_in, all_out}

-- ---- the tests of a list
-- what holds of all members holds of this one
pub each_in : {X : Type 0} (P : X → Type 0) (h : X) (hs : List X) → In h hs → AllByRecursion P hs → P h
each_in P h [] m a = absurd m
each_in P h (g ∷ gs) (inl e) a = subst P (sym e) a.0
each_in P h (g ∷ gs) (inr m) a = each_in P h gs m a.1

-- the member at an index is a member
pub in_at : {X : Type 0} (i : ℕ) (xs : List X) (d : X) → i < length xs → In (get_or xs i d) xs
in_at i [] d l = absurd (omega (arith, l))
in_at zero (x ∷ xs) d l = inl refl
in_at (suc i) (x ∷ xs) d l = inr (in_at i xs d (omega (arith, l)))

-- a point is above none of the planes, or it is above some
pub decide_free : (hs : List Plane) (v : Spot) → (none_positive hs v ≡ true) ⊎ (none_positive hs v ≡ false)
decide_free hs v = by (none_positive hs v) refl
  where
    by : (b : Bool) → none_positive hs v ≡ b → (none_positive hs v ≡ true) ⊎ (none_positive hs v ≡ false)
    by true e = inl e
    by false e = inr e

-- one place has the same test
at_most_same : {k l a b : ℤ} → pos 0 <ℤ k → pos 0 <ℤ l → k *ℤ b ≡ l *ℤ a → a ≤ℤ pos 0 → b ≤ℤ pos 0
at_most_same {k} {l} {a} {b} pk pl e q =
    let m : pos 0 ≤ℤ neg_ℤ a = omega (arith, linear, q) in let n : pos 0 ≤ℤ l = omega (arith, linear, pl) in
    cancel_le pk (omega (
      arith,
      linear,
      nonneg_mul n m,
      e,
      solve 2 (λ l a. l ⊗ neg a ≈ neg (l ⊗ a)) cancels l a,
      solve 1 (λ k. k ⊗ num (pos 0) ≈ num (pos 0)) cancels k,
    ))

same_free : (hs : List Plane) (u v : Spot) → pos 0 <ℤ u.w → pos 0 <ℤ v.w →
    ((e : Plane) → u.w *ℤ value_at e v ≡ v.w *ℤ value_at e u) → none_positive hs u ≡ true → none_positive hs v ≡ true
same_free hs u v pu pv e f =
    all_in hs v (each_map (λ g. IsNotAbove g u) (λ g. IsNotAbove g v) hs (λ g a. record { at_most = at_most_same pu pv (e g) a.at_most }) (all_out hs u f))

-- ---- three planes that meet in one point
-- the point in which three planes meet is above none of the list, if some such point is
pub fits_free : (n p h : Plane) (hs : List Plane) (v : Spot) → IsMeet n p h v → HasVertexWithin n p h hs → none_positive hs v ≡ true
fits_free n p h hs v m f =
    same_free hs f.at v f.meets.weight m.weight (λ e. same_place n p h f.turns e f.at v f.meets.first f.meets.second
    f.meets.third m.first m.second m.third) f.free

-- ---- a plane with opposite signs at the two ends
abbrev pub IsAcross : Plane → Spot → Spot → Type 0
IsAcross h a b = (pos 0 <ℤ value_at h a) × (value_at h b <ℤ pos 0)

no_slope : (t s k x y c d : ℤ) → t ≡ pos 0 → t *ℤ k ≡ neg_ℤ (s *ℤ (c *ℤ y -ℤ d *ℤ x)) → pos 0 <ℤ c → pos 0 <ℤ d → pos 0 <ℤ x → y <ℤ pos 0 → s ≡ pos 0
no_slope t s k x y c d z e pc pd px py =
    ⊎_elim (λ a. a) (λ b. absurd (omega (arith, linear, b, mul_pos_neg pc py, pos_mul pd px))) (zero_product nothing)
  where
    nothing : s *ℤ (c *ℤ y -ℤ d *ℤ x) ≡ pos 0
    nothing =
        let f : pos 0 *ℤ k ≡ neg_ℤ (s *ℤ (c *ℤ y -ℤ d *ℤ x)) = subst (λ t. t *ℤ k ≡ neg_ℤ (s *ℤ (c *ℤ y -ℤ d *ℤ x))) z e in
        omega (arith, linear, f, solve 1 (λ k. num (pos 0) ⊗ k ≈ num (pos 0)) cancels k)

across_turns : (n p h : Plane) (a b : Spot) → IsLine n p a b → IsAcross h a b → orientation n p h ≢ pos 0
across_turns n p h a b l s =
    λ z. l.turns (back (swap_last n l.across p) (no_slope (orientation n p h) (orientation n l.across p)
    (a.w *ℤ value_at l.across b -ℤ b.w *ℤ value_at l.across a) (value_at h a) (value_at h b) a.w b.w z
    (value_difference_by_orientation n p h l.across a b l.flat_y l.flat_z l.on_y l.on_z) l.weight_y l.weight_z s.0
    s.1))
  where
    back : {x y : ℤ} → y ≡ neg_ℤ x → x ≡ pos 0 → y ≡ pos 0
    back {x} {y} e z = omega (arith, linear, e, z)

-- the line from the other end
turned_line : (n p : Plane) (a b : Spot) → IsLine n p a b → IsLine n p b a
turned_line n p a b l =
    record {
      flat_y = l.flat_z;
      flat_z = l.flat_y;
      on_y = l.on_z;
      on_z = l.on_y;
      weight_y = l.weight_z;
      weight_z =
          l.weight_y;
      across = l.across;
      turns = l.turns;
    }

-- ---- where it meets the line
meets_line : (i j : ℤ) (n p h : Plane) (a b : Spot) → pos 0 ≤ℤ i → pos 0 <ℤ j → value_at n a ≡ pos 0 →
    value_at n b ≡ pos 0 → value_at p a ≡ pos 0 → value_at p b ≡ pos 0 → pos 0 <ℤ a.w → pos 0 <ℤ b.w →
    i *ℤ value_at h a +ℤ j *ℤ value_at h b ≡ pos 0 → IsMeet n p h (combination i j a b)
meets_line i j n p h a b pi pj na nb ha hb wa wb e =
    record { first = flat_sum i j a b n na nb; second = flat_sum i j a b p ha hb; third = combination_value i j a b h ∙ e; weight = weight_sum pi pj wa wb }

-- a plane that fits leaves the segment open
open_across : (n p h : Plane) (hs : List Plane) (a b : Spot) → IsLine n p a b → IsAcross h a b → HasVertexWithin n p h hs → IsOpen hs a b
open_across n p h hs a b l s f =
    let i = flip s.1 in
    record {
      i = neg_ℤ (value_at h b);
      j = value_at h a;
      from_y = i;
      from_z = s.0;
      free =
          fits_free n p h hs (combination (neg_ℤ (value_at h b)) (value_at h a) a b)
          (meets_line (neg_ℤ (value_at h b)) (value_at h a) n p h a b (most i) s.0 l.flat_y l.flat_z l.on_y l.on_z
          l.weight_y l.weight_z (solve 2 (λ x y. neg y ⊗ x ⊕ x ⊗ y ≈ num (pos 0)) cancels (value_at h a) (value_at h b))) f;
    }
  where
    flip : {x : ℤ} → x <ℤ pos 0 → pos 0 <ℤ neg_ℤ x
    flip q = omega (arith, linear, q)

    most : {x : ℤ} → pos 0 <ℤ x → pos 0 ≤ℤ x
    most q = omega (arith, linear, q)

combination_turned : (i j : ℤ) (a b : Spot) → combination i j a b ≡ combination j i b a
combination_turned i j a b =
    λ t. record { x = both a.x b.x t; y = both a.y b.y t; z = both a.z b.z t; w = both a.w b.w t }
  where
    both : (x y : ℤ) → i *ℤ x +ℤ j *ℤ y ≡ j *ℤ y +ℤ i *ℤ x
    both x y = solve 4 (λ i j x y. i ⊗ x ⊕ j ⊗ y ≈ j ⊗ y ⊕ i ⊗ x) cancels i j x y

turned_open : (hs : List Plane) (a b : Spot) → IsOpen hs a b → IsOpen hs b a
turned_open hs a b o =
    record { i = o.j; j = o.i; from_y = o.from_z; from_z = o.from_y; free = subst (λ v. none_positive hs v ≡ true) (combination_turned o.i o.j a b) o.free }

-- ---- from an end that is shut out to an open point: the last plane that is passed
record Passing (n p : Plane) (hs : List Plane) (a b : Spot) : Type 0 where
  pub plane : Plane
  pub member : In plane hs
  pub across : IsAcross plane a b
  pub has_vertex_within : HasVertexWithin n p plane hs

pub last_free : (gs : List Plane) (g : Plane) (a x : Spot) → After a x g gs → none_positive gs (combination (neg_ℤ (value_at g x)) (value_at g a) a x) ≡ true
last_free [] g a x f = refl
last_free (h ∷ gs) g a x f =
    all_in (h ∷ gs) (combination (neg_ℤ (value_at g x)) (value_at g a) a x) (
      record {
        at_most = rw (combination_value (neg_ℤ (value_at g x)) (value_at g a) a x h)
            (below (value_at h a) (value_at h x) (value_at g a) (value_at g x) f.0);
      },
      all_out gs (combination (neg_ℤ (value_at g x)) (value_at g a) a x) (last_free gs g a x f.1),
    )
  where
    below : (ha hx ga gx : ℤ) → (ha *ℤ neg_ℤ gx) ≤ℤ (ga *ℤ neg_ℤ hx) → (neg_ℤ gx *ℤ ha +ℤ ga *ℤ hx) ≤ℤ pos 0
    below ha hx ga gx l =
        omega (arith, linear, l, solve 2 (λ h g. neg g ⊗ h ≈ h ⊗ neg g) cancels ha gx, solve 2 (λ g h. g ⊗ neg h ≈ neg (g ⊗ h)) cancels ga hx)

passing : (n p : Plane) (hs : List Plane) (a b : Spot) → IsLine n p a b → IsOpen hs a b → none_positive hs a ≡ false → Passing n p hs a b
passing n p hs a b l o f = by (last_zero a x hs f o.free)
  where
    x : Spot
    x = combination o.i o.j a b

    least : {k : ℤ} → pos 0 <ℤ k → pos 0 ≤ℤ k
    least q = omega (arith, linear, q)

    -- negative at the other end
    falls : (i j u v : ℤ) → pos 0 <ℤ i → pos 0 <ℤ j → pos 0 <ℤ u → (i *ℤ u +ℤ j *ℤ v) ≤ℤ pos 0 → v <ℤ pos 0
    falls i j u v pi pj pu q =
        cancel_lt pj (omega (arith, linear, q, pos_mul pi pu, solve 1 (λ j. j ⊗ num (pos 0) ≈ num (pos 0)) cancels j))

    up : {k : ℤ} → k ≤ℤ pos 0 → pos 0 ≤ℤ neg_ℤ k
    up q = omega (arith, linear, q)

    by : Last a x hs → Passing n p hs a b
    by r =
        let g = r.plane in let at : value_at g x ≤ℤ pos 0 = none_positive_member x hs g o.free r.member in
        let s : IsAcross g a b = (
          r.up,
          falls o.i o.j (value_at g a) (value_at g b) o.from_y o.from_z r.up
              (subst (λ k. k ≤ℤ pos 0) (combination_value o.i o.j a b g) at),
        ) in
        let flat : value_at n x ≡ pos 0 = flat_sum o.i o.j a b n l.flat_y l.flat_z in
        let on : value_at p x ≡ pos 0 = flat_sum o.i o.j a b p l.on_y l.on_z in
        let heavy : pos 0 <ℤ x.w = weight_sum (least o.from_y) o.from_z l.weight_y l.weight_z in
        record {
          plane = g;
          member = r.member;
          across = s;
          has_vertex_within = record {
            turns = across_turns n p g a b l s;
            at =
                combination (neg_ℤ (value_at g x)) (value_at g a) a x;
            meets =
                meets_line (neg_ℤ (value_at g x)) (value_at g a) n p g a x (up at) r.up l.flat_y flat l.on_y on l.weight_y
                heavy (solve 2 (λ u v. neg v ⊗ u ⊕ u ⊗ v ≈ num (pos 0)) cancels (value_at g a) (value_at g x));
            free =
                last_free hs g a x r.after;
          };
        }

-- ---- the planes of a list one after another
module _ (n p : Plane) (hs : List Plane) (y z : Spot) where
  abbrev Spans : ChordPart → Plane → Type 0
  Spans s h = IsChordPart (value_at h y) (value_at h z) s

  -- a plane that leaves all, or splits the segment and doesn't fit
  abbrev pub Passed : Plane → Type 0
  Passed h = Spans Whole h ⊎ (Spans Split h × (HasVertexWithin n p h hs → ⊥))

  abbrev pub AreFree : Bool → List Plane → Type 0
  AreFree true gs = AllByRecursion (λ h. Spans Whole h) gs
  AreFree false gs = HasMember (λ h. Spans Split h) gs

  pub record Tried (b : Bool) (gs : List Plane) : Type 0 where
    pub passed : AllByRecursion Passed gs
    pub free : AreFree b gs

module _ (n p : Plane) (hs : List Plane) (y z : Spot) (l : IsLine n p y z) where
  tried_free : (b : Bool) (gs : List Plane) (h : Plane) → Spans n p hs y z Whole h → Tried n p hs y z b gs → Tried n p hs y z b (gs ++ h ∷ [])
  tried_free true gs h s t =
      record { passed = each-push (Passed n p hs y z) gs h t.passed (inl s); free = each-push (λ h. Spans n p hs y z Whole h) gs h t.free s }
  tried_free false gs h s t =
      record { passed = each-push (Passed n p hs y z) gs h t.passed (inl s); free = has-front (λ h. Spans n p hs y z Split h) gs (h ∷ []) t.free }

  tried_split : (b : Bool) (gs : List Plane) (h : Plane) → Spans n p hs y z Split h → (HasVertexWithin n p h hs → ⊥) →
      Tried n p hs y z b gs → Tried n p hs y z false (gs ++ h ∷ [])
  tried_split b gs h s f t =
      record { passed = each-push (Passed n p hs y z) gs h t.passed (inr (s, f)); free = has-push (λ h. Spans n p hs y z Split h) gs h s }

  -- a plane that fits, and one that shuts all out
  pub open_split : (h : Plane) → Spans n p hs y z Split h → HasVertexWithin n p h hs → IsOpen hs y z
  open_split h (inl s) f = open_across n p h hs y z l s f
  open_split h (inr s) f =
      turned_open hs z y (open_across n p h hs z y (turned_line n p y z l) (s.1, s.0) f)

  shut_out : (h : Plane) → In h hs → Spans n p hs y z Empty h → IsOpen hs y z → ⊥
  shut_out h m s o =
      by s (subst (λ k. k ≤ℤ pos 0) (combination_value o.i o.j y z h) (none_positive_member (combination o.i o.j y z) hs h o.free m))
    where
      least : {k : ℤ} → pos 0 <ℤ k → pos 0 ≤ℤ k
      least q = omega (arith, linear, q)

      by : Spans n p hs y z Empty h → (o.i *ℤ value_at h y +ℤ o.j *ℤ value_at h z) ≤ℤ pos 0 → ⊥
      by (inl s) q = absurd (omega (arith, linear, q, pos_mul o.from_y s.0, nonneg_mul (least o.from_z) s.1))
      by (inr s) q = absurd (omega (arith, linear, q, nonneg_mul (least o.from_y) s.0, pos_mul o.from_z s.1))

  -- the end of the list
  all_free : AllByRecursion (λ h. Spans n p hs y z Whole h) hs → IsOpen hs y z
  all_free a =
      let one : pos 0 <ℤ pos 1 = omega (arith, linear) in
      record {
        i = pos 1;
        j = pos 1;
        from_y = one;
        from_z = one;
        free =
            all_in hs (combination (pos 1) (pos 1) y z)
            (each_map (λ h. Spans n p hs y z Whole h) (λ h. IsNotAbove h (combination (pos 1) (pos 1) y z)) hs
            (λ h s. scaled_both (pos 1) (pos 1) y z h (omega (arith, linear)) (omega (arith, linear))
            (record { at_most = s.0 }) (record { at_most = s.1 })) a);
      }

  not_passed : AllByRecursion (Passed n p hs y z) hs → (h : Plane) → In h hs → HasVertexWithin n p h hs → IsAcross h y z ⊎ IsAcross h z y → ⊥
  not_passed a h m f s = by s (each_in (Passed n p hs y z) h hs m a)
    where
      by : IsAcross h y z ⊎ IsAcross h z y → Passed n p hs y z h → ⊥
      by s (inr q) = q.1 f
      by (inl s) (inl q) = absurd (omega (arith, linear, s.0, q.0))
      by (inr s) (inl q) = absurd (omega (arith, linear, s.0, q.1))

  none_open : AllByRecursion (Passed n p hs y z) hs → (none_positive hs y ≡ false) ⊎ (none_positive hs z ≡ false) → IsOpen hs y z → ⊥
  none_open a (inl f) o =
      let r = passing n p hs y z l o f in not_passed a r.plane r.member r.has_vertex_within (inl r.across)
  none_open a (inr f) o =
      let r = passing n p hs z y (turned_line n p y z l) (turned_open hs y z o) f in
      not_passed a r.plane r.member r.has_vertex_within (inr r.across)

  some_end : HasMember (λ h. Spans n p hs y z Split h) hs → (none_positive hs y ≡ false) ⊎ (none_positive hs z ≡ false)
  some_end s =
      ⊎_elim (λ a. ⊎_elim (λ b. absurd (both a b)) (λ f. inr f) (decide_free hs z)) (λ f. inl f) (decide_free hs y)
    where
      clash : (h : Plane) → Spans n p hs y z Split h → IsNotAbove h y → IsNotAbove h z → ⊥
      clash h (inl s) a b = absurd (omega (arith, linear, s.0, a.at_most))
      clash h (inr s) a b = absurd (omega (arith, linear, s.1, b.at_most))

      both : none_positive hs y ≡ true → none_positive hs z ≡ true → ⊥
      both a b =
          let r = has_pick (λ h. Spans n p hs y z Split h) (λ h. IsNotAbove h y × IsNotAbove h z) hs s
          (each_both (λ h. IsNotAbove h y) (λ h. IsNotAbove h z) (λ h. IsNotAbove h y × IsNotAbove h z) hs
          (λ h u v. (u, v)) (all_out hs y a) (all_out hs z b)) in
          clash r.member r.holds r.also.0 r.also.1

  tried_all : (b : Bool) → Tried n p hs y z b hs → (b ≡ true → IsOpen hs y z) × (IsOpen hs y z → b ≡ true)
  tried_all true t = (λ e. all_free t.free, λ o. refl)
  tried_all false t = (λ e. absurd (differ e), λ o. absurd (none_open t.passed (some_end t.free) o))
    where
      differ : false ≡ true → ⊥
      differ e = cc

  -- ---- at a place of the list
  pub shut_at : (i : ℕ) (d : Plane) → i < length hs → Spans n p hs y z Empty (get_or hs i d) → IsOpen hs y z → ⊥
  shut_at i d m s o = shut_out (get_or hs i d) (in_at i hs d m) s o

  pub free_at : (b : Bool) (i : ℕ) (d : Plane) → i < length hs → Spans n p hs y z Whole (get_or hs i d) →
      Tried n p hs y z b (take i hs) → Tried n p hs y z b (take (i + 1) hs)
  free_at b i d m s t =
      subst (λ gs. Tried n p hs y z b gs) (sym (take_more hs i d m)) (tried_free b (take i hs) (get_or hs i d) s t)

  pub split_at : (b : Bool) (i : ℕ) (d : Plane) → i < length hs → Spans n p hs y z Split (get_or hs i d) →
      (HasVertexWithin n p (get_or hs i d) hs → ⊥) → Tried n p hs y z b (take i hs) →
      Tried n p hs y z false (take (i + 1) hs)
  split_at b i d m s f t =
      subst (λ gs. Tried n p hs y z false gs) (sym (take_more hs i d m)) (tried_split b (take i hs) (get_or hs i d) s f t)

  pub tried_end : (b : Bool) (i : ℕ) → length hs ≤ i → Tried n p hs y z b (take i hs) → (b ≡ true → IsOpen hs y z) × (IsOpen hs y z → b ≡ true)
  tried_end b i m t = tried_all b (subst (λ gs. Tried n p hs y z b gs) (take_all i hs m) t)
