-- Inside points of a face that lie above no plane of a list.
use Rattle.std.proofs.Common.{◌≡◌, ◌⊎◌, ⊎_elim, inl, inr, refl, sym, subst, ◌∙◌, arith, ℕ, ◌<◌, ◌≤◌, ◌+◌, Bool, true}
use Rattle.std.proofs.Common.{false, not, List, [], ◌∷◌, ◌++◌, length, take, ℤ, pos, neg_ℤ, ◌<ℤ◌, ◌≤ℤ◌}
use lib.ListN.{get_or}
use Rattle.std.proofs.lemmas.List.{take_more, take_all}
use Rattle.std.specs.List.{AllByRecursion}
use Rattle.ember_algebra.specs.Sign.{is_negative, is_zero, is_positive}
use Rattle.ember_algebra.proofs.Laws.{linear}
use Rattle.ember_algebra.proofs.Ring.{◌⊕◌, ◌⊗◌, neg, num, ◌≈◌, solve, cancels}
use Rattle.ember_model.specs.declared.plane.Plane.{Plane}
use Rattle.ember_model.specs.declared.point.Spot.{Spot}
use Rattle.ember_model.specs.declared.face.Face.{Face}
use Rattle.ember_model.specs.Planes.{value_at}
use Rattle.ember_model.specs.Faces.{is_inside, Somewhere, Everywhere, Cuts, Meets}
use Rattle.ember_model.specs.ClearTest.{none_positive, face_with}
use Rattle.ember_model.proofs.SignTests.{In, negative_out, zero_out, positive_out, not_positive_in, not_positive_out}
use Rattle.ember_model.proofs.LastZero.{Last, last_zero, none_positive_member}
use Rattle.ember_poly.specs.Rings.{IsBelow, IsNotAbove}
use Rattle.ember_poly.specs.Passages.{HasMember}
use Rattle.ember_poly.specs.Chords.{combination}
use Rattle.ember_poly.specs.Cuts.{HasInside, IsWhole}
use Rattle.ember_poly.proofs.Chains.{each_map, each_both, each-push}
use Rattle.ember_poly.proofs.Members.{has-push, has-front, has_pick}
use Rattle.ember_poly.proofs.InsideSigns.{combination_value}
use Rattle.ember_poly.proofs.InsidePoints.{below_is_not_above, flat_sum, weight_sum, scaled_under}
use Rattle.ember_poly.proofs.FaceTests.{all_in, all_out, inside_in, inside_out, closed_in, closed_out}
use Rattle.ember_poly.proofs.ChordParts.{each_in, in_at, last_free, decide_free}

-- ---- two inside points
inside_combination : (f : Face) (i j : ℤ) (u v : Spot) → pos 0 ≤ℤ i → pos 0 <ℤ j → is_inside f u ≡ true →
    is_inside f v ≡ true → is_inside f (combination i j u v) ≡ true
inside_combination f i j u v pi pj eu ev =
    let a = inside_out f u eu in let b = inside_out f v ev in
    inside_in f (combination i j u v) (record {
      flat = flat_sum i j u v f.support a.flat b.flat;
      weight =
          weight_sum pi pj a.weight b.weight;
      within =
          each_both (λ g. IsBelow g u) (λ g. IsBelow g v) (λ g. IsBelow g (combination i j u v)) f.edges
          (λ g x y. scaled_under i j u v g pi pj (below_is_not_above x) y) a.within b.within;
    })

-- ---- a plane for which no inside point is above it
abbrev pub IsLow : Face → Plane → Type 0
IsLow f h = Everywhere f (λ v. not (is_positive (value_at h v)) ≡ true)

-- a face wholly below a plane isn't above it
pub low_below : (f : Face) (h : Plane) → IsWhole f (λ v. is_negative (value_at h v) ≡ true) → IsLow f h
low_below f h w =
    record { holds = λ v e. not_positive_in (value_at h v) (most (negative_out (value_at h v) (w.everywhere.holds v e))) }
  where
    most : {a : ℤ} → a <ℤ pos 0 → a ≤ℤ pos 0
    most q = omega (arith, linear, q)

-- a face wholly on a plane isn't above it
pub low_on : (f : Face) (h : Plane) → IsWhole f (λ v. is_zero (value_at h v) ≡ true) → IsLow f h
low_on f h w =
    record { holds = λ v e. not_positive_in (value_at h v) (most (zero_out (value_at h v) (w.everywhere.holds v e))) }
  where
    most : {a : ℤ} → a ≡ pos 0 → a ≤ℤ pos 0
    most q = omega (arith, linear, q)

clash : {X : Type 0} (a : ℤ) → pos 0 <ℤ a → not (is_positive a) ≡ true → X
clash a p e = absurd (omega (arith, linear, p, not_positive_out a e))

-- ---- the planes of a list one after another
module _ (f : Face) (hs : List Plane) where
  abbrev pub Passed : Plane → Type 0
  Passed h = IsLow f h ⊎ (Meets f (face_with h hs) → ⊥)

  abbrev pub AreLow : Bool → List Plane → Type 0
  AreLow true gs = AllByRecursion (λ h. IsLow f h) gs
  AreLow false gs = HasMember (λ h. Cuts f h) gs

  pub record Tested (b : Bool) (gs : List Plane) : Type 0 where
    pub passed : AllByRecursion Passed gs
    pub low : AreLow b gs

  tested_low : (b : Bool) (gs : List Plane) (h : Plane) → IsLow f h → Tested b gs → Tested b (gs ++ h ∷ [])
  tested_low true gs h s t =
      record { passed = each-push Passed gs h t.passed (inl s); low = each-push (λ h. IsLow f h) gs h t.low s }
  tested_low false gs h s t =
      record { passed = each-push Passed gs h t.passed (inl s); low = has-front (λ h. Cuts f h) gs (h ∷ []) t.low }

  tested_cut : (b : Bool) (gs : List Plane) (h : Plane) → Cuts f h → (Meets f (face_with h hs) → ⊥) → Tested b gs → Tested false (gs ++ h ∷ [])
  tested_cut b gs h s n t =
      record { passed = each-push Passed gs h t.passed (inr n); low = has-push (λ h. Cuts f h) gs h s }

  pub low_at : (b : Bool) (i : ℕ) (d : Plane) → i < length hs → IsLow f (get_or hs i d) → Tested b (take i hs) → Tested b (take (i + 1) hs)
  low_at b i d m s t =
      subst (λ gs. Tested b gs) (sym (take_more hs i d m)) (tested_low b (take i hs) (get_or hs i d) s t)

  pub cut_at : (b : Bool) (i : ℕ) (d : Plane) → i < length hs → Cuts f (get_or hs i d) →
      (Meets f (face_with (get_or hs i d) hs) → ⊥) → Tested b (take i hs) → Tested false (take (i + 1) hs)
  cut_at b i d m s n t =
      subst (λ gs. Tested false gs) (sym (take_more hs i d m)) (tested_cut b (take i hs) (get_or hs i d) s n t)

  -- all inside points are above a plane
  pub above_at : (i : ℕ) (d : Plane) → i < length hs →
      IsWhole f (λ v. is_positive (value_at (get_or hs i d) v) ≡ true) → Somewhere f (λ v. none_positive hs v ≡ true) → ⊥
  above_at i d m w s =
      let h = get_or hs i d in
      absurd (omega (arith, linear, positive_out (value_at h s.at) (w.everywhere.holds s.at s.inside), none_positive_member s.at hs h s.holds (in_at i hs d m)))

  -- a face that meets another one has an inside point that is above none of its edges
  pub met_free : (h : Plane) → Meets f (face_with h hs) → Somewhere f (λ v. none_positive hs v ≡ true)
  met_free h m =
      record { at = m.at; inside = m.inside; holds = all_in hs m.at (closed_out (face_with h hs) m.at m.holds).within }

  -- the end of the list
  all_low : HasInside f → AllByRecursion (λ h. IsLow f h) hs → Somewhere f (λ v. none_positive hs v ≡ true)
  all_low s a =
      record {
        at = s.at;
        inside = s.inside;
        holds =
            all_in hs s.at (each_map (λ h. IsLow f h) (λ h. IsNotAbove h s.at) hs
            (λ h l. record { at_most = not_positive_out (value_at h s.at) (l.holds s.at s.inside) }) a);
      }

  -- from a point above a plane to one above none: the last plane that is passed meets the list there
  module _ (u x : Spot) (eu : is_inside f u ≡ true) (ex : is_inside f x ≡ true) (e : none_positive hs x ≡ true) (r : Last u x hs) where
    abbrev between : Spot
    between = combination (neg_ℤ (value_at r.plane x)) (value_at r.plane u) u x

    up : {k : ℤ} → k ≤ℤ pos 0 → pos 0 ≤ℤ neg_ℤ k
    up q = omega (arith, linear, q)

    here : is_inside f between ≡ true
    here =
        inside_combination f (neg_ℤ (value_at r.plane x)) (value_at r.plane u) u x (up (none_positive_member x hs r.plane e r.member)) r.up eu ex

    zero : value_at r.plane between ≡ pos 0
    zero =
        combination_value (neg_ℤ (value_at r.plane x)) (value_at r.plane u) u x r.plane
        ∙ solve 2 (λ u v. neg v ⊗ u ⊕ u ⊗ v ≈ num (pos 0)) cancels (value_at r.plane u) (value_at r.plane x)

    met_last : Meets f (face_with r.plane hs)
    met_last =
        record {
          at = between;
          inside = here;
          holds =
              closed_in (face_with r.plane hs) between
              (record {
                flat = zero;
                weight = (inside_out f between here).weight;
                within =
                    all_out hs between (last_free hs r.plane u x r.after);
              });
        }

    passed_last : AllByRecursion Passed hs → ⊥
    passed_last a = by (each_in Passed r.plane hs r.member a)
      where
        by : Passed r.plane → ⊥
        by (inl l) = clash (value_at r.plane u) r.up (l.holds u eu)
        by (inr n) = n met_last

  none_met : AllByRecursion Passed hs → HasMember (λ h. Cuts f h) hs → Somewhere f (λ v. none_positive hs v ≡ true) → ⊥
  none_met a c s =
      let k = has_pick (λ h. Cuts f h) (λ h. In h hs) hs c (all_in_list hs) in let u = k.holds.some_above in
      ⊎_elim (λ e. clash (value_at k.member u.at) (positive_out (value_at k.member u.at) u.holds)
      (not_positive_in (value_at k.member u.at) (none_positive_member u.at hs k.member e k.also)))
      (λ e. passed_last u.at s.at u.inside s.inside s.holds (last_zero u.at s.at hs e s.holds) a)
      (decide_free hs u.at)
    where
      later : (xs ys : List Plane) (x : Plane) → AllByRecursion (λ h. In h ys) xs → AllByRecursion (λ h. In h (x ∷ ys)) xs
      later xs ys x h = each_map (λ h. In h ys) (λ h. In h (x ∷ ys)) xs (λ h m. inr m) h

      all_in_list : (xs : List Plane) → AllByRecursion (λ h. In h xs) xs
      all_in_list [] = tt
      all_in_list (x ∷ xs) = (inl refl, later xs xs x (all_in_list xs))

  pub tested_end : (b : Bool) (i : ℕ) → length hs ≤ i → Tested b (take i hs) → HasInside f →
      (b ≡ true → Somewhere f (λ v. none_positive hs v ≡ true)) × (Somewhere f (λ v. none_positive hs v ≡ true) →
      b ≡ true)
  tested_end b i m t s = by b (subst (λ gs. Tested b gs) (take_all i hs m) t)
    where
      differ : false ≡ true → ⊥
      differ e = cc

      by : (b : Bool) → Tested b hs → (b ≡ true → Somewhere f (λ v. none_positive hs v ≡ true)) × (Somewhere f (λ v. none_positive hs v ≡ true) → b ≡ true)
      by true t = (λ e. all_low s t.low, λ o. refl)
      by false t = (λ e. absurd (differ e), λ o. absurd (none_met t.passed t.low o))

-- ---- planes one after another, at most one of which cuts the face
pub record Counted (f : Face) (is_cut is_cut_twice : Bool) (gs : List Plane) : Type 0 where
  pub low : is_cut ≡ false → AllByRecursion (λ h. IsLow f h) gs
  pub free : is_cut_twice ≡ false → Somewhere f (λ v. none_positive gs v ≡ true)

pub counted_none : (f : Face) → HasInside f → Counted f false false []
counted_none f s =
    record { low = λ e. tt; free = λ e. record { at = s.at; inside = s.inside; holds = refl } }

module _ (f : Face) (is_cut : Bool) (gs : List Plane) (h : Plane) where
  free_push : (s : Somewhere f (λ v. none_positive gs v ≡ true)) → IsNotAbove h s.at → Somewhere f (λ v. none_positive (gs ++ h ∷ []) v ≡ true)
  free_push s n =
      record { at = s.at; inside = s.inside; holds = all_in (gs ++ h ∷ []) s.at (each-push (λ g. IsNotAbove g s.at) gs h (all_out gs s.at s.holds) n) }

  counted_low : (is_cut_twice : Bool) → IsLow f h → Counted f is_cut is_cut_twice gs → Counted f is_cut is_cut_twice (gs ++ h ∷ [])
  counted_low is_cut_twice l c =
      record {
        low = λ e. each-push (λ h. IsLow f h) gs h (c.low e) l;
        free =
            λ e. (let s = c.free e in free_push s (record {
              at_most =
                  not_positive_out (value_at h s.at) (l.holds s.at s.inside);
            }));
      }

  counted_cut : (is_cut_twice : Bool) → Cuts f h → Counted f is_cut is_cut_twice gs → Counted f true is_cut (gs ++ h ∷ [])
  counted_cut is_cut_twice k c =
      record {
        low = λ e. absurd (differ e);
        free =
            λ e. free_push (below_all e) (record {
              at_most =
                  most (negative_out (value_at h k.some_below.at) k.some_below.holds);
            });
      }
    where
      differ : true ≡ false → ⊥
      differ e = cc

      most : {a : ℤ} → a <ℤ pos 0 → a ≤ℤ pos 0
      most q = omega (arith, linear, q)

      below_all : is_cut ≡ false → Somewhere f (λ v. none_positive gs v ≡ true)
      below_all e =
          record {
            at = k.some_below.at;
            inside = k.some_below.inside;
            holds =
                all_in gs k.some_below.at (each_map (λ h. IsLow f h) (λ h. IsNotAbove h k.some_below.at) gs
                (λ h l. record {
                  at_most = not_positive_out (value_at h k.some_below.at)
                      (l.holds k.some_below.at k.some_below.inside);
                }) (c.low e));
          }

-- the same at a place of a list
module _ (f : Face) (hs : List Plane) (is_cut is_cut_twice : Bool) (i : ℕ) (d : Plane) (m : i < length hs) (c : Counted f is_cut is_cut_twice (take i hs)) where
  pub counted_low_at : IsLow f (get_or hs i d) → Counted f is_cut is_cut_twice (take (i + 1) hs)
  counted_low_at l =
      subst (λ gs. Counted f is_cut is_cut_twice gs) (sym (take_more hs i d m)) (counted_low f is_cut (take i hs) (get_or hs i d) is_cut_twice l c)

  pub counted_cut_at : Cuts f (get_or hs i d) → Counted f true is_cut (take (i + 1) hs)
  counted_cut_at k =
      subst (λ gs. Counted f true is_cut gs) (sym (take_more hs i d m)) (counted_cut f is_cut (take i hs) (get_or hs i d) is_cut_twice k c)

-- ---- a face in one plane with the other, or off it
-- if a face lies on a plane and has an inside point above none of the planes, it meets the face of both
pub met_on : (f : Face) (n : Plane) (hs : List Plane) → IsWhole f (λ v. is_zero (value_at n v) ≡ true) →
    Somewhere f (λ v. none_positive hs v ≡ true) → Meets f (face_with n hs)
met_on f n hs w s =
    record {
      at = s.at;
      inside = s.inside;
      holds =
          closed_in (face_with n hs) s.at (record {
            flat =
                zero_out (value_at n s.at) (w.everywhere.holds s.at s.inside);
            weight =
                (inside_out f s.at s.inside).weight;
            within = all_out hs s.at s.holds;
          });
    }
