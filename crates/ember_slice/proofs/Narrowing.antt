-- What planes leave of a line.
use Rattle.std.proofs.Common.{◌≡◌, refl, sym, ap, subst, ◌∙◌, arith, ℕ, ◌+◌, ◌<◌, ◌≤◌, ℤ, pos, ◌<ℤ◌, Bool, true, false}
use Rattle.std.proofs.Common.{not, cond, ◌&&◌, List, [], ◌∷◌, length, drop, get_or, add-one, drop-cons}
use Rattle.std.proofs.Common.{drop_of_length-le, Option, Some, None}
use Rattle.std.specs.Prelude.{MatchOption}
use Rattle.ember_algebra.specs.Sign.{is_neg, is_pos, is_negative, is_positive}
use Rattle.ember_algebra.proofs.Laws.{linear}
use Rattle.ember_algebra.proofs.Booleans.{and_swapped, and_with_true, and_implied}
use Rattle.ember_model.specs.declared.plane.Plane.{Plane}
use Rattle.ember_model.specs.declared.point.Spot.{Spot}
use Rattle.ember_model.specs.Planes.{value_at, zero_plane}
use Rattle.ember_model.proofs.SignTests.{negative_in, negative_out, positive_out, not_positive_out, and_true}
use Rattle.ember_point.specs.Points.{spot_of}
use Rattle.ember_slice.specs.declared.interval.End.{End}
use Rattle.ember_slice.specs.declared.interval.LineInterval.{LineInterval}
use Rattle.ember_slice.specs.Lines.{is_on_line, ahead, is_before}
use Rattle.ember_slice.specs.Intervals.{AllOf, Enters, Leaves, AreEnds, IsNarrowed, IsInterval, is_after, is_until, is_in_interval, is_behind}
use Rattle.ember_slice.proofs.Along.{on_line_out, ahead_turned}
use Rattle.ember_slice.proofs.Orders.{not_after_then, then_not_after, absorbs_first}

-- ---- tests
join_first : (a b l : Bool) → b ≡ a && b → b && l ≡ (a && l) && b
join_first true true true e = refl
join_first true true false e = refl
join_first true false true e = refl
join_first true false false e = refl
join_first false true l e = absurd (cc)
join_first false false l e = refl

keep_first : (a b l : Bool) → a ≡ a && b → a && l ≡ (a && l) && b
keep_first true true true e = refl
keep_first true true false e = refl
keep_first true false l e = absurd (cc)
keep_first false b l e = refl

join_last : (f a b : Bool) → b ≡ a && b → f && b ≡ (f && a) && b
join_last true a b e = e
join_last false a b e = refl

keep_last : (f a b : Bool) → a ≡ a && b → f && a ≡ (f && a) && b
keep_last true a b e = e
keep_last false a b e = refl

only_last : (f b : Bool) → f && b ≡ (f && true) && b
only_last true b = refl
only_last false b = refl

-- ---- the line passes to behind the plane
module _ (n : Plane) (at : ℤ) (new : End) (h : Enters n at new.plane (spot_of new.point)) where
  behind_after : (v : Spot) → is_on_line n at v ≡ true → is_negative (value_at new.plane v) ≡ is_before n (spot_of new.point) v
  behind_after v on = ap is_neg (h.signs v on)

  new_weight : pos 0 <ℤ (spot_of new.point).w
  new_weight = (on_line_out n at (spot_of new.point) h.on).weight

  module _ (e : End) (old : Enters n at e.plane (spot_of e.point)) (v : Spot) (on : is_on_line n at v ≡ true) where
    weights : pos 0 <ℤ (spot_of e.point).w
    weights = (on_line_out n at (spot_of e.point) old.on).weight

    later_new : is_positive (value_at new.plane (spot_of e.point)) ≡ true → is_before n (spot_of new.point) v ≡ true → is_before n (spot_of e.point) v ≡ true
    later_new t k =
        let m = spot_of new.point in let a = spot_of e.point in
        let l = positive_out (ahead n m a) (sym (ap is_pos (h.signs a old.on)) ∙ t) in
        negative_in (not_after_then n a m v weights new_weight (on_line_out n at v on).weight
        (omega (arith, linear, l, ahead_turned n m a)) (negative_out (ahead n m v) k))

    later_old : is_positive (value_at new.plane (spot_of e.point)) ≡ false → is_before n (spot_of e.point) v ≡ true → is_before n (spot_of new.point) v ≡ true
    later_old t k =
        let m = spot_of new.point in let a = spot_of e.point in
        let l = not_positive_out (ahead n m a) (ap not (sym (ap is_pos (h.signs a old.on)) ∙ t)) in
        negative_in (not_after_then n m a v new_weight weights (on_line_out n at v on).weight l (negative_out (ahead n a v) k))

  pub narrowed_after : (first last : Option End) (chosen : End) →
      MatchOption first (chosen ≡ new) (λ e. chosen ≡ cond (is_positive (value_at new.plane (spot_of e.point))) new e) →
      AreEnds n at (record { first = first; last = last }) →
      IsNarrowed n at new.plane (record { first = first; last = last }) (record { first = Some chosen; last = last })
  narrowed_after None last chosen q ends =
      subst (λ d. IsNarrowed n at new.plane (record { first = None; last = last }) (record { first = Some d; last = last })) (sym q) (record {
        ends = record { first = h; last = ends.last };
        left = λ v on. and_swapped (is_before n (spot_of new.point) v) (is_until n last v) ∙ ap (λ b. is_until n last v && b) (sym (behind_after v on));
      })
  narrowed_after (Some e) last chosen q ends = by (is_positive (value_at new.plane (spot_of e.point))) refl q
    where
      by : (t : Bool) → is_positive (value_at new.plane (spot_of e.point)) ≡ t → chosen ≡ cond t new e →
          IsNarrowed n at new.plane (record { first = Some e; last = last }) (record { first = Some chosen; last = last })
      by true t p =
          subst (λ d. IsNarrowed n at new.plane (record { first = Some e; last = last }) (record { first = Some d; last = last })) (sym p) (record {
            ends = record { first = h; last = ends.last };
            left = λ v on. let b = is_before n (spot_of new.point) v in let a = is_before n (spot_of e.point) v in
                join_first a b (is_until n last v) (absorbs_first a b (later_new e ends.first v on t))
                ∙ ap (λ c. (a && is_until n last v) && c) (sym (behind_after v on));
          })
      by false t p =
          subst (λ d. IsNarrowed n at new.plane (record { first = Some e; last = last }) (record { first = Some d; last = last })) (sym p) (record {
            ends = record { first = ends.first; last = ends.last };
            left = λ v on. let b = is_before n (spot_of new.point) v in let a = is_before n (spot_of e.point) v in
                keep_first a b (is_until n last v) (and_implied a b (later_old e ends.first v on t))
                ∙ ap (λ c. (a && is_until n last v) && c) (sym (behind_after v on));
          })

-- ---- the line passes back to the plane's front
module _ (n : Plane) (at : ℤ) (new : End) (h : Leaves n at new.plane (spot_of new.point)) where
  behind_until : (v : Spot) → is_on_line n at v ≡ true → is_negative (value_at new.plane v) ≡ is_before n v (spot_of new.point)
  behind_until v on = ap is_neg (h.signs v on)

  last_weight : pos 0 <ℤ (spot_of new.point).w
  last_weight = (on_line_out n at (spot_of new.point) h.on).weight

  module _ (e : End) (old : Leaves n at e.plane (spot_of e.point)) (v : Spot) (on : is_on_line n at v ≡ true) where
    old_weight : pos 0 <ℤ (spot_of e.point).w
    old_weight = (on_line_out n at (spot_of e.point) old.on).weight

    sooner_new : is_positive (value_at new.plane (spot_of e.point)) ≡ true → is_before n v (spot_of new.point) ≡ true → is_before n v (spot_of e.point) ≡ true
    sooner_new t k =
        let m = spot_of new.point in let b = spot_of e.point in
        let l = positive_out (ahead n b m) (sym (ap is_pos (h.signs b old.on)) ∙ t) in
        negative_in (then_not_after n v m b (on_line_out n at v on).weight last_weight old_weight
        (negative_out (ahead n v m) k) (omega (arith, linear, l, ahead_turned n b m)))

    sooner_old : is_positive (value_at new.plane (spot_of e.point)) ≡ false → is_before n v (spot_of e.point) ≡ true → is_before n v (spot_of new.point) ≡ true
    sooner_old t k =
        let m = spot_of new.point in let b = spot_of e.point in
        let l = not_positive_out (ahead n b m) (ap not (sym (ap is_pos (h.signs b old.on)) ∙ t)) in
        negative_in (then_not_after n v b m (on_line_out n at v on).weight old_weight last_weight (negative_out (ahead n v b) k) l)

  pub narrowed_until : (first last : Option End) (chosen : End) →
      MatchOption last (chosen ≡ new) (λ e. chosen ≡ cond (is_positive (value_at new.plane (spot_of e.point))) new e) →
      AreEnds n at (record { first = first; last = last }) →
      IsNarrowed n at new.plane (record { first = first; last = last }) (record { first = first; last = Some chosen })
  narrowed_until first None chosen q ends =
      subst (λ d. IsNarrowed n at new.plane (record { first = first; last = None }) (record { first = first; last = Some d })) (sym q) (record {
        ends = record { first = ends.first; last = h };
        left = λ v on. only_last (is_after n first v) (is_before n v (spot_of new.point))
            ∙ ap (λ b. (is_after n first v && true) && b) (sym (behind_until v on));
      })
  narrowed_until first (Some e) chosen q ends = by (is_positive (value_at new.plane (spot_of e.point))) refl q
    where
      by : (t : Bool) → is_positive (value_at new.plane (spot_of e.point)) ≡ t → chosen ≡ cond t new e →
          IsNarrowed n at new.plane (record { first = first; last = Some e })
          (record { first = first; last = Some chosen })
      by true t p =
          subst (λ d. IsNarrowed n at new.plane (record { first = first; last = Some e }) (record { first = first; last = Some d })) (sym p) (record {
            ends = record { first = ends.first; last = h };
            left = λ v on. let b = is_before n v (spot_of new.point) in let a = is_before n v (spot_of e.point) in
                join_last (is_after n first v) a b (absorbs_first a b (sooner_new e ends.last v on t))
                ∙ ap (λ c. (is_after n first v && a) && c) (sym (behind_until v on));
          })
      by false t p =
          subst (λ d. IsNarrowed n at new.plane (record { first = first; last = Some e }) (record { first = first; last = Some d })) (sym p) (record {
            ends = record { first = ends.first; last = ends.last };
            left = λ v on. let b = is_before n v (spot_of new.point) in let a = is_before n v (spot_of e.point) in
                keep_last (is_after n first v) a b (and_implied a b (sooner_old e ends.last v on t))
                ∙ ap (λ c. (is_after n first v && a) && c) (sym (behind_until v on));
          })

-- ---- all of the line
-- a plane that leaves all of the line changes nothing
pub narrowed_nowhere : (n : Plane) (at : ℤ) (p : Plane) (s : LineInterval) → AreEnds n at s → AllOf n at p true → IsNarrowed n at p s s
narrowed_nowhere n at p s ends h =
    record { ends = ends; left = λ v on. and_with_true (is_in_interval n s v) (is_negative (value_at p v)) (h v on) }

-- ---- plane after plane
-- what the planes leave is what those from a place on leave of the span
pub record LeftOf (n : Plane) (at : ℤ) (ps rest : List Plane) (s : LineInterval) : Type 0 where
  pub ends : AreEnds n at s
  pub left : (v : Spot) → is_on_line n at v ≡ true → is_behind ps v ≡ is_in_interval n s v && is_behind rest v

both_parts : (a b c d : Bool) → a ≡ b && c → b && (c && d) ≡ a && d
both_parts a true c d e = ap (λ x. x && d) (sym e)
both_parts a false c d e = ap (λ x. x && d) (sym e)

module _ {n : Plane} {at : ℤ} {ps qs : List Plane} {p : Plane} {s : LineInterval} (h : LeftOf n at ps (p ∷ qs) s) where
  pub less_left : {t : LineInterval} → IsNarrowed n at p s t → LeftOf n at ps qs t
  less_left {t} k =
      record {
        ends = k.ends;
        left = λ v on. h.left v on
            ∙ both_parts (is_in_interval n t v) (is_in_interval n s v) (is_negative (value_at p v)) (is_behind qs v)
            (k.left v on);
      }

  pub nothing_left : AllOf n at p false → (v : Spot) → is_on_line n at v ≡ true → is_behind ps v ≡ false
  nothing_left k v on =
      h.left v on ∙ ap (λ b. is_in_interval n s v && (b && is_behind qs v)) (k v on) ∙ never (is_in_interval n s v)
    where
      never : (b : Bool) → b && false ≡ false
      never true = refl
      never false = refl

-- by the place of the next plane
pub next_plane : {n : Plane} {at : ℤ} {s : LineInterval} (ps : List Plane) (i : ℕ) → i < length ps →
    LeftOf n at ps (drop i ps) s → LeftOf n at ps (get_or ps i zero_plane ∷ drop (i + 1) ps) s
next_plane {n} {at} {s} ps i l h =
    subst (λ qs. LeftOf n at ps qs s) (drop-cons ps i zero_plane l ∙ ap (λ k. get_or ps i zero_plane ∷ drop k ps) (sym (add-one i))) h

-- after the last plane no plane is left
pub last_plane : {n : Plane} {at : ℤ} {s : LineInterval} (ps : List Plane) (i : ℕ) → length ps ≤ i → LeftOf n at ps (drop i ps) s → LeftOf n at ps [] s
last_plane {n} {at} {s} ps i l h = subst (λ qs. LeftOf n at ps qs s) (drop_of_length-le ps l) h

-- what is left when no plane is left is the interval
pub span_left : {n : Plane} {at : ℤ} {ps : List Plane} {s : LineInterval} → LeftOf n at ps [] s → IsInterval n at ps s
span_left {n} {at} {ps} {s} h =
    record { ends = h.ends; holds = λ v on. h.left v on ∙ and_true (is_in_interval n s v) }
