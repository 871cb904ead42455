-- Vertices that are found again by their points.
use Rattle.std.proofs.Common.{◌≡◌, ℕ, suc, ◌+◌, pos, Bool, true, false, true≢false, cond, not, ◌||◌, if◌then◌else◌}
use Rattle.std.proofs.Common.{List, [], ◌∷◌, ◌++◌, get_or, refl, sym, ap, subst, ◌∙◌, arith}
use Rattle.std.specs.Prelude.{fold}
use Rattle.std.specs.Bool.{Decides}
use Rattle.std.specs.Cmp.{decided}
use Rattle.std.specs.List.{list_any, position_or_len, IsDistinct}
use Rattle.std.proofs.lemmas.Bool.Decides.{Decides-like, Decides-and, Decides-int_eq}
use Rattle.std.proofs.lemmas.List.Folds.{list_any-append}
use Rattle.std.proofs.lemmas.Map.Keys.{IsDistinct-push}
use Rattle.mesh_write.specs.declared.vertices.point.DecimalPoint.{DecimalPoint}
use Rattle.mesh_write.specs.Vertices.Vertices.{same_point, with_point, index_of, point_at}

-- ---- searches in lists
-- the first element isn't found, or both searches end at it
step : (b : Bool) (m n : ℕ) → (b ≡ false → m ≡ n) → cond (not b) (1 + m) 0 ≡ cond (not b) (1 + n) 0
step true m n f = refl
step false m n f = ap (λ (k : ℕ). 1 + k) (f refl)

module _ {X : Type 0} (p : X → Bool) where
  -- without the first element, which isn't found
  behind : (x : X) (xs : List X) (b : Bool) → p x ≡ false → (p x || list_any p xs) ≡ b → list_any p xs ≡ b
  behind x xs b e h = sym (ap (λ (c : Bool). c || list_any p xs) e) ∙ h

  -- what is found stays where it is
  found_stays : (xs ys : List X) → list_any p xs ≡ true → position_or_len p (xs ++ ys) ≡ position_or_len p xs
  found_stays [] ys h = absurd (true≢false (sym h))
  found_stays (x ∷ xs) ys h =
      step (p x) (position_or_len p (xs ++ ys)) (position_or_len p xs) (λ e. found_stays xs ys (behind x xs true e h))

  -- what isn't found, and then goes last, is where the search ended
  last_is_found : (x : X) (xs : List X) → p x ≡ true → list_any p xs ≡ false → position_or_len p (xs ++ x ∷ []) ≡ position_or_len p xs
  last_is_found x [] e h = ap (λ (b : Bool). cond (not b) (1 + 0) 0) e
  last_is_found x (y ∷ ys) e h =
      step (p y) (position_or_len p (ys ++ x ∷ [])) (position_or_len p ys) (λ n. last_is_found x ys e (behind y ys false n h))

  -- what is found passes the test
  found_passes : (xs : List X) (d : X) → list_any p xs ≡ true → p (get_or xs (position_or_len p xs) d) ≡ true
  found_passes [] d h = absurd (true≢false (sym h))
  found_passes (x ∷ xs) d h = by (p x) refl (λ e. found_passes xs d (behind x xs true e h))
    where
      by : (b : Bool) → p x ≡ b → (p x ≡ false → p (get_or xs (position_or_len p xs) d) ≡ true) → p (get_or (x ∷ xs) (position_or_len p (x ∷ xs)) d) ≡ true
      by true e rest = ap (λ (b : Bool). p (get_or (x ∷ xs) (cond (not b) (1 + position_or_len p xs) 0) d)) e ∙ e
      by false e rest =
          let on : 1 + position_or_len p xs ≡ suc (position_or_len p xs) = omega arith in
          ap (λ (b : Bool). p (get_or (x ∷ xs) (cond (not b) (1 + position_or_len p xs) 0) d)) e
          ∙ ap (λ (k : ℕ). p (get_or (x ∷ xs) k d)) on
          ∙ rest e

-- ---- points
same_three : {p q : DecimalPoint} → p.x ≡ q.x → p.y ≡ q.y → p.z ≡ q.z → p ≡ q
same_three ex ey ez = λ i. record { x = ex i; y = ey i; z = ez i }

pub same_point_decides : (p q : DecimalPoint) → Decides (same_point p q) (p ≡ q)
same_point_decides p q =
    Decides-like _
    (λ t. same_three t.0 t.1.0 t.1.1)
    (λ e. (ap (λ (s : DecimalPoint). s.x) e, (ap (λ (s : DecimalPoint). s.y) e, ap (λ (s : DecimalPoint). s.z) e)))
    (Decides-and _ _ (Decides-int_eq p.x q.x) (Decides-and _ _ (Decides-int_eq p.y q.y) (Decides-int_eq p.z q.z)))

same_self : (p : DecimalPoint) → same_point p p ≡ true
same_self p = (same_point_decides p p).1 refl

-- ---- points with one more
abbrev pub IsAmong : List DecimalPoint → DecimalPoint → Type 0
IsAmong ps p = list_any (same_point p) ps ≡ true

module _ (ps : List DecimalPoint) (q : DecimalPoint) where
  with_is : (b : Bool) → list_any (same_point q) ps ≡ b → with_point ps q ≡ (if b then ps else ps ++ q ∷ [])
  with_is b e = ap (λ (c : Bool). if c then ps else ps ++ q ∷ []) e

  -- a point stays among them
  pub among_stays : (p : DecimalPoint) → IsAmong ps p → IsAmong (with_point ps q) p
  among_stays p h = by (list_any (same_point q) ps) refl
    where
      by : (b : Bool) → list_any (same_point q) ps ≡ b → IsAmong (with_point ps q) p
      by true e = subst (λ (l : List DecimalPoint). IsAmong l p) (sym (with_is true e)) h
      by false e =
          let stays : IsAmong (ps ++ q ∷ []) p = list_any-append (same_point p) ps (q ∷ []) ∙ ap (λ (c : Bool). c || list_any (same_point p) (q ∷ [])) h in
          subst (λ (l : List DecimalPoint). IsAmong l p) (sym (with_is false e)) stays

  -- and so does the new one
  pub new_is_among : IsAmong (with_point ps q) q
  new_is_among = by (list_any (same_point q) ps) refl
    where
      by : (b : Bool) → list_any (same_point q) ps ≡ b → IsAmong (with_point ps q) q
      by true e = subst (λ (l : List DecimalPoint). IsAmong l q) (sym (with_is true e)) e
      by false e =
          let last : IsAmong (ps ++ q ∷ []) q = list_any-append (same_point q) ps (q ∷ [])
          ∙ ap (λ (c : Bool). c || list_any (same_point q) (q ∷ [])) e
          ∙ ap (λ (c : Bool). c || false) (same_self q) in
          subst (λ (l : List DecimalPoint). IsAmong l q) (sym (with_is false e)) last

  -- a point that is among them keeps its index
  pub index_stays : (p : DecimalPoint) → IsAmong ps p → index_of (with_point ps q) p ≡ index_of ps p
  index_stays p h = by (list_any (same_point q) ps) refl
    where
      by : (b : Bool) → list_any (same_point q) ps ≡ b → index_of (with_point ps q) p ≡ index_of ps p
      by true e = ap (λ (l : List DecimalPoint). index_of l p) (with_is true e)
      by false e =
          ap (λ (l : List DecimalPoint). index_of l p) (with_is false e) ∙ found_stays (same_point p) ps (q ∷ []) h

  -- the new one has the index that it gets
  pub new_index : index_of (with_point ps q) q ≡ index_of ps q
  new_index = by (list_any (same_point q) ps) refl
    where
      by : (b : Bool) → list_any (same_point q) ps ≡ b → index_of (with_point ps q) q ≡ index_of ps q
      by true e = ap (λ (l : List DecimalPoint). index_of l q) (with_is true e)
      by false e =
          ap (λ (l : List DecimalPoint). index_of l q) (with_is false e) ∙ last_is_found (same_point q) q ps (same_self q) e

  -- no two of them are equal
  with_distinct : IsDistinct same_point ps → IsDistinct same_point (with_point ps q)
  with_distinct h = by (list_any (same_point q) ps) refl
    where
      by : (b : Bool) → list_any (same_point q) ps ≡ b → IsDistinct same_point (with_point ps q)
      by true e = subst (IsDistinct same_point) (sym (with_is true e)) h
      by false e =
          subst (IsDistinct same_point) (sym (with_is false e)) (IsDistinct-push (decided same_point same_point_decides) ps q h e)

-- ---- points with many more
pub fold_more : (xs ys ps : List DecimalPoint) → fold with_point ps (xs ++ ys) ≡ fold with_point (fold with_point ps xs) ys
fold_more [] ys ps = refl
fold_more (x ∷ xs) ys ps = fold_more xs ys (with_point ps x)

pub among_stays_behind : (xs ps : List DecimalPoint) (p : DecimalPoint) → IsAmong ps p → IsAmong (fold with_point ps xs) p
among_stays_behind [] ps p h = h
among_stays_behind (x ∷ xs) ps p h = among_stays_behind xs (with_point ps x) p (among_stays ps x p h)

folded_distinct : (xs ps : List DecimalPoint) → IsDistinct same_point ps → IsDistinct same_point (fold with_point ps xs)
folded_distinct [] ps h = h
folded_distinct (x ∷ xs) ps h = folded_distinct xs (with_point ps x) (with_distinct ps x h)

none_distinct : IsDistinct same_point []
unfolding IsDistinct
none_distinct = tt

-- points that are put in one after another are distinct
pub points_distinct : (xs : List DecimalPoint) → IsDistinct same_point (fold with_point [] xs)
points_distinct xs = folded_distinct xs [] none_distinct

-- the index of a point leads to it
pub index_leads_back : (ps : List DecimalPoint) (p : DecimalPoint) → IsAmong ps p → point_at ps (index_of ps p) ≡ p
index_leads_back ps p h =
    let zero : DecimalPoint = record { x = pos 0; y = pos 0; z = pos 0 } in
    sym ((same_point_decides p (get_or ps (index_of ps p) zero)).0 (found_passes (same_point p) ps zero h))
