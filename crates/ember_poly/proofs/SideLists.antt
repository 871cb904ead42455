-- The sides of three lists: joined, cut, turned.
use Rattle.std.proofs.Common.{◌≡◌, inl, inr, refl, ap, ◌∙◌, arith, ℕ, zero, suc, ◌≤◌, List, [], ◌∷◌, ◌++◌, length, take, drop, length-drop}
use Rattle.std.specs.List.{AllByRecursion}
use Rattle.ember_model.specs.declared.plane.Plane.{Plane}
use Rattle.ember_model.specs.declared.point.Spot.{Spot}
use Rattle.ember_poly.specs.Sides.{sides_of, OldestFirst}
use Rattle.ember_poly.specs.Boundaries.{LeastFirst}
use Rattle.ember_poly.specs.Passages.{HasMember}

module _ {M : Type 0} (spot : M → Spot) where
  -- ---- what all corners or one corner has
  -- what holds of all corners of the list holds of the sides' corners
  pub each_corner : (P : Spot → Type 0) (es : List Plane) (ms : List M) (bs : List ℕ) →
      AllByRecursion (λ m. P (spot m)) ms → AllByRecursion (λ s. P s.corner) (sides_of spot es ms bs)
  each_corner P [] ms bs h = tt
  each_corner P (e ∷ es) [] bs h = tt
  each_corner P (e ∷ es) (m ∷ ms) [] h = tt
  each_corner P (e ∷ es) (m ∷ ms) (b ∷ bs) h = (h.0, each_corner P es ms bs h.1)

  -- what holds of the sides' corners holds of all corners of the list
  pub corner_each : (P : Spot → Type 0) (es : List Plane) (ms : List M) (bs : List ℕ) → length ms ≡ length es →
      length bs ≡ length es → AllByRecursion (λ s. P s.corner) (sides_of spot es ms bs) → AllByRecursion (λ m. P (spot m)) ms
  corner_each P es [] bs p q h = tt
  corner_each P [] (m ∷ ms) bs p q h = absurd (omega (arith, p))
  corner_each P (e ∷ es) (m ∷ ms) [] p q h = absurd (omega (arith, q))
  corner_each P (e ∷ es) (m ∷ ms) (b ∷ bs) p q h =
      (h.0, corner_each P es ms bs (omega (arith, p)) (omega (arith, q)) h.1)

  -- some corner of the list is the corner of some side
  pub has_corner : (P : Spot → Type 0) (es : List Plane) (ms : List M) (bs : List ℕ) → length ms ≡ length es →
      length bs ≡ length es → HasMember (λ m. P (spot m)) ms → HasMember (λ s. P s.corner) (sides_of spot es ms bs)
  has_corner P [] [] bs p q h = absurd h
  has_corner P [] (m ∷ ms) bs p q h = absurd (omega (arith, p))
  has_corner P (e ∷ es) [] bs p q h = absurd h
  has_corner P (e ∷ es) (m ∷ ms) [] p q h = absurd (omega (arith, q))
  has_corner P (e ∷ es) (m ∷ ms) (b ∷ bs) p q (inl h) = inl h
  has_corner P (e ∷ es) (m ∷ ms) (b ∷ bs) p q (inr h) =
      inr (has_corner P es ms bs (omega (arith, p)) (omega (arith, q)) h)

  -- ---- joined, cut
  -- the sides of lists put together are the sides of the first, and then those of the second
  pub sides-append : (es us : List Plane) (ms ns : List M) (bs cs : List ℕ) → length ms ≡ length es →
      length bs ≡ length es → sides_of spot (es ++ us) (ms ++ ns) (bs ++ cs) ≡ sides_of spot es ms bs ++ sides_of spot us ns cs
  sides-append [] us [] ns [] cs p q = refl
  sides-append [] us (m ∷ ms) ns bs cs p q = absurd (omega (arith, p))
  sides-append [] us [] ns (b ∷ bs) cs p q = absurd (omega (arith, q))
  sides-append (e ∷ es) us [] ns bs cs p q = absurd (omega (arith, p))
  sides-append (e ∷ es) us (m ∷ ms) ns [] cs p q = absurd (omega (arith, q))
  sides-append (e ∷ es) us (m ∷ ms) ns (b ∷ bs) cs p q =
      ap (λ zs. record { plane = e; corner = spot m; plane_index = b } ∷ zs) (sides-append es us ms ns bs cs (omega (arith, p)) (omega (arith, q)))

  -- the first k sides, of the first k of each list
  pub sides-take : (k : ℕ) (es : List Plane) (ms : List M) (bs : List ℕ) → sides_of spot (take k es) (take k ms) (take k bs) ≡ take k (sides_of spot es ms bs)
  sides-take zero es ms bs = refl
  sides-take (suc k) [] ms bs = refl
  sides-take (suc k) (e ∷ es) [] bs = refl
  sides-take (suc k) (e ∷ es) (m ∷ ms) [] = refl
  sides-take (suc k) (e ∷ es) (m ∷ ms) (b ∷ bs) =
      ap (λ zs. record { plane = e; corner = spot m; plane_index = b } ∷ zs) (sides-take k es ms bs)

  -- the sides behind the first k, of those of each list
  pub sides-drop : (k : ℕ) (es : List Plane) (ms : List M) (bs : List ℕ) → length ms ≡ length es →
      length bs ≡ length es → sides_of spot (drop k es) (drop k ms) (drop k bs) ≡ drop k (sides_of spot es ms bs)
  sides-drop zero es ms bs p q = refl
  sides-drop (suc k) [] ms bs p q = refl
  sides-drop (suc k) (e ∷ es) [] bs p q = absurd (omega (arith, p))
  sides-drop (suc k) (e ∷ es) (m ∷ ms) [] p q = absurd (omega (arith, q))
  sides-drop (suc k) (e ∷ es) (m ∷ ms) (b ∷ bs) p q =
      sides-drop k es ms bs (omega (arith, p)) (omega (arith, q))

drop_keeps_equal_lengths : {X Y : Type 0} (k : ℕ) (xs : List X) (ys : List Y) → length ys ≡ length xs → length (drop k ys) ≡ length (drop k xs)
drop_keeps_equal_lengths k xs ys e = rw (length-drop k ys, length-drop k xs, e) refl

module _ {M : Type 0} (spot : M → Spot) where
  -- the sides from the k-th on round the ring, of the turned lists
  pub sides-turned : (k : ℕ) (es us : List Plane) (ms ns : List M) (bs cs : List ℕ) → length ms ≡ length es →
      length bs ≡ length es → us ≡ drop k es ++ take k es → ns ≡ drop k ms ++ take k ms → cs ≡ drop k bs ++ take k bs →
      sides_of spot us ns cs ≡ drop k (sides_of spot es ms bs) ++ take k (sides_of spot es ms bs)
  sides-turned k es us ms ns bs cs p q eu en ec =
      rw (eu, en, ec) (sides-append spot (drop k es) (take k es) (drop k ms) (take k ms) (drop k bs) (take k bs)
      (drop_keeps_equal_lengths k es ms p) (drop_keeps_equal_lengths k es bs q))
      ∙ (λ i. sides-drop spot k es ms bs p q i ++ sides-take spot k es ms bs i)

  -- ---- plane indices
  each_birth : (P : ℕ → Type 0) (es : List Plane) (ms : List M) (bs : List ℕ) → AllByRecursion P bs →
      AllByRecursion (λ s. P s.plane_index) (sides_of spot es ms bs)
  each_birth P [] ms bs h = tt
  each_birth P (e ∷ es) [] bs h = tt
  each_birth P (e ∷ es) (m ∷ ms) [] h = tt
  each_birth P (e ∷ es) (m ∷ ms) (b ∷ bs) h = (h.0, each_birth P es ms bs h.1)

  -- if the first index is the least, the first side's plane has the lowest index
  pub oldest_first : (es : List Plane) (ms : List M) (bs : List ℕ) → LeastFirst bs → OldestFirst (sides_of spot es ms bs)
  oldest_first [] ms bs h = tt
  oldest_first (e ∷ es) [] bs h = tt
  oldest_first (e ∷ es) (m ∷ ms) [] h = tt
  oldest_first (e ∷ es) (m ∷ ms) (b ∷ bs) h = each_birth (λ c. b ≤ c) es ms bs h
