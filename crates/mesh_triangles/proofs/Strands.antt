-- Strands, and their segments
use Rattle.std.proofs.Common.{◌≡◌, ℕ, ◌+◌, ◌<◌, Bool, true, false, cond, List, [], ◌∷◌, ◌++◌, length, take, get_or, ℤ}
use Rattle.std.proofs.Common.{pos, ◌+ℤ◌, ◌-ℤ◌, refl, sym, ap, subst, ◌∙◌, arith, eqb}
use Rattle.std.proofs.lemmas.List.{take_more}
use Rattle.ember_algebra.proofs.Laws.{linear}
use Rattle.ember_algebra.proofs.Sums.{total-append}
use Rattle.mesh_certificate.specs.declared.certificate.segment.Segment.{Segment}
use Rattle.mesh_certificate.specs.Certificate.Chains.{one_at, boundary}
use Rattle.mesh_triangles.specs.declared.strand.Strand.{Strand}
use Rattle.mesh_triangles.specs.declared.strand.Strand.TheVariants.{Over, Back}
use Rattle.mesh_triangles.specs.declared.walk.Walk.{Walk}
use Rattle.mesh_triangles.specs.Strands.{sign_in, coefficient}
use Rattle.mesh_triangles.specs.Marks.{only_at}
use Rattle.mesh_triangles.specs.Walks.{AddsStretch}
use Rattle.mesh_triangles.proofs.BoundarySums.{ended, ended_on, ended_off, boundary-push}

-- ---- values at one corner
-- a sum at one corner
pub only_at-add : (c n : ℕ) (x y : ℤ) → only_at c n (x +ℤ y) ≡ only_at c n x +ℤ only_at c n y
only_at-add c n x y = by (eqb c n)
  where
    by : (b : Bool) → cond b (x +ℤ y) (pos 0) ≡ cond b x (pos 0) +ℤ cond b y (pos 0)
    by true = refl
    by false = refl

-- nothing at one corner
pub only_at-zero : (c n : ℕ) → only_at c n (pos 0) ≡ pos 0
only_at-zero c n = by (eqb c n)
  where
    by : (b : Bool) → cond b (pos 0) (pos 0) ≡ pos 0
    by true = refl
    by false = refl

-- ---- the segment of a strand
over_parts : (x y z : Bool) → cond x (cond y (pos 1) (pos 0) -ℤ cond z (pos 1) (pos 0)) (pos 0) +ℤ cond z
    (cond x (pos 1) (pos 0)) (pos 0) ≡ cond y (cond x (pos 1) (pos 0)) (pos 0)
over_parts true true true = refl
over_parts true true false = refl
over_parts true false true = refl
over_parts true false false = refl
over_parts false true true = refl
over_parts false true false = refl
over_parts false false true = refl
over_parts false false false = refl

back_parts : (x y z : Bool) → cond x (cond y (pos 1) (pos 0) -ℤ cond z (pos 1) (pos 0)) (pos 0) +ℤ cond y
    (pos 0 -ℤ cond x (pos 1) (pos 0)) (pos 0) ≡ cond z (pos 0 -ℤ cond x (pos 1) (pos 0)) (pos 0)
back_parts true true true = refl
back_parts true true false = refl
back_parts true false true = refl
back_parts true false false = refl
back_parts false true true = refl
back_parts false true false = refl
back_parts false false true = refl
back_parts false false false = refl

-- one more segment of a plane, and where it starts and ends
one_more : (b e x y a : ℤ) → a ≡ b +ℤ e → e +ℤ x ≡ y → a +ℤ x ≡ b +ℤ y
one_more b e x y a f g = omega (arith, linear, f, g)

alone : (z : ℤ) → z +ℤ pos 0 ≡ z
alone z = omega (arith, linear)

module _ (w : Walk) (before : List Segment) (s : Segment) (on : s.line ≡ w.line) where
  others : (plane line corner : ℕ) → eqb line w.line ≡ false → boundary plane line corner (before ++ s ∷ []) ≡ boundary plane line corner before
  others plane line corner e =
      boundary-push plane line corner before s ∙ ap (λ (z : ℤ). boundary plane line corner before +ℤ z)
      (ended_off plane line corner s (ap (eqb line) on ∙ e)) ∙ alone (boundary plane line corner before)

  -- the segment of a strand that runs over the stretch
  pub over_stretch : s.start ≡ w.last → s.end ≡ w.here → AddsStretch w (Over s.plane ∷ []) before (before ++ s ∷ [])
  over_stretch a b =
      record {
        corners = λ plane corner. one_more (boundary plane w.line corner before) (ended plane w.line corner s) _
            _ _ (boundary-push plane w.line corner before s) (at plane corner);
        others = others;
      }
    where
      at : (plane corner : ℕ) → ended plane w.line corner s +ℤ only_at corner w.last
          (coefficient plane (Over s.plane ∷ [])) ≡ only_at corner w.here (coefficient plane (Over s.plane ∷ []))
      at plane corner =
          let e = ended_on plane w.line corner s on in let z = alone (one_at plane s.plane) in
          (λ i. e i +ℤ only_at corner (sym a i) (z i))
          ∙ over_parts (eqb plane s.plane) (eqb corner s.end) (eqb corner s.start)
          ∙ (λ i. only_at corner (b i) (sym z i))

  -- the segment of a strand that runs back over it
  pub back_stretch : s.start ≡ w.here → s.end ≡ w.last → AddsStretch w (Back s.plane ∷ []) before (before ++ s ∷ [])
  back_stretch a b =
      record {
        corners = λ plane corner. one_more (boundary plane w.line corner before) (ended plane w.line corner s) _
            _ _ (boundary-push plane w.line corner before s) (at plane corner);
        others = others;
      }
    where
      at : (plane corner : ℕ) → ended plane w.line corner s +ℤ only_at corner w.last
          (coefficient plane (Back s.plane ∷ [])) ≡ only_at corner w.here (coefficient plane (Back s.plane ∷ []))
      at plane corner =
          let e = ended_on plane w.line corner s on in let z = alone (pos 0 -ℤ one_at plane s.plane) in
          (λ i. e i +ℤ only_at corner (sym b i) (z i))
          ∙ back_parts (eqb plane s.plane) (eqb corner s.end) (eqb corner s.start)
          ∙ (λ i. only_at corner (a i) (sym z i))

-- ---- the segments of all strands
module _ (w : Walk) where
  -- the segments of two lists of strands
  more_strands : (xs ys : List Strand) (before middle after : List Segment) → AddsStretch w xs before middle →
      AddsStretch w ys middle after → AddsStretch w (xs ++ ys) before after
  more_strands xs ys before middle after h k =
      record { corners = λ plane corner. corners plane corner; others = λ plane line corner e. k.others plane line corner e ∙ h.others plane line corner e }
    where
      joined : (a b m x y u v p q : ℤ) → m +ℤ x ≡ b +ℤ u → a +ℤ y ≡ m +ℤ v → p ≡ x +ℤ y → q ≡ u +ℤ v → a +ℤ p ≡ b +ℤ q
      joined a b m x y u v p q e f g h = omega (arith, linear, e, f, g, h)

      parts : (plane corner n : ℕ) → only_at corner n (coefficient plane (xs ++ ys)) ≡ only_at corner n
          (coefficient plane xs) +ℤ only_at corner n (coefficient plane ys)
      parts plane corner n =
          ap (only_at corner n) (total-append (sign_in plane) xs ys) ∙ only_at-add corner n (coefficient plane xs) (coefficient plane ys)

      corners : (plane corner : ℕ) → boundary plane w.line corner after +ℤ only_at corner w.last
          (coefficient plane (xs ++ ys)) ≡ boundary plane w.line corner before +ℤ only_at corner w.here
          (coefficient plane (xs ++ ys))
      corners plane corner =
          joined (boundary plane w.line corner after) (boundary plane w.line corner before)
          (boundary plane w.line corner middle) (only_at corner w.last (coefficient plane xs))
          (only_at corner w.last (coefficient plane ys)) (only_at corner w.here (coefficient plane xs))
          (only_at corner w.here (coefficient plane ys)) _ _ (h.corners plane corner) (k.corners plane corner)
          (parts plane corner w.last) (parts plane corner w.here)

  -- one more strand of a list
  pub next_strand : (xs ss : List Strand) (i : ℕ) (d : Strand) (before middle after : List Segment) → xs ≡ ss →
      i < length xs → AddsStretch w (take i ss) before middle → AddsStretch w (get_or xs i d ∷ []) middle after →
      AddsStretch w (take (i + 1) ss) before after
  next_strand xs ss i d before middle after e l h k =
      subst (λ (ys : List Strand). AddsStretch w (take (i + 1) ys) before after) e
      (subst (λ (ys : List Strand). AddsStretch w ys before after) (sym (take_more xs i d l))
      (more_strands (take i xs) (get_or xs i d ∷ []) before middle after
      (subst (λ (ys : List Strand). AddsStretch w (take i ys) before middle) (sym e) h) k))

  -- equal strands have the same segment
  pub strand_stretch : (s t : Strand) (before after : List Segment) → s ≡ t → AddsStretch w (s ∷ []) before after → AddsStretch w (t ∷ []) before after
  strand_stretch s t before after e h = subst (λ (x : Strand). AddsStretch w (x ∷ []) before after) e h

  -- two opposite segments of a plane over the stretch
  pub pair_stretch : (p : ℕ) (strands : List Strand) (before middle one after : List Segment) →
      AddsStretch w strands before middle → AddsStretch w (Over p ∷ []) middle one →
      AddsStretch w (Back p ∷ []) one after → AddsStretch w strands before after
  pair_stretch p strands before middle one after h k l =
      record {
        corners = corners;
        others = λ plane line corner e. l.others plane line corner e ∙ k.others plane line corner e
            ∙ h.others plane line corner e;
      }
    where
      opposite : (z : ℤ) → (z +ℤ pos 0) +ℤ ((pos 0 -ℤ z) +ℤ pos 0) ≡ pos 0
      opposite z = omega (arith, linear)

      cancel : (plane corner n : ℕ) → only_at corner n (coefficient plane (Over p ∷ [])) +ℤ only_at corner n
          (coefficient plane (Back p ∷ [])) ≡ pos 0
      cancel plane corner n =
          sym (only_at-add corner n (coefficient plane (Over p ∷ [])) (coefficient plane (Back p ∷ [])))
          ∙ ap (only_at corner n) (opposite (one_at plane p)) ∙ only_at-zero corner n

      joined : (a o m b x u s t v z : ℤ) → m +ℤ x ≡ b +ℤ u → o +ℤ s ≡ m +ℤ t → a +ℤ v ≡ o +ℤ z →
          s +ℤ v ≡ pos 0 → t +ℤ z ≡ pos 0 → a +ℤ x ≡ b +ℤ u
      joined a o m b x u s t v z e f g i j = omega (arith, linear, e, f, g, i, j)

      corners : (plane corner : ℕ) → boundary plane w.line corner after +ℤ only_at corner w.last
          (coefficient plane strands) ≡ boundary plane w.line corner before +ℤ only_at corner w.here
          (coefficient plane strands)
      corners plane corner =
          joined (boundary plane w.line corner after) (boundary plane w.line corner one)
          (boundary plane w.line corner middle) (boundary plane w.line corner before)
          (only_at corner w.last (coefficient plane strands)) (only_at corner w.here (coefficient plane strands))
          (only_at corner w.last (coefficient plane (Over p ∷ [])))
          (only_at corner w.here (coefficient plane (Over p ∷ [])))
          (only_at corner w.last (coefficient plane (Back p ∷ [])))
          (only_at corner w.here (coefficient plane (Back p ∷ []))) (h.corners plane corner) (k.corners plane corner)
          (l.corners plane corner) (cancel plane corner w.last) (cancel plane corner w.here)
