-- A file's slice and its faults exclude one another, and it has one fault.
use Rattle.std.proofs.Common.{◌≡◌, ◌⊎◌, inl, inr, ℕ, zero, suc, ◌+◌, ◌<◌, true, List, [], ◌∷◌, Some, None, ℤ, pos, ◌+ℤ◌}
use Rattle.std.proofs.Common.{◌-ℤ◌, ◌*ℤ◌, refl, sym, ap, subst, ◌∙◌, arith}
use Rattle.std.specs.Prelude.{slice_get}
use Rattle.std.specs.declared.option.Option.{Option}
use Rattle.std.proofs.lemmas.Bool.{and_parts}
use Rattle.ember_algebra.specs.Relations.{Each, more}
use Rattle.ember_algebra.proofs.Laws.{linear}
use Rattle.ember_algebra.proofs.Ring.{num, ◌⊕◌, ◌⊖◌, ◌⊗◌, ◌≈◌, solve, cancels}
use Rattle.ember_model.specs.declared.face.Face.{Face}
use Rattle.ember_model.specs.declared.plane.Plane.{Plane}
use Rattle.ember_model.specs.declared.point.Spot.{Spot}
use Rattle.ember_model.proofs.SignTests.{clash}
use Rattle.ember_reread.proofs.OneReading.{one_reading}
use Rattle.ember_slice.specs.Lines.{IsFlat, is_before, is_on_line}
use Rattle.ember_slice.specs.Segments.{Directed, GivesSegments, GivesNone, IsUnboundedBack, IsUnboundedAhead, IsEndless}
use Rattle.ember_slice.specs.Segments.{IsFirstEndless, IsSegment, IsSliceText, is_cut}
use Rattle.ember_slice.proofs.Along.{on_line_in, square, square_above}
use Rattle.ember_slice.proofs.Bounds.{cut_line}
use Rattle.ember_slice.proofs.Orders.{not_both}
use Rattle.ember_verdict.specs.declared.status.FaceFault.{FaceFault}
use Rattle.ember_verdict.specs.declared.status.FaceFault.TheVariants.{Form, Endless}
use Rattle.ember_verdict.specs.Slices.{IsFaceFault, IsSlice, IsSliceable}

-- ---- a face is endless or gives a segment
point_on : (n : Plane) (at : ℤ) → (IsFlat n → ⊥) → (v : Spot) × (is_on_line n at v ≡ true)
point_on n at t =
    let h = pos 2 *ℤ at +ℤ pos 1 in let m = pos 2 *ℤ n.d -ℤ n.c *ℤ h in let q = square n in
    let v : Spot = record { x = n.a *ℤ m; y = n.b *ℤ m; z = h *ℤ q; w = pos 2 *ℤ q } in (
      v,
      on_line_in n at v
          (record {
            weight = omega (arith, linear, square_above n t);
            support = solve 5 (λ a b c d e. let h = num (pos 2) ⊗ e ⊕ num (pos 1) in let m = num (pos 2) ⊗ d ⊖ c ⊗ h in
                let q = a ⊗ a ⊕ b ⊗ b in a ⊗ (a ⊗ m) ⊕ b ⊗ (b ⊗ m) ⊕ c ⊗ (h ⊗ q) ⊖ d ⊗ (num (pos 2) ⊗ q) ≈ num (pos 0))
                cancels n.a n.b n.c n.d at;
            level = solve 5 (λ a b c d e. let h = num (pos 2) ⊗ e ⊕ num (pos 1) in let m = num (pos 2) ⊗ d ⊖ c ⊗ h in
                let q = a ⊗ a ⊕ b ⊗ b in num (pos 0) ⊗ (a ⊗ m) ⊕ num (pos 0) ⊗ (b ⊗ m) ⊕ num (pos 2) ⊗ (h ⊗ q) ⊖ h ⊗
                (num (pos 2) ⊗ q) ≈ num (pos 0)) cancels n.a n.b n.c n.d at;
          }),
    )

beyond : (f : Face) (at : ℤ) (v : Spot) → is_on_line f.support at v ≡ true → IsUnboundedAhead f at ⊎ IsUnboundedBack f at → (p : Spot) × (is_cut f at p ≡ true)
beyond f at v on (inl goes) = let p = goes v on in (p.0, p.1)
beyond f at v on (inr goes) = let p = goes v on in (p.0, p.1)

none_ends : (f : Face) (at : ℤ) → IsEndless f at → GivesNone f at → ⊥
none_ends f at h (inl flat) = h.tilted flat
none_ends f at h (inr empty) = let v = point_on f.support at h.tilted in let p = beyond f at v.0 v.1 h.unbounded in clash p.1 (empty p.0)

segment_ends : (f : Face) (at : ℤ) (u v : Spot) → IsUnboundedAhead f at ⊎ IsUnboundedBack f at → IsSegment f at u v → ⊥
segment_ends f at u v (inl goes) s =
    let p = goes v s.last in
    let b = and_parts (is_before f.support u p.0) (is_before f.support p.0 v)
    (sym (s.between p.0 (cut_line f at p.0 p.1)) ∙ p.1) in not_both f.support v p.0 p.2 b.1
segment_ends f at u v (inr goes) s =
    let p = goes u s.first in
    let b = and_parts (is_before f.support u p.0) (is_before f.support p.0 v)
    (sym (s.between p.0 (cut_line f at p.0 p.1)) ∙ p.1) in not_both f.support u p.0 b.0 p.2

gives_ends : (f : Face) (at : ℤ) (ss : List Directed) → IsEndless f at → GivesSegments at f ss → ⊥
gives_ends f at [] h g = none_ends f at h g
gives_ends f at (s ∷ []) h g = segment_ends f at s.first s.last h.unbounded g
gives_ends f at (s ∷ t ∷ ss) h g = g

-- ---- the faces of a file
abbrev or_else : {X : Type 0} → Option X → X → X
or_else None x = x
or_else (Some y) x = y

abbrev IsThere : {X : Type 0} → Option X → Type 0
IsThere None = ⊥
IsThere (Some x) = Unit {0}

no_some : {X : Type 0} {x : X} → None ≡ Some x → ⊥
no_some e = subst IsThere (sym e) tt

compare_nat : (m n : ℕ) → (m ≡ n) ⊎ ((m < n) ⊎ (n < m))
compare_nat zero zero = inl refl
compare_nat zero (suc n) = inr (inl (omega arith))
compare_nat (suc m) zero = inr (inr (omega arith))
compare_nat (suc m) (suc n) = by (compare_nat m n)
  where
    by : (m ≡ n) ⊎ ((m < n) ⊎ (n < m)) → (suc m ≡ suc n) ⊎ ((suc m < suc n) ⊎ (suc n < suc m))
    by (inl e) = inl (ap suc e)
    by (inr (inl l)) = inr (inl (omega (arith, l)))
    by (inr (inr l)) = inr (inr (omega (arith, l)))

same_some : {X : Type 0} (x y : X) → Some x ≡ Some y → x ≡ y
same_some {X = X} x y e = ap (λ (o : Option X). or_else o x) e

each_at : (at : ℤ) (fs : List Face) (ss : List Directed) (i : ℕ) (f : Face) → Each (GivesSegments at) fs ss →
    slice_get fs i ≡ Some f → (own : List Directed) × GivesSegments at f own
each_at at [] ss i f h e = absurd (no_some e)
each_at at (g ∷ fs) _ zero f (more {ys = ys} r rs) e = (ys, subst (λ (f : Face). GivesSegments at f ys) (same_some g f e) r)
each_at at (g ∷ fs) _ (suc i) f (more {zs = zs} r rs) e = each_at at fs zs i f rs e

slice_ends : (at : ℤ) (fs : List Face) (text : List ℕ) (n : ℕ) → IsSliceText fs at text → IsFirstEndless fs at n → ⊥
slice_ends at fs text n t h =
    let g = each_at at fs t.segments h.index h.face t.are_segments h.here in gives_ends h.face at g.0 h.endless g.1

same_number : (at : ℤ) (fs : List Face) (m n : ℕ) → IsFirstEndless fs at m → IsFirstEndless fs at n → m ≡ n
same_number at fs m n h k = by (compare_nat h.index k.index)
  where
    by : (h.index ≡ k.index) ⊎ ((h.index < k.index) ⊎ (k.index < h.index)) → m ≡ n
    by (inl e) = h.number ∙ ap (λ (i : ℕ). i + 1) e ∙ sym k.number
    by (inr (inl l)) = absurd (k.earliest h.index h.face l h.here h.endless)
    by (inr (inr l)) = absurd (h.earliest k.index k.face l k.here k.endless)

-- ---- what a file gives
pub slice_or_fault : (at : ℤ) (bytes text : List ℕ) (fault : FaceFault) → IsSlice at bytes text → IsFaceFault at bytes fault → ⊥
slice_or_fault at bytes text Form s f = f s.0 s.1
slice_or_fault at bytes text (Endless n) s f =
    slice_ends at f.0 text n (subst (λ (faces : List Face). IsSliceText faces at text) (one_reading bytes s.0 f.0 s.1 f.1) s.2) f.2

-- a file that can be sliced has no fault
pub sliceable_or_fault : (at : ℤ) (bytes : List ℕ) (fault : FaceFault) → IsSliceable at bytes → IsFaceFault at bytes fault → ⊥
sliceable_or_fault at bytes Form s f = f s.0 s.1
sliceable_or_fault at bytes (Endless n) s f =
    s.2 n (subst (λ (faces : List Face). IsFirstEndless faces at n) (one_reading bytes f.0 s.0 f.1 s.1) f.2)

-- a file has one fault at most
pub one_fault : (at : ℤ) (bytes : List ℕ) (fault other : FaceFault) → IsFaceFault at bytes fault → IsFaceFault at bytes other → fault ≡ other
one_fault at bytes Form Form f g = refl
one_fault at bytes Form (Endless n) f g = absurd (f g.0 g.1)
one_fault at bytes (Endless m) Form f g = absurd (g f.0 f.1)
one_fault at bytes (Endless m) (Endless n) f g =
    ap Endless (same_number at g.0 m n (subst (λ (faces : List Face). IsFirstEndless faces at m) (one_reading bytes f.0 g.0 f.1 g.1) f.2) g.2)
