-- Directly before and after a hit the expression is as on the sides of a region that holds the
-- place.
use Rattle.std.proofs.Common.{◌≡◌, ◌≢◌, ℕ, zero, suc, ◌+◌, refl, ap, ◌∙◌, sym, subst, List, Bool, true, false, cond, ℤ}
use Rattle.std.proofs.Common.{pos, negsuc, ◌*ℤ◌, neg_ℤ, ◌<ℤ◌, inl, inr, arith}
use borrow.Author.Differences.{ints}
use Rattle.ember_algebra.specs.Large.{Eventually}
use Rattle.ember_algebra.specs.Sign.{is_positive, is_zero}
use Rattle.ember_algebra.proofs.Laws.{linear}
use Rattle.ember_model.specs.declared.tri.Tri.{Tri}
use Rattle.ember_model.specs.declared.plane.Plane.{Plane}
use Rattle.ember_model.specs.declared.point.Spot.{Spot}
use Rattle.ember_model.specs.declared.point.Axis.{Axis}
use Rattle.ember_model.specs.declared.face.Face.{Face}
use Rattle.ember_model.specs.Planes.{along, main_axis}
use Rattle.ember_model.specs.Points.{scaled, moved}
use Rattle.ember_model.specs.Faces.{is_inside}
use Rattle.ember_model.specs.Clear.{AreClear}
use Rattle.ember_model.specs.Meshes.{faces_of, vector, of_mesh, IsBalanced}
use Rattle.ember_model.specs.Sides.{IsSides}
use Rattle.ember_model.proofs.SignTests.{positive_out, clash}
use Rattle.ember_law.proofs.CornerSides.{main_entry}
use Rattle.ember_expr.specs.Formula.{Formula}
use Rattle.ember_expr.specs.Truth.{truth}
use Rattle.ember_box.specs.Boxes.{Cell}
use Rattle.ember_box.specs.Near.{near, tri_at}
use Rattle.ember_leaf.specs.Written.{front}
use Rattle.ember_trace.specs.Boxed.{IsRegion}
use Rattle.ember_trace.proofs.CutRegions.{IsCutOut, region_cut}
use Rattle.ember_law.proofs.Beside.{OneSign}
use Rattle.ember_trace.proofs.OneSides.{balanced_before, balanced_after}
use Rattle.ember_meaning.proofs.HitConditions.{behind, before_hit, after_hit}

-- ---- signs
below_zero : (s : ℤ) → is_zero s ≡ false → is_positive s ≡ false → s <ℤ pos 0
below_zero (pos zero) z p = absurd (clash refl z)
below_zero (pos (suc n)) z p = absurd (clash refl p)
below_zero (negsuc n) z p = omega (arith, ints)

-- ---- what is seen before and after, by the signs of the entries along the line and along the main
-- axis
told_before : (x : Formula) (p q : Bool) (w before after : List ℤ) → (p ≡ true → q ≡ true → w ≡ before) →
    (p ≡ true → q ≡ false → w ≡ after) → (p ≡ false → q ≡ true → w ≡ after) → (p ≡ false → q ≡ false → w ≡ before) →
    truth w x ≡ cond p (truth (cond q before after) x) (truth (cond q after before) x)
told_before x true true w b a f g h k = ap (λ v. truth v x) (f refl refl)
told_before x true false w b a f g h k = ap (λ v. truth v x) (g refl refl)
told_before x false true w b a f g h k = ap (λ v. truth v x) (h refl refl)
told_before x false false w b a f g h k = ap (λ v. truth v x) (k refl refl)

module _ (ts : List Tri) (c : Cell) (balanced : (mesh : ℕ) → IsBalanced (of_mesh mesh ts)) (f : Face) (r : IsRegion (near ts c) c f)
    (x : Formula) (before after : List ℤ) (sides : IsSides ts f before after) (v : Spot) (has : is_inside f v ≡ true)
    (k : Axis) (crosses : is_zero (along f.support k) ≡ false) where
  abbrev t : Tri
  t = tri_at (near ts c) r.tri

  abbrev main : Axis
  main = main_axis f.support

  cut_out : IsCutOut (near ts c) t f
  cut_out = region_cut c (near ts c) r.tri r.index r.regions f r.are_regions r.here

  slope : is_zero (along f.support main) ≡ false
  slope =
      by (along f.support main) (subst (λ (n : Plane). along n (main_axis n) ≢ pos 0) (sym cut_out.support) (main_entry t cut_out.normal))
    where
      by : (z : ℤ) → z ≢ pos 0 → is_zero z ≡ false
      by (pos zero) n = absurd (n refl)
      by (pos (suc m)) n = refl
      by (negsuc m) n = refl

  abbrev s : ℤ
  s = along f.support k

  abbrev u : ℤ
  u = along f.support main

  abbrev at : ℕ → ℤ → Spot
  at m e = moved (scaled (pos m) v) k e

  abbrev Seen : ℤ → List ℤ → Type 0
  Seen e w = Eventually (λ m. vector k ts (at m e) ≡ w)

  abbrev Clears : ℤ → Type 0
  Clears e = Eventually (λ m. AreClear (faces_of ts) (at m e))

  agree : (e : ℤ) (w b : List ℤ) → Seen e w → Clears e → Eventually (λ m. AreClear (faces_of ts) (at m e) → (y : Axis) → vector y ts (at m e) ≡ b) → w ≡ b
  agree e w b p q g =
      let m = p.from + q.from + g.from in
      sym (p.holds m (omega arith)) ∙ g.holds m (omega arith) (q.holds m (omega arith)) k

  is_before : (e : ℤ) (w : List ℤ) → Seen e w → Clears e → OneSign (e *ℤ s) (neg_ℤ (pos 1) *ℤ u) → w ≡ before
  is_before e w p q o =
      agree e w before p q (balanced_before ts (near ts c) balanced c refl f r before after sides v has k e
      (subst (λ (n : Plane). OneSign (e *ℤ along n k) (neg_ℤ (pos 1) *ℤ along n main)) cut_out.support o))

  is_after : (e : ℤ) (w : List ℤ) → Seen e w → Clears e → OneSign (e *ℤ s) (pos 1 *ℤ u) → w ≡ after
  is_after e w p q o =
      agree e w after p q (balanced_after ts (near ts c) balanced c refl f r before after sides v has k e
      (subst (λ (n : Plane). OneSign (e *ℤ along n k) (pos 1 *ℤ along n main)) cut_out.support o))

  up_s : is_positive s ≡ true → pos 0 <ℤ s
  up_s h = positive_out s h

  down_s : is_positive s ≡ false → s <ℤ pos 0
  down_s h = below_zero s crosses h

  up_u : is_positive u ≡ true → pos 0 <ℤ u
  up_u h = positive_out u h

  down_u : is_positive u ≡ false → u <ℤ pos 0
  down_u h = below_zero u slope h

  pub before_is : (w : List ℤ) → Seen (negsuc 0) w → Clears (negsuc 0) →
      truth w x ≡ before_hit s (truth (front f before after) x) (truth (behind f before after) x)
  before_is w p q =
      told_before x (is_positive s) (is_positive u) w before after
      (λ a b. is_before (negsuc 0) w p q (let c = up_s a in let d = up_u b in
      inr (omega (arith, linear, c), omega (arith, linear, d))))
      (λ a b. is_after (negsuc 0) w p q (let c = up_s a in let d = down_u b in
      inr (omega (arith, linear, c), omega (arith, linear, d))))
      (λ a b. is_after (negsuc 0) w p q (let c = down_s a in let d = up_u b in
      inl (omega (arith, linear, c), omega (arith, linear, d))))
      (λ a b. is_before (negsuc 0) w p q (let c = down_s a in let d = down_u b in
      inl (omega (arith, linear, c), omega (arith, linear, d))))

  pub after_is : (w : List ℤ) → Seen (pos 1) w → Clears (pos 1) → truth w x ≡ after_hit s (truth (front f before after) x) (truth (behind f before after) x)
  after_is w p q =
      told_before x (is_positive s) (is_positive u) w after before
      (λ a b. is_after (pos 1) w p q (let c = up_s a in let d = up_u b in
      inl (omega (arith, linear, c), omega (arith, linear, d))))
      (λ a b. is_before (pos 1) w p q (let c = up_s a in let d = down_u b in
      inl (omega (arith, linear, c), omega (arith, linear, d))))
      (λ a b. is_before (pos 1) w p q (let c = down_s a in let d = up_u b in
      inr (omega (arith, linear, c), omega (arith, linear, d))))
      (λ a b. is_after (pos 1) w p q (let c = down_s a in let d = down_u b in
      inr (omega (arith, linear, c), omega (arith, linear, d))))
