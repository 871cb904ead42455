-- Walks along a line
use Rattle.std.proofs.Common.{◌≡◌, ℕ, ◌+◌, ◌<◌, ◌≤◌, Bool, true, false, Result, Ok, Err, OnOk, List, [], ◌∷◌, ◌++◌}
use Rattle.std.proofs.Common.{length, get_or, take, ℤ, pos, ◌+ℤ◌, refl, sym, ap, subst, ◌∙◌, arith, eqb}
use Rattle.std.specs.List.{All}
use Rattle.std.proofs.lemmas.Bool.{eqb-true}
use Rattle.std.proofs.lemmas.List.{take_more, take_all}
use Rattle.ember_algebra.specs.Sums.{total}
use Rattle.ember_algebra.proofs.Laws.{linear}
use Rattle.mesh_certificate.specs.declared.certificate.segment.Segment.{Segment}
use Rattle.mesh_certificate.specs.Certificate.Chains.{boundary}
use Rattle.mesh_triangles.specs.declared.strand.Strand.{Strand}
use Rattle.mesh_triangles.specs.declared.marks.Mark.{Mark}
use Rattle.mesh_triangles.specs.declared.walk.Walk.{Walk}
use Rattle.mesh_triangles.specs.Strands.{coefficient}
use Rattle.mesh_triangles.specs.Marks.{change, change_by, only_at, change_at, AreMarks}
use Rattle.mesh_triangles.specs.Walks.{AddsBoundary, AddsStretch, IsWalked}
use Rattle.mesh_triangles.proofs.Totals.{total-push}
use Rattle.mesh_triangles.proofs.BoundarySums.{boundary_off}
use Rattle.mesh_triangles.proofs.Strands.{only_at-add, only_at-zero}

-- no strands are worth 0 at each corner
empty_at : (plane c n : ℕ) (ss : List Strand) → ss ≡ [] → only_at c n (coefficient plane ss) ≡ pos 0
empty_at plane c n ss e =
    ap (λ (ts : List Strand). only_at c n (coefficient plane ts)) e ∙ only_at-zero c n

module _ (line : ℕ) (done : List Mark) (before : List Segment) (v w : Walk) where
  -- nothing changes at the corner that is left
  pub went : (after : List Segment) → v.changes.items ≡ [] → w.line ≡ v.line → w.last ≡ v.last →
      w.stretch.items ≡ v.stretch.items → w.changes.items ≡ v.changes.items → IsWalked line done before v after →
      IsWalked line done before w after
  went after z l n s k h =
      record {
        on = l ∙ h.on;
        corners = corners;
        coefficients =
            λ plane. (λ i. coefficient plane (s i) +ℤ coefficient plane (k i)) ∙ h.coefficients plane;
        others = h.others;
      }
    where
      moved : (a b x y y' x' : ℤ) → a ≡ b +ℤ (x +ℤ y) → y ≡ pos 0 → y' ≡ pos 0 → x' ≡ x → a ≡ b +ℤ (x' +ℤ y')
      moved a b x y y' x' e f g i = omega (arith, linear, e, f, g, i)

      corners : (plane corner : ℕ) → boundary plane line corner after +ℤ total (change_at plane corner) done ≡ boundary
          plane line corner before +ℤ (only_at corner w.last (coefficient plane w.stretch.items) +ℤ only_at corner w.here
          (coefficient plane w.changes.items))
      corners plane corner =
          moved (boundary plane line corner after +ℤ total (change_at plane corner) done)
          (boundary plane line corner before) _ _ _ _ (h.corners plane corner)
          (empty_at plane corner v.here v.changes.items z) (empty_at plane corner w.here w.changes.items (k ∙ z))
          (λ i. only_at corner (n i) (coefficient plane (s i)))

  -- one more mark at the corner
  pub changed : (after : List Segment) (m : Mark) → m.corner ≡ v.here → w.line ≡ v.line → w.last ≡ v.last →
      w.here ≡ v.here → w.stretch.items ≡ v.stretch.items →
      ((plane : ℕ) → coefficient plane w.changes.items ≡ coefficient plane v.changes.items +ℤ change plane m.what) →
      IsWalked line done before v after → IsWalked line (done ++ m ∷ []) before w after
  changed after m at l n r s k h =
      record { on = l ∙ h.on; corners = corners; coefficients = coefficients; others = h.others }
    where
      more : (a b t u x y z x' y' : ℤ) → a +ℤ t ≡ b +ℤ (x +ℤ y) → u ≡ t +ℤ z → x' ≡ x → y' ≡ y +ℤ z → a +ℤ u ≡ b +ℤ (x' +ℤ y')
      more a b t u x y z x' y' e f g i = omega (arith, linear, e, f, g, i)

      corners : (plane corner : ℕ) → boundary plane line corner after +ℤ total (change_at plane corner) (done ++ m ∷ [])
          ≡ boundary plane line corner before +ℤ (only_at corner w.last (coefficient plane w.stretch.items) +ℤ only_at
          corner w.here (coefficient plane w.changes.items))
      corners plane corner =
          let y : only_at corner w.here (coefficient plane w.changes.items) ≡ only_at corner v.here
          (coefficient plane v.changes.items) +ℤ change_at plane corner m =
          (λ i. only_at corner (r i) (k plane i))
          ∙ only_at-add corner v.here (coefficient plane v.changes.items) (change plane m.what)
          ∙ (λ i. only_at corner v.here (coefficient plane v.changes.items) +ℤ only_at corner (sym at i)
          (change plane m.what)) in
          more (boundary plane line corner after) (boundary plane line corner before)
          (total (change_at plane corner) done) _ _ _ (change_at plane corner m) _ _ (h.corners plane corner)
          (total-push (change_at plane corner) done (done ++ m ∷ []) m refl)
          (λ i. only_at corner (n i) (coefficient plane (s i))) y

      sum : (x y z t u x' y' : ℤ) → x +ℤ y ≡ t → u ≡ t +ℤ z → x' ≡ x → y' ≡ y +ℤ z → x' +ℤ y' ≡ u
      sum x y z t u x' y' e f g i = omega (arith, linear, e, f, g, i)

      coefficients : (plane : ℕ) → coefficient plane w.stretch.items +ℤ coefficient plane w.changes.items ≡ total (change_by plane) (done ++ m ∷ [])
      coefficients plane =
          sum (coefficient plane v.stretch.items) (coefficient plane v.changes.items) (change_by plane m)
          (total (change_by plane) done) _ _ _ (h.coefficients plane)
          (total-push (change_by plane) done (done ++ m ∷ []) m refl) (ap (coefficient plane) s) (k plane)

  -- a stretch ends at the corner, and another one begins
  pub settled : (middle after : List Segment) → AddsStretch v v.stretch.items middle after → w.line ≡ v.line →
      w.last ≡ v.here → w.changes.items ≡ [] → ((plane : ℕ) →
      coefficient plane w.stretch.items ≡ coefficient plane v.stretch.items +ℤ coefficient plane v.changes.items) →
      IsWalked line done before v middle → IsWalked line done before w after
  settled middle after d l n z k h =
      record {
        on = l ∙ h.on;
        corners = corners;
        coefficients = coefficients;
        others =
            λ plane j corner e. d.others plane j corner (ap (eqb j) h.on ∙ e) ∙ h.others plane j corner e;
      }
    where
      turned : (a b m t x y f x' y' : ℤ) → m +ℤ t ≡ b +ℤ (x +ℤ y) → a +ℤ x ≡ m +ℤ f → x' ≡ f +ℤ y → y' ≡ pos 0 → a +ℤ t ≡ b +ℤ (x' +ℤ y')
      turned a b m t x y f x' y' e g i j = omega (arith, linear, e, g, i, j)

      stretch : (plane corner : ℕ) → boundary plane line corner after +ℤ only_at corner v.last
          (coefficient plane v.stretch.items) ≡ boundary plane line corner middle +ℤ only_at corner v.here
          (coefficient plane v.stretch.items)
      stretch plane corner =
          subst (λ (j : ℕ). boundary plane j corner after +ℤ only_at corner v.last (coefficient plane v.stretch.items)
          ≡ boundary plane j corner middle +ℤ only_at corner v.here (coefficient plane v.stretch.items)) h.on
          (d.corners plane corner)

      corners : (plane corner : ℕ) → boundary plane line corner after +ℤ total (change_at plane corner) done ≡ boundary
          plane line corner before +ℤ (only_at corner w.last (coefficient plane w.stretch.items) +ℤ only_at corner w.here
          (coefficient plane w.changes.items))
      corners plane corner =
          turned (boundary plane line corner after) (boundary plane line corner before)
          (boundary plane line corner middle) (total (change_at plane corner) done) _ _ _ _ _ (h.corners plane corner)
          (stretch plane corner) ((λ i. only_at corner (n i) (k plane i))
          ∙ only_at-add corner v.here (coefficient plane v.stretch.items) (coefficient plane v.changes.items))
          (empty_at plane corner w.here w.changes.items z)

      sum : (x y t x' y' : ℤ) → x +ℤ y ≡ t → x' ≡ x +ℤ y → y' ≡ pos 0 → x' +ℤ y' ≡ t
      sum x y t x' y' e f g = omega (arith, linear, e, f, g)

      coefficients : (plane : ℕ) → coefficient plane w.stretch.items +ℤ coefficient plane w.changes.items ≡ total (change_by plane) done
      coefficients plane =
          sum (coefficient plane v.stretch.items) (coefficient plane v.changes.items) (total (change_by plane) done) _ _
          (h.coefficients plane) (k plane) (ap (coefficient plane) z)

-- ---- results of calls
-- what is known for each number if a call succeeds
pub on_all : {V E : Type 0} {P : ℕ → Type 0} {Q : Type 0} (r : Result V E) → ((n : ℕ) → OnOk r (P n)) → (((n : ℕ) → P n) → Q) → OnOk r Q
on_all (Ok x) h f = f h
on_all (Err e) h f = tt

-- two facts that are known if a call succeeds
pub on_both : {V E A B Q : Type 0} (r : Result V E) → OnOk r A → OnOk r B → (A → B → Q) → OnOk r Q
on_both (Ok x) a b f = f a b
on_both (Err e) a b f = tt

-- nothing is added
pub unchanged : (b z : ℤ) → z ≡ pos 0 → b ≡ b +ℤ z
unchanged b z e = omega (arith, linear, e)

-- ---- all marks
module _ (line : ℕ) (before : List Segment) (ms : List Mark) (i : ℕ) (w : Walk) (after : List Segment) where
  -- one more mark has been passed
  pub next_mark : (m : Mark) → i < length ms → m ≡ get_or ms i m → IsWalked line (take i ms ++ m ∷ []) before w after →
      IsWalked line (take (i + 1) ms) before w after
  next_mark m l e h =
      subst (λ (ns : List Mark). IsWalked line ns before w after) (sym (take_more ms i m l ∙ ap (λ (n : Mark). take i ms ++ n ∷ []) (sym e))) h

  -- all marks have been passed
  pub no_mark_left : length ms ≤ i → IsWalked line (take i ms) before w after → IsWalked line ms before w after
  no_mark_left l h = subst (λ (ns : List Mark). IsWalked line ns before w after) (take_all i ms l) h

module _ (line : ℕ) (ss : List Segment) (ms : List Mark) (before after : List Segment) (w : Walk) where
  -- at the end of the line the boundary of its segments has been added
  pub ended_line : AreMarks line ss ms → All (λ (s : Segment). s.line ≡ line) ss → w.changes.items ≡ [] →
      IsWalked line ms before w after → AddsBoundary before ss after
  ended_line a on z h = record { each = λ plane l corner. by plane l corner (eqb l line) refl }
    where
      value : (x y t : ℤ) → x +ℤ y ≡ t → y ≡ pos 0 → t ≡ pos 0 → x ≡ pos 0
      value x y t e f g = omega (arith, linear, e, f, g)

      closes : (plane : ℕ) → coefficient plane w.stretch.items ≡ pos 0
      closes plane =
          value (coefficient plane w.stretch.items) (coefficient plane w.changes.items) (total (change_by plane) ms)
          (h.coefficients plane) (ap (coefficient plane) z) (a.whole plane)

      all_in : (x b t m x' y' : ℤ) → x +ℤ t ≡ b +ℤ (x' +ℤ y') → m +ℤ t ≡ pos 0 → x' ≡ pos 0 → y' ≡ pos 0 → x ≡ b +ℤ m
      all_in x b t m x' y' e f g i = omega (arith, linear, e, f, g, i)

      here : (plane corner : ℕ) → boundary plane line corner after ≡ boundary plane line corner before +ℤ boundary plane line corner ss
      here plane corner =
          all_in (boundary plane line corner after) (boundary plane line corner before)
          (total (change_at plane corner) ms) (boundary plane line corner ss) _ _ (h.corners plane corner)
          (a.corners plane corner) (ap (only_at corner w.last) (closes plane) ∙ only_at-zero corner w.last)
          (empty_at plane corner w.here w.changes.items z)

      unchanged : (x b m : ℤ) → x ≡ b → m ≡ pos 0 → x ≡ b +ℤ m
      unchanged x b m e f = omega (arith, linear, e, f)

      by : (plane l corner : ℕ) (b : Bool) → eqb l line ≡ b → boundary plane l corner after ≡ boundary plane l corner before +ℤ boundary plane l corner ss
      by plane l corner true e =
          subst (λ (j : ℕ). boundary plane j corner after ≡ boundary plane j corner before +ℤ boundary plane j corner
          ss) (sym (eqb-true l line e)) (here plane corner)
      by plane l corner false e =
          unchanged (boundary plane l corner after) (boundary plane l corner before) (boundary plane l corner ss)
          (h.others plane l corner e) (boundary_off plane l corner line ss on e)
