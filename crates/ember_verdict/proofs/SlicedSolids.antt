-- No face of a solid's document is endless at a level: each lies in a box.
use Rattle.std.proofs.Common.{◌≡◌, ◌⊎◌, inl, inr, ℕ, suc, Bool, true, false, List, [], ◌∷◌, ◌++◌, map, length, ℤ, pos, neg_ℤ}
use Rattle.std.proofs.Common.{◌+ℤ◌, ◌-ℤ◌, ◌*ℤ◌, ◌<ℤ◌, ◌≤ℤ◌, refl, sym, ap, ◌∙◌, arith}
use Rattle.std.specs.List.{All, range_with_len}
use Rattle.std.specs.Prelude.{flat_map}
use Rattle.std.proofs.lemmas.List.Concat.{flat_map-cons}
use Rattle.std.proofs.lemmas.List.Elements.{All-cons, All-nil}
use Rattle.ember_algebra.specs.Relations.{Each, none, more, Every}
use Rattle.ember_algebra.proofs.Laws.{linear}
use Rattle.ember_algebra.proofs.Order.{by_sign, mul_le, square_nonneg}
use Rattle.ember_algebra.proofs.Relations.{every_unit, every_from}
use Rattle.ember_algebra.proofs.Ring.{num, neg, ◌⊕◌, ◌⊖◌, ◌⊗◌, ◌≈◌, solve, cancels}
use Rattle.ember_expr.specs.Formula.{Formula}
use Rattle.ember_expr.specs.Truth.{truth}
use Rattle.ember_box.specs.Boxes.{Cell, root}
use Rattle.ember_box.specs.Aabbs.{aabb_of_cell}
use Rattle.ember_box.specs.Near.{near}
use Rattle.ember_box.specs.Halving.{leaves}
use Rattle.ember_leaf.specs.KeptRegions.{NarrowKept as Kept}
use Rattle.ember_leaf.specs.Scenes.{LeafGives, regions, nothing, IsWritten}
use Rattle.ember_leaf.specs.Written.{IsWrittenOfRegion, unowned, same_value, written, IsWrittenOf, regional, hidden, front}
use Rattle.ember_leaf.proofs.WallClips.{each_every}
use Rattle.ember_meaning.specs.Closed.Chains.{face_from}
use Rattle.ember_model.specs.Faces.{is_inside}
use Rattle.ember_model.specs.FaceFiles.{WrittenFace, IsWrittenFace, IsFaceFile, header, ending, written_lines}
use Rattle.ember_model.specs.declared.face.Face.{Face}
use Rattle.ember_model.specs.declared.plane.Plane.{Plane}
use Rattle.ember_model.specs.declared.point.Spot.{Spot}
use Rattle.ember_model.specs.declared.tri.Tri.{Tri}
use Rattle.ember_model.proofs.SignTests.{negative_out}
use Rattle.ember_poly.specs.Cuts.{HasInside}
use Rattle.ember_poly.proofs.OutlinePoints.{outline_has_its_points}
use Rattle.ember_ref.specs.ClosedBoxes.{HasPoint}
use Rattle.ember_slice.specs.Lines.{IsFlat, along_line, ahead, is_before, is_on_line}
use Rattle.ember_slice.specs.Segments.{IsEndless, IsUnboundedAhead, IsUnboundedBack, is_cut}
use Rattle.ember_slice.proofs.Along.{on_line_in, square, square_above}
use Rattle.ember_text.specs.Documents.{written_face}
use Rattle.ember_text.specs.Texts.{IsTextInRange, oriented_face}
use Rattle.ember_trace.specs.Boxed.{IsRegion}
use Rattle.ember_trace.proofs.BoxedRegions.{every_at, regions_lie_in}
use Rattle.ember_trace.proofs.TracedSides.{in_box}
use Rattle.std.proofs.lemmas.Bool.{and_parts}
use Rattle.ember_model.proofs.FlippedFaces.{inside-flipped}
use Rattle.ember_verdict.specs.Slices.{IsSliceable, IsSliceRefusal}
use Rattle.ember_verdict.specs.Solids.{IsSolidFile}
use Rattle.ember_verdict.specs.declared.status.Status.{Status}
use Rattle.ember_verdict.specs.declared.status.Status.TheVariants.{Done, Words, ReadFault, WriteFault, ObjRefused}
use Rattle.ember_verdict.specs.declared.status.Status.TheVariants.{MeshRefused, ExprRefused, Unbounded, Limit, NotClear}
use Rattle.ember_verdict.specs.declared.status.Status.TheVariants.{FaceRefused, OutOfMemory}
use Rattle.ember_verdict.proofs.SliceFaults.{sliceable_or_fault}

-- ---- written regions lie in boxes
record IsBoxed (k : Kept) : Type 0 where
  cell : Cell
  holds : (v : Spot) → is_inside (written_face k) v ≡ true → HasPoint cell v
  filled : HasInside (written_face k)

of_region : (scene : List Tri) (x : Formula) (c : Cell) (near : List Tri) (i : ℕ) (face : Face) (ks : List Kept) →
    IsRegion near c face → IsWrittenOfRegion scene x near i face ks → Every IsBoxed ks
of_region scene x c near i face ks r (unowned n) = tt
of_region scene x c near i face ks r (same_value s e) = tt
of_region scene x c near i face ks r (written {before = a} {after = b} o s n) =
    (record { cell = c; holds = boxed (truth (front face a b) x); filled = filled (truth (front face a b) x) }, tt)
  where
    filled : (flipped : Bool) → HasInside (oriented_face face flipped)
    filled true = record { at = s.at; inside = inside-flipped face s.at ∙ s.inside; holds = tt }
    filled false = record { at = s.at; inside = s.inside; holds = tt }

    here : (v : Spot) → is_inside face v ≡ true → HasPoint c v
    here v h = in_box c face v (regions_lie_in c near r.tri r.index r.regions face r.are_regions r.here) h

    boxed : (flipped : Bool) (v : Spot) → is_inside (oriented_face face flipped) v ≡ true → HasPoint c v
    boxed true v h = here v (sym (inside-flipped face v) ∙ h)
    boxed false v h = here v h

of_place : (scene : List Tri) (x : Formula) (c : Cell) (near : List Tri) (i : ℕ) (ks : List Kept) →
    IsWrittenOf scene x c near i ks → Every IsBoxed ks
of_place scene x c near i ks (regional r) =
    each_every (IsRegion near c) IsBoxed (λ f us t w. of_region scene x c near i f us t w) r.are_written
    (every_from (IsRegion near c) r.faces
    (λ j g e. record { tri = i; regions = r.faces; are_regions = r.are_regions; index = j; here = e }))
of_place scene x c near i ks (hidden h) = tt

of_leaf : (scene : List Tri) (x : Formula) (c : Cell) (ks : List Kept) → LeafGives scene x c ks → Every IsBoxed ks
of_leaf scene x c ks (regions w) =
    each_every (λ i. Unit {0}) IsBoxed (λ i us t w. of_place scene x c (near scene c) i us w) w
    (every_unit (range_with_len 0 (length (near scene c))))
of_leaf scene x c ks (nothing v) = tt

written_regions_are_boxed : (scene : List Tri) (x : Formula) (ks : List Kept) → IsWritten scene x ks → Every IsBoxed ks
written_regions_are_boxed scene x ks w =
    each_every (λ c. Unit {0}) IsBoxed (λ c us t g. of_leaf scene x c us g) w (every_unit (leaves scene root))

-- ---- and so do the faces that are read back
record LiesInBox (f : Face) : Type 0 where
  cell : Cell
  holds : (v : Spot) → is_inside f v ≡ true → HasPoint cell v

-- the texts are the lines of as many written faces, each of which lies in a box
record AreInBoxes (count : ℕ) (texts : List ℕ) : Type 0 where
  written : List WrittenFace
  well_formed : All IsWrittenFace written
  is : texts ≡ flat_map written_lines written
  number : count ≡ length written
  boxed : Every LiesInBox (map face_from written)

texts_lie_in_boxes : (ks : List Kept) {texts : List ℕ} → Every IsBoxed ks →
    Each IsTextInRange (map written_face ks) texts → AreInBoxes (length (map written_face ks)) texts
texts_lie_in_boxes [] h none = record { written = []; well_formed = All-nil IsWrittenFace; is = refl; number = refl; boxed = tt }
texts_lie_in_boxes (k ∷ ks) h (more {ys = ys} {zs = zs} t ts) =
    let f = written_face k in let s = texts_lie_in_boxes ks h.1 ts in
    let w : WrittenFace = record { support = f.support; edges = t.text_is.outline } in
    let same = outline_has_its_points f t.text_is.outline h.0.filled t.text_is.is_outline in
    record {
      written = w ∷ s.written;
      well_formed = All-cons IsWrittenFace w s.written t.written s.well_formed;
      is = (λ i. t.text_is.is i ++ s.is i) ∙ sym (flat_map-cons written_lines w s.written);
      number = ap (λ n. suc n) s.number;
      boxed = (record { cell = h.0.cell; holds = λ v i. h.0.holds v (same.inside v ∙ i) }, s.boxed);
    }

-- ---- how far along a line a point of a box may lie
-- an integer is at most its square in size
at_most_square : (a : ℤ) → (a ≤ℤ (a *ℤ a)) × (neg_ℤ a ≤ℤ (a *ℤ a))
at_most_square a = by_sign a
    (λ l. let m : pos 0 ≤ℤ (a *ℤ (a -ℤ pos 1)) = rise l in (
      omega (arith, linear, m, apart),
      omega (arith, linear, l, square_nonneg a),
    ))
    (λ e. (omega (arith, linear, e, square_nonneg a), omega (arith, linear, e, square_nonneg a)))
    (λ l. let m : pos 0 ≤ℤ (neg_ℤ a *ℤ (neg_ℤ a -ℤ pos 1)) = fall l in (
      omega (arith, linear, l, square_nonneg a),
      omega (arith, linear, m, apart_below),
    ))
  where
    apart : a *ℤ (a -ℤ pos 1) ≡ a *ℤ a -ℤ a
    apart = solve 1 (λ a. a ⊗ (a ⊖ num (pos 1)) ≈ a ⊗ a ⊖ a) cancels a

    apart_below : neg_ℤ a *ℤ (neg_ℤ a -ℤ pos 1) ≡ a *ℤ a +ℤ a
    apart_below = solve 1 (λ a. neg a ⊗ (neg a ⊖ num (pos 1)) ≈ a ⊗ a ⊕ a) cancels a

    rise : pos 0 <ℤ a → pos 0 ≤ℤ (a *ℤ (a -ℤ pos 1))
    rise l =
        let zero : pos 0 ≤ℤ a = omega (arith, linear, l) in
        let one : pos 0 ≤ℤ (a -ℤ pos 1) = omega (arith, linear, l) in
        let m = mul_le zero one in omega (arith, linear, m)

    fall : a <ℤ pos 0 → pos 0 ≤ℤ (neg_ℤ a *ℤ (neg_ℤ a -ℤ pos 1))
    fall l =
        let zero : pos 0 ≤ℤ neg_ℤ a = omega (arith, linear, l) in
        let one : pos 0 ≤ℤ (neg_ℤ a -ℤ pos 1) = omega (arith, linear, l) in
        let m = mul_le zero one in omega (arith, linear, m)

-- a product with a number of at most m in size
product_bound : (a y m : ℤ) → pos 0 ≤ℤ m → neg_ℤ m ≤ℤ y → y ≤ℤ m → (a *ℤ y) ≤ℤ (m *ℤ (a *ℤ a))
product_bound a y m zero from to = by_sign a
    (λ l. let up : pos 0 ≤ℤ a = omega (arith, linear, l) in
    omega (arith, linear, mul_le up to, mul_le zero (at_most_square a).0, solve 2 (λ a m. a ⊗ m ≈ m ⊗ a) cancels a m))
    (λ e. let none : a *ℤ y ≡ pos 0 = rw e (omega (arith, linear)) in
    let square : pos 0 ≤ℤ (m *ℤ (a *ℤ a)) = positive in omega (arith, linear, none, square))
    (λ l. let down : pos 0 ≤ℤ neg_ℤ a = omega (arith, linear, l) in
    omega (
      arith,
      linear,
      mul_le down from,
      mul_le zero (at_most_square a).1,
      solve 2 (λ a m. neg a ⊗ neg m ≈ a ⊗ m) cancels a m,
      solve 2 (λ a y. neg a ⊗ y ≈ neg (a ⊗ y)) cancels a y,
      solve 2 (λ a m. m ⊗ neg a ≈ neg (a ⊗ m)) cancels a m,
    ))
  where
    positive : pos 0 ≤ℤ (m *ℤ (a *ℤ a))
    positive = let p = mul_le zero (square_nonneg a) in omega (arith, linear, p, solve 1 (λ m. m ⊗ num (pos 0) ≈ num (pos 0)) cancels m)

-- a point whose coordinates along x and y are at most `bound` in size
pub record IsWithin (bound : ℤ) (v : Spot) : Type 0 where
  pub weight : pos 0 <ℤ v.w
  pub x_from : neg_ℤ (bound *ℤ v.w) ≤ℤ v.x
  pub x_to : v.x ≤ℤ (bound *ℤ v.w)
  pub y_from : neg_ℤ (bound *ℤ v.w) ≤ℤ v.y
  pub y_to : v.y ≤ℤ (bound *ℤ v.w)

module _ (n : Plane) (bound : ℤ) (zero : pos 0 ≤ℤ bound) (v : Spot) (h : IsWithin bound v) where
  some : pos 0 ≤ℤ (bound *ℤ v.w)
  some =
      let w : pos 0 ≤ℤ v.w = omega (arith, linear, h.weight) in
      let m = mul_le zero w in omega (arith, linear, m, solve 1 (λ b. b ⊗ num (pos 0) ≈ num (pos 0)) cancels bound)

  -- it lies at most so far along the line
  along_to : along_line n v ≤ℤ ((bound *ℤ v.w) *ℤ square n)
  along_to =
      omega (
        arith,
        linear,
        product_bound n.a v.y (bound *ℤ v.w) some h.y_from h.y_to,
        product_bound (neg_ℤ n.b) v.x (bound *ℤ v.w) some h.x_from h.x_to,
        solve 5 (λ a b x y m. m ⊗ (a ⊗ a) ⊕ m ⊗ (neg b ⊗ neg b) ≈ m ⊗ (a ⊗ a ⊕ b ⊗ b)) cancels n.a n.b v.x v.y (bound *ℤ v.w),
        solve 2 (λ b x. neg b ⊗ x ≈ neg (b ⊗ x)) cancels n.b v.x,
      )

  along_from : neg_ℤ ((bound *ℤ v.w) *ℤ square n) ≤ℤ along_line n v
  along_from =
      omega (
        arith,
        linear,
        product_bound (neg_ℤ n.a) v.y (bound *ℤ v.w) some h.y_from h.y_to,
        product_bound n.b v.x (bound *ℤ v.w) some h.x_from h.x_to,
        solve 5 (λ a b x y m. m ⊗ (neg a ⊗ neg a) ⊕ m ⊗ (b ⊗ b) ≈ m ⊗ (a ⊗ a ⊕ b ⊗ b)) cancels n.a n.b v.x v.y (bound *ℤ v.w),
        solve 2 (λ a y. neg a ⊗ y ≈ neg (a ⊗ y)) cancels n.a v.y,
      )

-- ---- a point of the line, t ahead of the one next to the middle
line_point : Plane → ℤ → ℤ → Spot
line_point n at t =
    let h = pos 2 *ℤ at +ℤ pos 1 in let m = pos 2 *ℤ n.d -ℤ n.c *ℤ h in let q = square n in record {
      x = n.a *ℤ m -ℤ n.b *ℤ t;
      y = n.b *ℤ m +ℤ n.a *ℤ t;
      z = h *ℤ q;
      w = pos 2 *ℤ q;
    }

is_on : (n : Plane) (at t : ℤ) → (IsFlat n → ⊥) → is_on_line n at (line_point n at t) ≡ true
unfolding line_point
is_on n at t tilted =
    on_line_in n at (line_point n at t)
    (record {
      weight = omega (arith, linear, square_above n tilted);
      support = solve 6 (λ a b c d e t. let h = num (pos 2) ⊗ e ⊕ num (pos 1) in let m = num (pos 2) ⊗ d ⊖ c ⊗ h in
          let q = a ⊗ a ⊕ b ⊗ b in a ⊗ (a ⊗ m ⊖ b ⊗ t) ⊕ b ⊗ (b ⊗ m ⊕ a ⊗ t) ⊕ c ⊗ (h ⊗ q) ⊖ d ⊗ (num (pos 2) ⊗ q)
          ≈ num (pos 0)) cancels n.a n.b n.c n.d at t;
      level = solve 6 (λ a b c d e t. let h = num (pos 2) ⊗ e ⊕ num (pos 1) in let m = num (pos 2) ⊗ d ⊖ c ⊗ h in
          let q = a ⊗ a ⊕ b ⊗ b in num (pos 0) ⊗ (a ⊗ m ⊖ b ⊗ t) ⊕ num (pos 0) ⊗ (b ⊗ m ⊕ a ⊗ t) ⊕ num (pos 2)
          ⊗ (h ⊗ q) ⊖ h ⊗ (num (pos 2) ⊗ q) ≈ num (pos 0)) cancels n.a n.b n.c n.d at t;
    })

along_is : (n : Plane) (at t : ℤ) → along_line n (line_point n at t) ≡ t *ℤ square n
unfolding line_point
along_is n at t = solve 6 (λ a b c d e t. let h = num (pos 2) ⊗ e ⊕ num (pos 1) in let m = num (pos 2) ⊗ d ⊖ c ⊗ h in
    a ⊗ (b ⊗ m ⊕ a ⊗ t) ⊖ b ⊗ (a ⊗ m ⊖ b ⊗ t) ≈ t ⊗ (a ⊗ a ⊕ b ⊗ b)) cancels n.a n.b n.c n.d at t

weight_is : (n : Plane) (at t : ℤ) → (line_point n at t).w ≡ pos 2 *ℤ square n
unfolding line_point
weight_is n at t = refl

module _ (n : Plane) (at bound : ℤ) (zero : pos 0 ≤ℤ bound) (tilted : IsFlat n → ⊥) (p : Spot) (h : IsWithin bound p) where
  some_weight : (t : ℤ) → pos 0 ≤ℤ (line_point n at t).w
  some_weight t = omega (arith, linear, square_above n tilted, weight_is n at t)

  -- no point of the box lies ahead of this one
  none_ahead : is_before n (line_point n at (bound *ℤ (pos 2 *ℤ square n))) p ≡ true → ⊥
  none_ahead e =
      let t = bound *ℤ (pos 2 *ℤ square n) in
      let u = line_point n at t in
      let less : (u.w *ℤ along_line n p) ≤ℤ (u.w *ℤ ((bound *ℤ p.w) *ℤ square n)) =
      mul_le (some_weight t) (along_to n bound zero p h) in
      let same : p.w *ℤ along_line n u ≡ u.w *ℤ ((bound *ℤ p.w) *ℤ square n) =
      rw (along_is n at t, weight_is n at t)
      (solve 3 (λ b q k. k ⊗ ((b ⊗ (num (pos 2) ⊗ q)) ⊗ q) ≈ (num (pos 2) ⊗ q) ⊗ ((b ⊗ k) ⊗ q)) cancels bound (square n) p.w) in
      let below : ahead n u p <ℤ pos 0 = negative_out (ahead n u p) e in
      omega (arith, linear, less, same, below)

  -- and none behind this one
  none_behind : is_before n p (line_point n at (neg_ℤ bound *ℤ (pos 2 *ℤ square n))) ≡ true → ⊥
  none_behind e =
      let t = neg_ℤ bound *ℤ (pos 2 *ℤ square n) in
      let u = line_point n at t in
      let more : (u.w *ℤ neg_ℤ ((bound *ℤ p.w) *ℤ square n)) ≤ℤ (u.w *ℤ along_line n p) =
      mul_le (some_weight t) (along_from n bound zero p h) in
      let same : p.w *ℤ along_line n u ≡ u.w *ℤ neg_ℤ ((bound *ℤ p.w) *ℤ square n) =
      rw (along_is n at t, weight_is n at t)
      (solve 3 (λ b q k. k ⊗ ((neg b ⊗ (num (pos 2) ⊗ q)) ⊗ q) ≈ (num (pos 2) ⊗ q) ⊗ neg ((b ⊗ k) ⊗ q)) cancels bound (square n) p.w) in
      let below : ahead n p u <ℤ pos 0 = negative_out (ahead n p u) e in
      omega (arith, linear, more, same, below)

-- ---- a face in a box isn't endless
abbrev box_bound : Cell → ℤ
box_bound c =
    let x = (aabb_of_cell c).x in let y = (aabb_of_cell c).y in
    x.low *ℤ x.low +ℤ x.high *ℤ x.high +ℤ (y.low *ℤ y.low +ℤ y.high *ℤ y.high)

lower_end : (k b w x : ℤ) → pos 0 <ℤ w → (k *ℤ k) ≤ℤ b → (k *ℤ w) ≤ℤ x → neg_ℤ (b *ℤ w) ≤ℤ x
lower_end k b w x l s from =
    let up : pos 0 ≤ℤ w = omega (arith, linear, l) in
    let least : neg_ℤ b ≤ℤ k = omega (arith, linear, s, (at_most_square k).1) in
    omega (
      arith,
      linear,
      from,
      mul_le up least,
      solve 2 (λ b w. w ⊗ neg b ≈ neg (b ⊗ w)) cancels b w,
      solve 2 (λ k w. w ⊗ k ≈ k ⊗ w) cancels k w,
    )

upper_end : (k b w x : ℤ) → pos 0 <ℤ w → (k *ℤ k) ≤ℤ b → x ≤ℤ (k *ℤ w) → x ≤ℤ (b *ℤ w)
upper_end k b w x l s to =
    let up : pos 0 ≤ℤ w = omega (arith, linear, l) in
    let most : k ≤ℤ b = omega (arith, linear, s, (at_most_square k).0) in
    omega (
      arith,
      linear,
      to,
      mul_le up most,
      solve 2 (λ b w. w ⊗ b ≈ b ⊗ w) cancels b w,
      solve 2 (λ k w. w ⊗ k ≈ k ⊗ w) cancels k w,
    )

point_within : (c : Cell) (v : Spot) → HasPoint c v → IsWithin (box_bound c) v
point_within c v h =
    let x = (aabb_of_cell c).x in let y = (aabb_of_cell c).y in
    let xl = square_nonneg x.low in let xh = square_nonneg x.high in
    let yl = square_nonneg y.low in let yh = square_nonneg y.high in
    record {
      weight = h.weight;
      x_from = lower_end x.low (box_bound c) v.w v.x h.weight (omega (arith, linear, xh, yl, yh)) h.on_x.from;
      x_to = upper_end x.high (box_bound c) v.w v.x h.weight (omega (arith, linear, xl, yl, yh)) h.on_x.to;
      y_from = lower_end y.low (box_bound c) v.w v.y h.weight (omega (arith, linear, xl, xh, yh)) h.on_y.from;
      y_to = upper_end y.high (box_bound c) v.w v.y h.weight (omega (arith, linear, xl, xh, yl)) h.on_y.to;
    }

some_bound : (c : Cell) → pos 0 ≤ℤ box_bound c
some_bound c =
    let x = (aabb_of_cell c).x in let y = (aabb_of_cell c).y in
    omega (arith, linear, square_nonneg x.low, square_nonneg x.high, square_nonneg y.low, square_nonneg y.high)

boxed_face_ends : (f : Face) (at : ℤ) → LiesInBox f → IsEndless f at → ⊥
boxed_face_ends f at box e = by e.unbounded
  where
    within : (p : Spot) → is_cut f at p ≡ true → IsWithin (box_bound box.cell) p
    within p cut = point_within box.cell p (box.holds p (and_parts (is_inside f p) _ cut).0)

    by : IsUnboundedAhead f at ⊎ IsUnboundedBack f at → ⊥
    by (inl goes) =
        let t = box_bound box.cell *ℤ (pos 2 *ℤ square f.support) in
        let p = goes (line_point f.support at t) (is_on f.support at t e.tilted) in
        none_ahead f.support at (box_bound box.cell) (some_bound box.cell) e.tilted p.0 (within p.0 p.1) p.2
    by (inr goes) =
        let t = neg_ℤ (box_bound box.cell) *ℤ (pos 2 *ℤ square f.support) in
        let p = goes (line_point f.support at t) (is_on f.support at t e.tilted) in
        none_behind f.support at (box_bound box.cell) (some_bound box.cell) e.tilted p.0 (within p.0 p.1) p.2

-- ---- documents
-- the document of a solid can be sliced at each level
pub solid_is_sliceable : (tris : List Tri) (formula : Formula) (file : List ℕ) → IsSolidFile tris formula file → (at : ℤ) → IsSliceable at file
solid_is_sliceable tris formula file is at =
    let kept = is.text.kept in
    let d = is.text.text in
    let s = texts_lie_in_boxes kept (written_regions_are_boxed tris formula kept is.text.solid.written) d.are_texts in
    let faces = map face_from s.written in
    let read : IsFaceFile file faces = record {
      written = s.written;
      well_formed = s.well_formed;
      is = d.is ∙ (λ i. header ++ (s.is i ++ ending (s.number i)));
      faces = refl;
    } in
    (faces, read, λ n h. boxed_face_ends h.face at (every_at LiesInBox faces h.index h.face s.boxed h.here) h.endless)

-- so slicing it is never refused
pub solid_is_not_refused : (tris : List Tri) (formula : Formula) (file : List ℕ) → IsSolidFile tris formula file →
    (at : ℤ) (status : Status) → IsSliceRefusal at file status → ⊥
solid_is_not_refused tris formula file is at Done h = h
solid_is_not_refused tris formula file is at Words h = h
solid_is_not_refused tris formula file is at (ReadFault i) h = h
solid_is_not_refused tris formula file is at WriteFault h = h
solid_is_not_refused tris formula file is at (ObjRefused i fault) h = h
solid_is_not_refused tris formula file is at (MeshRefused i fault) h = h
solid_is_not_refused tris formula file is at (ExprRefused fault) h = h
solid_is_not_refused tris formula file is at Unbounded h = h
solid_is_not_refused tris formula file is at (Limit kind count) h = h
solid_is_not_refused tris formula file is at NotClear h = h
solid_is_not_refused tris formula file is at (FaceRefused fault) h =
    sliceable_or_fault at file fault (solid_is_sliceable tris formula file is at) h
solid_is_not_refused tris formula file is at OutOfMemory h = h
