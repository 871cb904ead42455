-- The text of a slice, face by face.
use Rattle.std.proofs.Common.{◌≡◌, ⊎_elim, refl, sym, ap, subst, ◌∙◌, arith, ℕ, zero, suc, ◌+◌, ◌<◌, ℤ, pos, ◌+ℤ◌, ◌-ℤ◌}
use Rattle.std.proofs.Common.{◌*ℤ◌, true, false, List, [], ◌∷◌, ◌++◌, length, length-append, take, get_or, flat_map}
use Rattle.std.proofs.Common.{codes, decimal, append-nil, append_assoc, Some}
use Rattle.std.specs.Prelude.{slice_get}
use Rattle.std.proofs.lemmas.List.{take_more}
use Rattle.std.proofs.lemmas.Option.{slice_get-get_or}
use Rattle.std.proofs.lemmas.List.Concat.{flat_map-cons}
use Rattle.std.proofs.lemmas.Grind.{flat_map-append}
use Rattle.std.proofs.lemmas.Bool.{and_parts}
use Rattle.ember_algebra.specs.Relations.{Each, none, more}
use Rattle.ember_algebra.proofs.Relations.{each_push}
use Rattle.ember_algebra.proofs.Laws.{linear}
use Rattle.ember_algebra.proofs.Ring.{num, ◌⊕◌, ◌⊖◌, ◌⊗◌, ◌≈◌, solve, cancels}
use Rattle.ember_model.specs.declared.plane.Plane.{Plane}
use Rattle.ember_model.specs.declared.point.Spot.{Spot}
use Rattle.ember_model.specs.declared.face.Face.{Face}
use Rattle.ember_model.specs.FaceFiles.{line_of, ending}
use Rattle.ember_model.proofs.SignTests.{clash}
use Rattle.ember_point.specs.Points.{spot_of}
use Rattle.ember_slice.specs.declared.ends.Segment.{Segment}
use Rattle.ember_slice.specs.Lines.{IsFlat, is_on_line, is_before}
use Rattle.ember_slice.specs.Segments.{is_cut, IsSegment, GivesNone, IsEndless, Directed, GivesSegments, segment_line, IsSliceText, IsFirstEndless}
use Rattle.ember_slice.specs.Texts.{AddsSegment, HasSegments}
use Rattle.ember_slice.proofs.Orders.{not_both}
use Rattle.ember_slice.proofs.Bounds.{cut_line}
use Rattle.ember_slice.proofs.Along.{on_line_in, square, square_above}

-- ---- one face
-- a face that gives no segment adds no line
pub adds_none : (f : Face) (at : ℤ) (text : List ℕ) → GivesNone f at → AddsSegment f at 0 text text
adds_none f at text h = record { segments = []; gives = h; is = sym (append-nil text); count_is = refl }

abbrev directed : Segment → Directed
directed s = record { first = spot_of s.first; last = spot_of s.last }

-- a face that gives a segment adds its line
pub adds_one : (f : Face) (at : ℤ) (old new : List ℕ) (s : Segment) →
    IsSegment f at (spot_of s.first) (spot_of s.last) → new ≡ old ++ segment_line (directed s) →
    AddsSegment f at 1 old new
adds_one f at old new s h e =
    record {
      segments = directed s ∷ [];
      gives = h;
      is = e ∙ ap (λ l. old ++ l) (sym (flat_map-cons segment_line (directed s) [] ∙ append-nil (segment_line (directed s))));
      count_is = refl;
    }

-- ---- face after face
-- the first line of a slice
pub header_begins_text : (at z : ℤ) (old new : List ℕ) → old ≡ [] → z ≡ at → new ≡ old ++ line_of (codes "slice") (z ∷ []) → HasSegments [] at 0 new
header_begins_text at z old new e q h =
    record {
      segments = [];
      are = none;
      is = h ∙ (λ i. e i ++ line_of (codes "slice") (q i ∷ []))
          ∙ sym (append-nil (line_of (codes "slice") (at ∷ [])));
      count_is = refl;
    }

-- one face more
pub one_more : {fs gs : List Face} {f : Face} {at : ℤ} {count many : ℕ} {text new : List ℕ} →
    HasSegments fs at count text → AddsSegment f at many text new → gs ≡ fs ++ f ∷ [] →
    HasSegments gs at (count + many) new
one_more {fs} {gs} {f} {at} {count} {many} {text} {new} h k e =
    let head = line_of (codes "slice") (at ∷ []) in
    record {
      segments = h.segments ++ k.segments;
      are = subst (λ xs. Each (GivesSegments at) xs (h.segments ++ k.segments)) (sym e) (each_push h.are k.gives);
      is = k.is ∙ ap (λ l. l ++ flat_map segment_line k.segments) h.is
          ∙ append_assoc head (flat_map segment_line h.segments) (flat_map segment_line k.segments)
          ∙ ap (λ l. head ++ l) (sym (flat_map-append segment_line h.segments k.segments));
      count_is = omega (arith, length-append h.segments k.segments, h.count_is, k.count_is);
    }

-- the first i + 1 faces are the first i and the next one
pub face_taken : (fs : List Face) (i : ℕ) (f : Face) → i < length fs → f ≡ get_or fs i f → take (i + 1) fs ≡ take i fs ++ f ∷ []
face_taken fs i f l e = take_more fs i f l ∙ ap (λ g. take i fs ++ g ∷ []) (sym e)

-- with its last line the text is that of the slice
pub finished : {fs : List Face} {at : ℤ} {count : ℕ} {text new : List ℕ} (z : ℤ) → HasSegments fs at count text →
    z ≡ pos count → new ≡ text ++ line_of (codes "end") (z ∷ []) → IsSliceText fs at new
finished {fs} {at} {count} {text} {new} z h q e =
    let head = line_of (codes "slice") (at ∷ []) in
    record {
      segments = h.segments;
      are_segments = h.are;
      is = e ∙ (λ i. h.is i ++ line_of (codes "end") (q i ∷ []))
          ∙ append_assoc head (flat_map segment_line h.segments) (line_of (codes "end") (pos count ∷ []))
          ∙ ap (λ l. head ++ (flat_map segment_line h.segments ++ l)) (last_line count ∙ ap ending (sym h.count_is));
    }
  where
    last_line : (n : ℕ) → line_of (codes "end") (pos n ∷ []) ≡ ending n
    last_line n = ap (λ l. codes "end " ++ l ++ codes "\n") (append-nil (decimal n))

-- ---- an endless face gives nothing
abbrev line_point : Plane → ℤ → Spot
line_point n at =
    let e = pos 2 *ℤ at +ℤ pos 1 in let k = pos 2 *ℤ n.d -ℤ n.c *ℤ e in
    record { x = n.a *ℤ k; y = n.b *ℤ k; z = e *ℤ square n; w = pos 2 *ℤ square n }

point_on_line : (n : Plane) (at : ℤ) → (IsFlat n → ⊥) → is_on_line n at (line_point n at) ≡ true
point_on_line n at t =
    on_line_in n at (line_point n at) (record {
      weight = omega (arith, linear, square_above n t);
      support = solve 5 (λ a b c d at. let e = num (pos 2) ⊗ at ⊕ num (pos 1) in let k = num (pos 2) ⊗ d ⊖ c ⊗ e in
          let s = a ⊗ a ⊕ b ⊗ b in a ⊗ (a ⊗ k) ⊕ b ⊗ (b ⊗ k) ⊕ c ⊗ (e ⊗ s) ⊖ d ⊗ (num (pos 2) ⊗ s) ≈ num (pos 0)) cancels
          n.a n.b n.c n.d at;
      level = solve 5 (λ a b c d at. let e = num (pos 2) ⊗ at ⊕ num (pos 1) in let k = num (pos 2) ⊗ d ⊖ c ⊗ e in
          let s = a ⊗ a ⊕ b ⊗ b in num (pos 0) ⊗ (a ⊗ k) ⊕ num (pos 0) ⊗ (b ⊗ k) ⊕ num (pos 2) ⊗ (e ⊗ s) ⊖ e ⊗
          (num (pos 2) ⊗ s) ≈ num (pos 0)) cancels n.a n.b n.c n.d at;
    })

not_empty : (f : Face) (at : ℤ) → IsEndless f at → ((p : Spot) → is_cut f at p ≡ false) → ⊥
not_empty f at h k =
    let u = line_point f.support at in let on = point_on_line f.support at h.tilted in
    ⊎_elim (λ g. let t = g u on in clash t.1 (k t.0)) (λ g. let t = g u on in clash t.1 (k t.0)) h.unbounded

not_bounded : (f : Face) (at : ℤ) (u v : Spot) → IsEndless f at → IsSegment f at u v → ⊥
not_bounded f at u v h s =
    let n = f.support in
    ⊎_elim
    (λ g. let t = g v s.last in not_both n v t.0 t.2 (inner t.0 t.1).1)
    (λ g. let t = g u s.first in not_both n t.0 u t.2 (inner t.0 t.1).0)
    h.unbounded
  where
    inner : (p : Spot) → is_cut f at p ≡ true → (is_before f.support u p ≡ true) × (is_before f.support p v ≡ true)
    inner p c = and_parts (is_before f.support u p) (is_before f.support p v) (sym (s.between p (cut_line f at p c)) ∙ c)

gives_bounded : (f : Face) (at : ℤ) (ss : List Directed) → GivesSegments at f ss → IsEndless f at → ⊥
gives_bounded f at [] h e = ⊎_elim (λ t. e.tilted t) (λ k. not_empty f at e k) h
gives_bounded f at (s ∷ []) h e = not_bounded f at s.first s.last e h
gives_bounded f at (s ∷ t ∷ ss) h e = h

some_in : {f g : Face} → Some f ≡ Some g → f ≡ g
some_in e = cc

each_gives : (at : ℤ) {fs : List Face} {ss : List Directed} → Each (GivesSegments at) fs ss → (k : ℕ) (g : Face) →
    slice_get fs k ≡ Some g → (ts : List Directed) × GivesSegments at g ts
each_gives at none k g e = absurd (cc)
each_gives at (more {ys = ys} r d) zero g e = (ys, subst (λ f. GivesSegments at f ys) (some_in e) r)
each_gives at (more r d) (suc k) g e = each_gives at d k g e

get_taken : (fs : List Face) (n k : ℕ) → k < n → slice_get (take n fs) k ≡ slice_get fs k
get_taken [] zero k l = refl
get_taken [] (suc n) k l = refl
get_taken (f ∷ fs) zero k l = absurd (omega arith)
get_taken (f ∷ fs) (suc n) zero l = refl
get_taken (f ∷ fs) (suc n) (suc k) l = get_taken fs n k (omega (arith, l))

-- if the faces before it give segments, an endless face is the first one
pub first_endless : {fs : List Face} {f : Face} {at : ℤ} {count : ℕ} {text : List ℕ} (i : ℕ) →
    HasSegments (take i fs) at count text → i < length fs → f ≡ get_or fs i f → IsEndless f at →
    IsFirstEndless fs at (i + 1)
first_endless {fs} {f} {at} i h l e x =
    record {
      face = f;
      index = i;
      number = refl;
      here = slice_get-get_or fs i f l ∙ ap (λ g. Some g) (sym e);
      endless = x;
      earliest = λ k g m t y. let r = each_gives at h.are k g (get_taken fs i k m ∙ t) in gives_bounded g at r.0 r.1 y;
    }
