-- The meaning along one line, from what is owed at each hit.
use Rattle.std.proofs.Common.{◌≡◌, ℕ, zero, suc, ◌+◌, ◌<◌, ◌≤◌, refl, ap, ◌∙◌, sym, subst, List, [], ◌∷◌, map}
use Rattle.std.proofs.Common.{replicate, Bool, true, false, not, ◌&&◌, cond, ⊎_elim, ◌⊎◌, arith, ℤ, pos, ◌+ℤ◌, ◌-ℤ◌}
use Rattle.std.proofs.Common.{◌*ℤ◌, ◌<ℤ◌, ◌≤ℤ◌, inl, inr}
use borrow.Author.Differences.{ints}
use Rattle.std.specs.List.{filter, count_by, list_any, range_with_len}
use Rattle.std.proofs.lemmas.Bool.{cases_Bool, false≢true, and_parts, or_right, not-true}
use Rattle.ember_algebra.specs.Relations.{Each}
use Rattle.ember_algebra.specs.Sign.{is_positive, is_zero}
use Rattle.ember_algebra.proofs.Laws.{linear, one-*ℤ}
use Rattle.ember_model.specs.declared.tri.Tri.{Tri}
use Rattle.ember_model.specs.declared.point.Spot.{Spot}
use Rattle.ember_model.specs.declared.point.Axis.{Axis}
use Rattle.ember_model.specs.declared.point.Axis.TheVariants.{X, Y, Z}
use Rattle.ember_model.specs.declared.face.Face.{Face}
use Rattle.ember_model.specs.Planes.{along, main_axis}
use Rattle.ember_model.specs.Faces.{is_inside, is_flat, face_of, hit}
use Rattle.ember_model.specs.Meshes.{wind, vector, meshes}
use Rattle.ember_model.proofs.Hits.{inside_parts}
use Rattle.ember_model.proofs.Tuples.{same_spot}
use Rattle.ember_expr.specs.Formula.{Formula}
use Rattle.ember_expr.specs.Truth.{truth}
use Rattle.ember_box.specs.Boxes.{Cell}
use Rattle.ember_box.specs.Near.{near}
use Rattle.ember_leaf.specs.KeptRegions.{NarrowKept as Kept}
use Rattle.ember_leaf.specs.Written.{IsWrittenOfRegion, unowned, same_value, written}
use Rattle.ember_leaf.specs.Scenes.{HasOneValue}
use Rattle.ember_text.specs.Documents.{written_face}
use Rattle.ember_meaning.proofs.CountedPoints.{is_in_box}
use Rattle.ember_meaning.proofs.Listed.{Entry, IsEntries, is_hit_at, Without}
use Rattle.ember_meaning.specs.Regions.Meaning.{one_if}
use Rattle.ember_meaning.proofs.Lines.{In, total_of, Fraction, is_below, on_line, key, is_hit, amount, beyond, onward}
use Rattle.ember_meaning.proofs.Lines.{is_same_place, is_tri_hit, tri_key, tri_hits, seen}
use Rattle.ember_meaning.specs.Regions.Meaning.{IsFalseOutside}
use Rattle.ember_meaning.proofs.HitConditions.{before_hit, after_hit, hit_point, truth_before, truth_after, truth_ahead, truth_back, IsRegular, IsRegularLine}
use Rattle.ember_meaning.proofs.AlongLine.{along_line, total_of-filter}
use Rattle.ember_meaning.proofs.Entries.{entries_count, one_holds}
use Rattle.ember_meaning.proofs.Tree.{IsParted}
use Rattle.ember_meaning.proofs.Members.{in_map, Source, map_member_has_source, in_filter}
use Rattle.ember_meaning.proofs.OneOwner.{IsCovered, jump_at, still_at}
use Rattle.ember_meaning.proofs.RegionJump.{written_amount, written_jump, even_jump}
use Rattle.ember_meaning.proofs.FlippedFaces.{key-turned, is_hit-turned, amount-turned}
use Rattle.ember_meaning.proofs.HitPoints.{same_inside, inside_place}

-- the face of a written region on the narrow grid
abbrev kept_face : Kept → Face
kept_face k = written_face k

-- ---- tests over the places below one
any_below : (p : ℕ → Bool) (a n : ℕ) → ((j : ℕ) → j < a + n → p j ≡ false) → list_any p (range_with_len a n) ≡ false
any_below p a zero f = refl
any_below p a (suc n) f =
    rw (f a (omega arith)) (any_below p (a + 1) n (λ j l. f j (omega arith)))

any_at : (p : ℕ → Bool) (a n j : ℕ) → a + j < a + n → p (a + j) ≡ true → list_any p (range_with_len a n) ≡ true
any_at p a zero j l h = absurd (omega arith)
any_at p a (suc n) zero l h =
    let e : a + 0 ≡ a = omega arith in let q = ap p (sym e) ∙ h in rw q refl
any_at p a (suc n) (suc j) l h =
    let e : a + 1 + j ≡ a + suc j = omega arith in let q = ap p e ∙ h in
    or_right (p a) _ (any_at p (a + 1) n j (omega arith) q)

none_below : (p : ℕ → Bool) (n : ℕ) → list_any p (range_with_len 0 n) ≡ false → (j : ℕ) → j < n → p j ≡ false
none_below p n e j l =
    ⊎_elim (λ h. absurd (false≢true (sym e ∙ any_at p 0 n j (omega arith) (ap p (omega arith) ∙ h)))) (λ h. h) (cases_Bool (p j))

total_of-map : {S T : Type 0} (g : T → ℤ) (p : T → Bool) (h : S → T) (xs : List S) → total_of g p (map h xs) ≡ total_of (λ x. g (h x)) (λ x. p (h x)) xs
total_of-map g p h [] = refl
total_of-map g p h (x ∷ xs) = ap (λ (z : ℤ). cond (p (h x)) (g (h x)) (pos 0) +ℤ z) (total_of-map g p h xs)

weight_of : (f : Face) (v : Spot) → is_inside f v ≡ true → pos 0 ≤ℤ v.w
weight_of f v i =
    let h : pos 0 <ℤ v.w = (inside_parts f v i).0 in omega (arith, linear)

module _ (scene : List Tri) (x : Formula) (k : Axis) (p : Spot) (cs : List Cell) (es : List Entry) (t : Tri) where
  abbrev at : Spot
  at = hit_point scene x k p cs es t

  abbrev before_here : Bool
  before_here = truth_before scene x k p cs es t

  abbrev after_here : Bool
  after_here = truth_after scene x k p cs es t

  abbrev ahead : Face → List ℤ → List ℤ → Bool
  ahead f before after = truth_ahead scene x k p cs es t f before after

  abbrev back : Face → List ℤ → List ℤ → Bool
  back f before after = truth_back scene x k p cs es t f before after

  abbrev has : Entry → Bool
  has e = is_inside e.face at

  abbrev pub owned : Entry → Bool
  owned e = not (list_any (λ j. is_hit_at scene cs at j) (range_with_len 0 e.tri))

  abbrev pub jump : ℤ
  jump = one_if before_here -ℤ one_if after_here

  abbrev pub passes_here : Kept → Bool
  passes_here w = is_hit k p (written_face w) && is_same_place is_below (tri_key k p t) (key k p (written_face w))

  module _ (r : IsRegular scene x k p cs es t) (hit_t : is_hit k p (face_of t) ≡ true) where
    t_crosses : is_zero (along (face_of t).support k) ≡ false
    t_crosses = not-true (is_zero (along (face_of t).support k)) (and_parts (not (is_zero (along (face_of t).support k))) (is_inside (face_of t) at) hit_t).0

    -- the written face has the key of the region and is hit where the region is
    here_is : (e : Entry) (b : Bool) → In e es → passes_here (record { tri = e.tri; flipped = b; ring = e.face }) ≡ has e
    here_is e b i = unturned b ∙ by (cases_Bool (is_zero (along f.support k)))
      where
        f : Face
        f = e.face

        in_plane : (z i s h : Bool) → z ≡ true → (h ≡ true → z ≡ false) → ((not z && i) && s) ≡ h
        in_plane true i s true e g = absurd (false≢true (sym (g refl)))
        in_plane true i s false e g = refl
        in_plane false i s h e g = absurd (false≢true e)

        unturned : (b : Bool) → passes_here (record { tri = e.tri; flipped = b; ring = e.face })
            ≡ (is_hit k p f && is_same_place is_below (tri_key k p t) (key k p f))
        unturned true =
            cc (is_hit-turned k p f, ap (λ (y : Fraction). is_same_place is_below (tri_key k p t) y) (key-turned k p f))
        unturned false = refl

        final : (z i s h : Bool) → z ≡ false → (s ≡ true → h ≡ i) → (h ≡ true → s ≡ true) → ((not z && i) && s) ≡ h
        final true i s h e f g = absurd (false≢true (sym e))
        final false true true h e f g = sym (f refl)
        final false false true h e f g = sym (f refl)
        final false true false true e f g = g refl
        final false true false false e f g = refl
        final false false false true e f g = g refl
        final false false false false e f g = refl

        by : (is_zero (along f.support k) ≡ true) ⊎ (is_zero (along f.support k) ≡ false) →
            (is_hit k p f && is_same_place is_below (tri_key k p t) (key k p f)) ≡ has e
        by (inl z) =
            in_plane (is_zero (along f.support k)) (is_inside f (hit f.support k p))
            (is_same_place is_below (tri_key k p t) (key k p f)) (has e) z (λ h. r.crosses e i h)
        by (inr z) =
            final (is_zero (along f.support k)) (is_inside f (hit f.support k p))
            (is_same_place is_below (tri_key k p t) (key k p f)) (has e) z
            (λ h. same_inside k p (face_of t) f f t_crosses z h) (λ h. inside_place k p (face_of t) f t_crosses z h)

    amount_of : (f : Face) (n : ℕ) (b : Bool) → amount k (kept_face (record { tri = n; flipped = b; ring = f })) ≡ written_amount (along f.support k) b
    amount_of f n true = amount-turned k f
    amount_of f n false = refl

    -- an entry gives the jump if it is owned and holds the place, otherwise nothing
    entry_total : (e : Entry) (us : List Kept) → In e es →
        IsWrittenOfRegion scene x (near scene e.cell) e.tri e.face us →
        total_of (λ w. amount k (written_face w)) passes_here us ≡ cond (has e && owned e) jump (pos 0)
    entry_total e us i (unowned n) =
        by (has e) (list_any (λ j. is_hit_at scene cs at j) (range_with_len 0 e.tri))
        (λ h l. n (r.first_owner e i h (none_below (λ j. is_hit_at scene cs at j) e.tri l)))
      where
        by : (h l : Bool) → (h ≡ true → l ≡ false → ⊥) → pos 0 ≡ cond (h && not l) jump (pos 0)
        by true true g = refl
        by true false g = absurd (g refl refl)
        by false l g = refl
    entry_total e us i (same_value {before = a} {after = b} s q) =
        by (has e) (owned e) (λ h. nought (r.beside e a b i h s))
      where
        sides : (c : Bool) → truth (cond c b a) x ≡ truth (cond c a b) x
        sides true = sym q
        sides false = q

        nought : (before_here ≡ before_hit (along e.face.support k) (ahead e.face a b) (back e.face a b)) ×
            (after_here ≡ after_hit (along e.face.support k) (ahead e.face a b) (back e.face a b)) → jump ≡ pos 0
        nought h =
            cc (h.0, h.1) ∙ even_jump (along e.face.support k) (ahead e.face a b) (back e.face a b)
            (sides (is_positive (along e.face.support (main_axis e.face.support))))

        by : (h o : Bool) → (h ≡ true → jump ≡ pos 0) → pos 0 ≡ cond (h && o) jump (pos 0)
        by true true g = sym (g refl)
        by true false g = refl
        by false o g = refl
    entry_total e us i (written {before = a} {after = b} o s n) =
        by (passes_here (record { tri = e.tri; flipped = ahead e.face a b; ring = e.face })) (has e) (owned e)
        (amount k (kept_face (record { tri = e.tri; flipped = ahead e.face a b; ring = e.face })))
        (here_is e (ahead e.face a b) i) (λ h. ap not
        (any_below (λ j. is_hit_at scene cs at j) 0 e.tri (λ j l. r.owner_first e i h o j (omega arith))))
        (λ h. turns h (r.beside e a b i h s))
      where
        sides : (c : Bool) → truth (cond c b a) x ≡ truth (cond c a b) x → ⊥
        sides true e = n (sym e)
        sides false e = n e

        turns : has e ≡ true → (before_here ≡ before_hit (along e.face.support k) (ahead e.face a b) (back e.face a b))
            × (after_here ≡ after_hit (along e.face.support k) (ahead e.face a b) (back e.face a b)) →
            amount k (kept_face (record { tri = e.tri; flipped = ahead e.face a b; ring = e.face })) ≡ jump
        turns q h =
            amount_of e.face e.tri (ahead e.face a b)
            ∙ written_jump (along e.face.support k) (ahead e.face a b) (back e.face a b) (r.crosses e i q)
            (sides (is_positive (along e.face.support (main_axis e.face.support)))) ∙ cc (h.0, h.1)

        by : (c h o : Bool) (m : ℤ) → c ≡ h → (h ≡ true → o ≡ true) → (h ≡ true → m ≡ jump) → cond c m (pos 0) +ℤ pos 0 ≡ cond (h && o) jump (pos 0)
        by true true true m e f g = omega (arith, linear, g refl)
        by true true false m e f g = absurd (false≢true (f refl))
        by true false o m e f g = absurd (false≢true (sym e))
        by false true o m e f g = absurd (false≢true e)
        by false false o m e f g = refl

    weight : pos 0 ≤ℤ at.w
    weight =
        weight_of (face_of t) at (and_parts (not (is_zero (along (face_of t).support k))) (is_inside (face_of t) at) hit_t).1

    covered : count_by (λ c. is_in_box c at) cs ≤ 1 → IsEntries scene cs es → IsCovered (λ e. e.tri) has owned (λ j. is_hit_at scene cs at j) es
    covered one c =
        record {
          cover = λ j. entries_count scene cs at j es one r.fair c;
          owned_if =
              λ e i h f. ap not (any_below (λ j. is_hit_at scene cs at j) 0 e.tri (λ j l. f j (omega arith)));
          not_owned_if = λ e j i h l q. ap not (any_at (λ j. is_hit_at scene cs at j) 0 e.tri j (omega arith)
              (ap (λ (m : ℕ). is_hit_at scene cs at m) (omega arith) ∙ q));
        }

    jump_here : {whole : Cell} {all : List Cell} → IsParted whole all → (ws : List Kept) → Without (HasOneValue scene x) all cs → IsEntries scene cs es →
        Each (λ e us. IsWrittenOfRegion scene x (near scene e.cell) e.tri e.face us) es ws →
        total_of (amount k) (λ w. is_same_place is_below (tri_key k p t) (key k p w))
        (filter (is_hit k p) (map written_face ws)) ≡ jump
    jump_here parted ws n c d =
        total_of-filter (amount k) (is_hit k p) (λ w. is_same_place is_below (tri_key k p t) (key k p w))
        (map written_face ws) ∙ total_of-map (amount k)
        (λ w. is_hit k p w && is_same_place is_below (tri_key k p t) (key k p w)) written_face ws
        ∙ ⊎_elim (λ s. jump_at (λ e. e.tri) has owned (λ j. is_hit_at scene cs at j) (λ w. amount k (written_face w))
        passes_here jump es ws (covered (one_holds parted cs at weight n) c) entry_total d s.tri s.is_hit)
        (λ s. still_at (λ e. e.tri) has owned (λ j. is_hit_at scene cs at j) (λ w. amount k (written_face w))
        passes_here jump es ws (covered (one_holds parted cs at weight n) c) entry_total d s.0
        ∙ sym (ap (λ b. one_if b -ℤ one_if after_here) s.1 ∙ nought (one_if after_here))) r.some_hit
      where
        nought : (z : ℤ) → z -ℤ z ≡ pos 0
        nought z = omega (arith, linear)

-- if no triangle lies ahead, all winding numbers are 0
none_ahead : map (λ m. pos 0) meshes ≡ replicate 64 (pos 0)
unfolding meshes
none_ahead = refl

-- the meaning on a regular line
pub meaning_along : {whole : Cell} {all : List Cell} → IsParted whole all →
    (scene : List Tri) (x : Formula) (k : Axis) (p : Spot) (cs : List Cell) (es : List Entry)
    (ws : List Kept) → Without (HasOneValue scene x) all cs → IsEntries scene cs es →
    Each (λ e us. IsWrittenOfRegion scene x (near scene e.cell) e.tri e.face us) es ws → IsFalseOutside x →
    IsRegularLine scene x k p cs es ws → (y : Fraction) →
    wind k (map written_face ws) (on_line k p y) ≡ one_if (truth (vector k scene (on_line k p y)) x)
meaning_along parted scene x k p cs es ws n c d o r y =
    along_line scene (λ v. truth v x) (map written_face ws) k p (map (tri_key k p) (tri_hits k p scene))
    (record {
      tris = λ t i. in_map (tri_key k p) (tri_hits k p scene) t i;
      faces = r.placed;
      jumps =
          λ z i. jumps z (map_member_has_source (tri_key k p) (tri_hits k p scene) z i);
      bounded =
          ap (λ (v : List ℤ). truth v x) none_ahead ∙ o;
    }) y
  where
    jumps : (z : Fraction) → Source (tri_key k p) (tri_hits k p scene) z →
        total_of (amount k) (λ w. is_same_place is_below z (key k p w)) (filter (is_hit k p) (map written_face ws))
        ≡ one_if (truth (seen k (onward is_below (tri_key k p) z (tri_hits k p scene))) x) -ℤ one_if
        (truth (seen k (beyond is_below (tri_key k p) z (tri_hits k p scene))) x)
    jumps z s =
        let j = jump_here scene x k p cs es s.at (r.regular s.at s.member)
        (and_parts (not (is_flat s.at)) (is_hit k p (face_of s.at))
        (in_filter (is_tri_hit k p) scene s.at s.member)).1 parted ws n c d in
        subst (λ u. total_of (amount k) (λ w. is_same_place is_below u (key k p w))
        (filter (is_hit k p) (map written_face ws)) ≡ one_if
        (truth (seen k (onward is_below (tri_key k p) u (tri_hits k p scene))) x) -ℤ one_if
        (truth (seen k (beyond is_below (tri_key k p) u (tri_hits k p scene))) x)) (sym s.is) j

zero_more : (z : ℤ) → pos 1 *ℤ z +ℤ pos 0 ≡ z
zero_more z = omega (arith, ints)

-- the first point of a line
pub first : (k : Axis) (p : Spot) → on_line k p (record { num = pos 0; den = 0 }) ≡ p
first X p = same_spot (zero_more p.x) (one-*ℤ p.y) (one-*ℤ p.z) (one-*ℤ p.w)
first Y p = same_spot (one-*ℤ p.x) (zero_more p.y) (one-*ℤ p.z) (one-*ℤ p.w)
first Z p = same_spot (one-*ℤ p.x) (one-*ℤ p.y) (zero_more p.z) (one-*ℤ p.w)
