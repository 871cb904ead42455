-- A triangle owns a face if none index_in_take_is_less it contains the face
use Rattle.std.proofs.Common.{◌≡◌, ◌⊎◌, inl, inr, ℕ, ◌+◌, ◌<◌, ◌≤◌, refl, sym, ap, subst, ◌∙◌, arith, Bool, true, false}
use Rattle.std.proofs.Common.{cond, None, Some, pos, List, length, length-take, take, get_or, slice_get}
use Rattle.std.specs.Option.{IfSome}
use Rattle.std.proofs.lemmas.Bool.{cases_lt, and_parts}
use Rattle.std.proofs.lemmas.Option.{slice_get-get_or}
use Rattle.std.proofs.lemmas.List.{get_or-take}
use Rattle.ember_algebra.specs.Sign.{is_zero, is_positive}
use Rattle.ember_model.specs.declared.plane.Plane.{Plane}
use Rattle.ember_model.specs.declared.point.Spot.{Spot}
use Rattle.ember_model.specs.declared.tri.Tri.{Tri}
use Rattle.ember_model.specs.Planes.{value_at, support_of}
use Rattle.ember_model.specs.Faces.{is_inside, is_flat, face_of}
use Rattle.ember_model.proofs.SignTests.{zero_out}
use Rattle.ember_model.specs.declared.face.Face.{Face}
use Rattle.ember_coplanar.specs.TrianglePlane.{LiesOn}
use Rattle.ember_coplanar.proofs.Containing.{none_some, some_inj}

-- ---- faces of a triangle's own plane
-- a face whose support plane is that of a triangle lies on the triangle
pub lies_by_support : (t : Tri) (f : Face) → is_flat t ≡ false → f.support ≡ support_of t → LiesOn t f
lies_by_support t f n e = record { normal = n; plane = plane }
  where
    plane : (v : Spot) → is_inside f v ≡ true → value_at (support_of t) v ≡ pos 0
    plane v i =
        ap (λ (p : Plane). value_at p v) (sym e)
        ∙ zero_out (value_at f.support v) (and_parts (is_zero (value_at f.support v)) _
        (and_parts (is_positive v.w) _ i).1).0

-- a triangle's own face lies on it
pub own_face : (t : Tri) (f : Face) → Some f ≡ cond (is_flat t) None (Some (face_of t)) → LiesOn t f
unfolding face_of
own_face t f e = by (is_flat t) refl e
  where
    by : (b : Bool) → is_flat t ≡ b → Some f ≡ cond b None (Some (face_of t)) → LiesOn t f
    by true h q = absurd (none_some _ refl (sym q))
    by false h q = lies_by_support t f h (ap (λ (g : Face). g.support) (some_inj q))

-- ---- the triangle at a place
-- a face that lies on a listed triangle lies on the one at that index
pub own_lies : (ts : List Tri) (i : ℕ) (d : Tri) (f : Face) → i < length ts → IfSome (slice_get ts i) (λ t. LiesOn t f) → LiesOn (get_or ts i d) f
own_lies ts i d f l h =
    subst (λ o. IfSome o (λ t. LiesOn t f)) (slice_get-get_or ts i d l) h

-- a face that lies on the triangle at an index lies on the listed one
pub lies_at : (ts : List Tri) (i : ℕ) (d : Tri) (f : Face) → i < length ts → LiesOn (get_or ts i d) f → IfSome (slice_get ts i) (λ t. LiesOn t f)
lies_at ts i d f l h =
    subst (λ o. IfSome o (λ t. LiesOn t f)) (sym (slice_get-get_or ts i d l)) h

-- the i-th triangle of a list
pub own_is : (ts : List Tri) (i : ℕ) (d : Tri) → i < length ts → slice_get ts i ≡ Some (get_or ts i d)
own_is ts i d l = slice_get-get_or ts i d l

-- a place among the first i
pub index_in_take_is_less : (ts : List Tri) (i k : ℕ) → k < length (take i ts) → k < i
index_in_take_is_less ts i k l = omega (arith, l, length-take i ts)

-- the triangle at an index index_in_take_is_less i is the one at that index among the first i
pub before_is : (ts : List Tri) (i k : ℕ) (d : Tri) → k < length (take i ts) → slice_get ts k ≡ Some (get_or (take i ts) k d)
before_is ts i k d l =
    let b = index_in_take_is_less ts i k l in
    slice_get-get_or ts k d (omega (arith, l, length-take i ts)) ∙ ap (λ (t : Tri). Some t) (sym (get_or-take i ts k d b))

-- the places up to k hold what those below k hold and what is at k
pub next_place : (P : Tri → Type 0) (ts : List Tri) (i k : ℕ) (d : Tri) → k < length (take i ts) →
    ((j : ℕ) (t : Tri) → j < k → slice_get ts j ≡ Some t → P t) → P (get_or (take i ts) k d) → (j : ℕ) (t : Tri) →
    j < k + 1 → slice_get ts j ≡ Some t → P t
next_place P ts i k d l h p j t m e = by (cases_lt j k)
  where
    by : (j < k) ⊎ (k ≤ j) → P t
    by (inl q) = h j t q e
    by (inr q) =
        let same : k ≡ j = omega (arith, m, q) in
        subst P (some_inj (sym (before_is ts i k d l) ∙ ap (slice_get ts) same ∙ e)) p
