-- The meaning on one line: from each of its points the faces wind as the value says, if at each hit
-- they do.
use Rattle.std.proofs.Common.{◌≡◌, ℕ, refl, ap, ◌∙◌, sym, List, [], ◌∷◌, map, Bool, true, false, not, ◌&&◌, cond, nat_eq, ℤ, pos, ◌-ℤ◌}
use Rattle.std.specs.List.{filter}
use Rattle.ember_algebra.proofs.Sums.{total-map, total-filter, total_same}
use Rattle.ember_model.specs.declared.tri.Tri.{Tri}
use Rattle.ember_model.specs.declared.point.Spot.{Spot}
use Rattle.ember_model.specs.declared.point.Axis.{Axis}
use Rattle.ember_model.specs.declared.face.Face.{Face}
use Rattle.ember_model.specs.Faces.{is_flat, face_of, crossing}
use Rattle.ember_model.specs.Meshes.{wind, faces_of, of_mesh, vector, meshes}
use Rattle.ember_meaning.specs.Regions.Meaning.{one_if}
use Rattle.ember_meaning.proofs.Lines.{In, total_of, Fraction, is_below, on_line, key, is_hit, amount, beyond, onward}
use Rattle.ember_meaning.proofs.Lines.{is_same_place, is_tri_hit, tri_key, tri_hits, seen, Placed}
use Rattle.ember_meaning.proofs.Telescope.{telescope}
use Rattle.ember_meaning.proofs.Fractions.{fractions_order}
use Rattle.ember_meaning.proofs.OnLine.{crossing-on_line}

-- ---- winding as a total over hits
pub total_of-filter : {W : Type 0} (g : W → ℤ) (p q : W → Bool) (xs : List W) → total_of g q (filter p xs) ≡ total_of g (λ x. p x && q x) xs
total_of-filter g p q xs =
    total-filter (λ x. cond (q x) (g x) (pos 0)) p xs
    ∙ total_same (λ x. cond (p x) (cond (q x) (g x) (pos 0)) (pos 0)) (λ x. cond (p x && q x) (g x) (pos 0))
    (λ x. nested (p x) (q x) (g x)) xs
  where
    nested : (b c : Bool) (z : ℤ) → cond b (cond c z (pos 0)) (pos 0) ≡ cond (b && c) z (pos 0)
    nested true c z = refl
    nested false c z = refl

-- the faces that the line meets, and those of them beyond a point
wind-on_line : (k : Axis) (p : Spot) (y : Fraction) (fs : List Face) →
    wind k fs (on_line k p y) ≡ total_of (amount k) (λ f. is_below y (key k p f)) (filter (is_hit k p) fs)
wind-on_line k p y fs =
    total_same (λ f. crossing f k (on_line k p y))
    (λ f. cond (is_hit k p f && is_below y (key k p f)) (amount k f) (pos 0))
    (λ f. crossing-on_line f k p y ∙ swap (is_below y (key k p f)) (is_hit k p f) (amount k f)) fs
    ∙ sym (total_of-filter (amount k) (is_hit k p) (λ f. is_below y (key k p f)) fs)
  where
    swap : (b i : Bool) (z : ℤ) → cond b (cond i z (pos 0)) (pos 0) ≡ cond (i && b) z (pos 0)
    swap true true z = refl
    swap true false z = refl
    swap false true z = refl
    swap false false z = refl

-- ---- the vector from the triangles that are hit
wind_mesh : (k : Axis) (p : Spot) (y : Fraction) (m : ℕ) (ts : List Tri) →
    wind k (faces_of (of_mesh m ts)) (on_line k p y) ≡ total_of (λ t. amount k (face_of t))
    (λ t. is_tri_hit k p t && (is_below y (tri_key k p t) && nat_eq t.mesh m)) ts
wind_mesh k p y m ts =
    total-map (λ f. crossing f k (on_line k p y)) face_of (filter (λ t. not (is_flat t)) (of_mesh m ts))
    ∙ total-filter (λ t. crossing (face_of t) k (on_line k p y)) (λ t. not (is_flat t)) (of_mesh m ts)
    ∙ total-filter (λ t. cond (not (is_flat t)) (crossing (face_of t) k (on_line k p y)) (pos 0))
    (λ t. nat_eq t.mesh m) ts ∙ total_same (λ t. cond (nat_eq t.mesh m)
    (cond (not (is_flat t)) (crossing (face_of t) k (on_line k p y)) (pos 0)) (pos 0))
    (λ t. cond (is_tri_hit k p t && (is_below y (tri_key k p t) && nat_eq t.mesh m)) (amount k (face_of t)) (pos 0))
    (λ t. by (nat_eq t.mesh m) (not (is_flat t)) (is_hit k p (face_of t)) (is_below y (tri_key k p t))
    (amount k (face_of t)) (crossing-on_line (face_of t) k p y)) ts
  where
    by : {c : ℤ} (e n i b : Bool) (z : ℤ) → c ≡ cond b (cond i z (pos 0)) (pos 0) → cond e (cond n c (pos 0)) (pos 0) ≡ cond ((n && i) && (b && e)) z (pos 0)
    by true true true true z c = c
    by true true true false z c = c
    by true true false true z c = c
    by true true false false z c = c
    by true false i b z c = refl
    by false false i b z c = refl
    by false true false b z c = refl
    by false true true true z c = refl
    by false true true false z c = refl

map_same : {S T : Type 0} (f g : S → T) (xs : List S) → ((x : S) → f x ≡ g x) → map f xs ≡ map g xs
map_same f g [] h = refl
map_same f g (x ∷ xs) h = cc (h x, map_same f g xs h)

pub vector-on_line : (k : Axis) (p : Spot) (y : Fraction) (ts : List Tri) →
    vector k ts (on_line k p y) ≡ seen k (beyond is_below (tri_key k p) y (tri_hits k p ts))
vector-on_line k p y ts =
    map_same (λ m. wind k (faces_of (of_mesh m ts)) (on_line k p y))
    (λ m. total_of (λ t. amount k (face_of t)) (λ t. nat_eq t.mesh m)
    (beyond is_below (tri_key k p) y (tri_hits k p ts))) meshes
    (λ m. wind_mesh k p y m ts ∙ sym (total_of-filter (λ t. amount k (face_of t)) (is_tri_hit k p)
    (λ t. is_below y (tri_key k p t) && nat_eq t.mesh m) ts)
    ∙ sym (total_of-filter (λ t. amount k (face_of t)) (λ t. is_below y (tri_key k p t)) (λ t. nat_eq t.mesh m)
    (tri_hits k p ts)))

-- ---- the line's claim
-- ws are the written faces; at the key of each triangle that is hit they change by as much as the
-- value
pub record IsWrittenAlong (ts : List Tri) (holds : List ℤ → Bool) (ws : List Face) (k : Axis) (p : Spot) (ks : List Fraction) : Type 0 where
  pub tris : (t : Tri) → In t (tri_hits k p ts) → In (tri_key k p t) ks
  pub faces : (w : Face) → In w (filter (is_hit k p) ws) → Placed is_below ks (key k p w)
  pub jumps : (x : Fraction) → In x ks → total_of (amount k) (λ w. is_same_place is_below x (key k p w))
      (filter (is_hit k p) ws) ≡ one_if (holds (seen k (onward is_below (tri_key k p) x (tri_hits k p ts)))) -ℤ one_if
      (holds (seen k (beyond is_below (tri_key k p) x (tri_hits k p ts))))
  pub bounded : holds (seen k []) ≡ false

-- at each point of the line, the faces wind once if the truth holds there, and otherwise not at all
pub along_line : (ts : List Tri) (holds : List ℤ → Bool) (ws : List Face) (k : Axis) (p : Spot) (ks : List Fraction) →
    IsWrittenAlong ts holds ws k p ks → (y : Fraction) →
    wind k ws (on_line k p y) ≡ one_if (holds (vector k ts (on_line k p y)))
along_line ts holds ws k p ks c y =
    wind-on_line k p y ws ∙ telescope is_below fractions_order (tri_key k p) (key k p) (amount k)
    (λ hs. holds (seen k hs)) ks (tri_hits k p ts) (filter (is_hit k p) ws)
    (record { hits = c.tris; places = c.faces; jumps = c.jumps; past = c.bounded }) y
    ∙ sym (ap (λ (v : List ℤ). one_if (holds v)) (vector-on_line k p y ts))
