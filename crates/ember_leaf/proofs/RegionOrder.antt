-- Written regions of one triangle after another.
use Rattle.std.proofs.Common.{◌≡◌, refl, sym, subst, arith, ℕ, ◌+◌, ◌<◌, ◌≤◌, List, [], ◌∷◌, ◌++◌, length, get_or}
use Rattle.std.proofs.lemmas.List.{get_or-map, length-map}
use Rattle.std.proofs.lemmas.List.Elements.{All-nil, All-push}
use Rattle.std.proofs.lemmas.List.Quantifiers.{all_pairs_push}
use Rattle.ember_model.specs.declared.tri.Tri.{Tri}
use Rattle.ember_model.specs.Planes.{support_of}
use Rattle.ember_model.specs.Faces.{face_of}
use Rattle.ember_width.specs.declared.width.Width.{Ghosts}
use Rattle.ember_box.specs.Near.{tri_at, no_tri}
use Rattle.ember_trace.specs.declared.near_triangle.NearTriangle.{NearTriangle}
use Rattle.ember_trace.specs.NearTriangles.{tri_of}
use Rattle.ember_leaf.specs.declared.kept.Kept.{Kept}
use Rattle.ember_leaf.specs.KeptRegions.{LiesInPlaneOf, IsKeptOf, IsPlaced, ArePlacedBelow, tris_of}

-- ---- the plane of a triangle

-- the support plane of a triangle's face is the triangle's
pub face_support : (t : Tri) → (face_of t).support ≡ support_of t
unfolding face_of
face_support t = refl

-- ---- lists of written regions
pub placed_none : {W M : Type 0} (ts : List Tri) (n : ℕ) (ks : List (Kept W M)) → ks ≡ [] → ArePlacedBelow ts n ks
placed_none ts n ks e =
    subst (λ l. ArePlacedBelow ts n l) (sym e)
    (record {
      placed = record { each = All-nil (IsPlaced ts); ordered = λ i j d l m. omega (arith, m) };
      below =
          All-nil (λ k. k.tri < n);
    })

at_number : {W M : Type 0} {G : Ghosts W M} (fs : List (NearTriangle W M G)) (n : ℕ) (k : Kept W M) → n < length fs → IsKeptOf (tri_at (tris_of fs) n) n k → IsPlaced (tris_of fs) k
at_number fs n k l h =
    let e = h.number in let q = length-map fs tri_of in
    record { index = omega (arith, e, q, l); plane = subst (λ (m : ℕ). LiesInPlaneOf (tri_at (tris_of fs) m) k.ring) (sym h.number) h.plane }

-- one more written region of the next triangle
pub placed_push : {W M : Type 0} {G : Ghosts W M} (fs : List (NearTriangle W M G)) (n : ℕ) (ks new : List (Kept W M)) (k : Kept W M) → n < length fs →
    ArePlacedBelow (tris_of fs) (n + 1) ks → IsKeptOf (tri_at (tris_of fs) n) n k → new ≡ ks ++ k ∷ [] →
    ArePlacedBelow (tris_of fs) (n + 1) new
placed_push fs n ks new k l h r e =
    let q = r.number in
    subst (λ l. ArePlacedBelow (tris_of fs) (n + 1) l) (sym e) (record {
      placed = record {
        each = All-push (IsPlaced (tris_of fs)) ks k h.placed.each (at_number fs n k l r);
        ordered = all_pairs_push (λ a b. a.tri ≤ b.tri) ks k h.placed.ordered (λ i d m. let b = h.below i d m in omega (arith, b, q));
      };
      below = All-push (λ a. a.tri < n + 1) ks k h.below (omega (arith, q));
    })

-- the triangle of the i-th near triangle is the i-th triangle
pub own_is : {W M : Type 0} {G : Ghosts W M} (fs : List (NearTriangle W M G)) (i : ℕ) (d : NearTriangle W M G) → i < length fs → (get_or fs i d).tri ≡ tri_at (tris_of fs) i
own_is fs i d l = sym (get_or-map tri_of fs i d no_tri l)

-- an index of near triangles is one of triangles
pub listed_too : {W M : Type 0} {G : Ghosts W M} (fs : List (NearTriangle W M G)) (i : ℕ) → i < length fs → i < length (tris_of fs)
listed_too fs i l = let q = length-map fs tri_of in omega (arith, l, q)

-- the index behind the last is the number of triangles
pub all_listed : {W M : Type 0} {G : Ghosts W M} (fs : List (NearTriangle W M G)) (i : ℕ) → length fs ≤ i → i ≤ length fs → i ≡ length (tris_of fs)
all_listed fs i l m = let q = length-map fs tri_of in omega (arith, l, m, q)
