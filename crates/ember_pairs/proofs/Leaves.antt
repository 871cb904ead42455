-- Two triangles that meet share a leaf: in each box that holds the point at which they meet both are near.
use Rattle.std.proofs.Common.{◌≡◌, ◌⊎◌, ⊎_elim, inl, inr, ℕ, zero, suc, pred, ◌^◌, ◌<◌, ◌≤◌, refl, sym, ap, ◌∙◌, subst}
use Rattle.std.proofs.Common.{arith, Bool, true, false, if◌then◌else◌, List, [], ◌∷◌, length, ℤ, pos, negsuc, ◌+ℤ◌}
use Rattle.std.proofs.Common.{◌*ℤ◌, neg_ℤ, ◌≤ℤ◌, ◌<ℤ◌}
use borrow.Author.Differences.{ints}
use Rattle.std.proofs.lemmas.Int.{by_lt_z}
use Rattle.std.proofs.lemmas.Bool.{le-ltb}
use Rattle.ember_algebra.specs.Size.{Small}
use Rattle.ember_algebra.proofs.Laws.{linear}
use Rattle.ember_model.specs.declared.tri.Tri.{Tri}
use Rattle.ember_model.specs.declared.point.Spot.{Spot}
use Rattle.ember_model.specs.declared.point.Axis.{Axis}
use Rattle.ember_model.specs.declared.point.Axis.TheVariants.{X, Y, Z}
use Rattle.ember_model.specs.Valid.{IsValidTri}
use Rattle.ember_model.specs.Faces.{is_flat, face_of, is_in_closed}
use Rattle.ember_model.proofs.SignTests.{In}
use Rattle.ember_model.proofs.Hits.{closed_parts}
use Rattle.ember_box.specs.Boxes.{Cell, low, root, halvings_left, left_half, right_half}
use Rattle.ember_box.specs.Aabbs.{aabb_of_cell}
use Rattle.ember_box.specs.Near.{is_near, tri_at, near_indices, all_indices}
use Rattle.ember_box.specs.Halving.{halving_axis, is_leaf}
use Rattle.ember_box.proofs.NearByAabbs.{halves_end}
use Rattle.ember_box.proofs.HalfCells.{left_less}
use Rattle.ember_box.proofs.Halvable.{halvable_unless_leaf}
use Rattle.ember_ref.specs.ClosedBoxes.{IsAcross, HasPoint}
use Rattle.ember_ref.proofs.NearPoints.{near_point, past_corners}
use Rattle.ember_ref.proofs.RootOutside.{at_least}
use Rattle.ember_job.specs.declared.job.Job.{Job}
use Rattle.ember_job.specs.Works.{Shape, halved, leafed, passed}
use Rattle.ember_job.proofs.Leaves.{under, under_leaf, under_halved}
use Rattle.ember_job.proofs.Members.{in_append_left, in_append_right}
use Rattle.ember_pairs.specs.Works.{job_at, pairs_shape}
use Rattle.ember_pairs.specs.Whole.{leaf_jobs}
use Rattle.ember_pairs.proofs.Members.{in_filter}
use Rattle.ember_pairs.proofs.Ascending.{in_range}

-- ---- points of halves
left_across : (l : ℤ) (n : ℕ) (x w : ℤ) → IsAcross (record { low = l; high = l +ℤ pos (2 ^ n) }) x w →
    x ≤ℤ ((l +ℤ pos (2 ^ pred n)) *ℤ w) → IsAcross (record { low = l; high = l +ℤ pos (2 ^ pred n) }) x w
left_across l n x w a h = record { from = a.from; to = h }

right_across : (l : ℤ) (n : ℕ) (x w : ℤ) → 0 < n → IsAcross (record { low = l; high = l +ℤ pos (2 ^ n) }) x w →
    ((l +ℤ pos (2 ^ pred n)) *ℤ w) ≤ℤ x → IsAcross
    (record { low = l +ℤ pos (2 ^ pred n); high = l +ℤ pos (2 ^ pred n) +ℤ pos (2 ^ pred n) }) x w
right_across l n x w p a h =
    record { from = h; to = subst (λ (e : ℤ). x ≤ℤ (e *ℤ w)) (sym (halves_end l n p)) a.to }

-- a point of a box lies in one of its halves
half_has : (c : Cell) (k : Axis) (v : Spot) → 0 < c.log k → HasPoint c v → HasPoint (left_half c k) v ⊎ HasPoint (right_half c k) v
half_has c X v p h =
    by_lt_z ((low c X +ℤ pos (2 ^ pred (c.log X))) *ℤ v.w) v.x
    (λ l. inr (record { weight = h.weight; on_x = right_across (low c X) (c.log X) v.x v.w p h.on_x (omega (arith, linear, l)); on_y = h.on_y; on_z = h.on_z }))
    (λ l. inl (record { weight = h.weight; on_x = left_across (low c X) (c.log X) v.x v.w h.on_x l; on_y = h.on_y; on_z = h.on_z }))
half_has c Y v p h =
    by_lt_z ((low c Y +ℤ pos (2 ^ pred (c.log Y))) *ℤ v.w) v.y
    (λ l. inr (record { weight = h.weight; on_x = h.on_x; on_y = right_across (low c Y) (c.log Y) v.y v.w p h.on_y (omega (arith, linear, l)); on_z = h.on_z }))
    (λ l. inl (record { weight = h.weight; on_x = h.on_x; on_y = left_across (low c Y) (c.log Y) v.y v.w h.on_y l; on_z = h.on_z }))
half_has c Z v p h =
    by_lt_z ((low c Z +ℤ pos (2 ^ pred (c.log Z))) *ℤ v.w) v.z
    (λ l. inr (record { weight = h.weight; on_x = h.on_x; on_y = h.on_y; on_z = right_across (low c Z) (c.log Z) v.z v.w p h.on_z (omega (arith, linear, l)) }))
    (λ l. inl (record { weight = h.weight; on_x = h.on_x; on_y = h.on_y; on_z = left_across (low c Z) (c.log Z) v.z v.w h.on_z l }))

greatest_corner : (z : ℤ) → Small 2047 z → neg_ℤ (pos 2047) ≤ℤ (neg_ℤ (pos 1) *ℤ z)
greatest_corner (pos n) s = omega (arith, ints, s.small)
greatest_corner (negsuc n) s = omega (arith, ints)

-- ---- the leaves under a box
abbrev shapes : List Tri → Job → Shape
shapes ts job = pairs_shape ts job

-- what becomes of a box with two near triangles
shape_of : (ts : List Tri) (c : Cell) → 2 ≤ length (near_indices ts c (all_indices ts)) →
    pairs_shape ts (job_at ts c) ≡ (if is_leaf ts c then leafed else halved (job_at ts (left_half c (halving_axis ts c)))
    (job_at ts (right_half c (halving_axis ts c))))
unfolding pairs_shape
shape_of ts c many =
    ap (λ b. if b then passed else (if is_leaf ts c then leafed else halved
    (job_at ts (left_half c (halving_axis ts c))) (job_at ts (right_half c (halving_axis ts c)))))
    (le-ltb (length (near_indices ts c (all_indices ts))) 2 many)

-- a leaf that has the point
pub record LeafAt (ts : List Tri) (jobs : List Job) (v : Spot) : Type 0 where
  pub cell : Cell
  pub member : In (job_at ts cell) jobs
  pub has : HasPoint cell v

leaf_here : (ts : List Tri) (n : ℕ) (c : Cell) (v : Spot) → HasPoint c v → pairs_shape ts (job_at ts c) ≡ leafed →
    LeafAt ts (under (shapes ts) n (job_at ts c)) v
leaf_here ts n c v h e = record {
  cell = c;
  member = subst (λ (jobs : List Job). In (job_at ts c) jobs) (sym (under_leaf (shapes ts) n (job_at ts c) e)) (inl refl);
  has = h;
}

leaf_under : (ts : List Tri) (v : Spot) → ((c : Cell) → HasPoint c v →
    2 ≤ length (near_indices ts c (all_indices ts))) → (n : ℕ) (c : Cell) → halvings_left c ≤ n → HasPoint c v →
    LeafAt ts (under (shapes ts) n (job_at ts c)) v
leaf_under ts v many zero c few h = by (is_leaf ts c) refl
  where
    by : (b : Bool) → is_leaf ts c ≡ b → LeafAt ts (under (shapes ts) zero (job_at ts c)) v
    by true e =
        leaf_here ts zero c v h (shape_of ts c (many c h)
        ∙ ap (λ b. if b then leafed else halved (job_at ts (left_half c (halving_axis ts c)))
        (job_at ts (right_half c (halving_axis ts c)))) e)
    by false e =
        absurd (omega (arith, few, left_less c (halving_axis ts c) (halvable_unless_leaf 0 ts c e)))
leaf_under ts v many (suc n) c few h =
    by (is_leaf ts c) refl (λ d. leaf_under ts v many n d)
  where
    by : (b : Bool) → is_leaf ts c ≡ b → ((d : Cell) → halvings_left d ≤ n → HasPoint d v →
        LeafAt ts (under (shapes ts) n (job_at ts d)) v) → LeafAt ts (under (shapes ts) (suc n) (job_at ts c)) v
    by true e f =
        leaf_here ts (suc n) c v h (shape_of ts c (many c h)
        ∙ ap (λ b. if b then leafed else halved (job_at ts (left_half c (halving_axis ts c)))
        (job_at ts (right_half c (halving_axis ts c)))) e)
    by false e f =
        let p = halvable_unless_leaf 0 ts c e in
        let low = job_at ts (left_half c (halving_axis ts c)) in let high = job_at ts (right_half c (halving_axis ts c)) in
        let s : pairs_shape ts (job_at ts c) ≡ halved low high = shape_of ts c (many c h) ∙ ap (λ b. if b then leafed else halved low high) e in
        let le = left_less c (halving_axis ts c) p in
        let first = under (shapes ts) n low in let second = under (shapes ts) n high in
        subst (λ (jobs : List Job). LeafAt ts jobs v) (sym (under_halved (shapes ts) n (job_at ts c) low high s))
        (⊎_elim (λ a. let r = f (left_half c (halving_axis ts c)) (omega (arith, few, le)) a in
        record { cell = r.cell; member = in_append_left (job_at ts r.cell) first second r.member; has = r.has })
        (λ a. let r = f (right_half c (halving_axis ts c)) (omega (arith, few, le)) a in
        record { cell = r.cell; member = in_append_right (job_at ts r.cell) first second r.member; has = r.has })
        (half_has c (halving_axis ts c) v p h))

-- the root has all points of valid triangles
root_has : (t : Tri) (v : Spot) → IsValidTri t → is_flat t ≡ false → is_in_closed (face_of t) v ≡ true → HasPoint root v
root_has t v valid nf h =
    let w = (closed_parts (face_of t) v h).0 in
    let x = past_corners X (pos 1) (neg_ℤ (pos 2047)) t v nf (at_least t.a.x valid.a.x) (at_least t.b.x valid.b.x) (at_least t.c.x valid.c.x) h in
    let x' = past_corners X (neg_ℤ (pos 1)) (neg_ℤ (pos 2047)) t v nf (greatest_corner t.a.x valid.a.x)
    (greatest_corner t.b.x valid.b.x) (greatest_corner t.c.x valid.c.x) h in
    let y = past_corners Y (pos 1) (neg_ℤ (pos 2047)) t v nf (at_least t.a.y valid.a.y) (at_least t.b.y valid.b.y) (at_least t.c.y valid.c.y) h in
    let y' = past_corners Y (neg_ℤ (pos 1)) (neg_ℤ (pos 2047)) t v nf (greatest_corner t.a.y valid.a.y)
    (greatest_corner t.b.y valid.b.y) (greatest_corner t.c.y valid.c.y) h in
    let z = past_corners Z (pos 1) (neg_ℤ (pos 2047)) t v nf (at_least t.a.z valid.a.z) (at_least t.b.z valid.b.z) (at_least t.c.z valid.c.z) h in
    let z' = past_corners Z (neg_ℤ (pos 1)) (neg_ℤ (pos 2047)) t v nf (greatest_corner t.a.z valid.a.z)
    (greatest_corner t.b.z valid.b.z) (greatest_corner t.c.z valid.c.z) h in
    record {
      weight = w;
      on_x = across v.x v.w w x x';
      on_y = across v.y v.w w y y';
      on_z = across v.z v.w w z z';
    }
  where
    across : (x w : ℤ) → pos 0 <ℤ w → (neg_ℤ (pos 2047) *ℤ w) ≤ℤ (pos 1 *ℤ x) →
        (neg_ℤ (pos 2047) *ℤ w) ≤ℤ (neg_ℤ (pos 1) *ℤ x) → IsAcross (aabb_of_cell root).x x w
    across x w p a b = record { from = omega (arith, linear); to = omega (arith, linear) }

-- ---- two triangles
two_members : (is : List ℕ) (i j : ℕ) → In i is → In j is → i < j → 2 ≤ length is
two_members [] i j m n l = absurd m
two_members (k ∷ []) i j (inl e) (inl d) l = absurd (omega (arith, e, d, l))
two_members (k ∷ []) i j (inl e) (inr n) l = absurd n
two_members (k ∷ []) i j (inr m) n l = absurd m
two_members (k ∷ h ∷ is) i j m n l = omega arith

-- triangles i and j, not flat, with a point in both closed faces
pub record Share (ts : List Tri) (i j : ℕ) (v : Spot) : Type 0 where
  pub one : is_flat (tri_at ts i) ≡ false
  pub other : is_flat (tri_at ts j) ≡ false
  pub in_one : is_in_closed (face_of (tri_at ts i)) v ≡ true
  pub in_other : is_in_closed (face_of (tri_at ts j)) v ≡ true

-- a triangle with a point of its closed face in the box is near the box
pub listed_at : (ts : List Tri) (c : Cell) (i : ℕ) (v : Spot) → i < length ts → is_flat (tri_at ts i) ≡ false →
    is_in_closed (face_of (tri_at ts i)) v ≡ true → HasPoint c v → In i (near_indices ts c (all_indices ts))
listed_at ts c i v l nf h p =
    in_filter (λ k. is_near c (tri_at ts k)) i (all_indices ts)
    (in_range 0 (length ts) i (omega arith) (omega (arith, l))) (near_point c (tri_at ts i) v nf p h)

-- a point in the closed faces of two triangles is in some leaf
pub shared_leaf : (ts : List Tri) (i j : ℕ) (v : Spot) → i < j → j < length ts → IsValidTri (tri_at ts i) → Share ts i j v → LeafAt ts (leaf_jobs ts) v
shared_leaf ts i j v l m valid s =
    leaf_under ts v many (halvings_left root) root (omega arith) (root_has (tri_at ts i) v valid s.one s.in_one)
  where
    many : (c : Cell) → HasPoint c v → 2 ≤ length (near_indices ts c (all_indices ts))
    many c p =
        two_members (near_indices ts c (all_indices ts)) i j (listed_at ts c i v (omega (arith, l, m)) s.one s.in_one p)
        (listed_at ts c j v m s.other s.in_other p) l
