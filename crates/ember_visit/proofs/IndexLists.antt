-- Lists of places, and the triangles that they list.
use Rattle.std.proofs.Common.{◌≡◌, ℕ, zero, suc, ◌+◌, ◌<◌, ◌≤◌, Bool, not, nat_eq, List, [], ◌∷◌, filter, length, get_or, All, sym, ap, ◌∙◌, subst, arith}
use Rattle.std.specs.List.{range_with_len}
use Rattle.std.proofs.lemmas.List.{length-map}
use Rattle.std.proofs.lemmas.List.Elements.{All-get_or, All-weaker, All-cons, All-map}
use Rattle.std.proofs.lemmas.List.Sums.{length-filter, count_by-le-length}
use Rattle.std.proofs.lemmas.List.FromFn.{length-range_with_len}
use Rattle.ember_algebra.specs.Size.{Small}
use Rattle.ember_algebra.proofs.Size.{small_within, small_add}
use Rattle.ember_model.specs.declared.tri.Tri.{Tri}
use Rattle.ember_model.specs.declared.point.Axis.{Axis}
use Rattle.ember_model.specs.declared.point.Axis.TheVariants.{X}
use Rattle.ember_model.specs.declared.point.Spot.{Spot}
use Rattle.ember_model.specs.declared.face.Face.{Face}
use Rattle.ember_model.specs.Faces.{is_flat, face_of}
use Rattle.ember_model.specs.Limits.{narrow_limit}
use Rattle.ember_model.specs.Meshes.{HasMesh, IsScene, wind, faces_of, of_mesh, meshes}
use Rattle.ember_law.proofs.CountBounds.{crossing_small}
use Rattle.ember_width.specs.Scenes.{IsSceneWithin}
use Rattle.ember_box.specs.Boxes.{Cell, in_steps}
use Rattle.ember_box.specs.Reference.{reference_beside, vector_beside}
use Rattle.ember_box.specs.Near.{is_near, near, no_tri, tri_at, listed, all_indices}
use Rattle.ember_box.proofs.Lists.{near_in_range, listed_near_all, all_indices_below}
use Rattle.ember_job.specs.declared.job.Job.{Job}
use Rattle.ember_visit.specs.Jobs.{near_of, IsJobOn}

-- what holds of all triangles holds of those that are listed
pub all_listed : (P : Tri → Type 0) (ts : List Tri) (is : List ℕ) → All P ts → All (λ i. i < length ts) is → All P (listed ts is)
all_listed P ts is a within = All-map P (λ i. tri_at ts i) is
    (All-weaker (λ i. i < length ts) (λ i. P (tri_at ts i)) (λ i l. All-get_or P ts i no_tri l a) is within)

-- meshes numbered up to n are numbered up to 64
pub numbered_less : (n : ℕ) (ts : List Tri) → n ≤ 64 → All (HasMesh n) ts → All (HasMesh 64) ts
numbered_less n ts le a = All-weaker (HasMesh n) (HasMesh 64) (λ t h. record { first = h.first; last = omega (arith, h.last, le) }) ts a

-- and is one within the narrow limit
pub scene_within : (ts : List Tri) (n : ℕ) → IsScene ts n → IsSceneWithin narrow_limit ts 64
scene_within ts n s =
    record { within = s.valid; few = s.few; few_meshes = omega arith; numbered = numbered_less n ts s.few_meshes s.numbered; balanced = s.balanced }

-- the numbers of a range
range_below : (from n most : ℕ) → from + n ≤ most → All (λ i. i < most) (range_with_len from n)
range_below from zero most le = λ k d l. absurd (omega arith)
range_below from (suc n) most le = All-cons (λ i. i < most) from (range_with_len (from + 1) n) (omega arith) (range_below (from + 1) n most (omega arith))

-- ---- winding numbers are small
wind_small : (a : Axis) (p : Spot) (fs : List Face) → Small (length fs) (wind a fs p)
wind_small a p [] = record { small = omega arith }
wind_small a p (f ∷ fs) = small_within (omega arith) (small_add (crossing_small f a p) (wind_small a p fs))

few_faces : (m : ℕ) (ts : List Tri) → length (faces_of (of_mesh m ts)) ≤ length ts
few_faces m ts =
    let flat : Tri → Bool = λ t. not (is_flat t) in let same : Tri → Bool = λ t. nat_eq t.mesh m in
    omega (
      arith,
      length-map (filter flat (of_mesh m ts)) face_of,
      length-filter flat (of_mesh m ts),
      count_by-le-length flat (of_mesh m ts),
      length-filter same ts,
      count_by-le-length same ts,
    )

vector_small : (f : ℕ) (ts : List Tri) (c : Cell) → length ts ≤ 262144 → All (Small 262144) (vector_beside f ts c)
vector_small f ts c few =
    All-map (Small 262144) (λ m. wind X (faces_of (of_mesh m ts)) (reference_beside f c.lo)) meshes (λ k d l.
    let m = get_or meshes k d in
    small_within (omega (arith, few, few_faces m ts)) (wind_small X (reference_beside f c.lo) (faces_of (of_mesh m ts))))

-- ---- what a job keeps
-- a job lists indices of triangles of the scene
pub job_places : {s f : ℕ} (ts : List Tri) (j : Job) → IsJobOn s f ts j → All (λ i. i < length ts) j.list
job_places {s} ts j h =
    subst (All (λ i. i < length ts)) (sym h.list) (near_in_range ts (in_steps s j.cell) (all_indices ts) (all_indices_below ts))

-- a job lists no more triangles than a scene may have
pub few_listed : {s f : ℕ} (ts : List Tri) (j : Job) → IsJobOn s f ts j → length ts ≤ 262144 → length j.list ≤ 262144
few_listed {s} ts j h few =
    let p : ℕ → Bool = λ i. is_near (in_steps s j.cell) (tri_at ts i) in
    omega (arith, few, ap length h.list, length-filter p (all_indices ts), count_by-le-length p (all_indices ts), length-range_with_len 0 (length ts))

-- a job's winding numbers are within the number of triangles
pub counts_within : {s f : ℕ} (ts : List Tri) (j : Job) → IsJobOn s f ts j → (m : ℕ) → 262144 ≤ m → length ts ≤ 262144 → All (Small m) j.at.counts
counts_within {s} {f} ts j h m le few =
    subst (All (Small m)) (sym h.at) (λ k d l. small_within le (vector_small f ts (in_steps s j.cell) few k d l))

-- the triangles near a job's box are those that it lists
pub near_listed : {s f : ℕ} (ts : List Tri) (j : Job) → IsJobOn s f ts j → near ts (in_steps s j.cell) ≡ near_of ts j
near_listed {s} ts j h = sym (ap (listed ts) h.list ∙ listed_near_all ts (in_steps s j.cell))
