-- The laws for all meshes of a scene at once.
use Rattle.std.proofs.Common.{◌≡◌, ℕ, Bool, true, false, not, cond, nat_eq, List, [], ◌∷◌, map, filter, ℤ, ◌+ℤ◌, ◌-ℤ◌, refl, arith}
use Rattle.std.specs.List.{AllByRecursion}
use Rattle.ember_algebra.proofs.Laws.{linear}
use Rattle.ember_model.specs.declared.tri.Tri.{Tri}
use Rattle.ember_model.specs.declared.face.Face.{Face}
use Rattle.ember_model.specs.Faces.{is_flat, face_of}
use Rattle.ember_model.specs.Clear.{IsClear}
use Rattle.ember_model.specs.Meshes.{wind, faces_of, of_mesh, meshes, IsBalanced, IsScene}
use Rattle.ember_law.specs.Counts.{added, leg_wind}
use Rattle.ember_law.specs.Laws.{AxesAgree, SegmentsGiveDifference, MissesFace, ClearSegmentsKeepVectors}
use Rattle.ember_law.proofs.Axes.{axes_agree}
use Rattle.ember_law.proofs.Paths.{path_law}
use Rattle.ember_law.proofs.Segments.{segment_law}
use Rattle.ember_law.proofs.Tallies.{map_same}

-- what holds of all faces holds of those of a mesh
pub of_mesh_all : (P : Face → Type 0) (m : ℕ) (ts : List Tri) → AllByRecursion P (faces_of ts) → AllByRecursion P (faces_of (of_mesh m ts))
of_mesh_all P m [] h = tt
of_mesh_all P m (t ∷ ts) h = by (is_flat t) (nat_eq t.mesh m) refl h (of_mesh_all P m ts)
  where
    by : (b d : Bool) → is_flat t ≡ b → AllByRecursion P
        (map face_of (cond (not b) (t ∷ filter (λ t. not (is_flat t)) ts) (filter (λ t. not (is_flat t)) ts))) →
        (AllByRecursion P (faces_of ts) → AllByRecursion P (faces_of (of_mesh m ts))) →
        AllByRecursion P (faces_of (cond d (t ∷ of_mesh m ts) (of_mesh m ts)))
    by true true e h r = rw e (r h)
    by true false e h r = r h
    by false true e h r = rw e (h.0, r h.1)
    by false false e h r = r h.1

map_added : (f g h : ℕ → ℤ) → ((m : ℕ) → f m -ℤ g m ≡ h m) → (ms : List ℕ) → map f ms ≡ added (map g ms) (map h ms)
map_added f g h e [] = refl
map_added f g h e (m ∷ ms) =
    let q = e m in let x : f m ≡ g m +ℤ h m = omega (arith, linear, q) in let r = map_added f g h e ms in λ i. x i ∷ r i

-- ---- of balanced meshes
module _ (ts : List Tri) (balanced : (m : ℕ) → IsBalanced (of_mesh m ts)) where
  -- winding numbers at clear points are the same along all axes
  pub balanced_axes : AxesAgree ts
  balanced_axes p a b w c =
      map_same (λ m. wind a (faces_of (of_mesh m ts)) p) (λ m. wind b (faces_of (of_mesh m ts)) p)
      (λ m. axes_agree a b p (of_mesh m ts) (balanced m) w (of_mesh_all (λ f. IsClear f p) m ts c)) meshes

  -- winding numbers change along a segment by its crossings
  pub balanced_legs : SegmentsGiveDifference ts
  balanced_legs a b p q wp wq d cp cq =
      map_added (λ m. wind b (faces_of (of_mesh m ts)) p) (λ m. wind b (faces_of (of_mesh m ts)) q)
      (λ m. leg_wind (faces_of (of_mesh m ts)) p q)
      (λ m. path_law a b p q (of_mesh m ts) (balanced m) wp wq d (of_mesh_all (λ f. IsClear f p) m ts cp)
      (of_mesh_all (λ f. IsClear f q) m ts cq)) meshes

  -- segments between clear points that miss all faces keep the winding numbers
  pub balanced_segments : ClearSegmentsKeepVectors ts
  balanced_segments a b p q wp wq cp cq h =
      map_same (λ m. wind a (faces_of (of_mesh m ts)) p) (λ m. wind b (faces_of (of_mesh m ts)) q)
      (λ m. segment_law a b p q (of_mesh m ts) (balanced m) wp wq (of_mesh_all (λ f. IsClear f p) m ts cp)
      (of_mesh_all (λ f. IsClear f q) m ts cq) (of_mesh_all (MissesFace p q) m ts h)) meshes

-- ---- in a scene
-- winding numbers at clear points are the same along all axes
pub axes_law : (ts : List Tri) (n : ℕ) → IsScene ts n → AxesAgree ts
axes_law ts n s = balanced_axes ts s.balanced

-- winding numbers change along a segment by its crossings
pub legs_law : (ts : List Tri) (n : ℕ) → IsScene ts n → SegmentsGiveDifference ts
legs_law ts n s = balanced_legs ts s.balanced

-- segments between clear points that miss all faces keep the winding numbers
pub segments_law : (ts : List Tri) (n : ℕ) → IsScene ts n → ClearSegmentsKeepVectors ts
segments_law ts n s = balanced_segments ts s.balanced
