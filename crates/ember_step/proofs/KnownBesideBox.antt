-- What is known of the expression in the box of a job is its truth directly beside the box too.
use Rattle.std.proofs.Common.{◌≡◌, ℕ, ◌^◌, ◌<◌, ◌≤◌, lit<, ◌==◌, Bool, true, false, cond, nat_eq, List, [], ◌∷◌, Some, ℤ, pos, ◌*ℤ◌, ◌<ℤ◌, refl, sym, ◌∙◌, subst, arith}
use Rattle.std.specs.List.{AllByRecursion}
use Rattle.std.proofs.lemmas.Bool.{or_parts, eq-eqb, eqb-true}
use borrow.Author.Differences.{ints}
use Rattle.ember_algebra.specs.Large.{Eventually}
use Rattle.ember_algebra.proofs.Laws.{linear}
use Rattle.ember_algebra.proofs.Large.{eventually_both, eventually_map, eventually_pos}
use Rattle.ember_algebra.proofs.Order.{pos_mul}
use Rattle.ember_model.specs.declared.point.Spot.{Spot}
use Rattle.ember_model.specs.declared.point.Axis.{Axis}
use Rattle.ember_model.specs.declared.point.Axis.TheVariants.{X}
use Rattle.ember_model.specs.declared.tri.Tri.{Tri}
use Rattle.ember_model.specs.Planes.{along}
use Rattle.ember_model.specs.Points.{scaled, moved}
use Rattle.ember_model.specs.Faces.{is_flat, face_of}
use Rattle.ember_model.specs.Clear.{IsClear, AreClear}
use Rattle.ember_model.specs.Limits.{narrow_limit, most_meshes}
use Rattle.ember_model.specs.Within.{normal_limit}
use Rattle.ember_model.specs.Meshes.{faces_of, of_mesh, vector, IsScene}
use Rattle.ember_model.proofs.SignTests.{clash}
use Rattle.ember_model.proofs.Hits.{moved_weight}
use Rattle.ember_expr.specs.Formula.{Formula, IsFit}
use Rattle.ember_expr.specs.Truth.{truth}
use Rattle.ember_known.specs.Laws.{AgreeOutside}
use Rattle.ember_known.proofs.Decided.{decided_tells}
use Rattle.ember_law.specs.Laws.{MissesFace}
use Rattle.ember_law.proofs.Shifted.{eventually_true}
use Rattle.ember_law.proofs.Segments.{segment_law}
use Rattle.ember_law.proofs.Separation.{missed_face_has_separating_edge}
use Rattle.ember_law.proofs.Beside.{separated_face_is_missed, value_beside}
use Rattle.ember_law.proofs.Vectors.{of_mesh_all}
use Rattle.ember_width.specs.Scenes.{IsSceneWithin}
use Rattle.ember_box.specs.Boxes.{Cell, in_steps}
use Rattle.ember_box.specs.Near.{is_near, near}
use Rattle.ember_box.specs.Reference.{reference_beside}
use Rattle.ember_ref.specs.ClosedBoxes.{HasPoint}
use Rattle.ember_ref.proofs.BoxPoints.{has_beside}
use Rattle.ember_ref.proofs.ClearReferences.{clear_beside}
use Rattle.ember_ref.proofs.FarTriangles.{misses_far}
use Rattle.ember_leaf.specs.Scenes.{HasOneValue}
use Rattle.ember_job.specs.declared.job.Job.{Job}
use Rattle.ember_visit.specs.Jobs.{near_of, IsJobOn, IsJob}
use Rattle.ember_visit.specs.Values.{has_mesh, box_value}
use Rattle.ember_visit.proofs.IndexLists.{scene_within, near_listed}
use Rattle.ember_visit.proofs.KnownInBox.{count_is}

-- the segment from p to q misses the triangles that aren't near a box in steps
abbrev MissesFar : Cell → Spot → Spot → Tri → Type 0
MissesFar c p q u = is_near c u ≡ false → is_flat u ≡ false → MissesFace p q (face_of u)

-- so it misses the faces of a mesh that has none near
misses_mesh : (c : Cell) (p q : Spot) (n : ℕ) (us : List Tri) → AllByRecursion (MissesFar c p q) us →
    has_mesh (near us c) n ≡ false → AllByRecursion (MissesFace p q) (faces_of (of_mesh n us))
misses_mesh c p q n [] h far = tt
misses_mesh c p q n (u ∷ us) h far = by (is_near c u) (nat_eq u.mesh n) (is_flat u) refl refl refl far (misses_mesh c p q n us h.1)
  where
    by : (b d e : Bool) → is_near c u ≡ b → nat_eq u.mesh n ≡ d → is_flat u ≡ e →
        has_mesh (cond b (u ∷ near us c) (near us c)) n ≡ false →
        (has_mesh (near us c) n ≡ false → AllByRecursion (MissesFace p q) (faces_of (of_mesh n us))) →
        AllByRecursion (MissesFace p q) (faces_of (cond d (u ∷ of_mesh n us) (of_mesh n us)))
    by true true e x y z far r =
        let o = or_parts (n == u.mesh) (has_mesh (near us c) n) far in
        let s : (n == u.mesh) ≡ true = eq-eqb n u.mesh (sym (eqb-true u.mesh n y)) in absurd (clash s o.0)
    by true false e x y z far r = r (or_parts (n == u.mesh) (has_mesh (near us c) n) far).1
    by false true true x y z far r = rw z (r far)
    by false true false x y z far r = rw z (h.0 x z, r far)
    by false false e x y z far r = r far

module _ (s limit fine : ℕ) (tells : normal_limit limit < fine) (ts : List Tri) (scene : IsSceneWithin limit ts most_meshes) (j : Job) (is : IsJobOn s fine ts j)
    (v : Spot) (has : HasPoint (in_steps s j.cell) v) (k : Axis) (by : ℤ) where
  abbrev box : Cell
  box = in_steps s j.cell

  abbrev at : ℕ → Spot
  at m = moved (scaled (pos m) v) k by

  abbrev origin : Spot
  origin = reference_beside fine box.lo

  shifted : 0 < fine
  shifted = omega (arith, tells)

  weight : (m : ℕ) → 1 ≤ m → pos 0 <ℤ (at m).w
  weight m l =
      let x = moved_weight (scaled (pos m) v) k by in let z : pos 0 <ℤ pos m = omega (arith, ints, l) in let y =
      pos_mul z has.weight in omega (arith, linear, x, y)

  one_missed : (u : Tri) → Eventually (λ m. MissesFar box (at m) origin u)
  one_missed u = pick (is_near box u) (is_flat u) refl refl
    where
      pick : (b d : Bool) → is_near box u ≡ b → is_flat u ≡ d → Eventually (λ m. MissesFar box (at m) origin u)
      pick true d x y = eventually_true (λ m f nf. absurd (clash x f))
      pick false true x y = eventually_true (λ m f nf. absurd (clash y nf))
      pick false false x y =
          let o = has_beside fine box shifted in let s =
          missed_face_has_separating_edge (face_of u) v origin has.weight o.weight
          (misses_far box u v origin y x has o) in
          eventually_map (λ m l f nf. let e = value_beside s.plane m v k by in
          separated_face_is_missed (face_of u) (at m) origin
          (record { plane = s.plane; near = omega (arith, linear, l, e); far = s.far; low = s.low }))
          (eventually_pos (by *ℤ along s.plane k) s.near)

  all_missed : (us : List Tri) → Eventually (λ m. AllByRecursion (MissesFar box (at m) origin) us)
  all_missed [] = eventually_true (λ m. tt)
  all_missed (u ∷ us) = eventually_both (one_missed u) (all_missed us)

  -- the meshes with no triangle near the box count alike there and at the reference point
  agree : (a : Axis) (m : ℕ) → 1 ≤ m → AllByRecursion (MissesFar box (at m) origin) ts → AreClear (faces_of ts) (at m) →
      AgreeOutside (has_mesh (near ts box)) (vector X ts origin) (vector a ts (at m))
  agree a m l missed clear = record {
    same = λ n h far. count_is X ts origin n h ∙ sym
        (segment_law a X (at m) origin (of_mesh n ts) (scene.balanced n) (weight m l) (has_beside fine box shifted).weight
        (of_mesh_all (λ f. IsClear f (at m)) n ts clear)
        (of_mesh_all (λ f. IsClear f origin) n ts (clear_beside limit fine box.lo tells ts scene.within))
        (misses_mesh box (at m) origin n ts missed far)) ∙ sym (count_is a ts (at m) n h);
  }

  known_steps : (f : Formula) → IsFit 64 f → (known : Bool) → box_value ts f j ≡ Some known →
      Eventually (λ m. AreClear (faces_of ts) (at m) → (a : Axis) → truth (vector a ts (at m)) f ≡ known)
  unfolding box_value
  known_steps f fit known e =
      let late : Eventually (λ m. 1 ≤ m) = record { from = 1; holds = λ m l. l } in
      eventually_map (λ m l clear a. decided_tells (has_mesh (near_of ts j)) j.at.counts (vector a ts (at m))
      (told a m (agree a m l.0 l.1 clear)) f known fit e) (eventually_both late (all_missed ts))
    where
      told : (a : Axis) (m : ℕ) → AgreeOutside (has_mesh (near ts box)) (vector X ts origin) (vector a ts (at m)) →
          AgreeOutside (has_mesh (near_of ts j)) j.at.counts (vector a ts (at m))
      told a m r =
          subst (λ (counts : List ℤ). AgreeOutside (has_mesh (near_of ts j)) counts (vector a ts (at m))) (sym is.at)
          (subst (λ (us : List Tri). AgreeOutside (has_mesh us) (vector X ts origin) (vector a ts (at m)))
          (near_listed ts j is) r)

-- a box of known value has one value, in it and directly beside it
pub known_has_one_on : (s m f : ℕ) → normal_limit m < f → (ts : List Tri) → IsSceneWithin m ts most_meshes → (x : Formula) → IsFit 64 x → (j : Job) →
    IsJobOn s f ts j → (known : Bool) → box_value ts x j ≡ Some known → HasOneValue ts x (in_steps s j.cell)
known_has_one_on s m f tells ts scene x fit j is known e = record {
  value = known;
  beside = λ v has. record { steps = λ k by. known_steps s m f tells ts scene j is v has k by x fit known e };
}

-- on the narrow grid
pub known_has_one : (ts : List Tri) (count : ℕ) → IsScene ts count → (f : Formula) → IsFit 64 f → (j : Job) →
    IsJob ts j → (known : Bool) → box_value ts f j ≡ Some known → HasOneValue ts f j.cell
known_has_one ts count scene f fit j is known e =
    known_has_one_on 0 narrow_limit (2 ^ 27) (lit< tt) ts (scene_within ts count scene) f fit j is known e
