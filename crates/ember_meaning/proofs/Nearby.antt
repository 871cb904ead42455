-- Outlined faces with a meaning have it near every point, and wind at most once around a point that is clear of them.
use Rattle.std.proofs.Common.{◌≡◌, le_refl, refl, sym, ap, ◌∙◌, arith, Bool, true, false, List, map, ℤ, pos}
use Rattle.std.specs.List.{AllByRecursion}
use borrow.Author.Differences.{ints}
use Rattle.ember_algebra.proofs.Large.{eventually_both, eventually_map}
use Rattle.ember_model.specs.declared.tri.Tri.{Tri}
use Rattle.ember_model.specs.declared.point.Axis.TheVariants.{X}
use Rattle.ember_model.specs.FaceFiles.{WrittenFace}
use Rattle.ember_model.specs.Meshes.{vector}
use Rattle.ember_model.specs.Points.{offset_by}
use Rattle.ember_law.proofs.Generic.{wind_shifted}
use Rattle.ember_law.proofs.GenericClear.{clear_shifted, clear_faces}
use Rattle.ember_law.proofs.Shifted.{weight_shifted}
use Rattle.ember_meaning.specs.Closed.Chains.{face_from, IsOutlined}
use Rattle.ember_meaning.proofs.ClearRectangle.{each_axis}
use Rattle.ember_meaning.proofs.ShiftedPoints.{clear_shifted_faces}
use Rattle.ember_expr.specs.Formula.{Formula}
use Rattle.ember_expr.specs.Truth.{truth}
use Rattle.ember_meaning.specs.Regions.Meaning.{one_if, HaveMeaning}
use Rattle.ember_meaning.specs.Regions.Nearby.{HaveMeaningNearby, WindNearbyAsHere, WindHereAsNearby, WindOnceAtMost, AgreeOver}
use Rattle.ember_meaning.proofs.ClearMeaning.{vector_shifted}

module _ (scene : List Tri) (x : Formula) (ws : List WrittenFace) (lines : AllByRecursion IsOutlined ws)
    (meaning : HaveMeaning scene x (map face_from ws)) where
  -- shifted, every point is clear of the scene and of the faces
  pub meaning_nearby : HaveMeaningNearby scene x (map face_from ws)
  meaning_nearby p weight =
      eventually_map (λ k h. λ a b. meaning a b (offset_by p (pos k)) h.0
      (clear_faces (offset_by p (pos k)) scene h.1.0) h.1.1)
      (eventually_both (weight_shifted p weight)
      (eventually_both (clear_shifted p scene weight) (clear_shifted_faces p weight ws lines)))

  -- a clear point of the scene has its winding numbers at the shifted point too
  pub wind_nearby_as_here : WindNearbyAsHere scene x (map face_from ws)
  wind_nearby_as_here p weight clear =
      eventually_map (λ k h. λ a b. h.1 a b ∙ ap (λ (c : List ℤ). one_if (truth c x)) (sym (h.0 b)))
      (eventually_both (each_axis (λ b. vector_shifted b scene p weight clear)) (meaning_nearby p weight))

  -- a clear point of the faces has their winding numbers there too
  pub wind_here_as_nearby : WindHereAsNearby scene x (map face_from ws)
  wind_here_as_nearby p weight clear =
      eventually_map (λ k h. λ a b. h.0 a ∙ h.1 a b)
      (eventually_both (each_axis (λ a. wind_shifted a p (map face_from ws) weight clear)) (meaning_nearby p weight))

  -- so they are 0 or 1, and alike along all axes
  pub wind_once_at_most : WindOnceAtMost (map face_from ws)
  wind_once_at_most p weight clear =
      let s = wind_here_as_nearby p weight clear in (truth (vector X scene (offset_by p (pos s.from))) x, λ a. s.holds s.from (le_refl s.from) a X)

-- ---- one list of faces
one_if_injective : (b c : Bool) → one_if b ≡ one_if c → b ≡ c
one_if_injective true true e = refl
one_if_injective true false e = absurd (omega (arith, ints, e))
one_if_injective false true e = absurd (omega (arith, ints, e))
one_if_injective false false e = refl

-- faces that mean two expressions make them agree
pub meanings_agree : (scene : List Tri) (x y : Formula) (ws : List WrittenFace) → AllByRecursion IsOutlined ws →
    HaveMeaning scene x (map face_from ws) → HaveMeaning scene y (map face_from ws) → AgreeOver scene x y
meanings_agree scene x y ws lines mx my a p weight clear =
    let s = eventually_both (wind_nearby_as_here scene x ws lines mx p weight clear) (wind_nearby_as_here scene y ws lines my p weight clear) in
    let h = s.holds s.from (le_refl s.from) in
    one_if_injective (truth (vector a scene p) x) (truth (vector a scene p) y) (sym (h.0 X a) ∙ h.1 X a)
