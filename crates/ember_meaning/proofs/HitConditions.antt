-- What is owed at the hits of a line for the written regions to wind there as the expression says
use Rattle.std.specs.Prelude.{◌⊎◌, ◌≡◌, ℕ, ◌<◌, Bool, true, false, cond, List, map, filter, ℤ, pos, negsuc, ◌<ℤ◌}
use Rattle.ember_algebra.specs.Large.{Eventually}
use Rattle.ember_algebra.specs.Sign.{is_positive, is_zero}
use Rattle.ember_model.specs.declared.tri.Tri.{Tri}
use Rattle.ember_model.specs.declared.point.Spot.{Spot}
use Rattle.ember_model.specs.declared.point.Axis.{Axis}
use Rattle.ember_model.specs.declared.face.Face.{Face}
use Rattle.ember_model.specs.Planes.{value_at, support_of, along, main_axis}
use Rattle.ember_model.specs.Faces.{is_inside, is_flat, face_of, hit}
use Rattle.ember_model.specs.Meshes.{faces_of}
use Rattle.ember_model.specs.Points.{scaled, moved}
use Rattle.ember_model.specs.Clear.{AreClear}
use Rattle.ember_model.specs.Owners.{IsOwner}
use Rattle.ember_model.specs.Sides.{IsSides}
use Rattle.ember_expr.specs.Formula.{Formula}
use Rattle.ember_expr.specs.Truth.{truth}
use Rattle.ember_box.specs.Boxes.{Cell}
use Rattle.ember_box.specs.Near.{near}
use Rattle.ember_leaf.specs.KeptRegions.{NarrowKept as Kept}
use Rattle.ember_leaf.specs.Written.{front}
use Rattle.ember_text.specs.Documents.{written_face}
use Rattle.ember_meaning.proofs.CountedPoints.{IsFairInAll}
use Rattle.ember_meaning.proofs.Listed.{Entry, is_hit_at}
use Rattle.ember_meaning.specs.Regions.Meaning.{HasMeaning}
use Rattle.ember_meaning.proofs.Lines.{In, is_below, key, is_hit, Placed, beyond, onward, tri_key, tri_hits, seen}

-- the winding numbers behind a region, of those before and after it along its main axis
abbrev pub behind : Face → List ℤ → List ℤ → List ℤ
behind f before after =
    cond (is_positive (along f.support (main_axis f.support))) before after

-- ---- along a line that crosses a face with this entry of its normal: the values just before and
-- just after, of those in front and behind
abbrev pub before_hit : ℤ → Bool → Bool → Bool
before_hit a ahead back = cond (is_positive a) back ahead

abbrev pub after_hit : ℤ → Bool → Bool → Bool
after_hit a ahead back = cond (is_positive a) ahead back

module _ (scene : List Tri) (x : Formula) (k : Axis) (p : Spot) (cs : List Cell) (es : List Entry) (t : Tri) where
  -- the place where t is hit, and the truth just before and just after it
  abbrev pub hit_point : Spot
  hit_point = hit (face_of t).support k p

  abbrev pub truth_before : Bool
  truth_before =
      truth (seen k (onward is_below (tri_key k p) (tri_key k p t) (tri_hits k p scene))) x

  abbrev pub truth_after : Bool
  truth_after =
      truth (seen k (beyond is_below (tri_key k p) (tri_key k p t) (tri_hits k p scene))) x

  -- the truth in front of a region, and behind it
  abbrev pub truth_ahead : Face → List ℤ → List ℤ → Bool
  truth_ahead f before after = truth (front f before after) x

  abbrev pub truth_back : Face → List ℤ → List ℤ → Bool
  truth_back f before after = truth (behind f before after) x

  pub record SomeHit : Type 0 where
    pub tri : ℕ
    pub is_hit : is_hit_at scene cs hit_point tri ≡ true

  pub record IsRegular : Type 0 where
    -- the place is off all planes that cut
    pub fair : IsFairInAll scene cs hit_point
    -- the leaf that holds the place is listed, and some triangle near it is hit there; or no listed
    -- leaf holds it, and the expression has one value there
    pub some_hit : SomeHit ⊎ (((j : ℕ) → is_hit_at scene cs hit_point j ≡ false) × (truth_before ≡ truth_after))
    -- the line doesn't run in the plane of a region that holds the place
    pub crosses : (e : Entry) → In e es → is_inside e.face hit_point ≡ true → is_zero (along e.face.support k) ≡ false
    -- of the regions that hold the place just those of the first triangle are owned
    pub owner_first : (e : Entry) → In e es → is_inside e.face hit_point ≡ true →
        IsOwner (near scene e.cell) e.tri e.face → (j : ℕ) → j < e.tri → is_hit_at scene cs hit_point j ≡ false
    pub first_owner : (e : Entry) → In e es → is_inside e.face hit_point ≡ true →
        ((j : ℕ) → j < e.tri → is_hit_at scene cs hit_point j ≡ false) → IsOwner (near scene e.cell) e.tri e.face
    -- just before and just after the hit the expression is as on the sides of a region that holds
    -- it
    pub beside : (e : Entry) (before after : List ℤ) → In e es → is_inside e.face hit_point ≡ true →
        IsSides scene e.face before after → (truth_before ≡ before_hit (along e.face.support k)
        (truth_ahead e.face before after) (truth_back e.face before after)) ×
        (truth_after ≡ after_hit (along e.face.support k) (truth_ahead e.face before after)
        (truth_back e.face before after))

-- along the line through p the entries are regular, and a written face is hit only where a triangle
-- is
pub record IsRegularLine (scene : List Tri) (x : Formula) (k : Axis) (p : Spot) (cs : List Cell) (es : List Entry) (ws : List Kept) : Type 0 where
  pub regular : (t : Tri) → In t (tri_hits k p scene) → IsRegular scene x k p cs es t
  pub placed : (w : Face) → In w (filter (is_hit k p) (map written_face ws)) → Placed is_below (map (tri_key k p) (tri_hits k p scene)) (key k p w)

-- ---- general lines
-- what is owed at a place v where a line along k meets a triangle; all are the boxes of all leaves
pub record IsGeneralAt (scene : List Tri) (all : List Cell) (k : Axis) (v : Spot) : Type 0 where
  -- the place is off all planes that cut in the leaves
  pub fair : IsFairInAll scene all v
  -- no triangle's plane that is 0 at the place holds the line
  pub slopes : (u : Tri) → In u scene → is_flat u ≡ false → value_at (support_of u) v ≡ pos 0 → is_zero (along (support_of u) k) ≡ false
  -- the points directly before and directly after the place are clear
  pub clear_before : Eventually (λ m. AreClear (faces_of scene) (moved (scaled (pos m) v) k (negsuc 0)))
  pub clear_after : Eventually (λ m. AreClear (faces_of scene) (moved (scaled (pos m) v) k (pos 1)))

-- the line through p along k is general at each place where it meets a triangle
abbrev pub IsGeneralLine : List Tri → List Cell → Axis → Spot → Type 0
IsGeneralLine scene all k p =
    (t : Tri) → In t (tri_hits k p scene) → IsGeneralAt scene all k (hit (face_of t).support k p)

-- the written regions have their meaning at each clear point on a general line along their axis
abbrev pub HaveMeaningOnLines : List Tri → Formula → List Cell → List Kept → Type 0
HaveMeaningOnLines scene x all ks =
    (a b : Axis) (p : Spot) → pos 0 <ℤ p.w → AreClear (faces_of scene) p → IsGeneralLine scene all a p → HasMeaning scene x (map written_face ks) a b p
