-- What the written regions of a scene mean
use Rattle.std.specs.Prelude.{◌≡◌, ℕ, Bool, false, cond, List, map, replicate, ℤ, pos, ◌<ℤ◌}
use Rattle.std.specs.List.{AllByRecursion}
use Rattle.ember_model.specs.declared.tri.Tri.{Tri}
use Rattle.ember_model.specs.declared.face.Face.{Face}
use Rattle.ember_model.specs.declared.point.Spot.{Spot}
use Rattle.ember_model.specs.declared.point.Axis.{Axis}
use Rattle.ember_model.specs.Clear.{AreClear}
use Rattle.ember_model.specs.FaceFiles.{WrittenFace, IsFaceFile}
use Rattle.ember_model.specs.Meshes.{wind, vector, faces_of}
use Rattle.ember_expr.specs.Formula.{Formula}
use Rattle.ember_expr.specs.Truth.{truth}
use Rattle.ember_meaning.specs.Closed.Chains.{face_from, IsClosedSurface, IsOutlined}

-- 1 if true, otherwise 0
abbrev pub one_if : Bool → ℤ
one_if b = cond b (pos 1) (pos 0)

-- the expression is false if all winding numbers are 0. To `truth` a count past the end of the list is 0, too. The same
-- property is `IsBounded` in ember_verdict (Accepted.antt), where `after_bounded` (Verdict.antt) asks for it
abbrev pub IsFalseOutside : Formula → Type 0
IsFalseOutside x = truth (replicate 64 (pos 0)) x ≡ false

-- the faces wind once around p, counted along a, if the expression is true of the winding numbers at p, counted
-- along b, and otherwise not at all
abbrev pub HasMeaning : List Tri → Formula → List Face → Axis → Axis → Spot → Type 0
HasMeaning scene x faces a b p = wind a faces p ≡ one_if (truth (vector b scene p) x)

-- the faces have the meaning at each point that is clear of the scene's faces and of these faces, for all axes
abbrev pub HaveMeaning : List Tri → Formula → List Face → Type 0
HaveMeaning scene x faces =
    (a b : Axis) (p : Spot) → pos 0 <ℤ p.w → AreClear
    (faces_of scene) p → AreClear faces p → HasMeaning scene x faces a b p

-- the faces are those of written edges, which are their outlines; they have the meaning, and are a closed surface
pub record AreSurfaceWithMeaning (scene : List Tri) (x : Formula) (faces : List Face) : Type 0 where
  pub written : List WrittenFace
  pub faces_are : faces ≡ map face_from written
  pub outlined : AllByRecursion IsOutlined written
  pub meaning : HaveMeaning scene x faces
  pub closed : IsClosedSurface written

-- the bytes are a face file; the edges of its faces are their outlines, the faces have the meaning, and
-- they are a closed surface
pub record ReadsWithMeaning (scene : List Tri) (x : Formula) (bytes : List ℕ) : Type 0 where
  pub faces : List Face
  pub read : IsFaceFile bytes faces
  pub outlined : AllByRecursion IsOutlined read.written
  pub meaning : HaveMeaning scene x faces
  pub closed : IsClosedSurface read.written
