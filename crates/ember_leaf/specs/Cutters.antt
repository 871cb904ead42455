-- What triangles leave of the regions of another one
use Rattle.std.specs.Prelude.{◌≡◌, ◌≢◌, Bool, true, false, List, [], ◌∷◌, ◌++◌, map, flat_map, ℤ, pos, ◌*ℤ◌, ◌≤ℤ◌, ⊤}
use Rattle.std.specs.List.{AllByRecursion}
use Rattle.std.specs.Int.{int_min, int_max}
use Rattle.ember_algebra.specs.Relations.{Each, Chain}
use Rattle.ember_model.specs.declared.tri.Tri.{Tri}
use Rattle.ember_model.specs.declared.plane.Plane.{Plane}
use Rattle.ember_model.specs.declared.point.Spot.{Spot}
use Rattle.ember_model.specs.declared.face.Face.{Face}
use Rattle.ember_model.specs.Planes.{support_of, value_at}
use Rattle.ember_model.specs.Faces.{edges_of, face_of, is_inside, is_in_closed, Somewhere, Everywhere}
use Rattle.ember_model.specs.Faces.{Cuts, Meets, Contains, below, above}
use Rattle.ember_model.specs.Owners.{is_coplanar}
use Rattle.ember_width.specs.declared.width.Width.{Ghosts}
use Rattle.ember_box.specs.declared.aabb.Interval.{Interval}
use Rattle.ember_box.specs.declared.aabb.Aabb.{Aabb}
use Rattle.ember_box.specs.Aabbs.{interval_between}
use Rattle.ember_box.specs.Regions.{CuttingPlane, AreLeftByCuttingPlane}
use Rattle.ember_poly.specs.Rings.{IsBelow, IsNotAbove}
use Rattle.ember_poly.specs.declared.reach_and_cut.Reach.{Reach}
use Rattle.ember_poly.specs.declared.reach_and_cut.Reach.TheVariants.{Both}
use Rattle.ember_poly.specs.Cuts.{HasInside, IsReach}
use Rattle.ember_leaf.specs.declared.cutter.Role.{Role}
use Rattle.ember_leaf.specs.declared.cutter.Role.TheVariants.{OtherPlane, Later, Earlier}
use Rattle.ember_leaf.specs.declared.cutter.Cutter.{Cutter}
use Rattle.ember_leaf.specs.TriRelations.{HasContaining}

-- ---- what a triangle cuts by, and whether it owns what it contains
-- the planes by which it cuts
abbrev pub planes_as : Role → Tri → List Plane
planes_as OtherPlane t = support_of t ∷ []
planes_as Later t = edges_of t
planes_as Earlier t = edges_of t

-- the triangle itself, if it owns what it contains
abbrev pub owner_as : Role → Tri → List Tri
owner_as OtherPlane t = []
owner_as Later t = []
owner_as Earlier t = t ∷ []

-- the role of a triangle in the plane of another one, by whether it comes before that one
abbrev pub role_if : Bool → Role
role_if true = Earlier
role_if false = Later

-- u lies relative to t, whose regions it cuts, as its role says
abbrev pub LiesAs : Role → Tri → Tri → Type 0
LiesAs OtherPlane t u = ⊤
LiesAs Later t u = is_coplanar t u ≡ true
LiesAs Earlier t u = is_coplanar t u ≡ true

-- the cutter lies relative to t as its role says
pub record IsCutterOf {W M : Type 0} {G : Ghosts W M} (t : Tri) (cutter : Cutter W M G) : Type 0 where
  pub lies : LiesAs cutter.role t cutter.tri

-- the list has grown by the triangle u in the role k
pub record IsAdded {W M : Type 0} {G : Ghosts W M} (u : Tri) (k : Role) (old new : List (Cutter W M G)) : Type 0 where
  pub cutter : Cutter W M G
  pub is : new ≡ old ++ cutter ∷ []
  pub tri : cutter.tri ≡ u
  pub role : cutter.role ≡ k

-- the cutting planes of a triangle's face with these planes
abbrev pub cutting_planes_with : Tri → List Plane → List CuttingPlane
cutting_planes_with t ps = map (λ p. record { face = face_of t; plane = p }) ps

-- the cutting planes of a cutter
abbrev pub cutting_planes_by : {W M : Type 0} {G : Ghosts W M} → Cutter W M G → List CuttingPlane
cutting_planes_by cutter = cutting_planes_with cutter.tri (planes_as cutter.role cutter.tri)

-- the cutting planes of the cutters of a list
abbrev pub cutting_planes_in : {W M : Type 0} {G : Ghosts W M} → List (Cutter W M G) → List CuttingPlane
cutting_planes_in cutters = flat_map cutting_planes_by cutters

-- the cutter's triangle, if its role is `Earlier`
abbrev pub owners_by : {W M : Type 0} {G : Ghosts W M} → Cutter W M G → List Tri
owners_by cutter = owner_as cutter.role cutter.tri

-- the triangles of the list with the role `Earlier`
abbrev pub owners_in : {W M : Type 0} {G : Ghosts W M} → List (Cutter W M G) → List Tri
owners_in cutters = flat_map owners_by cutters

-- ---- regions that are left
-- the first list without some members that have the first property; those left have the second
pub data Without {X : Type 0} (P Q : X → Type 0) : List X → List X → Type 0 where
  ended : Without P Q [] []
  left : {x : X} {xs ys : List X} → Q x → Without P Q xs ys → Without P Q (x ∷ xs) (x ∷ ys)
  dropped : {x : X} {xs ys : List X} → P x → Without P Q xs ys → Without P Q (x ∷ xs) ys

-- no point is inside both faces
abbrev pub AreDisjoint : Face → Face → Type 0
AreDisjoint g f = Everywhere f (λ v. is_inside g v ≡ false)

-- none of the triangles has an inside point of the face
pub record IsFree (ts : List Tri) (f : Face) : Type 0 where
  pub free : AllByRecursion (λ t. AreDisjoint (face_of t) f) ts

-- the cutting planes leave these faces, but for some that the triangles contain
pub record AreLeft (bs : List CuttingPlane) (ts : List Tri) (fs gs : List Face) : Type 0 where
  pub all : List Face
  pub cuts : Chain (λ b. Each (AreLeftByCuttingPlane b)) bs fs all
  pub without : Without (HasContaining ts) (IsFree ts) all gs

-- what a triangle leaves of a region
abbrev pub AreLeftByCutter : {W M : Type 0} {G : Ghosts W M} → Cutter W M G → Face → List Face → Type 0
AreLeftByCutter cutter f gs = AreLeft (cutting_planes_by cutter) (owners_by cutter) (f ∷ []) gs

-- what it leaves of each region
abbrev pub AreSplit : {W M : Type 0} {G : Ghosts W M} → Cutter W M G → List Face → List Face → Type 0
AreSplit cutter fs gs = Each (AreLeftByCutter cutter) fs gs

-- the list has grown by what the triangle leaves of fs
abbrev pub AddsSplit : {W M : Type 0} {G : Ghosts W M} → Cutter W M G → List Face → List Face → List Face → Type 0
AddsSplit cutter fs old new = (front : List Face) → AreSplit cutter front old → AreSplit cutter (front ++ fs) new

-- what the triangles leave of the regions, one after another
abbrev pub AreCut : {W M : Type 0} {G : Ghosts W M} → List (Cutter W M G) → List Face → List Face → Type 0
AreCut cutters fs gs = Chain AreSplit cutters fs gs

-- the first region meets the triangle's closed face
abbrev pub MeetsFirst : {W M : Type 0} {G : Ghosts W M} → Cutter W M G → List Face → Type 0
MeetsFirst cutter [] = ⊤
MeetsFirst cutter (f ∷ fs) = Meets f (face_of cutter.tri)

-- planes that are negative inside the triangle, and nowhere positive in its closed face
pub record AreAround (t : Tri) (ps : List Plane) : Type 0 where
  pub inside : (v : Spot) → is_inside (face_of t) v ≡ true → AllByRecursion (λ p. IsBelow p v) ps
  pub closed : (v : Spot) → is_in_closed (face_of t) v ≡ true → AllByRecursion (λ p. IsNotAbove p v) ps

-- the planes cut out of f the part inside the triangle, which isn't empty: an inside point of f that is below
-- all of them is inside the triangle
pub record CutOutTriangle (t : Tri) (ps : List Plane) (f : Face) : Type 0 where
  pub around : AreAround t ps
  pub shared : Somewhere f (λ v. is_inside (face_of t) v ≡ true)
  pub within : (v : Spot) → is_inside f v ≡ true → AllByRecursion (λ p. IsBelow p v) ps → is_inside (face_of t) v ≡ true

-- what a plane leaves of a region: its two parts if the plane cuts it, otherwise the region itself
pub data SplitsIfCut (p : Plane) (f : Face) : List Face → Type 0 where
  in_parts : Cuts f p → SplitsIfCut p f (below f p ∷ above f p ∷ [])
  in_one : (Cuts f p → ⊥) → SplitsIfCut p f (f ∷ [])

-- the plane doesn't cut f
pub record IsUncut (f : Face) (p : Plane) : Type 0 where
  pub side : Reach
  pub lies : IsReach f p side
  pub uncut : side ≢ Both

-- what the planes leave of a region
abbrev pub AreLeftByEdges : {W M : Type 0} {G : Ghosts W M} → Cutter W M G → List Plane → Face → List Face → Type 0
AreLeftByEdges cutter ps f gs = AreLeft (cutting_planes_with cutter.tri ps) (owners_by cutter) (f ∷ []) gs

-- the triangle and the face lie in one plane
pub record ShareAPlane (t : Tri) (f : Face) : Type 0 where
  pub face : (v : Spot) → is_inside f v ≡ true → value_at (support_of t) v ≡ pos 0
  pub triangle : (v : Spot) → is_in_closed (face_of t) v ≡ true → value_at f.support v ≡ pos 0

-- they lie in one plane if the triangle cuts by its edge planes
abbrev pub SharesAs : Role → Tri → Face → Type 0
SharesAs OtherPlane t f = ⊤
SharesAs Later t f = ShareAPlane t f
SharesAs Earlier t f = ShareAPlane t f

-- the cutter may be applied to f: f has an inside point, and lies in the cutter's plane if the role says so
pub record CanCut {W M : Type 0} {G : Ghosts W M} (cutter : Cutter W M G) (f : Face) : Type 0 where
  pub shares : SharesAs cutter.role cutter.tri f
  pub somewhere : HasInside f

-- ---- bounds
-- x / w lies in the interval, and a point in the box
pub record LiesInInterval (s : Interval) (x w : ℤ) : Type 0 where
  pub low : (s.low *ℤ w) ≤ℤ x
  pub high : x ≤ℤ (s.high *ℤ w)

pub record LiesInAabb (b : Aabb) (v : Spot) : Type 0 where
  pub x : LiesInInterval b.x v.x v.w
  pub y : LiesInInterval b.y v.y v.w
  pub z : LiesInInterval b.z v.z v.w

-- the inside of f lies in that of t, and within the bounds
pub record IsBounded (t : Tri) (b : Aabb) (f : Face) : Type 0 where
  pub within : Contains (face_of t) f
  pub bounds : Everywhere f (LiesInAabb b)

-- the second list is the first without some cutting planes whose faces no face with the property meets
pub data OmitsUnmet (P : Face → Type 0) : List CuttingPlane → List CuttingPlane → Type 0 where
  all_seen : OmitsUnmet P [] []
  stays : {b : CuttingPlane} {xs ys : List CuttingPlane} → OmitsUnmet P xs ys → OmitsUnmet P (b ∷ xs) (b ∷ ys)
  goes : {b : CuttingPlane} {xs ys : List CuttingPlane} → ((f : Face) → P f → Meets f b.face → ⊥) →
      OmitsUnmet P xs ys → OmitsUnmet P (b ∷ xs) ys

-- the cutting planes of a list have grown by `bs`, without some whose faces no face with the property meets
abbrev pub AddsCuttingPlanes : {W M : Type 0} {G : Ghosts W M} → (Face → Type 0) → List CuttingPlane →
    List (Cutter W M G) → List (Cutter W M G) → Type 0
AddsCuttingPlanes P bs old new =
    (front : List CuttingPlane) → OmitsUnmet P front (cutting_planes_in old) →
    OmitsUnmet P (front ++ bs) (cutting_planes_in new)

-- what two intervals, and two boxes, have in common
abbrev pub common : Interval → Interval → Interval
common a b = interval_between (int_max a.low b.low) (int_min a.high b.high)

abbrev pub common_of : Aabb → Aabb → Aabb
common_of a b = record { x = common a.x b.x; y = common a.y b.y; z = common a.z b.z }
