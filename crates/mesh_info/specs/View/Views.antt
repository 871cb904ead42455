-- The page that shows surfaces
use Rattle.std.specs.Prelude.{◌≡◌, ℕ, ◌+◌, ◌^◌, ℤ, List, [], ◌∷◌, ◌++◌, flat_map, map}
use Rattle.std.specs.List.{AllZip}
use Rattle.mesh_number.specs.Float.Binary32.{IsNearestBinary32}
use Rattle.mesh_read.specs.declared.surface.surface.Facet.{Facet}
use Rattle.mesh_read.specs.declared.surface.surface.Surface.{Surface}
use Rattle.mesh_write.specs.declared.vertices.point.DecimalPoint.{DecimalPoint}
use Rattle.mesh_write.specs.declared.vertices.point.DecimalTriangle.{DecimalTriangle}
use Rattle.mesh_info.specs.Info.Corners.{triangles_of}
use Rattle.mesh_write.specs.declared.stl.triangle.FloatPoint.{FloatPoint}
use Rattle.mesh_write.specs.declared.stl.triangle.FloatTriangle.{FloatTriangle}
use Rattle.mesh_info.specs.Page.Pages.{page_of}
use Rattle.mesh_info.specs.Page.ReadBack.{IsReadBack}

-- the bits are those of the binary32 nearest to so many trillionths
abbrev pub IsFloatOf : ℤ → ℕ → Type 0
IsFloatOf trillionths bits = IsNearestBinary32 trillionths (10 ^ 12) bits

-- the point, rounded along each axis
pub record IsShownPoint (p : DecimalPoint) (shown : FloatPoint) : Type 0 where
  pub x : IsFloatOf p.x shown.x
  pub y : IsFloatOf p.y shown.y
  pub z : IsFloatOf p.z shown.z

-- the triangle with its corners rounded
pub record IsShown (t : DecimalTriangle) (shown : FloatTriangle) : Type 0 where
  pub a : IsShownPoint t.a shown.a
  pub b : IsShownPoint t.b shown.b
  pub c : IsShownPoint t.c shown.c

-- the triangles with their corners rounded, each of them, in order
abbrev pub AreShown : List DecimalTriangle → List FloatTriangle → Type 0
AreShown ts shown = AllZip IsShown ts shown

-- the number of a triangle's file
abbrev pub of_file : ℕ → Facet → ℕ
of_file number f = number

-- for each triangle of the surfaces the number of its file; the first surface is the file with this number
abbrev pub files_from : ℕ → List Surface → List ℕ
files_from number [] = []
files_from number (s ∷ ss) = map (of_file number) s.facets.items ++ files_from (number + 1) ss

-- files are numbered from 1
abbrev pub files_of : List Surface → List ℕ
files_of surfaces = files_from 1 surfaces

-- the page under this title, with these names of files, that shows the triangles of the surfaces, one surface after
-- another, and from which file each of them is. A reader finds them in it again.
pub record IsView (title : List ℕ) (names : List (List ℕ)) (surfaces : List Surface) (page : List ℕ) : Type 0 where
  pub triangles : List FloatTriangle
  pub are_shown : AreShown (flat_map triangles_of surfaces) triangles
  pub is_page : page ≡ page_of title names triangles (files_of surfaces)
  pub read_back : IsReadBack triangles (files_of surfaces) page
