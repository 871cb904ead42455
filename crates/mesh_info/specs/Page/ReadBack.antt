-- What a reader finds in a page
use Rattle.std.specs.Prelude.{◌≡◌, ℕ, ◌*◌, List, ◌++◌, length, map, Ok}
use Rattle.base64.specs.Engines.{standard}
use Rattle.base64.specs.GeneralPurpose.{decode_of}
use Rattle.mesh_write.specs.Glb.ReadBack.{points_at, corner_points}
use Rattle.mesh_write.specs.declared.stl.triangle.FloatTriangle.{FloatTriangle}
use Rattle.mesh_info.specs.declared.page.head.TheConstants.{CONTROLS, FILES}
use Rattle.mesh_info.specs.declared.page.counts.TheConstants.{COUNTS}
use Rattle.mesh_info.specs.declared.page.drawing.TheConstants.{DRAWING}
use Rattle.mesh_info.specs.Page.Pages.{file_byte}

-- two texts stand between the parts that are the same in each page. The first one, decoded, has the corners of the
-- triangles, in order, and the second one the numbers of their files, as bytes
pub record IsReadBack (ts : List FloatTriangle) (files page : List ℕ) : Type 0 where
  pub front : List ℕ
  pub text : List ℕ
  pub file_text : List ℕ
  pub found : page ≡ (front ++ CONTROLS.now) ++ (text ++ (FILES.now ++ (file_text ++ (COUNTS.now ++ DRAWING.now))))
  pub numbers : List ℕ
  pub decoded : decode_of standard text ≡ Ok numbers
  pub corners : points_at numbers 0 (3 * length ts) ≡ corner_points ts
  pub files_decoded : decode_of standard file_text ≡ Ok (map file_byte files)
