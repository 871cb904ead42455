-- The page of a view
use Rattle.std.proofs.Common.{◌≡◌, ℕ, List, flat_map, Result, Ok, Err, IfOk, subst}
use Rattle.std.specs.Global.{Vec}
use Rattle.mesh_read.specs.declared.surface.surface.Surface.{Surface}
use Rattle.mesh_write.specs.declared.stl.triangle.FloatTriangle.{FloatTriangle}
use Rattle.mesh_info.specs.Info.Corners.{triangles_of}
use Rattle.mesh_info.specs.Page.Pages.{page_of}
use Rattle.mesh_info.specs.Page.ReadBack.{IsReadBack}
use Rattle.mesh_info.specs.View.Views.{AreShown, IsView, files_of}

-- a page of the triangles of surfaces and of the numbers of their files is a view of them
pub page_is_view : {E : Type 0} (title : List ℕ) (names : List (List ℕ)) (surfaces : List Surface) (ts : List FloatTriangle) (files : List ℕ)
    (r : Result (Vec ℕ) E) → AreShown (flat_map triangles_of surfaces) ts → files ≡ files_of surfaces →
    IfOk r (λ (page : Vec ℕ). page.items ≡ page_of title names ts files) → IfOk r (λ (page : Vec ℕ). IsReadBack ts files page.items) →
    IfOk r (λ (page : Vec ℕ). IsView title names surfaces page.items)
page_is_view title names surfaces ts files (Ok page) shown are is back = record {
  triangles = ts;
  are_shown = shown;
  is_page = subst (λ (numbers : List ℕ). page.items ≡ page_of title names ts numbers) are is;
  read_back = subst (λ (numbers : List ℕ). IsReadBack ts numbers page.items) are back;
}
page_is_view title names surfaces ts files (Err e) shown are is back = tt
