use Rattle.std.proofs.Common.{codes, List, ℕ, ◌++◌, ap, refl}
use Rattle.mesh_number.proofs.Appended.{on_ok_if, on_ok_same}
use Rattle.mesh_refusal.proofs.lines.put_scene_why.Goals as goal

pub returns-in-StepOfNoGrid : goal.returns-in-StepOfNoGrid
returns-in-StepOfNoGrid c =
    let put = c.put_value in
    rw c.in-StepOfNoGrid.is
    (on_ok_same _ _ _ put.result put.ensures
    (ap (λ (step : List ℕ). c.args.text.now.items
    ++ (codes "--step " ++ (step ++ codes ": no grid has this step; give at most 12 digits and 12 decimal places")))
    c.wanted_text.ensures))

pub returns-in-NoTriangles : goal.returns-in-NoTriangles
returns-in-NoTriangles c = rw c.in-NoTriangles.is (on_ok_if _ _ c.extend_from_slice.result c.extend_from_slice.ensures.items refl)
