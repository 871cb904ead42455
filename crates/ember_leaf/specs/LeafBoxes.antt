-- What is written of a leaf box, by what is known of the box
use Rattle.std.specs.Prelude.{ℕ, List}
use Rattle.ember_model.specs.declared.face.Face.{Face}
use Rattle.ember_expr.specs.Formula.{formula_of}
use Rattle.ember_width.specs.declared.width.Width.{Ghosts}
use Rattle.ember_box.specs.Boxes.{in_steps}
use Rattle.ember_leaf.specs.declared.kept.Kept.{Kept}
use Rattle.ember_leaf.specs.declared.leaf.Leaf.{Leaf}
use Rattle.ember_leaf.specs.KeptRegions.{tris_of}
use Rattle.ember_leaf.specs.Written.{IsWrittenOfRegion, IsWrittenOf, WhereFitsWithin, HasGrown}

-- these are written of a region of triangle i
abbrev pub WritesRegion : {W M : Type 0} {G : Ghosts W M} → Leaf W M G → ℕ → Face → List (Kept W M) → Type 0
WritesRegion {W} {M} {G} l i f ks =
    WhereFitsWithin G.corner G.fine (tris_of l.near.now) (in_steps G.scale l.cell.now) l.windings.now.counts (λ scene.
    IsWrittenOfRegion scene (formula_of l.expr.now) (tris_of l.near.now) i f) ks

-- a list has grown by the written regions of triangle i
abbrev pub AddsWritten : {W M : Type 0} {G : Ghosts W M} → Leaf W M G → ℕ → List (Kept W M) → List (Kept W M) → Type 0
AddsWritten {W} {M} {G} l i old new =
    HasGrown (WhereFitsWithin G.corner G.fine (tris_of l.near.now) (in_steps G.scale l.cell.now) l.windings.now.counts
    (λ scene. IsWrittenOf scene (formula_of l.expr.now) (in_steps G.scale l.cell.now) (tris_of l.near.now) i)) old new
