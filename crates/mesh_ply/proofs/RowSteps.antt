-- The rows of an element, one after another
use Rattle.std.proofs.Common.{◌≡◌, ◌⊎◌, inl, inr, ℕ, zero, suc, ◌<◌, ◌+◌, ◌-◌, List, sym, ap, ◌∙◌, arith, Result, Ok, Err}
use Rattle.mesh_read.specs.Surface.Surfaces.{Content}
use Rattle.mesh_ply.specs.declared.declarations.Element.{Element}
use Rattle.mesh_ply.specs.declared.declarations.Declaration.{Declaration}
use Rattle.mesh_ply.specs.declared.place.RowPlace.{RowPlace}
use Rattle.mesh_ply.specs.declared.fault.PlyFault.{PlyFault}
use Rattle.mesh_ply.specs.declared.fault.PlyFault.TheVariants.{OutOfMemory}
use Rattle.mesh_ply.specs.Cursors.{Cursor}
use Rattle.mesh_ply.specs.Rows.{and_then, Row, row_at}
use Rattle.mesh_ply.specs.ReadPly.{with_row, place_of, rows_from}
use Rattle.mesh_ply.proofs.Steps.{first_read, first_fault}

-- one row more
pub rows_more : (all : Result (Content × Cursor) PlyFault) (element : Element) (ds : List Declaration) (number left : ℕ)
    (content new : Content) (c rest : Cursor) (place : RowPlace) (row : Row) → 0 < left →
    all ≡ rows_from element ds number left content c → place ≡ place_of element number content →
    row_at place ds c ≡ Ok (row, rest) → with_row element.kind number content row ≡ Ok new →
    all ≡ rows_from element ds (number + 1) (left - 1) new rest
rows_more all element ds number zero content new c rest place row some so_far at read is = absurd (omega arith)
rows_more all element ds number (suc left) content new c rest place row some so_far at read is =
    let less : suc left - 1 ≡ left = omega arith in
    so_far
    ∙ first_read (row_at (place_of element number content) ds c) (row, rest)
    (λ r. and_then (with_row element.kind number content r.0) (λ k. rows_from element ds (number + 1) left k r.1))
    (ap (λ p. row_at p ds c) (sym at) ∙ read)
    ∙ first_read (with_row element.kind number content row) new (λ k. rows_from element ds (number + 1) left k rest) is
    ∙ ap (λ n. rows_from element ds (number + 1) n new rest) (sym less)

-- a row that isn't read
pub rows_short : (all : Result (Content × Cursor) PlyFault) (element : Element) (ds : List Declaration)
    (number left : ℕ) (content : Content) (c : Cursor) (place : RowPlace) (fault : PlyFault) → 0 < left →
    all ≡ rows_from element ds number left content c → place ≡ place_of element number content →
    (fault ≡ OutOfMemory) ⊎ (row_at place ds c ≡ Err fault) → (fault ≡ OutOfMemory) ⊎ (all ≡ Err fault)
rows_short all element ds number left content c place fault some so_far at (inl memory) = inl memory
rows_short all element ds number zero content c place fault some so_far at (inr read) = absurd (omega arith)
rows_short all element ds number (suc left) content c place fault some so_far at (inr read) =
    inr (so_far ∙ first_fault (row_at (place_of element number content) ds c) fault
    (λ r. and_then (with_row element.kind number content r.0) (λ k. rows_from element ds (number + 1) left k r.1))
    (ap (λ p. row_at p ds c) (sym at) ∙ read))

-- a row that is read, and isn't taken
pub rows_fault : (all : Result (Content × Cursor) PlyFault) (element : Element) (ds : List Declaration)
    (number left : ℕ) (content : Content) (c rest : Cursor) (place : RowPlace) (row : Row) (fault : PlyFault) → 0 < left →
    all ≡ rows_from element ds number left content c → place ≡ place_of element number content →
    row_at place ds c ≡ Ok (row, rest) → (fault ≡ OutOfMemory) ⊎ (with_row element.kind number content row ≡ Err fault) →
    (fault ≡ OutOfMemory) ⊎ (all ≡ Err fault)
rows_fault all element ds number left content c rest place row fault some so_far at read (inl memory) = inl memory
rows_fault all element ds number zero content c rest place row fault some so_far at read (inr is) = absurd (omega arith)
rows_fault all element ds number (suc left) content c rest place row fault some so_far at read (inr is) =
    inr (so_far
    ∙ first_read (row_at (place_of element number content) ds c) (row, rest)
    (λ r. and_then (with_row element.kind number content r.0) (λ k. rows_from element ds (number + 1) left k r.1))
    (ap (λ p. row_at p ds c) (sym at) ∙ read)
    ∙ first_fault (with_row element.kind number content row) fault (λ k. rows_from element ds (number + 1) left k rest) is)
