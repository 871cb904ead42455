use Rattle.std.proofs.Common.{codes, decimal, List, ℕ, ◌++◌, ap, ◌∙◌}
use Rattle.mesh_grid.specs.Moves.Shown.{rounded_of}
use Rattle.mesh_texts.specs.Texts.{line, move_text}
use Rattle.mesh_number.proofs.Appended.{after9, on_ok_same}
use Rattle.mesh_report.proofs.report.put_counts.Goals as goal

pub returns : goal.returns
returns c =
    let n = c.args.counts.now in
    let moved = move_text (rounded_of c.args.moved.now) in
    let rest = after9 (codes ": ") (decimal n.triangles) (codes " triangles, ") (decimal n.vanished)
    (codes " vanished, ") (decimal n.flat) (codes " without area; greatest move ") moved (codes "; closed") _ _ _ _ _
    _ _ _ _ c.in_ok-extend_from_slice.ensures.items c.in_ok-put_count.ensures
    c.in_ok-extend_from_slice-2.ensures.items c.in_ok-put_count-2.ensures c.in_ok-extend_from_slice-3.ensures.items
    c.in_ok-put_count-3.ensures c.in_ok-extend_from_slice-4.ensures.items c.in_ok-put_move.ensures in
    let start = ap (λ (xs : List ℕ). xs ++ (codes ": "
    ++ (decimal n.triangles ++ (codes " triangles, "
    ++ (decimal n.vanished ++ (codes " vanished, "
    ++ (decimal n.flat ++ (codes " without area; greatest move " ++ (moved ++ codes "; closed")))))))))
    c.in_ok-said.ensures.items in
    on_ok_same _ _ _ c.put_line.result c.put_line.ensures
    (ap (λ (xs : List ℕ). c.args.text.now.items ++ line xs) (c.deref.ensures.value ∙ c.in_ok-extend_from_slice-5.ensures.items ∙ rest ∙ start))
