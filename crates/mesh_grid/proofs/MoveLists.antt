-- The moves of surfaces: one surface more.
use Rattle.std.proofs.Common.{◌≡◌, ◌<◌, ◌≤◌, ℕ, ◌+◌, List, [], ◌∷◌, ◌++◌, map, length, take, get_or, sym, ap, ◌∙◌}
use Rattle.std.proofs.lemmas.List.{take_all, take_more, map-append}
use Rattle.mesh_grid.specs.declared.grid.grid.Grid.{Grid}
use Rattle.mesh_read.specs.declared.surface.surface.Surface.{Surface}
use Rattle.mesh_grid.specs.declared.moves.length.Length.{Length}
use Rattle.mesh_grid.specs.Moves.Shown.{rounded_of, greatest_move, AreMoves}

pub moves_more : (g : Grid) (ss : List Surface) (i : ℕ) (s : Surface) (before after : List Length) (l : Length) →
    i < length ss → AreMoves g (take i ss) before → after ≡ before ++ l ∷ [] → rounded_of l ≡ greatest_move g s →
    s ≡ get_or ss i s → AreMoves g (take (i + 1) ss) after
moves_more g ss i s before after l less h p q is =
    let here = q ∙ ap (greatest_move g) is in
    ap (map rounded_of) p ∙ map-append rounded_of before (l ∷ []) ∙ (λ k. h k ++ here k ∷ [])
    ∙ sym (ap (map (greatest_move g)) (take_more ss i s less)
    ∙ map-append (greatest_move g) (take i ss) (get_or ss i s ∷ []))

pub moves_all : (g : Grid) (ss : List Surface) (i : ℕ) (moves : List Length) → AreMoves g (take i ss) moves → length ss ≤ i → AreMoves g ss moves
moves_all g ss i moves h all = h ∙ ap (map (greatest_move g)) (take_all i ss all)
