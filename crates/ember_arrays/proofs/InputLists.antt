-- The triangles of meshes, one more at a time
use Rattle.std.proofs.Common.{◌≡◌, ℕ, suc, ◌+◌, ◌<◌, List, [], ◌∷◌, ◌++◌, map, length, take, get_or, append_assoc, append-nil, sym, ap, ◌∙◌, arith}
use Rattle.std.proofs.lemmas.List.{length-take-le, take_more}
use Rattle.mesh_grid.specs.declared.grid.grid.Grid.{Grid}
use Rattle.mesh_read.specs.declared.surface.surface.Surface.{Surface}
use Rattle.mesh_scene.specs.Scene.Images.{places_on}
use Rattle.ember_arrays.specs.Sources.{input_at, inputs_from}
use Rattle.ember_arrays.specs.declared.inputs.InputTriangle.{InputTriangle}

-- the triangles of one surface more
inputs_behind : (g : Grid) (n m : ℕ) (ss : List Surface) (s : Surface) → n + length ss ≡ m →
    inputs_from g n (ss ++ s ∷ []) ≡ inputs_from g n ss ++ map (input_at m) (places_on g s)
inputs_behind g n m [] s is =
    let none : n + 0 ≡ m = is in
    let at : n ≡ m = omega (arith, none) in
    append-nil (map (input_at n) (places_on g s)) ∙ ap (λ (k : ℕ). map (input_at k) (places_on g s)) at
inputs_behind g n m (r ∷ ss) s is =
    let one : n + suc (length ss) ≡ m = is in
    let next : (n + 1) + length ss ≡ m = omega (arith, one) in
    let here : List InputTriangle = map (input_at n) (places_on g r) in
    ap (λ (xs : List InputTriangle). here ++ xs) (inputs_behind g (n + 1) m ss s next)
    ∙ sym (append_assoc here (inputs_from g (n + 1) ss) (map (input_at m) (places_on g s)))

pub inputs_more : (g : Grid) (ss : List Surface) (i : ℕ) (d : Surface) (m : ℕ) (before after : List InputTriangle) (places : List ℕ) →
    i < length ss → m ≡ i + 1 → before ≡ inputs_from g 1 (take i ss) → after ≡ before ++ map (input_at m) places →
    places ≡ places_on g (get_or ss i d) → after ≡ inputs_from g 1 (take (i + 1) ss)
inputs_more g ss i d m before after places l at is e from =
    let many = length-take-le i ss (omega (arith, l)) in
    e
    ∙ (λ k. is k ++ map (input_at m) (from k))
    ∙ sym (inputs_behind g 1 m (take i ss) (get_or ss i d) (omega (arith, many, at)))
    ∙ ap (inputs_from g 1) (sym (take_more ss i d l))
