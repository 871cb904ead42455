-- The scene of n boxes
use Rattle.std.specs.Prelude.{ℕ, ◌%◌, nat_eq, Bool, not, List, ◌++◌, filter, flat_map}
use Rattle.std.specs.List.{range_with_len}
use Rattle.ember_model.specs.declared.tri.Tri.{Tri}
use Rattle.ember_gen.specs.Blocks.{block_of, triangles_of}

abbrev pub is_even : ℕ → Bool
is_even i = nat_eq (i % 2) 0

-- the numbers of the boxes of the two meshes, out of n
abbrev pub evens : ℕ → List ℕ
evens n = filter is_even (range_with_len 0 n)

abbrev pub odds : ℕ → List ℕ
odds n = filter (λ i. not (is_even i)) (range_with_len 0 n)

-- the triangles of these boxes, in order, as those of mesh m
abbrev pub mesh_of : ℕ → List ℕ → List Tri
mesh_of m boxes = flat_map (λ i. triangles_of m (block_of i)) boxes

-- mesh 1 has the boxes with even numbers, and mesh 2 those with odd numbers
unfoldable pub scene_of : ℕ → List Tri
scene_of n = mesh_of 1 (evens n) ++ mesh_of 2 (odds n)
