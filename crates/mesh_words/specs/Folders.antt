-- The names of the files that are written into a folder
use Rattle.std.specs.Prelude.{ℕ, zero, suc, ◌+◌, List, [], ◌∷◌, ◌++◌, codes, decimal}
use Rattle.mesh_words.specs.Names.{Text}

-- the name of a file in a folder
abbrev pub in_folder : Text → Text → Text
in_folder folder name = folder ++ (codes "/" ++ name)

-- the mesh with the number i, from 1, on the grid
abbrev pub mesh_name : Text → ℕ → Text
mesh_name folder i = in_folder folder (decimal i ++ codes ".obj")

-- the grid
abbrev pub scene_name : Text → Text
scene_name folder = in_folder folder (codes "scene.json")

-- the document
abbrev pub document_name : Text → Text
document_name folder = in_folder folder (codes "doc.txt")

-- ---- all of them
-- the meshes 1 to n
abbrev pub mesh_names : Text → ℕ → List Text
mesh_names folder zero = []
mesh_names folder (suc n) = mesh_names folder n ++ mesh_name folder (n + 1) ∷ []

-- and the grid
abbrev pub scene_names : Text → ℕ → List Text
scene_names folder n = mesh_names folder n ++ scene_name folder ∷ []

-- and the document
abbrev pub kept_names : Text → ℕ → List Text
kept_names folder n = scene_names folder n ++ document_name folder ∷ []
