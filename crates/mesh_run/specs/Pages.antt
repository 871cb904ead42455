-- The page that shows meshes
use Rattle.std.specs.Prelude.{ℕ, List, [], ◌∷◌, ◌++◌, codes}
use Rattle.std.specs.declared.option.Option.{Option}
use Rattle.mesh_read.specs.declared.surface.surface.Surface.{Surface}
use Rattle.mesh_info.specs.View.Views.{IsView}
use Rattle.mesh_run.specs.Files.{AreReadAs}

-- each of the names behind a comma
abbrev pub names_behind : List (List ℕ) → List ℕ
names_behind [] = []
names_behind (name ∷ names) = codes ", " ++ (name ++ names_behind names)

-- the names with commas between them
abbrev pub title_of : List (List ℕ) → List ℕ
title_of [] = []
title_of (name ∷ names) = name ++ names_behind names

-- the files with these names are read, and the page shows their surfaces under their names
pub record IsPageOf (told : List ℕ → Option (List ℕ)) (names : List (List ℕ)) (page : List ℕ) : Type 0 where
  pub surfaces : List Surface
  pub read : AreReadAs told names surfaces
  pub shows : IsView (title_of names) names surfaces page
