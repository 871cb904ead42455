-- What a call of `ember-mesh` says of lent files: all files of a solid are there
use Rattle.std.proofs.Common.{ℕ, List, [], ◌∷◌, map, All, subst}
use Rattle.std.proofs.lemmas.List.Elements.{All-head, All-tail}
use Rattle.ember_io.specs.Files.{first_of}
use Rattle.mesh_boolean.specs.declared.files.InputFile.{InputFile}
use Rattle.mesh_boolean.specs.Files.{IsSmall}
use Rattle.mesh_run.specs.Files.{AreFiles}
use Rattle.ember_io.specs.Shelves.{Tells}
use Rattle.ember_call.specs.Lent.{contents_of}
use Rattle.ember_call.proofs.Known.{AreThere, is_there, none_is_there, one_more_is_there}

abbrev IsTold : List (List ℕ × List ℕ) → InputFile → Type 0
IsTold lent file = Tells (contents_of lent file.name.now) file.bytes.now

each_is_there : (lent : List (List ℕ × List ℕ)) (files : List InputFile) → All (IsTold lent) files → All IsSmall files →
    AreThere lent (map (λ (file : InputFile). file.name.now) files)
each_is_there lent [] told small = none_is_there lent
each_is_there lent (file ∷ files) told small =
    one_more_is_there lent file.name.now (map (λ (file : InputFile). file.name.now) files)
    (is_there (first_of lent file.name.now) file.bytes.now (All-head (IsTold lent) file files told) (All-head IsSmall file files small))
    (each_is_there lent files (All-tail (IsTold lent) file files told) (All-tail IsSmall file files small))

-- files of which all is told are there
pub told_files_are_there : (lent : List (List ℕ × List ℕ)) (names : List (List ℕ)) (files : List InputFile) →
    AreFiles (contents_of lent) names files → AreThere lent names
told_files_are_there lent names files are = subst (AreThere lent) are.named (each_is_there lent files are.tells are.small)
