-- What a command that was read keeps
use Rattle.std.specs.Prelude.{⊤, ◌<◌, ◌≤◌, ◌≤ℤ◌, pos, neg_ℤ, List, length, All, IfSome}
use Rattle.std.specs.Int.{IsInRange}
use Rattle.clap.specs.Walk.{Text}
use Rattle.ember_model.specs.Valid.{IsValidSpot}
use Rattle.ember_words.specs.declared.command.Command.{Command}
use Rattle.ember_words.specs.declared.command.Command.TheVariants as command

abbrev pub IsNonempty : Text → Type 0
IsNonempty text = 0 < length text

-- at most 64 names, none of them empty
abbrev pub AreNames : List Text → Type 0
AreNames names = (length names ≤ 64) × All IsNonempty names

-- the numbers are within their limits, the point is valid, and no text is empty
abbrev pub IsWithinLimits : Command → Type 0
IsWithinLimits (command.Faces places file) = (places ≤ 3) × IsNonempty file
IsWithinLimits (command.At point expr places files) =
    IsValidSpot point × IfSome expr IsNonempty × (places ≤ 3) × AreNames files
IsWithinLimits (command.Boole expr workers places report files) =
    IsNonempty expr × IsInRange 1 64 workers × (places ≤ 3) × AreNames files
IsWithinLimits (command.Demo boxes workers) = IsInRange 1 20000 boxes × IsInRange 1 64 workers
IsWithinLimits (command.Voxels expr size workers places files) =
    IsNonempty expr × IsInRange 4 12 size × IsInRange 1 64 workers × (places ≤ 3) × AreNames files
IsWithinLimits (command.Pairs workers places files) = IsInRange 1 64 workers × (places ≤ 3) × AreNames files
IsWithinLimits (command.Slice height file) = (neg_ℤ (pos 2048) ≤ℤ height) × (height ≤ℤ pos 2047) × IsNonempty file

-- if a command may name several files, it names one at least
abbrev pub NamesFiles : Command → Type 0
NamesFiles (command.Faces places file) = ⊤
NamesFiles (command.At point expr places files) = 1 ≤ length files
NamesFiles (command.Boole expr workers places report files) = 1 ≤ length files
NamesFiles (command.Demo boxes workers) = ⊤
NamesFiles (command.Voxels expr size workers places files) = 1 ≤ length files
NamesFiles (command.Pairs workers places files) = 1 ≤ length files
NamesFiles (command.Slice height file) = ⊤
