-- The names of commands and options
use Rattle.std.specs.Prelude.{ℕ, List, Option, Some, None, codes, if◌then◌else◌}
use Rattle.std.specs.Str.{bytes_eq}
use Rattle.mesh_words.specs.declared.names.Verb.{Verb}
use Rattle.mesh_words.specs.declared.names.Verb.TheVariants as verb
use Rattle.mesh_words.specs.declared.names.Operation.{Operation}
use Rattle.mesh_words.specs.declared.names.Operation.TheVariants as operation
use Rattle.mesh_words.specs.declared.names.Setting.{Setting}
use Rattle.mesh_words.specs.declared.names.Setting.TheVariants as setting

-- the bytes of a word
abbrev pub Text : Type 0
Text = List ℕ

-- the command of this name
abbrev pub verb_of : Text → Option Verb
verb_of name =
    if bytes_eq name (codes "union") then Some (verb.Compute operation.Union)
    else (if bytes_eq name (codes "difference") then Some (verb.Compute operation.Difference)
    else (if bytes_eq name (codes "intersection") then Some (verb.Compute operation.Intersection)
    else (if bytes_eq name (codes "bool") then Some (verb.Compute operation.Expression)
    else (if bytes_eq name (codes "snap") then Some verb.Snap
    else (if bytes_eq name (codes "export") then Some verb.Export
    else (if bytes_eq name (codes "info") then Some verb.Info
    else (if bytes_eq name (codes "view") then Some verb.View
    else (if bytes_eq name (codes "help") then Some verb.Help
    else (if bytes_eq name (codes "--help") then Some verb.Help
    else (if bytes_eq name (codes "-h") then Some verb.Help
    else (if bytes_eq name (codes "--version") then Some verb.Version
    else None)))))))))))

-- the operator between the meshes of the expression, none if it is given by `--expr`
abbrev pub operator_of : Operation → Option Text
operator_of operation.Union = Some (codes "|")
operator_of operation.Difference = Some (codes "&!")
operator_of operation.Intersection = Some (codes "&")
operator_of operation.Expression = None

-- the option of this name that has a value
abbrev pub setting_of : Text → Option Setting
setting_of name =
    if bytes_eq name (codes "--expr") then Some setting.Expression
    else (if bytes_eq name (codes "-o") then Some setting.Output
    else (if bytes_eq name (codes "--format") then Some setting.Format
    else (if bytes_eq name (codes "--step") then Some setting.Step
    else (if bytes_eq name (codes "--workers") then Some setting.Workers
    else (if bytes_eq name (codes "--digits") then Some setting.Digits
    else (if bytes_eq name (codes "-d") then Some setting.Folder
    else (if bytes_eq name (codes "--scene") then Some setting.Scene
    else (if bytes_eq name (codes "--view") then Some setting.Page
    else (if bytes_eq name (codes "--keep") then Some setting.Keep
    else (if bytes_eq name (codes "--place") then Some setting.Place
    else (if bytes_eq name (codes "--turn") then Some setting.Turn
    else None)))))))))))

-- a number of its own for each option
abbrev pub rank : Setting → ℕ
rank setting.Expression = 0
rank setting.Output = 1
rank setting.Step = 2
rank setting.Workers = 3
rank setting.Digits = 4
rank setting.Folder = 5
rank setting.Scene = 6
rank setting.Page = 7
rank setting.Keep = 8
rank setting.Format = 9
rank setting.Place = 10
rank setting.Turn = 11
