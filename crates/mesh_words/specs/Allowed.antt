-- Which options a command takes
use Rattle.std.specs.Prelude.{◌==◌, Bool, List, [], ◌∷◌, Option, Some, None, if◌then◌else◌}
use Rattle.std.specs.List.{list_any}
use Rattle.std.specs.Option.{option_or}
use Rattle.mesh_words.specs.declared.names.Setting.{Setting}
use Rattle.mesh_words.specs.declared.names.Setting.TheVariants as setting
use Rattle.mesh_words.specs.declared.arguments.Argument.{Argument}
use Rattle.mesh_words.specs.declared.arguments.Argument.TheVariants.{File, Value, Quiet, Json, Help}
use Rattle.mesh_words.specs.Names.{rank}

-- ---- the options with values that each command takes
abbrev pub boolean_settings : List Setting
boolean_settings =
    setting.Expression ∷ setting.Output ∷ setting.Format ∷ setting.Step ∷ setting.Workers ∷ setting.Digits ∷
    setting.Page ∷ setting.Keep ∷ setting.Place ∷ setting.Turn ∷ []

abbrev pub snap_settings : List Setting
snap_settings = setting.Folder ∷ setting.Step ∷ []

abbrev pub export_settings : List Setting
export_settings = setting.Scene ∷ setting.Output ∷ setting.Format ∷ setting.Digits ∷ setting.Page ∷ []

abbrev pub view_settings : List Setting
view_settings = setting.Output ∷ []

-- ---- options that a command doesn't take
-- the option is one of these
abbrev pub is_among : List Setting → Setting → Bool
is_among settings s = list_any (λ t. rank t == rank s) settings

-- the option of the argument, if it is none of these
abbrev pub setting_beside : List Setting → Argument → Option Setting
setting_beside settings (Value s text) = if is_among settings s then None else Some s
setting_beside settings (File name) = None
setting_beside settings Quiet = None
setting_beside settings Json = None
setting_beside settings Help = None

-- the first such option
abbrev pub first_beside : List Setting → List Argument → Option Setting
first_beside settings [] = None
first_beside settings (i ∷ more) = option_or (setting_beside settings i) (first_beside settings more)
