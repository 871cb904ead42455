-- Decimals as doubles
use Rattle.std.specs.Prelude.{ℕ, ℤ, List, [], ◌∷◌, Option}
use Rattle.std.specs.Float.{Float, binary64}
use Rattle.fast_float.specs.Parse.{parse_float}
use Rattle.mesh_write.specs.Text.Lines.{coordinate_text}
use Rattle.mesh_write.specs.declared.vertices.point.DecimalPoint.{DecimalPoint}

-- the double that reading the text of so many units of the last of these places gives: the one that is nearest
abbrev pub double_of : ℕ → ℤ → Option Float
double_of places units = parse_float binary64 (coordinate_text places units)

-- those of a point's coordinates
abbrev pub doubles_of : ℕ → DecimalPoint → List (Option Float)
doubles_of places p = double_of places p.x ∷ double_of places p.y ∷ double_of places p.z ∷ []
