-- Numbers that are read up to a limit
use Rattle.std.specs.Prelude.{ℕ, min}
use Rattle.mesh_read.specs.Off.ReadOff.{Counts}

-- both counts, each the limit if it is larger
abbrev pub capped : ℕ → Counts → ℕ × ℕ
capped limit c = (min limit c.vertices, min limit c.faces)
