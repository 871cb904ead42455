-- Marks at the corners of a line
use Rattle.std.specs.Prelude.{◌≡◌, ℕ, nat_eq, ℤ, pos, ◌+ℤ◌, ◌-ℤ◌, if◌then◌else◌, List}
use Rattle.ember_algebra.specs.Sums.{total}
use Rattle.mesh_certificate.specs.declared.certificate.segment.Segment.{Segment}
use Rattle.mesh_certificate.specs.Certificate.Chains.{one_at, boundary}
use Rattle.mesh_triangles.specs.declared.marks.What.{What}
use Rattle.mesh_triangles.specs.declared.marks.What.TheVariants.{Start, End, Split}
use Rattle.mesh_triangles.specs.declared.marks.Mark.{Mark}

-- how the coefficient of the plane's chain changes there
abbrev pub change : ℕ → What → ℤ
change plane (Start p) = one_at plane p
change plane (End p) = pos 0 -ℤ one_at plane p
change plane Split = pos 0

abbrev pub change_by : ℕ → Mark → ℤ
change_by plane m = change plane m.what

-- the value, if both corners are one, otherwise 0
abbrev pub only_at : ℕ → ℕ → ℤ → ℤ
only_at corner c value = if nat_eq corner c then value else pos 0

-- how the mark changes the coefficient at the corner
abbrev pub change_at : ℕ → ℕ → Mark → ℤ
change_at plane corner m = only_at corner m.corner (change_by plane m)

-- the marks are the starts and ends of the segments, which are on the line
pub record AreMarks (line : ℕ) (ss : List Segment) (ms : List Mark) : Type 0 where
  pub corners : (plane corner : ℕ) → boundary plane line corner ss +ℤ total (change_at plane corner) ms ≡ pos 0
  pub whole : (plane : ℕ) → total (change_by plane) ms ≡ pos 0
