-- The limits, by name
use Rattle.std.specs.Prelude.{ℕ}

-- boxes of a demonstration scene
abbrev pub most_demo_boxes : ℕ
most_demo_boxes = 20000
