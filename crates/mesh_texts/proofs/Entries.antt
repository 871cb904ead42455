-- Members of objects
use Rattle.std.proofs.Common.{List, ℕ}
use Rattle.mesh_texts.specs.Objects.{Entry}

abbrev pub entry : List ℕ → List ℕ → Entry
entry key value = (key, value)
