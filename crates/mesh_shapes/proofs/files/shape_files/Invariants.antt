use Rattle.std.proofs.Common.{◌≡◌, ℕ, ◌<◌, get_or, string_bytes, String, Global, None}
use Rattle.std.specs.Prelude.{All}
use Rattle.ember_io.specs.Files.{named, first_of}
use Rattle.mesh_shapes.specs.Shapes.{IsShapeFile, IsNoFile}
use Rattle.mesh_shapes.proofs.files.shape_files.Given as goal

abbrev pub invariant-loop-word : goal.invariant-loop-word
invariant-loop-word l = record {
  each : All IsShapeFile (named l.files.items);
  all : (k : ℕ) → k < l.word-index → (d : String Global) → first_of (named l.files.items) (string_bytes (get_or l.words k d)) ≡ None →
      IsNoFile (string_bytes (get_or l.words k d));
}
