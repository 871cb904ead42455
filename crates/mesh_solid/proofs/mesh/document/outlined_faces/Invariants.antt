use Rattle.std.proofs.Common.{◌≡◌, map, take}
use Rattle.std.specs.List.{All}
use Rattle.mesh_solid.specs.Outline.Rounds.{IsRound}
use Rattle.ember_reread.specs.Cornered.{face_of}
use Rattle.ember_reread.specs.Lines.{face_in}
use Rattle.mesh_solid.proofs.mesh.document.outlined_faces.Given as goal

abbrev pub invariant-loop-number : goal.invariant-loop-number
invariant-loop-number l = record {
  faces : l.faces.items ≡ map face_in (map face_of (take l.number l.written));
  round : All IsRound (map face_of (take l.number l.written));
}
