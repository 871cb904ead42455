use Rattle.std.proofs.Common.{[], ◌∷◌, map, take}
use Rattle.ember_model.specs.Faces.{face_of}
use Rattle.ember_leaf.specs.Walls.{wall_of, IsClippedBy}
use Rattle.ember_leaf.proofs.clip.is_outside.Given as goal

abbrev pub invariant-loop-wall : goal.invariant-loop-wall
invariant-loop-wall g l =
    IsClippedBy (map wall_of (take l.wall-index l.walls)) l.triangle.tri (face_of l.triangle.tri ∷ [])
