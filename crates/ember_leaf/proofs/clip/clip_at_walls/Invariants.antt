use Rattle.std.proofs.Common.{[], ◌∷◌, map, take}
use Rattle.ember_poly.specs.Drafts.{face_in, HoldsRing}
use Rattle.ember_leaf.specs.Walls.{wall_of, IsClippedBy}
use Rattle.ember_leaf.proofs.clip.clip_at_walls.Given as goal

abbrev pub invariant-loop-wall : goal.invariant-loop-wall
invariant-loop-wall g l =
    HoldsRing g.W.Width.IsPlane g.W.Width.spot l.draft × IsClippedBy (map wall_of (take l.wall-index l.walls)) l.triangle.tri (face_in l.draft ∷ [])
