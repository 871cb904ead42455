use Rattle.std.proofs.Common.{◌+◌, sym, subst, [], ◌∷◌, take, map, if◌then◌else◌}
use Rattle.ember_box.specs.Regions.{AreLeftByWall}
use Rattle.ember_poly.specs.Drafts.{face_in, HoldsRing}
use Rattle.ember_leaf.specs.Walls.{wall_of, IsClippedBy}
use Rattle.ember_leaf.proofs.WallClips.{left_begun, left_next, left_stay, left_ended, left_nothing}
use Rattle.ember_leaf.proofs.clip.clip_at_walls.Goals.{in-Whole, in-Unknown+in_ok-clip_at_wall-in-Unknown+else-not-branch}
use Rattle.ember_leaf.proofs.clip.clip_at_walls.Goals as goal

pub loop-wall-init : goal.loop-wall-init
loop-wall-init g c = (c.requires.ring, left_begun c.args.triangle.now.tri c.requires.normal c.requires.whole)

pub returns-in-Nothing-clause-left : goal.returns-in-Nothing-clause-left
returns-in-Nothing-clause-left g c =
    left_nothing c.args.triangle.now.tri c.args.walls.now c.loop-wall.wall-index c.wall-item.result
    (face_in c.loop-wall.draft) c.loop-wall-test.true c.wall-item.is c.loop-wall.invariant.1 c.remainder_at.ensures
    c.in-Nothing.is

pub returns-then-not-branch-clause-left : goal.returns-then-not-branch-clause-left
returns-then-not-branch-clause-left g c =
    let f = face_in c.loop-wall.draft in let g = face_in c.clip_at_wall.new.draft in
    left_ended c.args.triangle.now.tri c.args.walls.now c.loop-wall.wall-index c.wall-item.result f
    c.loop-wall-test.true c.wall-item.is c.loop-wall.invariant.1
    (subst (λ b. AreLeftByWall (wall_of c.wall-item.result) f (if b then g ∷ [] else [])) c.if-not-branch.true
    c.in_ok-clip_at_wall-in-Unknown.ensures.left)

pub loop-wall-preserved : goal.loop-wall-preserved
loop-wall-preserved g c =
    let t = c.args.triangle.now.tri in let ws = c.args.walls.now in let i = c.loop-wall.wall-index in let f =
    face_in c.loop-wall.draft in let r = c.loop-wall.invariant in
    elim c.match-remainder_at.branch [
      | in-Whole w ↦ subst (λ d. HoldsRing g.W.Width.IsPlane g.W.Width.spot d × IsClippedBy (map wall_of (take (i + 1) ws)) t (face_in d ∷ []))
          (sym w.draft-is) (
            r.0,
            left_stay t ws i c.wall-item.result f c.loop-wall-test.true c.wall-item.is r.1
                c.remainder_at.ensures w.in-Whole.is,
          )
      | in-Unknown+in_ok-clip_at_wall-in-Unknown+else-not-branch w ↦ let h = face_in w.clip_at_wall.new.draft in let k =
          w.in_ok-clip_at_wall-in-Unknown.ensures in
          subst (λ d. HoldsRing g.W.Width.IsPlane g.W.Width.spot d × IsClippedBy (map wall_of (take (i + 1) ws)) t (face_in d ∷ [])) (sym w.draft-is) (
            k.ring,
            left_next t ws i c.wall-item.result f c.loop-wall-test.true c.wall-item.is r.1 (h ∷ [])
                (subst (λ b. AreLeftByWall (wall_of c.wall-item.result) f (if b then h ∷ [] else [])) w.if-not-branch.false
                k.left),
          )
    ]

pub clip_at_wall-requires-clause-wall : goal.clip_at_wall-requires-clause-wall
clip_at_wall-requires-clause-wall g c =
    subst (λ w. g.W.Width.IsPlane (wall_of w).plane) (sym c.wall-item.is) (c.requires.walls c.loop-wall.wall-index _ c.loop-wall-test.true)
