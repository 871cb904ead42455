use Rattle.std.proofs.Common.{◌≡◌, false, refl, sym, subst, ◌∙◌}
use Rattle.std.proofs.lemmas.Bool.{false≢true}
use Rattle.ember_box.specs.Aabbs.{aabb_of_tri, aabbs_meet}
use Rattle.ember_pairs.specs.ByEdges.{IsByEdges}
use Rattle.ember_pairs.proofs.DisjointAabbs.{boxes_apart}
use Rattle.ember_pairs.proofs.meetings.are_meeting.Goals as goal

pub returns-then-not-aabbs_meet : goal.returns-then-not-aabbs_meet
returns-then-not-aabbs_meet c =
    let t = c.args.t.now in let u = c.args.u.now in
    let e : aabbs_meet (aabb_of_tri t) (aabb_of_tri u) ≡ false =
    (λ i. aabbs_meet (sym c.requires.facet i).aabb (sym c.requires.other_facet i).aabb) ∙ sym c.aabbs_meet.ensures
    ∙ c.if-not-aabbs_meet.true in
    (λ r. absurd (false≢true r), λ m. absurd (boxes_apart t u e m))

pub returns-in-Apart : goal.returns-in-Apart
returns-in-Apart c =
    (λ r. absurd (false≢true r), λ m. absurd (subst (λ b. IsByEdges c.args.t.now c.args.u.now b) c.in-Apart.is c.by_edges.ensures m))

pub returns-in-Met : goal.returns-in-Met
returns-in-Met c =
    (λ r. subst (λ b. IsByEdges c.args.t.now c.args.u.now b) c.in-Met.is c.by_edges.ensures, λ m. refl)
