use Rattle.std.proofs.Common.{subst}
use Rattle.ember_width.proofs.TakenPlanes.{edges_taken}
use Rattle.ember_leaf.specs.Contact.{IsContact}
use Rattle.ember_leaf.proofs.Contacts.{parting_unmet, contact_met}
use Rattle.ember_leaf.proofs.RegionCuts.{never, true_iff_given}
use Rattle.ember_leaf.proofs.CoplanarFaces.{meets_flat}
use Rattle.ember_leaf.proofs.regions.is_met_coplanar.Goals as goal

pub returns-in-Apart : goal.returns-in-Apart
returns-in-Apart g c =
    let u = c.args.cutter.now in let o = c.outline.ensures in
    never (parting_unmet g.W.Width.spot c.args.r.now _ _ o.outline o.paired u.tri u.normal (subst (IsContact _ u.tri) c.in-Apart.is c.contact_of.ensures))

pub returns-in-Met : goal.returns-in-Met
returns-in-Met g c =
    let u = c.args.cutter.now in let o = c.outline.ensures in
    true_iff_given (contact_met g.W.Width.spot c.args.r.now _ _ o.outline o.paired u.tri u.normal c.requires.somewhere c.requires.plane
    (subst (IsContact _ u.tri) c.in-Met.is c.contact_of.ensures))

pub returns-in-Unknown : goal.returns-in-Unknown
returns-in-Unknown g c =
    let u = c.args.cutter.now in
    meets_flat c.args.r.now u u.edges c.requires.plane c.requires.somewhere u.face u.edge_planes c.has_point_within.ensures

pub contact_of-requires-clause-edges : goal.contact_of-requires-clause-edges
contact_of-requires-clause-edges g c = λ i d l. g.met.W.Width.is_broad _ (c.outline.ensures.valid i d l)

pub has_point_within-requires-clause-planes : goal.has_point_within-requires-clause-planes
has_point_within-requires-clause-planes g c = edges_taken g.met.W.Width.takes _ c.args.cutter.now.edges_sized
