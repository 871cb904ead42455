use Rattle.std.proofs.Common.{◌≡◌, ◌+◌, ◌∙◌, sym, ap, subst, List, Option, [], ◌∷◌, ◌++◌, length, take}
use Rattle.std.specs.List.{All, AllZip}
use Rattle.std.proofs.lemmas.List.{take_more}
use Rattle.ember_algebra.proofs.Lists.{AllZip-push}
use Rattle.ember_model.specs.Valid.{IsValidTri}
use Rattle.mesh_certificate.specs.declared.certificate.triangle.Triangle.{Triangle}
use Rattle.mesh_sources.specs.declared.items.Item.{Item}
use Rattle.mesh_sources.specs.declared.nodes.Node.{Node}
use Rattle.mesh_sources.specs.declared.source.Source.{Source}
use Rattle.mesh_sources.specs.Nodes.{AreNodes, AreItems, items_in}
use Rattle.mesh_sources.specs.Sources.{facet_of, IsTriangleSource}
use Rattle.mesh_sources.proofs.Sourced.{nodes_valid, triangle_source}
use Rattle.mesh_sources.proofs.sources.sources_of.Goals as goal

pub source_of-requires-clause-nodes : goal.source_of-requires-clause-nodes
source_of-requires-clause-nodes c =
    subst (λ (ns : List Node). AreNodes ns) (sym c.deref-in-loop-t.ensures.value) c.in_ok-nodes.ensures.nodes

pub source_of-requires-clause-valid : goal.source_of-requires-clause-valid
source_of-requires-clause-valid c =
    let scene = c.args.scene.now in
    let items = subst (λ (its : List Item). AreItems scene (length scene) its)
    (sym (c.in_ok-nodes.ensures.items ∙ c.deref.ensures.value)) c.in_ok-items.ensures in
    subst (λ (ns : List Node). All (λ (n : Node). IsValidTri n.item.tri) ns) (sym c.deref-in-loop-t.ensures.value)
    (nodes_valid scene (length scene) c.in_ok-nodes.nodes.items items)

pub loop-t-preserved : goal.loop-t-preserved
loop-t-preserved c =
    let scene = c.args.scene.now in let points = c.args.points.now in let planes = c.args.planes.now in
    let ts = c.args.triangles.now in let at = c.loop-t in let t = c.t-item.result in let s = c.source_of.result in
    let R = IsTriangleSource scene points planes in
    let items = subst (λ (its : List Item). AreItems scene (length scene) its)
    (sym (c.in_ok-nodes.ensures.items ∙ c.deref.ensures.value)) c.in_ok-items.ensures in
    let nodes = subst (λ (ns : List Node). AreItems scene (length scene) (items_in ns)) (sym c.deref-in-loop-t.ensures.value) items in
    let is = triangle_source scene c.deref-in-loop-t.result.now nodes (facet_of points planes t) s c.source_of.ensures in
    let more : take (at.t-index + 1) ts ≡ take at.t-index ts ++ t ∷ [] =
    take_more ts at.t-index t c.loop-t-test.true ∙ ap (λ (u : Triangle). take at.t-index ts ++ u ∷ []) (sym c.t-item.is) in
    subst (λ (us : List Triangle). AllZip R us c.push.new.self.items) (sym more)
    (subst (λ (os : List (Option Source)). AllZip R (take at.t-index ts ++ t ∷ []) os) (sym c.in_ok-push.ensures.items)
    (AllZip-push R (take at.t-index ts) at.sources.items t s at.invariant is))
