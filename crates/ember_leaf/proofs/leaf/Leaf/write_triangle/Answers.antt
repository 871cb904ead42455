use Rattle.std.proofs.lemmas.List.{nil_from_length}
use Rattle.std.proofs.lemmas.Bool.{eqb-true}
use Rattle.ember_algebra.specs.Relations.{done}
use Rattle.std.proofs.Common.{arith, ◌≡◌, ◌∙◌, ap, [], ◌∷◌, sym, subst, ℕ, List, All, get_or, map, if◌then◌else◌}
use Rattle.ember_poly.specs.Drafts.{face_in}
use Rattle.ember_model.specs.declared.face.Face.{Face}
use Rattle.ember_model.specs.Faces.{is_flat}
use Rattle.ember_expr.specs.Formula.{formula_of}
use Rattle.ember_box.specs.Boxes.{Cell, in_steps}
use Rattle.ember_box.specs.Regions.{walls, IsStart}
use Rattle.ember_box.specs.Regions as regions
use Rattle.ember_leaf.specs.declared.wall.Wall.{Wall}
use Rattle.ember_leaf.specs.EarlierTriangles.{AreEarlierOrCovered}
use Rattle.ember_leaf.specs.Written.{hidden}
use Rattle.ember_leaf.proofs.EarlierTriangles.{is_covered}
use Rattle.ember_leaf.proofs.WrittenRegions.{grown_none, none_started, none_flat}
use Rattle.ember_model.specs.declared.tri.Tri.{Tri}
use Rattle.ember_box.specs.Near.{tri_at}
use Rattle.ember_leaf.specs.KeptRegions.{tris_of}
use Rattle.ember_leaf.proofs.RegionOrder.{own_is, listed_too}
use Rattle.ember_leaf.specs.Walls.{wall_of, IsClippedBy}
use Rattle.ember_leaf.proofs.WallClips.{left_parts}
use Rattle.ember_leaf.specs.Cutters.{owners_in, CanCut, common_of, AreCut}
use Rattle.ember_leaf.proofs.LeafRegions.{leaf_owned, owned_planes, owned_inside, owned_each, all_can}
use Rattle.ember_leaf.proofs.leaf.Leaf.write_triangle.Goals.{then-is_flat-via-then-is_flat, then-is_flat-via-else-is_flat+then-is_outside}
use Rattle.ember_leaf.proofs.leaf.Leaf.write_triangle.Goals as goal

to_start : (c : Cell) (ns : List Tri) (i : ℕ) (ws : List Wall) {t : Tri} {fs : List Face} → t ≡ tri_at ns i →
    map wall_of ws ≡ walls c → IsClippedBy (map wall_of ws) t fs → IsStart c (tri_at ns i) fs
to_start c ns i ws {t} {fs} e w l =
    subst (λ (u : Tri). IsStart c u fs) e (subst (λ (vs : List regions.Wall). IsClippedBy vs t fs) w l)

pub returns-then-is_flat-clause-written : goal.returns-then-is_flat-clause-written
returns-then-is_flat-clause-written g c =
    let s = c.args.self.now in let near = s.near.now in let ns = tris_of near in let i = c.args.i in
    let e = own_is near i c.index-self-i.result c.requires.index in
    grown_none _ c.args.kept.now.items (λ scene h. elim c.then-is_flat.branch [
      | then-is_flat-via-then-is_flat w ↦ none_flat scene (formula_of s.expr.now) (in_steps g.W.Width.scale s.cell.now) ns i
          (sym (ap is_flat e) ∙ sym c.is_flat.ensures ∙ w.if-is_flat.true)
      | then-is_flat-via-else-is_flat+then-is_outside w ↦ none_started scene (formula_of s.expr.now) (in_steps g.W.Width.scale s.cell.now) ns i
          (to_start (in_steps g.W.Width.scale s.cell.now) ns i c.args.walls.now e c.requires.walls (w.is_outside.ensures w.if-is_outside.true))
    ])

pub returns-then-branch-clause-written : goal.returns-then-branch-clause-written
returns-then-branch-clause-written g c =
    let s = c.args.self.now in let near = s.near.now in let ns = tris_of near in let i = c.args.i in let t = (get_or near i c.index-self-i.result).tri in
    let b = c.common_spans-bounds.result in let us = owners_in c.find_cutters_unless_covered.new.list.items in
    let h = subst (AreEarlierOrCovered ns i t b us) c.if-branch.true c.in_ok-find_cutters_unless_covered.ensures.owners in
    grown_none _ c.args.kept.now.items (λ scene f. hidden
    (is_covered ns i t b (own_is near i c.index-self-i.result c.requires.index) (listed_too near i c.requires.index)
    h))

pub find_cutters_unless_covered-requires-clause-target : goal.find_cutters_unless_covered-requires-clause-target
find_cutters_unless_covered-requires-clause-target g c =
    let s = c.args.self.now in
    own_is s.near.now c.args.i c.index-self-i.result c.requires.index

pub regions-requires : goal.regions-requires
regions-requires g c =
    let near = c.args.self.now.near.now in let u = (get_or near c.args.i c.index-self-i.result).tri in let cs = c.find_cutters_unless_covered.new.list.items in
    let l = left_parts u (subst (λ g. IsClippedBy (map wall_of c.args.walls.now) u (g ∷ [])) (sym c.in_ok-ring.ensures)
    (subst (λ b. IsClippedBy (map wall_of c.args.walls.now) u
    (if b then face_in c.clip_to_box.new.draft ∷ [] else [])) c.if-not-branch.false c.in_ok-clip_to_box.ensures.left))
    in
    subst (All (λ v. CanCut v c.in_ok-ring.ring)) (sym c.deref.ensures.value)
    (all_can u c.in_ok-ring.ring cs l.0 c.in_ok-find_cutters_unless_covered.ensures.cutters)

pub add_if_written-requires-clause-regions : goal.add_if_written-requires-clause-regions
add_if_written-requires-clause-regions g c =
    let s = c.args.self.now in let near = s.near.now in let ns = tris_of near in let i = c.args.i in let f = get_or near i c.index-self-i.result in
    let ring = c.in_ok-ring.ring in let b = c.common_spans-bounds.result in let cs =
    c.find_cutters_unless_covered.new.list.items in let k = c.in_ok-find_cutters_unless_covered.ensures in
    let empty : cs ≡ [] = nil_from_length cs (sym c.find_cutters_unless_covered.new.list.ok.0 ∙ eqb-true _ _ (sym c.is_empty.ensures ∙ c.if-is_empty.true)) in
    leaf_owned (in_steps g.W.Width.scale s.cell.now) f ring ns i c.args.walls.now cs b (ring ∷ [])
    (own_is near i c.index-self-i.result c.requires.index) (listed_too near i c.requires.index) c.requires.walls
    (c.common_spans-bounds.ensures ∙ ap (common_of f.aabb) c.requires.aabb)
    (subst (λ g. IsClippedBy (map wall_of c.args.walls.now) f.tri (g ∷ [])) (sym c.in_ok-ring.ensures)
    (subst (λ b. IsClippedBy (map wall_of c.args.walls.now) f.tri
    (if b then face_in c.clip_to_box.new.draft ∷ [] else [])) c.if-not-branch.false c.in_ok-clip_to_box.ensures.left))
    (k.cutting_planes c.if-branch.false) k.cutters
    (subst (AreEarlierOrCovered ns i f.tri b (owners_in cs)) c.if-branch.false k.owners)
    (subst (λ us. AreCut us (ring ∷ []) (ring ∷ [])) (sym empty) done)

pub add_if_written-requires-clause-plane : goal.add_if_written-requires-clause-plane
add_if_written-requires-clause-plane g c =
    let s = c.args.self.now in let ring = c.in_ok-ring.ring in
    owned_planes (in_steps g.W.Width.scale s.cell.now) (tris_of s.near.now) c.args.i (ring ∷ []) (add_if_written-requires-clause-regions g c) 0 ring (omega arith)

pub add_if_written-requires-clause-inside : goal.add_if_written-requires-clause-inside
add_if_written-requires-clause-inside g c =
    let s = c.args.self.now in let ring = c.in_ok-ring.ring in
    owned_inside (in_steps g.W.Width.scale s.cell.now) (tris_of s.near.now) c.args.i (ring ∷ []) (add_if_written-requires-clause-regions g c) 0 ring (omega arith)

pub add_if_written-requires-clause-owner : goal.add_if_written-requires-clause-owner
add_if_written-requires-clause-owner g c =
    let s = c.args.self.now in let ring = c.in_ok-ring.ring in
    owned_each (in_steps g.W.Width.scale s.cell.now) (tris_of s.near.now) c.args.i (ring ∷ []) (add_if_written-requires-clause-regions g c) 0 ring (omega arith)

pub add_written-requires-clause-regions : goal.add_written-requires-clause-regions
add_written-requires-clause-regions g c =
    let s = c.args.self.now in let near = s.near.now in let ns = tris_of near in let i = c.args.i in let f = get_or near i c.index-self-i.result in
    let ring = c.in_ok-ring.ring in let b = c.common_spans-bounds.result in let cs =
    c.find_cutters_unless_covered.new.list.items in let k = c.in_ok-find_cutters_unless_covered.ensures in
    leaf_owned (in_steps g.W.Width.scale s.cell.now) f ring ns i c.args.walls.now cs b c.in_ok-list.list.items
    (own_is near i c.index-self-i.result c.requires.index) (listed_too near i c.requires.index) c.requires.walls
    (c.common_spans-bounds.ensures ∙ ap (common_of f.aabb) c.requires.aabb)
    (subst (λ g. IsClippedBy (map wall_of c.args.walls.now) f.tri (g ∷ [])) (sym c.in_ok-ring.ensures)
    (subst (λ b. IsClippedBy (map wall_of c.args.walls.now) f.tri
    (if b then face_in c.clip_to_box.new.draft ∷ [] else [])) c.if-not-branch.false c.in_ok-clip_to_box.ensures.left))
    (k.cutting_planes c.if-branch.false) k.cutters
    (subst (AreEarlierOrCovered ns i f.tri b (owners_in cs)) c.if-branch.false k.owners)
    (subst (λ us. AreCut us (ring ∷ []) c.in_ok-list.list.items) c.deref.ensures.value c.in_ok-list.ensures)

pub add_written-requires-clause-plane : goal.add_written-requires-clause-plane
add_written-requires-clause-plane g c =
    let s = c.args.self.now in owned_planes (in_steps g.W.Width.scale s.cell.now) (tris_of s.near.now) c.args.i c.in_ok-list.list.items (add_written-requires-clause-regions g c)

pub add_written-requires-clause-inside : goal.add_written-requires-clause-inside
add_written-requires-clause-inside g c =
    let s = c.args.self.now in owned_inside (in_steps g.W.Width.scale s.cell.now) (tris_of s.near.now) c.args.i c.in_ok-list.list.items (add_written-requires-clause-regions g c)

pub add_written-requires-clause-owners : goal.add_written-requires-clause-owners
add_written-requires-clause-owners g c =
    let s = c.args.self.now in owned_each (in_steps g.W.Width.scale s.cell.now) (tris_of s.near.now) c.args.i c.in_ok-list.list.items (add_written-requires-clause-regions g c)

pub returns-then-not-branch-clause-written : goal.returns-then-not-branch-clause-written
returns-then-not-branch-clause-written g c =
    let s = c.args.self.now in let near = s.near.now in let ns = tris_of near in let i = c.args.i in let walls = c.args.walls.now in
    let l = subst (λ b. IsClippedBy (map wall_of walls) (get_or near i c.index-self-i.result).tri
    (if b then face_in c.clip_to_box.new.draft ∷ [] else [])) c.if-not-branch.true c.in_ok-clip_to_box.ensures.left in
    grown_none _ c.args.kept.now.items (λ scene h. none_started scene (formula_of s.expr.now) (in_steps g.W.Width.scale s.cell.now) ns i
    (to_start (in_steps g.W.Width.scale s.cell.now) ns i walls (own_is near i c.index-self-i.result c.requires.index) c.requires.walls l))
