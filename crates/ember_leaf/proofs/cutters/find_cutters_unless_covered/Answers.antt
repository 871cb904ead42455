use Rattle.std.proofs.Common.{◌≡◌, ◌+◌, List, ℕ, ap, sym, subst, [], All, flat_map}
use Rattle.std.specs.List.{range_with_len}
use Rattle.std.proofs.lemmas.List.Elements.{All-nil}
use Rattle.ember_algebra.proofs.Numbers.{nat_lt_out, nat_lt_in}
use Rattle.ember_model.specs.declared.tri.Tri.{Tri}
use Rattle.ember_box.specs.declared.aabb.Aabb.{Aabb}
use Rattle.ember_box.specs.Near.{tri_at}
use Rattle.ember_box.specs.Regions.{cutting_planes_at}
use Rattle.ember_width.specs.declared.width.Width.{Ghosts}
use Rattle.ember_leaf.specs.declared.cutter.Cutter.{Cutter}
use Rattle.ember_leaf.specs.KeptRegions.{tris_of}
use Rattle.ember_leaf.specs.Cutters.{cutting_planes_in, owners_in, IsCutterOf, IsBounded, OmitsUnmet, all_seen}
use Rattle.ember_leaf.specs.EarlierTriangles.{AreEarlier}
use Rattle.ember_leaf.proofs.RegionOrder.{own_is, listed_too, all_listed}
use Rattle.ember_leaf.proofs.EarlierTriangles.{none_listed, own_listed, other_listed, cover_found}
use Rattle.ember_leaf.proofs.UnmetPlanes.{own_next, other_next}
use Rattle.ember_leaf.proofs.cutters.find_cutters_unless_covered.Goals.{else-j-i-via-then-j-i+in_ok-add_near_unless_covering+else-branch, else-j-i-via-else-j-i}
use Rattle.ember_leaf.proofs.cutters.find_cutters_unless_covered.Goals as goal

abbrev IsNext : {W M : Type 0} {G : Ghosts W M} → Tri → Aabb → List Tri → ℕ → ℕ → List (Cutter W M G) → Type 0
IsNext t b ts i n cs =
    All (IsCutterOf t) cs × OmitsUnmet (IsBounded t b) (flat_map (cutting_planes_at ts i) (range_with_len 0 n))
    (cutting_planes_in cs) × AreEarlier ts i t b n (owners_in cs)

pub loop-j-init : goal.loop-j-init
loop-j-init g c =
    let t = c.args.target.now.tri in let e = c.clear.ensures.items in (
      subst (All (IsCutterOf t)) (sym e) (All-nil (IsCutterOf t)),
      subst (λ cs. OmitsUnmet (IsBounded t c.args.bounds.now) [] (cutting_planes_in cs)) (sym e) all_seen,
      none_listed (tris_of c.args.near.now) c.args.i t c.args.bounds.now (owners_in c.clear.new.self.items)
          (ap owners_in e),
    )

pub loop-j-preserved : goal.loop-j-preserved
loop-j-preserved g c =
    let t = c.args.target.now.tri in let near = c.args.near.now in let ts = tris_of near in let i = c.args.i in let j = c.loop-j.j in
    let at = c.loop-j.list.items in let b = c.args.bounds.now in let g = c.index-near-j.result in
    elim c.else-j-i.branch [
      | else-j-i-via-then-j-i+in_ok-add_near_unless_covering+else-branch w ↦ let e =
          subst (λ f. f.tri ≡ tri_at ts j) (sym c.index-near-j.is) (own_is near j g c.loop-j-test.true)
          in subst (λ v. IsNext t b ts i (j + 1) v) (sym (ap (λ v. v.items) w.list-is)) (
            w.in_ok-add_near_unless_covering.ensures.cutters,
            other_next ts i j at c.loop-j.invariant.1 w.add_near_unless_covering.new.list.items t g.tri w.if-j-i.true
                c.requires.target e (w.in_ok-add_near_unless_covering.ensures.cutting_planes w.if-branch.false),
            other_listed ts i t b j g.tri _ (owners_in at) (owners_in w.add_near_unless_covering.new.list.items)
                c.loop-j.invariant.2 (nat_lt_out j i) (nat_lt_in j i) (listed_too near j c.loop-j-test.true) e w.if-branch.false
                w.in_ok-add_near_unless_covering.ensures.owners,
          )
      | else-j-i-via-else-j-i w ↦ subst (λ v. IsNext t b ts i (j + 1) v)
          (sym (ap (λ v. v.items) w.list-is)) (
            c.loop-j.invariant.0,
            own_next ts i j at c.loop-j.invariant.1 w.if-j-i.false,
            own_listed ts i t b j (owners_in at) c.loop-j.invariant.2 w.if-j-i.false,
          )
    ]

pub returns-then-branch-clause-owners : goal.returns-then-branch-clause-owners
returns-then-branch-clause-owners g c =
    let near = c.args.near.now in let ts = tris_of near in let i = c.args.i in let j = c.loop-j.j in let g = c.index-near-j.result in
    cover_found ts i c.args.target.now.tri c.args.bounds.now j g.tri _ (owners_in c.loop-j.list.items)
    (owners_in c.add_near_unless_covering.new.list.items) (nat_lt_out j i) (listed_too near j c.loop-j-test.true)
    (subst (λ f. f.tri ≡ tri_at ts j) (sym c.index-near-j.is) (own_is near j g c.loop-j-test.true))
    c.if-branch.true c.in_ok-add_near_unless_covering.ensures.owners

pub returns-clause-cutting_planes : goal.returns-clause-cutting_planes
returns-clause-cutting_planes g c =
    let near = c.args.near.now in let e = all_listed near c.loop-j.j c.loop-j-test.false c.loop-j.auto.j-end in
    λ h. subst (λ (n : ℕ). OmitsUnmet (IsBounded c.args.target.now.tri c.args.bounds.now)
    (flat_map (cutting_planes_at (tris_of near) c.args.i) (range_with_len 0 n))
    (cutting_planes_in c.loop-j.list.items)) e c.loop-j.invariant.1

pub returns-clause-owners : goal.returns-clause-owners
returns-clause-owners g c =
    let near = c.args.near.now in let e = all_listed near c.loop-j.j c.loop-j-test.false c.loop-j.auto.j-end in
    subst (λ (n : ℕ). AreEarlier (tris_of near) c.args.i c.args.target.now.tri c.args.bounds.now n (owners_in c.loop-j.list.items)) e c.loop-j.invariant.2
