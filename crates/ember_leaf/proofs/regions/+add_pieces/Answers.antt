use Rattle.std.proofs.Common.{◌-◌, arith, sym, subst, pos, List, length, take, drop, get_or}
use Rattle.ember_model.specs.declared.plane.Plane.{Plane}
use Rattle.ember_leaf.specs.Written.{HasGrown}
use Rattle.ember_leaf.specs.Cutters.{CutOutTriangle, AreLeftByEdges}
use Rattle.ember_poly.specs.Cuts.{IsReach}
use Rattle.ember_leaf.proofs.Pieces.{above_grown, low_is_cut_out, all_under, cut_out_dropped, cut_out_left, whole_grown}
use Rattle.ember_leaf.proofs.Pieces.{parts_grown, first_rest, rest_shorter, rest_all, no_first}
use Rattle.ember_leaf.proofs.regions.+add_pieces.Goals as goal

abbrev no_plane : Plane
no_plane = record { a = pos 0; b = pos 0; c = pos 0; d = pos 0 }

abbrev first : List Plane → Plane
first es = get_or es 0 no_plane

abbrev rest : List Plane → List Plane
rest es = take (length es - 1) (drop 1 es)

pub add_pieces-requires : goal.add_pieces-requires
add_pieces-requires g t c =
    let es = c.args.edges.now in let u = c.args.cutter.now.tri in let r = c.args.r in let k = c.in_ok-low-in-Both in let l = c.in-len1-up.len_at_least in
    let h = subst (λ ps. CutOutTriangle u ps r) (sym (first_rest es no_plane l)) c.requires.cut_out in let s = rest_shorter es l in
    λ κs lives. (
      omega (arith, s),
      (
        lives.0,
        (
          lives.1,
          (rest_all g.W.Width.IsPlane es no_plane l c.requires.valid, low_is_cut_out u (first es) (rest es) r k.low k.high h k.ensures),
        ),
      ),
    )

pub add_pieces-requires-in_default-reach : goal.add_pieces-requires-in_default-reach
add_pieces-requires-in_default-reach g t c =
    let es = c.args.edges.now in let u = c.args.cutter.now.tri in let r = c.args.r in let l = c.in-len1-up.len_at_least in
    let h = subst (λ ps. CutOutTriangle u ps r) (sym (first_rest es no_plane l)) c.requires.cut_out in let s = rest_shorter es l in λ κs lives. (
      omega (arith, s),
      (
        lives.0,
        (
          lives.1,
          (
            rest_all g.W.Width.IsPlane es no_plane l c.requires.valid,
            all_under u (first es) (rest es) r h c.reach.result c.reach.ensures c.in_default-reach.not-Both,
          ),
        ),
      ),
    )

pub returns-in-Earlier : goal.returns-in-Earlier
returns-in-Earlier g t c =
    let u = c.args.cutter.now in let r = c.args.r in let old = c.args.out.now.items in let e = no_first c.args.edges.now c.in-empty.len_below in
    subst (λ ps. HasGrown (AreLeftByEdges u ps r) old old) (sym e)
    (cut_out_dropped u r old c.in-Earlier.is (subst (λ ps. CutOutTriangle u.tri ps r) e c.requires.cut_out))

pub returns-in_ok-push-in_default : goal.returns-in_ok-push-in_default
returns-in_ok-push-in_default g t c =
    let u = c.args.cutter.now in let r = c.args.r in let old = c.args.out.now.items in let new = c.push.new.self.items in
    subst (λ ps. HasGrown (AreLeftByEdges u ps r) old new) (sym (no_first c.args.edges.now c.in-empty.len_below))
    (cut_out_left u r old new c.in_default.not-Earlier c.in_ok-push-in_default.ensures.items)

pub needs_no_inner_part-requires : goal.needs_no_inner_part-requires
needs_no_inner_part-requires g t c =
    rest_all g.W.Width.IsPlane c.args.edges.now no_plane c.in-len1-up.len_at_least c.requires.valid

pub returns-in_ok-push-in-Both : goal.returns-in_ok-push-in-Both
returns-in_ok-push-in-Both g t c =
    let es = c.args.edges.now in let u = c.args.cutter.now in let r = c.args.r in let old = c.args.out.now.items in
    let e = first_rest es no_plane c.in-len1-up.len_at_least in let h = subst (λ ps. CutOutTriangle u.tri ps r) (sym e) c.requires.cut_out in
    let w = c.needs_no_inner_part.ensures c.if-needs_no_inner_part.true in let k = subst (λ k. IsReach r (first es) k) c.in-Both.is c.reach.ensures in
    let new = c.push-then-needs_no_inner_part.new.self.items in
    subst (λ ps. HasGrown (AreLeftByEdges u ps r) old new) e
    (above_grown u (first es) (rest es) r c.in_ok-above-in-Both.field-0 old new w.0 h k w.1
    c.in_ok-above-in-Both.ensures c.in_ok-push-in-Both.ensures.items)

pub returns-in_ok-push-in-Both-2 : goal.returns-in_ok-push-in-Both-2
returns-in_ok-push-in-Both-2 g t c =
    let es = c.args.edges.now in let u = c.args.cutter.now in let r = c.args.r in let old = c.args.out.now.items in let k = c.in_ok-low-in-Both in
    let e = first_rest es no_plane c.in-len1-up.len_at_least in let h = subst (λ ps. CutOutTriangle u.tri ps r) (sym e) c.requires.cut_out in
    let mid = c.add_pieces.new.out.items in let new = c.push-else-needs_no_inner_part.new.self.items in
    subst (λ ps. HasGrown (AreLeftByEdges u ps r) old new) e
    (parts_grown u (first es) (rest es) r k.low k.high old mid new h k.ensures c.in_ok-add_pieces-in-Both.ensures
    c.in_ok-push-in-Both-2.ensures.items)

pub returns-in_ok-add_pieces-in_default-reach : goal.returns-in_ok-add_pieces-in_default-reach
returns-in_ok-add_pieces-in_default-reach g t c =
    let es = c.args.edges.now in let u = c.args.cutter.now in let r = c.args.r in let old = c.args.out.now.items in
    let new = c.add_pieces-in_default-reach.new.out.items in
    let e = first_rest es no_plane c.in-len1-up.len_at_least in let h = subst (λ ps. CutOutTriangle u.tri ps r) (sym e) c.requires.cut_out in
    subst (λ ps. HasGrown (AreLeftByEdges u ps r) old new) e
    (whole_grown u (first es) (rest es) r c.reach.result old new h c.reach.ensures c.in_default-reach.not-Both
    c.in_ok-add_pieces-in_default-reach.ensures)
