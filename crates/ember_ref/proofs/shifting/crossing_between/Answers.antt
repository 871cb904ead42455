use Rattle.std.proofs.Common.{◌<◌, sym, ap, ◌∙◌, Bool, cond, pos, to_z, arith}
use mir.Syntax.{w32}
use Rattle.ember_algebra.proofs.Exact.{input, stored, ◌&◌, done, exact}
use Rattle.ember_model.specs.Limits.{broad_limit}
use Rattle.ember_model.specs.Planes.{edge_planes}
use Rattle.ember_model.specs.Within.{normal_limit}
use Rattle.ember_width.specs.Laws.{broad_planes}
use Rattle.ember_width.proofs.TakenPlanes.{support_taken}
use Rattle.ember_model.specs.ClearTest.{all_negative}
use Rattle.ember_ref.specs.References.{reference_of_list, HasNormalWithin}
use Rattle.ember_ref.proofs.ReferenceLegs.{leg_told, nothing_told}
use Rattle.ember_ref.proofs.shifting.crossing_between.Goals as goal
use Rattle.ember_ref.proofs.shifting.crossing_between.Goals.{else-passes-ne0-via-then-passes-ne0+else-projects_inside, else-passes-ne0-via-else-passes-ne0}

pub returns-then-projects_inside-clause-value : goal.returns-then-projects_inside-clause-value
returns-then-projects_inside-clause-value c = λ m f within tells line.
    let above : 0 < f = omega (arith, tells) in
    let n = c.support_of-n.ensures.within m within in
    let normal : HasNormalWithin (normal_limit m) c.support_of-n.result = record { a = n.a; b = n.b; c = n.c } in
    let told = leg_told f c.args.k c.args.p c.args.q c.args.t.now c.support_of-n.result c.side_beside.result
    c.side_beside-2.result c.signed_crossing-passes.result above line c.support_of-n.ensures.value
    (c.side_beside.ensures.value (normal_limit m) f normal tells) (c.side_beside-2.ensures.value (normal_limit m) f normal tells)
    c.signed_crossing-passes.ensures.value in
    let b = sym (c.projects_inside.ensures m f within tells) ∙ c.if-projects_inside.true in
    exact (c.signed_crossing-passes.ensures.small & done) (stored w32 (input 0)) tt
    ∙ sym (told ∙ ap (λ (b : Bool). cond b c.signed_crossing-passes.result (pos 0)) b)

pub returns-else-passes-ne0-clause-value : goal.returns-else-passes-ne0-clause-value
returns-else-passes-ne0-clause-value c = λ m f within tells line.
    let above : 0 < f = omega (arith, tells) in let v = c.signed_crossing-passes.result in
    let n = c.support_of-n.ensures.within m within in
    let normal : HasNormalWithin (normal_limit m) c.support_of-n.result = record { a = n.a; b = n.b; c = n.c } in
    let told = leg_told f c.args.k c.args.p c.args.q c.args.t.now c.support_of-n.result c.side_beside.result
    c.side_beside-2.result c.signed_crossing-passes.result above line c.support_of-n.ensures.value
    (c.side_beside.ensures.value (normal_limit m) f normal tells) (c.side_beside-2.ensures.value (normal_limit m) f normal tells)
    c.signed_crossing-passes.ensures.value in
    elim c.else-passes-ne0.branch [
      | else-passes-ne0-via-then-passes-ne0+else-projects_inside w ↦ sym
          (told ∙ ap (λ (b : Bool). cond b v (pos 0)) (sym (w.projects_inside.ensures m f within tells) ∙ w.if-projects_inside.false))
      | else-passes-ne0-via-else-passes-ne0 w ↦ nothing_told
          (all_negative (edge_planes c.args.t.now c.args.k) (reference_of_list f c.args.p)) v
          (sym (exact (c.signed_crossing-passes.ensures.small & done) (stored w32 (input 0)) tt)
          ∙ ap (to_z w32) w.if-passes-ne0.false) ∙ sym told
    ]

pub side_beside-requires-clause-plane : goal.side_beside-requires-clause-plane
side_beside-requires-clause-plane c = support_taken broad_planes (c.support_of-n.ensures.within broad_limit c.requires.tri)

pub side_beside-requires-2-clause-plane : goal.side_beside-requires-2-clause-plane
side_beside-requires-2-clause-plane c = support_taken broad_planes (c.support_of-n.ensures.within broad_limit c.requires.tri)
