use Rattle.std.proofs.Common.{◌≡◌, sym, ap, ◌∙◌, true, false, not, ◌&&◌}
use Rattle.ember_model.specs.Faces.{is_flat}
use Rattle.ember_alone.specs.Parting.{is_parted}
use Rattle.ember_alone.proofs.Codes.{flat_is}
use Rattle.ember_alone.proofs.Parted.{untouched_triangles_conform}
use Rattle.ember_alone.proofs.touching.may_touch.Goals as goal

pub returns-then-not-is_parted-clause-value : goal.returns-then-not-is_parted-clause-value
returns-then-not-is_parted-clause-value c =
    let t = c.args.t.now in let u = c.args.u.now in
    let a : is_flat t ≡ false = sym (flat_is t _ _ c.support_of-first.ensures.value c.has_no_normal.ensures) ∙ c.if-not-has_no_normal.true in
    let b : is_flat u ≡ false =
    sym (flat_is u _ _ c.support_of-second.ensures.value c.has_no_normal-then-not-has_no_normal.ensures) ∙ c.if-not-has_no_normal-2.true in
    let p : is_parted t u ≡ false = sym c.is_parted.ensures ∙ c.if-not-is_parted.true in
    ap not c.is_parted-then-not-is_parted.ensures ∙ sym (λ i. not (a i) && (not (b i) && (not (p i) && not (is_parted u t))))

pub returns-then-not-is_parted-clause-conform : goal.returns-then-not-is_parted-clause-conform
returns-then-not-is_parted-clause-conform c e =
    untouched_triangles_conform c.args.t.now c.args.u.now (sym (returns-then-not-is_parted-clause-value c) ∙ e)

pub returns-else-not-is_parted-clause-value : goal.returns-else-not-is_parted-clause-value
returns-else-not-is_parted-clause-value c =
    let t = c.args.t.now in let u = c.args.u.now in
    let a : is_flat t ≡ false = sym (flat_is t _ _ c.support_of-first.ensures.value c.has_no_normal.ensures) ∙ c.if-not-has_no_normal.true in
    let b : is_flat u ≡ false =
    sym (flat_is u _ _ c.support_of-second.ensures.value c.has_no_normal-then-not-has_no_normal.ensures) ∙ c.if-not-has_no_normal-2.true in
    let p : is_parted t u ≡ true = sym c.is_parted.ensures ∙ c.if-not-is_parted.false in
    ap not c.if-not-is_parted.false ∙ sym (λ i. not (a i) && (not (b i) && (not (p i) && not (is_parted u t))))

pub returns-else-not-is_parted-clause-conform : goal.returns-else-not-is_parted-clause-conform
returns-else-not-is_parted-clause-conform c e =
    untouched_triangles_conform c.args.t.now c.args.u.now (sym (returns-else-not-is_parted-clause-value c) ∙ e)

pub returns-else-not-has_no_normal-2-clause-value : goal.returns-else-not-has_no_normal-2-clause-value
returns-else-not-has_no_normal-2-clause-value c =
    let t = c.args.t.now in let u = c.args.u.now in
    let a : is_flat t ≡ false = sym (flat_is t _ _ c.support_of-first.ensures.value c.has_no_normal.ensures) ∙ c.if-not-has_no_normal.true in
    let b : is_flat u ≡ true =
    sym (flat_is u _ _ c.support_of-second.ensures.value c.has_no_normal-then-not-has_no_normal.ensures) ∙ c.if-not-has_no_normal-2.false in
    ap not c.if-not-has_no_normal-2.false ∙ sym (λ i. not (a i) && (not (b i) && (not (is_parted t u) && not (is_parted u t))))

pub returns-else-not-has_no_normal-2-clause-conform : goal.returns-else-not-has_no_normal-2-clause-conform
returns-else-not-has_no_normal-2-clause-conform c e =
    untouched_triangles_conform c.args.t.now c.args.u.now (sym (returns-else-not-has_no_normal-2-clause-value c) ∙ e)

pub returns-else-not-has_no_normal-clause-value : goal.returns-else-not-has_no_normal-clause-value
returns-else-not-has_no_normal-clause-value c =
    let t = c.args.t.now in let u = c.args.u.now in
    let a : is_flat t ≡ true = sym (flat_is t _ _ c.support_of-first.ensures.value c.has_no_normal.ensures) ∙ c.if-not-has_no_normal.false in
    ap not c.if-not-has_no_normal.false ∙ sym (λ i. not (a i) && (not (is_flat u) && (not (is_parted t u) && not (is_parted u t))))

pub returns-else-not-has_no_normal-clause-conform : goal.returns-else-not-has_no_normal-clause-conform
returns-else-not-has_no_normal-clause-conform c e =
    untouched_triangles_conform c.args.t.now c.args.u.now (sym (returns-else-not-has_no_normal-clause-value c) ∙ e)
