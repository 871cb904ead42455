use Rattle.std.proofs.Common.{◌≡◌, true, false, ℤ, pos, ◌<ℤ◌, ◌∙◌, sym, ap, subst, refl, arith}
use Rattle.std.proofs.lemmas.Int.{ints}
use mir.Syntax.{w128}
use mir.Val.{to_z, of_z}
use lib.Signed.{lt_z}
use Rattle.ember_algebra.proofs.Exact.{Code, stored, kept, narrow, number, ◌⊠◌, ◌⊞◌, ◌⊟◌, ◌&◌, done, exact, bounded, no_overflow}
use Rattle.ember_algebra.proofs.Order.{by_sign}
use Rattle.ember_model.specs.Planes.{value_at}
use Rattle.ember_algebra.specs.Size.{Small}
use Rattle.ember_point.specs.Points.{weight, determinants, cross_of}
use Rattle.ember_model.proofs.Tuples.{same_spot}
use Rattle.ember_point.proofs.Meets.{on_first, on_second, on_third, x_is, y_is, z_is, w_is, plain_meet, turned_meet}
use Rattle.ember_point.proofs.meeting.meet.Goals as goal

-- the three products that are added up, and a number turned round
abbrev six : Code
six = narrow 0 ⊠ narrow 1 ⊞ narrow 2 ⊠ narrow 3 ⊞ narrow 4 ⊠ narrow 5

abbrev minus : Code
minus = stored w128 (number (pos 0) ⊟ kept 0)

abbrev Weighs : ℤ → Type 0
Weighs w = Small 302231454903657293676543 w

-- what the tests of the weight say
zero : {w : ℤ} → Weighs w → of_z w128 w ≡ 0 → w ≡ pos 0
zero {w} s e = sym (exact (s & done) (kept 0) tt) ∙ ap (λ n. to_z w128 n) e

nonzero : {w : ℤ} → (of_z w128 w ≡ 0 → ⊥) → w ≡ pos 0 → ⊥
nonzero {w} n e = n (ap (λ z. of_z w128 z) e)

negative : {w : ℤ} → Weighs w → lt_z (to_z w128 (of_z w128 w)) (pos 0) ≡ true → w <ℤ pos 0
negative {w} s l = let e = exact (s & done) (kept 0) tt in omega (arith, e, l, ints)

above : {w : ℤ} → Weighs w → (of_z w128 w ≡ 0 → ⊥) → lt_z (to_z w128 (of_z w128 w)) (pos 0) ≡ false → pos 0 <ℤ w
above {w} s n l =
    let e = exact (s & done) (kept 0) tt in
    by_sign w (λ p. p) (λ z. absurd (nonzero n z)) (λ p. absurd (omega (arith, e, l, p, ints)))

pub overflow_sub-result : goal.overflow_sub-result
overflow_sub-result c =
    no_overflow (c.combination-x.ensures.small & done) w128 (number (pos 0) ⊟ kept 0) tt

pub overflow_sub-result-then-w-lt0 : goal.overflow_sub-result-then-w-lt0
overflow_sub-result-then-w-lt0 c =
    no_overflow (c.combination-y.ensures.small & done) w128 (number (pos 0) ⊟ kept 0) tt

pub overflow_sub-result-then-w-lt0-2 : goal.overflow_sub-result-then-w-lt0-2
overflow_sub-result-then-w-lt0-2 c =
    no_overflow (c.combination-z.ensures.small & done) w128 (number (pos 0) ⊟ kept 0) tt

pub invariant_of-result : goal.invariant_of-result
invariant_of-result c =
    let e = exact (c.product-w.ensures.small & done) (kept 0) tt in
    let m = exact (c.product-w.ensures.small & done) minus tt in
    record {
      valid = record {
        x = bounded (c.combination-x.ensures.small & done) 4951760157141521099596496895 minus tt;
        y = bounded (c.combination-y.ensures.small & done) 4951760157141521099596496895 minus tt;
        z =
            bounded (c.combination-z.ensures.small & done) 4951760157141521099596496895 minus tt;
        w =
            bounded (c.product-w.ensures.small & done) 302231454903657293676543 minus tt;
        weight =
            omega (arith, e, m, ints);
      };
    }

pub invariant_of-result-else-w-lt0 : goal.invariant_of-result-else-w-lt0
invariant_of-result-else-w-lt0 c =
    record {
      valid = record {
        x = bounded (c.combination-x.ensures.small & done) 4951760157141521099596496895 (kept 0)
            tt;
        y = bounded (c.combination-y.ensures.small & done) 4951760157141521099596496895 (kept 0) tt;
        z =
            bounded (c.combination-z.ensures.small & done) 4951760157141521099596496895 (kept 0) tt;
        w =
            bounded (c.product-w.ensures.small & done) 302231454903657293676543 (kept 0) tt;
        weight =
            subst (λ z. pos 0 <ℤ z) (sym (exact (c.product-w.ensures.small & done) (kept 0) tt))
            (above c.product-w.ensures.small c.if-w-eq0.false c.if-w-lt0.false);
      };
    }

pub returns-then-w-eq0 : goal.returns-then-w-eq0
returns-then-w-eq0 c =
    let p = c.args.p.now in let q = c.args.q.now in let r = c.args.r.now in
    let sp = c.requires.valid_p in let sq = c.requires.valid_q in let sr = c.requires.valid_r in
    let u = c.cross_normals-u in let v = c.cross_normals-v in let t = c.cross_normals-t in
    let su = u.result.small in let sv = v.result.small in let st = t.result.small in
    let ew : c.product-w.result ≡ weight p q r =
    c.product-w.ensures.value ∙ w_is p q r (cross_of u.result) (cross_of v.result) (cross_of t.result) u.ensures
    v.ensures t.ensures in
    record { none = (λ e. sym ew ∙ zero c.product-w.ensures.small c.if-w-eq0.true, λ e. refl); formula = tt; on_first = tt; on_second = tt; on_third = tt }

pub returns-then-w-lt0 : goal.returns-then-w-lt0
returns-then-w-lt0 c =
    let p = c.args.p.now in let q = c.args.q.now in let r = c.args.r.now in
    let sp = c.requires.valid_p in let sq = c.requires.valid_q in let sr = c.requires.valid_r in
    let u = c.cross_normals-u in let v = c.cross_normals-v in let t = c.cross_normals-t in
    let su = u.result.small in let sv = v.result.small in let st = t.result.small in
    let ew : c.product-w.result ≡ weight p q r =
    c.product-w.ensures.value ∙ w_is p q r (cross_of u.result) (cross_of v.result) (cross_of t.result) u.ensures
    v.ensures t.ensures in
    let ex : c.combination-x.result ≡ (determinants p q r).x =
    c.combination-x.ensures.value ∙ exact (sp.d & su.x & sq.d & sv.x & sr.d & st.x & done) six tt
    ∙ x_is p q r (cross_of u.result) (cross_of v.result) (cross_of t.result) u.ensures v.ensures t.ensures in
    let ey : c.combination-y.result ≡ (determinants p q r).y =
    c.combination-y.ensures.value ∙ exact (sp.d & su.y & sq.d & sv.y & sr.d & st.y & done) six tt
    ∙ y_is p q r (cross_of u.result) (cross_of v.result) (cross_of t.result) u.ensures v.ensures t.ensures in
    let ez : c.combination-z.result ≡ (determinants p q r).z =
    c.combination-z.ensures.value ∙ exact (sp.d & su.z & sq.d & sv.z & sr.d & st.z & done) six tt
    ∙ z_is p q r (cross_of u.result) (cross_of v.result) (cross_of t.result) u.ensures v.ensures t.ensures in
    let f = same_spot (exact (c.combination-x.ensures.small & done) minus tt)
    (exact (c.combination-y.ensures.small & done) minus tt) (exact (c.combination-z.ensures.small & done) minus tt)
    (exact (c.product-w.ensures.small & done) minus tt)
    ∙ turned_meet p q r _ _ _ _ ex ey ez ew (negative c.product-w.ensures.small c.if-w-lt0.true) in
    record {
      none = (λ e. cc, λ e. absurd (nonzero c.if-w-eq0.false (ew ∙ e)));
      formula = f;
      on_first =
          ap (λ m. value_at p m) f ∙ on_first p q r;
      on_second = ap (λ m. value_at q m) f ∙ on_second p q r;
      on_third =
          ap (λ m. value_at r m) f ∙ on_third p q r;
    }

pub returns-else-w-lt0 : goal.returns-else-w-lt0
returns-else-w-lt0 c =
    let p = c.args.p.now in let q = c.args.q.now in let r = c.args.r.now in
    let sp = c.requires.valid_p in let sq = c.requires.valid_q in let sr = c.requires.valid_r in
    let u = c.cross_normals-u in let v = c.cross_normals-v in let t = c.cross_normals-t in
    let su = u.result.small in let sv = v.result.small in let st = t.result.small in
    let ew : c.product-w.result ≡ weight p q r =
    c.product-w.ensures.value ∙ w_is p q r (cross_of u.result) (cross_of v.result) (cross_of t.result) u.ensures
    v.ensures t.ensures in
    let ex : c.combination-x.result ≡ (determinants p q r).x =
    c.combination-x.ensures.value ∙ exact (sp.d & su.x & sq.d & sv.x & sr.d & st.x & done) six tt
    ∙ x_is p q r (cross_of u.result) (cross_of v.result) (cross_of t.result) u.ensures v.ensures t.ensures in
    let ey : c.combination-y.result ≡ (determinants p q r).y =
    c.combination-y.ensures.value ∙ exact (sp.d & su.y & sq.d & sv.y & sr.d & st.y & done) six tt
    ∙ y_is p q r (cross_of u.result) (cross_of v.result) (cross_of t.result) u.ensures v.ensures t.ensures in
    let ez : c.combination-z.result ≡ (determinants p q r).z =
    c.combination-z.ensures.value ∙ exact (sp.d & su.z & sq.d & sv.z & sr.d & st.z & done) six tt
    ∙ z_is p q r (cross_of u.result) (cross_of v.result) (cross_of t.result) u.ensures v.ensures t.ensures in
    let f = same_spot (exact (c.combination-x.ensures.small & done) (kept 0) tt)
    (exact (c.combination-y.ensures.small & done) (kept 0) tt)
    (exact (c.combination-z.ensures.small & done) (kept 0) tt) (exact (c.product-w.ensures.small & done) (kept 0) tt)
    ∙ plain_meet p q r _ _ _ _ ex ey ez ew (above c.product-w.ensures.small c.if-w-eq0.false c.if-w-lt0.false) in
    record {
      none = (λ e. cc, λ e. absurd (nonzero c.if-w-eq0.false (ew ∙ e)));
      formula = f;
      on_first =
          ap (λ m. value_at p m) f ∙ on_first p q r;
      on_second = ap (λ m. value_at q m) f ∙ on_second p q r;
      on_third =
          ap (λ m. value_at r m) f ∙ on_third p q r;
    }
