use Rattle.std.proofs.Common.{◌≡◌, ◌∙◌, sym, refl}
use Rattle.ember_algebra.proofs.Exact.{narrow, kept, ◌⊠◌, ◌⊞◌, ◌&◌, done, exact}
use Rattle.ember_wide.specs.Whole.{value_of}
use Rattle.ember_point.specs.Points.{weight, meet_of, determinants}
use Rattle.ember_point.proofs.Meets.{x_is, y_is, z_is, w_is}
use Rattle.ember_width.specs.BroadPoints.{cross_of}
use Rattle.ember_width.proofs.meeting.broad_meet.Goals as goal

pub returns-clause-none : goal.returns-clause-none
returns-clause-none c =
    let p = c.args.p.now in let q = c.args.q.now in let r = c.args.r.now in
    let u = c.cross_normals-u in let v = c.cross_normals-v in let t = c.cross_normals-t in
    let ew : c.product.result ≡ weight p q r =
    c.product.ensures.value ∙ w_is p q r (cross_of u.result) (cross_of v.result) (cross_of t.result) u.ensures v.ensures t.ensures in
    let er = exact (c.product.ensures.small & done) (kept 0) tt in
    (λ n. sym ew ∙ (sym er ∙ c.point_with.ensures.none.0 n), λ e. c.point_with.ensures.none.1 (er ∙ (ew ∙ e)))

pub returns-clause-formula : goal.returns-clause-formula
returns-clause-formula c =
    let p = c.args.p.now in let q = c.args.q.now in let r = c.args.r.now in
    let sp = c.requires.p in let sq = c.requires.q in let sr = c.requires.r in
    let u = c.cross_normals-u in let v = c.cross_normals-v in let t = c.cross_normals-t in
    let su = u.result.small in let sv = v.result.small in let st = t.result.small in
    let six = narrow 0 ⊠ kept 1 ⊞ narrow 2 ⊠ kept 3 ⊞ narrow 4 ⊠ kept 5 in
    let ew : c.product.result ≡ weight p q r =
    c.product.ensures.value ∙ w_is p q r (cross_of u.result) (cross_of v.result) (cross_of t.result) u.ensures v.ensures t.ensures in
    let ex : value_of c.combination-x.result ≡ (determinants p q r).x =
    c.combination-x.ensures.value ∙ exact (sp.d & su.x & sq.d & sv.x & sr.d & st.x & done) six tt
    ∙ x_is p q r (cross_of u.result) (cross_of v.result) (cross_of t.result) u.ensures v.ensures t.ensures in
    let ey : value_of c.combination-y.result ≡ (determinants p q r).y =
    c.combination-y.ensures.value ∙ exact (sp.d & su.y & sq.d & sv.y & sr.d & st.y & done) six tt
    ∙ y_is p q r (cross_of u.result) (cross_of v.result) (cross_of t.result) u.ensures v.ensures t.ensures in
    let ez : value_of c.combination-z.result ≡ (determinants p q r).z =
    c.combination-z.ensures.value ∙ exact (sp.d & su.z & sq.d & sv.z & sr.d & st.z & done) six tt
    ∙ z_is p q r (cross_of u.result) (cross_of v.result) (cross_of t.result) u.ensures v.ensures t.ensures in
    c.point_with.ensures.some (meet_of p q r) (rw (exact (c.product.ensures.small & done) (kept 0) tt, ex, ey, ez, ew) refl)
