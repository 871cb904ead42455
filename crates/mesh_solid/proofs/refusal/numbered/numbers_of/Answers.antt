use Rattle.std.proofs.Common.{◌≡◌, ◌<◌, ◌+◌, ◌*◌, ◌++◌, ◌∷◌, [], ℕ, List, map, length, length-append, take, Some, slice_get, sym, ap, subst, ◌∙◌, arith}
use Rattle.std.specs.List.{AllZip}
use Rattle.std.proofs.lemmas.List.{take_all}
use Rattle.ember_reread.specs.declared.cornered_face.CorneredFace.{CorneredFace}
use Rattle.ember_reread.specs.Cornered.{face_of}
use Rattle.mesh_certificate.specs.Key.PlaneKeys.{IsPlaneKey}
use Rattle.mesh_solid.specs.Refusal.Searches.{index_in, HasPlane}
use Rattle.mesh_solid.specs.Tables.Numberings.{plane_of, same_entry}
use Rattle.mesh_solid.proofs.Lists.{extends_put, mapped_has, mapped_put, put_length}
use Rattle.mesh_solid.proofs.NumberedFaces.{indices_more, planes_more}
use Rattle.mesh_solid.proofs.Numbers.{same_entry_decides, distinct, distinct_images}
use Rattle.mesh_solid.proofs.refusal.numbered.numbers_of.Goals as goal

pub loop-index-preserved : goal.loop-index-preserved
loop-index-preserved c =
    let at = c.loop-index.invariant in
    let i = c.loop-index.index in
    let face = c.index-faces-index.result in
    let before = c.loop-index.planes.keys in
    let after = c.number_of.new.table.keys in
    let old = c.loop-index.numbers.items in
    let plane = c.in-Ok.plane in
    let small : i < 4294967296 = omega (arith, c.loop-index-test.true, c.if-faces-ge4294967295.false) in
    let entry = c.entry_of.result in
    let same : plane_of entry ≡ c.plane_key.result = ap plane_of c.entry_of.ensures in
    let put = mapped_put plane_of entry before after c.in-Ok.ensures.entries in
    let has = mapped_has plane_of after plane _ (IsPlaneKey face.support)
    (λ x t. subst (IsPlaneKey face.support) (sym same ∙ (same_entry_decides entry x).0 t) c.plane_key.ensures.key)
    c.in-Ok.ensures.number in
    let is = c.in_ok-push.ensures.items ∙ (λ k. old ++ (c.from.ensures k * 4294967296 + i) ∷ []) in
    record {
      few = omega (arith, put_length entry before after c.in-Ok.ensures.entries, at.few);
      distinct = c.in-Ok.ensures.distinct;
      each = subst (λ (ns : List ℕ). AllZip (HasPlane (map plane_of after)) (map face_of (take (i + 1) c.args.faces.now)) ns) (sym is)
          (planes_more c.args.faces.now i c.loop-index-test.true face c.index-faces-index.is (map plane_of before)
          (map plane_of after) old plane small
          (extends_put (plane_of entry) (map plane_of before) (map plane_of after) put) at.each has);
      indices = subst (λ (ns : List ℕ). (k n : ℕ) → slice_get ns k ≡ Some n → index_in n ≡ k) (sym is)
          (indices_more old i plane at.many small at.indices);
      many = omega (arith, ap length is, length-append old ((plane * 4294967296 + i) ∷ []), at.many);
    }

pub returns : goal.returns
returns c =
    let at = c.loop-index.invariant in
    let keys = c.loop-index.planes.keys in
    record {
      planes = map plane_of keys;
      distinct = distinct_images plane_of keys (distinct same_entry plane_of same_entry_decides keys at.distinct);
      each = subst (λ (fs : List CorneredFace). AllZip (HasPlane (map plane_of keys)) (map face_of fs) c.loop-index.numbers.items)
          (take_all c.loop-index.index c.args.faces.now (omega (arith, c.loop-index-test.false))) at.each;
      indices = at.indices;
    }
