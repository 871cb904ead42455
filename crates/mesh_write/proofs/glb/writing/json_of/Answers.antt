use Rattle.std.proofs.lemmas.Result.{IfOk-weaker}
use Rattle.mesh_write.proofs.Jsons.{json_is}
use Rattle.mesh_write.proofs.glb.writing.json_of.Goals as goal

pub returns : goal.returns
returns c =
    let ts = c.args.triangles.now in
    IfOk-weaker c.json_text.result _ _ (λ json is. json_is ts c.bounds_of-bounds.result c.deref.result.now
    c.deref-2.result.now json.items c.bounds_of-bounds.ensures c.in_ok-low.ensures c.in_ok-high.ensures
    c.deref.ensures.value c.deref-2.ensures.value is) c.json_text.ensures
