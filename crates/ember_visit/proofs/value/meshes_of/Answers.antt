use Rattle.std.proofs.Common.{◌≡◌, ◌∙◌, ◌||◌, ◌==◌, ◌+◌, Bool, true, false, drop, refl, sym, ap, slice_index_or}
use Rattle.std.proofs.lemmas.List.{at_drop_more}
use Rattle.ember_known.specs.Masks.{is_in}
use Rattle.ember_box.specs.Near.{listed, tri_at}
use Rattle.ember_visit.specs.Values.{has_mesh}
use Rattle.ember_visit.proofs.value.meshes_of.Goals as goal

moved : (a b more : Bool) → ((a || b) || more) ≡ (b || (a || more))
moved true true more = refl
moved true false more = refl
moved false true more = refl
moved false false more = refl

pub loop-i-preserved : goal.loop-i-preserved
loop-i-preserved c n fit =
    let tris = c.args.tris.now in let list = c.args.list.now in let k = c.loop-i.i-index in
    let mesh = (tri_at tris (slice_index_or list k 0)).mesh in
    let rest = at_drop_more (λ is. has_mesh (listed tris is) n) list k 0 c.loop-i-test.true in
    (λ i. c.with-meshes.ensures n fit i || has_mesh (listed tris (drop (k + 1) list)) n)
    ∙ moved (n == mesh) (is_in c.loop-i.meshes.0 n) (has_mesh (listed tris (drop (k + 1) list)) n)
    ∙ ap (λ b. is_in c.loop-i.meshes.0 n || b) (sym rest) ∙ c.loop-i.invariant n fit
