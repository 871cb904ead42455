use Rattle.std.proofs.Common.{sym}
use Rattle.std.proofs.lemmas.Nat.{pow-add}
use Rattle.mesh_place.specs.Integers.{integer_of}
use Rattle.mesh_place.specs.AffineMaps.{row_of, affine_of}
use Rattle.mesh_place.proofs.AffineLaws.{composed_by_columns, same_affine}
use Rattle.mesh_place.proofs.maps.matrices.AffineMap.after.Goals as goal

pub returns-clause-map : goal.returns-clause-map
returns-clause-map c =
    let inner = affine_of c.args.inner.now in let columns = c.columns-columns.ensures in
    let none = c.in_ok-zero.ensures in let is = c.in_ok-scale.ensures in
    same_affine _ _ _ _ _ _ _ _
    (composed_by_columns _ (row_of c.args.self.now.x) inner _ _ _ _ _ _ c.in_ok-x.ensures columns.x columns.y columns.z columns.origin none is)
    (composed_by_columns _ (row_of c.args.self.now.y) inner _ _ _ _ _ _ c.in_ok-y.ensures columns.x columns.y columns.z columns.origin none is)
    (composed_by_columns _ (row_of c.args.self.now.z) inner _ _ _ _ _ _ c.in_ok-z.ensures columns.x columns.y columns.z columns.origin none is)
    (pow-add 10 c.args.self.now.places c.args.inner.now.places)
