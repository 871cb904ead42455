use Rattle.std.proofs.Common.{◌≡◌, ap, sym, subst, ◌∙◌, to_z, of_z, to_z-of_z}
use mir.Syntax.{w64}
use Rattle.ember_algebra.specs.Size.{Small}
use Rattle.ember_algebra.proofs.Size.{fits_small}
use Rattle.ember_model.specs.Limits.{support_constant_limit}
use Rattle.ember_model.specs.declared.plane.Plane.{Plane}
use Rattle.ember_model.specs.Planes.{vector_of}
use Rattle.ember_model.proofs.PlaneSizes.{tri_broad}
use Rattle.mesh_boolean.proofs.VolumeSums.{constant_is_determinant}
use Rattle.mesh_boolean.proofs.volumes.sixfold_volume.Goals as goal

pub support_of-requires : goal.support_of-requires
support_of-requires c = tri_broad c.requires

pub returns-clause-value : goal.returns-clause-value
returns-clause-value c =
    let t = c.args.t.now in
    let sized = c.support_of.ensures.small c.requires in
    let stored : to_z w64 (of_z w64 c.support_of.result.d) ≡ c.support_of.result.d = to_z-of_z (fits_small w64 sized.d tt) in
    stored ∙ ap (λ (p : Plane). p.d) c.support_of.ensures.value
    ∙ constant_is_determinant (vector_of t.a) (vector_of t.b) (vector_of t.c)

pub returns-clause-small : goal.returns-clause-small
returns-clause-small c =
    let sized = c.support_of.ensures.small c.requires in
    let stored : to_z w64 (of_z w64 c.support_of.result.d) ≡ c.support_of.result.d = to_z-of_z (fits_small w64 sized.d tt) in
    subst (Small support_constant_limit) (sym stored) sized.d
