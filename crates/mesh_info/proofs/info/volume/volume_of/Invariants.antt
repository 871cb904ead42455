use Rattle.std.proofs.Common.{◌≡◌, take}
use Rattle.std.specs.Prelude.{fold}
use Rattle.std.specs.Float.{Float, binary64}
use Rattle.std.specs.Float.Ieee.{add}
use Rattle.mesh_write.specs.declared.vertices.point.IndexedTriangle.{IndexedTriangle}
use Rattle.mesh_info.specs.declared.info.volume.TheConstants.{NOTHING}
use Rattle.mesh_info.specs.Info.Volume.{sixfold_volume_at}
use Rattle.mesh_info.proofs.info.volume.volume_of.Given as goal

abbrev pub invariant-loop-t : goal.invariant-loop-t
invariant-loop-t l =
    l.total ≡ fold (λ (total : Float) (t : IndexedTriangle). add binary64 total (sixfold_volume_at l.lower l.points t)) NOTHING (take l.t-index l.triangles)
