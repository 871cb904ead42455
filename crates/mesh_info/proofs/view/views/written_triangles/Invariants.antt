use Rattle.std.proofs.Common.{flat_map, take}
use Rattle.mesh_info.specs.Info.Corners.{triangles_of}
use Rattle.mesh_info.specs.View.Views.{AreShown}
use Rattle.mesh_info.proofs.view.views.written_triangles.Given as goal

abbrev pub invariant-loop-surface : goal.invariant-loop-surface
invariant-loop-surface l = AreShown (flat_map triangles_of (take l.surface-index l.surfaces)) l.written.items
