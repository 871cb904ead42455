use Rattle.mesh_tolerance.proofs.MovedSurfaces.{moved_surface_winds_as_before}
use Rattle.mesh_tolerance.proofs.law.moved_surfaces_wind_as_before.Goals as goal

pub returns : goal.returns
returns c = moved_surface_winds_as_before
