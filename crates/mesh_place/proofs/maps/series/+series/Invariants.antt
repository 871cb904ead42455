use Rattle.mesh_place.proofs.maps.series.+series.Given as goal

abbrev pub decreases-series : goal.decreases-series
decreases-series l = l.brackets
