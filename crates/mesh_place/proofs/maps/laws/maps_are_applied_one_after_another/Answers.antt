use Rattle.mesh_place.proofs.AffineLaws.{image_after_image, determinant_of_both}
use Rattle.mesh_place.proofs.maps.laws.maps_are_applied_one_after_another.Goals as goal

pub returns : goal.returns
returns c = record { image = image_after_image; orientation = determinant_of_both }
