-- The JSON that is made of texts of bounds.
use Rattle.std.proofs.Common.{◌≡◌, ℕ, List, length, ◌∙◌}
use Rattle.std.specs.List.{All}
use Rattle.mesh_write.specs.declared.stl.triangle.FloatTriangle.{FloatTriangle}
use Rattle.mesh_write.specs.declared.glb.bounds.Bounds.{Bounds}
use Rattle.mesh_write.specs.Glb.Bounds.{corners_of, IsFinite, AreBounds}
use Rattle.mesh_write.specs.Glb.Texts.{IsVectorText}
use Rattle.mesh_write.specs.Glb.Json.{mesh_json, padded}
use Rattle.mesh_write.specs.Glb.Written.{IsJsonOf}

-- by texts that equal those of the bounds
pub json_is : (ts : List FloatTriangle) (b : Bounds) {low high : List ℕ} (given_low given_high json : List ℕ) →
    (All IsFinite (corners_of ts) → AreBounds (corners_of ts) b) → IsVectorText b.low low → IsVectorText b.high high →
    given_low ≡ low → given_high ≡ high → json ≡ padded (mesh_json (length ts) given_low given_high) → IsJsonOf ts json
json_is ts b {low} {high} given_low given_high json bounds l h e f is = record {
  bounds = b;
  are_bounds = bounds;
  low = low;
  high = high;
  low_is = l;
  high_is = h;
  is = is ∙ (λ i. padded (mesh_json (length ts) (e i) (f i)));
}
