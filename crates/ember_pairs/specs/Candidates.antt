-- Which listed triangles are tested, and what the test of two triangles first looks at: the bounding box and the
-- plane of each
use Rattle.std.specs.Prelude.{ℕ, not, List, map, filter}
use Rattle.ember_model.specs.declared.tri.Tri.{Tri}
use Rattle.ember_model.specs.Planes.{support_of}
use Rattle.ember_model.specs.Faces.{is_flat}
use Rattle.ember_box.specs.Near.{tri_at}
use Rattle.ember_box.specs.Aabbs.{aabb_of_tri}
use Rattle.ember_pairs.specs.declared.meetings.Candidate.{Candidate}

-- of one triangle
abbrev pub candidate_of : Tri → Candidate
candidate_of t = record { aabb = aabb_of_tri t; support = support_of t }

-- of the listed triangles, in order
abbrev pub candidates_at : List Tri → List ℕ → List Candidate
candidates_at ts indices = map (λ i. candidate_of (tri_at ts i)) indices

-- those of the listed triangles that have a face, in order; a flat triangle has none, and meets no other
abbrev pub not_flat : List Tri → List ℕ → List ℕ
not_flat ts indices = filter (λ i. not (is_flat (tri_at ts i))) indices
