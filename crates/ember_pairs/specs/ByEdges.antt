-- What edge planes, sample points and chords show of two triangles
use Rattle.std.specs.Prelude.{◌≡◌, true, false, ⊤}
use Rattle.ember_model.specs.declared.tri.Tri.{Tri}
use Rattle.ember_model.specs.Faces.{is_flat}
use Rattle.ember_model.specs.Owners.{lies_in_plane_of}
use Rattle.ember_pairs.specs.declared.by_edges.ByEdges.{ByEdges}
use Rattle.ember_pairs.specs.declared.by_edges.ByEdges.TheVariants as by_edges
use Rattle.ember_pairs.specs.Pairs.{AreMeeting}

-- t isn't flat, and u lies in its plane
pub record HasInPlane (t u : Tri) : Type 0 where
  pub full : is_flat t ≡ false
  pub holds : lies_in_plane_of t u ≡ true

-- whether two triangles meet, as far as it is known
abbrev pub IsByEdges : Tri → Tri → ByEdges → Type 0
IsByEdges t u by_edges.Apart = AreMeeting t u → ⊥
IsByEdges t u by_edges.Met = AreMeeting t u
IsByEdges t u by_edges.Unknown = ⊤
