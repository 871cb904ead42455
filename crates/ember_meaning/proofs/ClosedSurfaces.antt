-- Faces that wind alike along all axes are closed, point by point and piece by piece.
use Rattle.std.proofs.Common.{sym, subst, List, [], ◌∷◌, map, pos, ◌<ℤ◌}
use Rattle.std.specs.List.{AllByRecursion, flat_map}
use Rattle.std.proofs.lemmas.List.Concat.{flat_map-cons}
use Rattle.ember_model.specs.declared.tri.Tri.{Tri}
use Rattle.ember_model.specs.FaceFiles.{WrittenFace}
use Rattle.ember_poly.proofs.Rotations.{each-join}
use Rattle.ember_meaning.specs.Closed.Chains.{IsClosedSurface, ArePiecesPaired, directed_edges, face_from, IsOutlined, AxesAgreeOffScene}
use Rattle.ember_meaning.proofs.Loops.{agreeing_faces_cover_evenly}
use Rattle.ember_meaning.proofs.EdgeForm.{outline_weights}
use Rattle.ember_meaning.proofs.Pieces.{pieces_are_paired}
use Rattle.ember_meaning.proofs.Starts.{starts_are_ends}

edge_weights : (ws : List WrittenFace) → AllByRecursion IsOutlined ws →
    AllByRecursion (λ e. (pos 0 <ℤ e.from.w) × (pos 0 <ℤ e.to.w)) (flat_map (λ w. directed_edges w.edges) ws)
edge_weights [] lines = tt
edge_weights (w ∷ ws) lines =
    subst (λ es. AllByRecursion (λ e. (pos 0 <ℤ e.from.w) × (pos 0 <ℤ e.to.w)) es)
    (sym (flat_map-cons (λ w. directed_edges w.edges) w ws))
    (each-join (λ e. (pos 0 <ℤ e.from.w) × (pos 0 <ℤ e.to.w)) (directed_edges w.edges)
    (flat_map (λ w. directed_edges w.edges) ws) (outline_weights w lines.0) (edge_weights ws lines.1))

-- each point is as often a start as an end
pub closed_faces : (ts : List Tri) (ws : List WrittenFace) → AllByRecursion IsOutlined ws → AxesAgreeOffScene ts (map face_from ws) → IsClosedSurface ws
closed_faces ts ws lines agree =
    starts_are_ends (flat_map (λ w. directed_edges w.edges) ws) (edge_weights ws lines) (agreeing_faces_cover_evenly ts ws lines agree)

-- each piece of a line is led over as often one way as the other
pub paired_faces : (ts : List Tri) (ws : List WrittenFace) → AllByRecursion IsOutlined ws →
    AxesAgreeOffScene ts (map face_from ws) → ArePiecesPaired (flat_map (λ w. directed_edges w.edges) ws)
paired_faces ts ws lines agree =
    pieces_are_paired (flat_map (λ w. directed_edges w.edges) ws) (edge_weights ws lines) (agreeing_faces_cover_evenly ts ws lines agree)
