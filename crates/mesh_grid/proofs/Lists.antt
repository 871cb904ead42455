-- Lists of coordinates that grow
use Rattle.std.proofs.Common.{◌≡◌, ◌<◌, ℕ, ◌+◌, Bool, false, cond, List, [], ◌∷◌, ◌++◌, length, take, get_or, sym, subst, arith}
use Rattle.std.specs.List.{flat_map}
use Rattle.std.specs.Prelude.{Result, Ok, Err, OnOk}
use Rattle.std.proofs.lemmas.List.{append_assoc}
use Rattle.mesh_read.specs.declared.surface.surface.Surface.{Surface}
use Rattle.mesh_read.specs.declared.surface.surface.Vertex.{Vertex}
use Rattle.mesh_grid.specs.declared.grid.coordinates.CornerLists.{CornerLists}
use Rattle.mesh_grid.specs.Grid.Corners.{corners_of}
use Rattle.mesh_grid.specs.Grid.Marks.{AreMarksOf}
use Rattle.mesh_grid.specs.Grid.Lists.{IsOf, HasAppended, HasAdded, marked}
use Rattle.mesh_grid.proofs.MarkedVertices.{marked_more, marked_are_corners}
use Rattle.mesh_grid.proofs.SameEntries.{same_append}

-- some vertices more, and then others
appended_both : (old between new : CornerLists) (some others : List Vertex) → HasAppended old some between →
    HasAppended between others new → HasAppended old (some ++ others) new
appended_both old between new some others a b = record {
  after = λ before h. subst (IsOf new) (append_assoc before some others) (b.after (before ++ some) (a.after before h));
}

-- one vertex more if it has a mark
pub appended_if : (marks : List Bool) (vs : List Vertex) (i : ℕ) (v : Vertex) (old between new : CornerLists) →
    length marks ≡ length vs → i < length vs → v ≡ get_or vs i v →
    HasAppended old (marked (take i marks) (take i vs)) between →
    HasAppended between (cond (get_or marks i false) (v ∷ []) []) new →
    HasAppended old (marked (take (i + 1) marks) (take (i + 1) vs)) new
appended_if marks vs i v old between new many less is a b =
    subst (λ (us : List Vertex). HasAppended old us new)
    (sym (marked_more marks vs i v (omega (arith, many, less)) less is)) (appended_both old between new _ _ a b)

-- the corners of a surface more
pub corners_added : (s : Surface) (marks : List Bool) (old new : CornerLists) → AreMarksOf s marks →
    HasAppended old (marked marks s.vertices.items) new →
    HasAdded old (flat_map (corners_of s.vertices.items) s.facets.items) new
corners_added s marks old new m a = record {
  after = λ before h. record {
    vertices = h.vertices ++ marked marks s.vertices.items;
    coordinates = a.after h.vertices h.coordinates;
    same = same_append h.vertices before (marked marks s.vertices.items) _ h.same (marked_are_corners s marks m);
  };
}

pub corners_added_if : {T E : Type 0} (r : Result T E) (s : Surface) (marks : List Bool) (old new : CornerLists) →
    AreMarksOf s marks → OnOk r (HasAppended old (marked marks s.vertices.items) new) →
    OnOk r (HasAdded old (flat_map (corners_of s.vertices.items) s.facets.items) new)
corners_added_if (Ok x) s marks old new m a = corners_added s marks old new m a
corners_added_if (Err e) s marks old new m a = tt
