-- The vertices that have a mark are the corners of triangles
use Rattle.std.proofs.Common.{◌≡◌, ◌<◌, ℕ, zero, suc, ◌+◌, Bool, true, false, cond, List, [], ◌∷◌, ◌++◌, Option, Some}
use Rattle.std.proofs.Common.{None, length, take, get_or, refl, sym, ap, subst, ◌∙◌, arith}
use Rattle.std.specs.List.{All, Contains, flat_map}
use Rattle.std.specs.Option.{option_to_list, IfSome}
use Rattle.std.specs.Prelude.{slice_get}
use Rattle.std.proofs.lemmas.List.Concat.{flat_map-append}
use Rattle.std.proofs.lemmas.List.Elements.{All-nil, All-cons, All-head, All-tail, All-weaker, All-contains, All-contains_itself}
use Rattle.std.proofs.lemmas.Option.{slice_get-get_or, slice_get_within, get_or_from_slice_get}
use Rattle.mesh_read.specs.declared.surface.surface.Surface.{Surface}
use Rattle.mesh_read.specs.declared.surface.surface.Vertex.{Vertex}
use Rattle.mesh_read.specs.declared.surface.surface.Facet.{Facet}
use Rattle.ember_model.proofs.SignTests.{clash}
use Rattle.mesh_grid.specs.Grid.Corners.{corners_of}
use Rattle.mesh_grid.specs.Grid.Marks.{indices_in, AreMarksOf}
use Rattle.mesh_grid.specs.Grid.Lists.{HaveSameEntries, marked}
use Rattle.mesh_grid.proofs.JoinedLists.{all_out, all_in, one_out, one_in}

-- one vertex more
pub marked_more : (marks : List Bool) (vs : List Vertex) (i : ℕ) (v : Vertex) → i < length marks → i < length vs →
    v ≡ get_or vs i v → marked (take (i + 1) marks) (take (i + 1) vs) ≡ marked (take i marks) (take i vs)
    ++ cond (get_or marks i false) (v ∷ []) []
marked_more marks vs i v l k e =
    let next : i + 1 ≡ suc i = omega arith in
    ap (λ (n : ℕ). marked (take n marks) (take n vs)) next ∙ by marks vs i l k e
  where
    first : (m : Bool) (v w : Vertex) → v ≡ w → cond m (w ∷ []) [] ≡ cond m (v ∷ []) []
    first m v w e = ap (λ (u : Vertex). cond m (u ∷ []) []) (sym e)

    later : (m : Bool) (w : Vertex) (xs ys zs : List Vertex) → xs ≡ ys ++ zs → cond m (w ∷ xs) xs ≡ cond m (w ∷ ys) ys ++ zs
    later true w xs ys zs e = ap (λ (us : List Vertex). w ∷ us) e
    later false w xs ys zs e = e

    by : (marks : List Bool) (vs : List Vertex) (i : ℕ) → i < length marks → i < length vs → v ≡ get_or vs i v →
        marked (take (suc i) marks) (take (suc i) vs) ≡ marked (take i marks) (take i vs)
        ++ cond (get_or marks i false) (v ∷ []) []
    by [] vs i l k e = absurd (omega (arith, l))
    by (m ∷ marks) [] i l k e = absurd (omega (arith, k))
    by (m ∷ marks) (w ∷ vs) zero l k e = first m v w e
    by (m ∷ marks) (w ∷ vs) (suc i) l k e =
        later m w _ _ _ (by marks vs i (omega (arith, l)) (omega (arith, k)) e)

-- what holds at each mark holds of each vertex that has one
all_marked : (P : Vertex → Type 0) (marks : List Bool) (vs : List Vertex) →
    ((k : ℕ) (d : Vertex) → k < length vs → get_or marks k false ≡ true → P (get_or vs k d)) → All P (marked marks vs)
all_marked P [] vs h = All-nil P
all_marked P (m ∷ marks) [] h = All-nil P
all_marked P (m ∷ marks) (v ∷ vs) h =
    by m refl (all_marked P marks vs (λ k d l e. h (suc k) d (omega (arith, l)) e))
  where
    by : (b : Bool) → m ≡ b → All P (marked marks vs) → All P (cond b (v ∷ marked marks vs) (marked marks vs))
    by true e more = All-cons P v (marked marks vs) (h 0 v (omega arith) e) more
    by false e more = more

-- and conversely
at_mark : (P : Vertex → Type 0) (marks : List Bool) (vs : List Vertex) → All P (marked marks vs) →
    (k : ℕ) (d : Vertex) → k < length vs → get_or marks k false ≡ true → P (get_or vs k d)
at_mark P [] vs h k d l e = absurd (clash e refl)
at_mark P (m ∷ marks) [] h k d l e = absurd (omega (arith, l))
at_mark P (m ∷ marks) (v ∷ vs) h k d l e = by m refl h (at_mark P marks vs) k l e
  where
    tail : (b : Bool) → All P (cond b (v ∷ marked marks vs) (marked marks vs)) → All P (marked marks vs)
    tail true h = All-tail P v (marked marks vs) h
    tail false h = h

    by : (b : Bool) → m ≡ b → All P (cond b (v ∷ marked marks vs) (marked marks vs)) →
        (All P (marked marks vs) → (j : ℕ) (d : Vertex) → j < length vs → get_or marks j false ≡ true →
        P (get_or vs j d)) → (k : ℕ) → k < length (v ∷ vs) → get_or (m ∷ marks) k false ≡ true → P (get_or (v ∷ vs) k d)
    by true is h next zero l e = All-head P v (marked marks vs) h
    by false is h next zero l e = absurd (clash e is)
    by b is h next (suc k) l e = next (tail b h) k d (omega (arith, l)) e

-- the corners of triangles by way of their indices
by_indices : (vs : List Vertex) (fs : List Facet) → flat_map (λ index. option_to_list (slice_get vs index)) (indices_in fs) ≡ flat_map (corners_of vs) fs
by_indices vs [] = refl
by_indices vs (f ∷ fs) =
    flat_map-append (λ index. option_to_list (slice_get vs index)) f.corners (indices_in fs)
    ∙ ap (λ (us : List Vertex). corners_of vs f ++ us) (by_indices vs fs)

pub marked_are_corners : (s : Surface) (marks : List Bool) → AreMarksOf s marks →
    HaveSameEntries (marked marks s.vertices.items) (flat_map (corners_of s.vertices.items) s.facets.items)
marked_are_corners s marks h =
    subst (HaveSameEntries (marked marks vs)) (by_indices vs s.facets.items) (record {
      there = all_marked (Contains corners) marks vs (λ k d l e. corner k d l (h.only k e));
      back = all_in (Contains (marked marks vs)) at indices
          (All-weaker (λ k. k < length vs → get_or marks k false ≡ true) (λ k. All (Contains (marked marks vs)) (at k))
          (λ k m. one_in (Contains (marked marks vs)) (slice_get vs k) (has_mark k m (slice_get vs k) refl)) indices
          h.marked);
    })
  where
    vs : List Vertex
    vs = s.vertices.items

    indices : List ℕ
    indices = indices_in s.facets.items

    at : ℕ → List Vertex
    at index = option_to_list (slice_get vs index)

    corners : List Vertex
    corners = flat_map at indices

    corner : (k : ℕ) (d : Vertex) → k < length vs → Contains indices k → Contains corners (get_or vs k d)
    corner k d l c =
        let here = All-contains (λ n. All (Contains corners) (at n)) indices k (all_out (Contains corners) at indices (All-contains_itself corners)) c in
        subst (λ (o : Option Vertex). IfSome o (Contains corners)) (slice_get-get_or vs k d l) (one_out (Contains corners) (slice_get vs k) here)

    has_mark : (k : ℕ) → (k < length vs → get_or marks k false ≡ true) → (o : Option Vertex) → slice_get vs k ≡ o → IfSome o (Contains (marked marks vs))
    has_mark k m None e = tt
    has_mark k m (Some v) e =
        let less = slice_get_within vs k v e in
        subst (Contains (marked marks vs)) (get_or_from_slice_get vs k v v e)
        (at_mark (Contains (marked marks vs)) marks vs (All-contains_itself (marked marks vs)) k v less (m less))
