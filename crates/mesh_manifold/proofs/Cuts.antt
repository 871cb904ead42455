-- Pieces of triangles, one after another.
use Rattle.std.proofs.Common.{◌≡◌, ℕ, suc, ◌+◌, ◌<◌, Bool, true, false, if◌then◌else◌, List, [], ◌∷◌, ◌++◌, map, length}
use Rattle.std.proofs.Common.{take, get_or, append_assoc, append-nil, flat_map, refl, sym, ap, subst, ◌∙◌, arith}
use Rattle.std.proofs.lemmas.Grind.{flat_map-append}
use Rattle.std.proofs.lemmas.List.{length-map, length-take-le, map-append, take_more}
use Rattle.mesh_write.specs.declared.vertices.point.DecimalPoint.{DecimalPoint}
use Rattle.mesh_write.specs.declared.vertices.point.DecimalTriangle.{DecimalTriangle}
use Rattle.mesh_write.specs.declared.vertices.point.IndexedTriangle.{IndexedTriangle}
use Rattle.mesh_write.specs.declared.vertices.mesh.IndexedMesh.{IndexedMesh}
use Rattle.mesh_write.specs.Vertices.Vertices.{vertices_of, indexed, over, IsMeshOf}
use Rattle.mesh_write.proofs.Meshes.{corners_are_back}
use Rattle.mesh_manifold.specs.declared.cut.CutMesh.{CutMesh}
use Rattle.mesh_manifold.specs.declared.cut.Pieces.{Pieces}
use Rattle.mesh_manifold.specs.declared.edge_set.PointEdge.{PointEdge}
use Rattle.mesh_manifold.specs.Middles.{middle}
use Rattle.mesh_manifold.specs.Cuts.{triangle, is_cut, halves_at, halves, pieces, origins_from, plane_of, ArePutBehind, AreCutOf, IsCutMesh}

-- ---- triangles that are put in one after another
pub put_after : (xs ys : List DecimalTriangle) (origin : ℕ) (first second third : Pieces) →
    ArePutBehind xs origin first second → ArePutBehind ys origin second third → ArePutBehind (xs ++ ys) origin first third
put_after xs ys origin first second third a b = record {
  mesh = λ before is. subst (λ (ts : List DecimalTriangle). IsMeshOf ts third.mesh) (append_assoc before xs ys) (b.mesh (before ++ xs) (a.mesh before is));
  origins =
      let same = map (λ (piece : DecimalTriangle). origin) in
      b.origins
      ∙ ap (λ (ns : List ℕ). ns ++ same ys) a.origins
      ∙ append_assoc first.origins.items (same xs) (same ys)
      ∙ ap (λ (ns : List ℕ). first.origins.items ++ ns) (sym (map-append (λ (piece : DecimalTriangle). origin) xs ys));
}

-- ---- the halves of a triangle
module _ (es : List PointEdge) (u v w : DecimalPoint) where
  pub cut_in_two : (m : DecimalPoint) → m ≡ middle u v → is_cut es u v w ≡ true → halves_at m u v w ≡ halves es u v w
  cut_in_two m at e =
      ap (λ (p : DecimalPoint). halves_at p u v w) at
      ∙ sym (ap (λ (b : Bool). if b then halves_at (middle u v) u v w else triangle u v w ∷ []) e)

  pub left_whole : is_cut es u v w ≡ false → triangle u v w ∷ [] ≡ halves es u v w
  left_whole e = sym (ap (λ (b : Bool). if b then halves_at (middle u v) u v w else triangle u v w ∷ []) e)

-- ---- its pieces
module _ (es : List PointEdge) (t : DecimalTriangle) where
  abbrev both_at : DecimalPoint → List DecimalTriangle
  both_at m = halves es t.a t.b m ++ halves es t.c t.a m

  abbrev second_at : DecimalPoint → List DecimalTriangle
  second_at m = triangle t.b t.c m ∷ halves es t.a t.b m

  abbrev chosen : Bool → Bool → List DecimalTriangle
  chosen b d =
      if b then both_at (middle t.b t.c) else if d then second_at (middle t.c t.a) else halves es t.a t.b t.c

  pub both_cut : (m : DecimalPoint) → m ≡ middle t.b t.c → is_cut es t.b t.c t.a ≡ true → halves es t.a t.b m ++ halves es t.c t.a m ≡ pieces es t
  both_cut m at e = ap both_at at ∙ sym (ap (λ (b : Bool). chosen b (is_cut es t.c t.a t.b)) e)

  pub second_cut : (m : DecimalPoint) → m ≡ middle t.c t.a → is_cut es t.b t.c t.a ≡ false →
      is_cut es t.c t.a t.b ≡ true → triangle t.b t.c m ∷ halves es t.a t.b m ≡ pieces es t
  second_cut m at e f = ap second_at at ∙ sym ((λ i. chosen (e i) (f i)))

  pub none_cut : is_cut es t.b t.c t.a ≡ false → is_cut es t.c t.a t.b ≡ false → halves es t.a t.b t.c ≡ pieces es t
  none_cut e f = sym (λ i. chosen (e i) (f i))

-- ---- the pieces of one triangle more
pub pieces_more : (es : List PointEdge) (ps : List DecimalPoint) (ts : List IndexedTriangle) (i : ℕ)
    (d : IndexedTriangle) (one : DecimalTriangle) (mesh : IndexedMesh) → i < length ts → one ≡ over ps (get_or ts i d) →
    IsMeshOf (flat_map (pieces es) (map (over ps) (take i ts)) ++ pieces es one) mesh →
    IsMeshOf (flat_map (pieces es) (map (over ps) (take (i + 1) ts))) mesh
pieces_more es ps ts i d one mesh l at h =
    let before = map (over ps) (take i ts) in
    let last = over ps (get_or ts i d) in
    let is : flat_map (pieces es) before ++ pieces es one ≡ flat_map (pieces es) (map (over ps) (take (i + 1) ts)) =
    ap (λ (t : DecimalTriangle). flat_map (pieces es) before ++ pieces es t) at
    ∙ ap (λ (us : List DecimalTriangle). flat_map (pieces es) before ++ us) (sym (append-nil (pieces es last)))
    ∙ sym (flat_map-append (pieces es) before (last ∷ []))
    ∙ ap (flat_map (pieces es)) (sym (map-append (over ps) (take i ts) (get_or ts i d ∷ [])) ∙ ap (map (over ps)) (sym (take_more ts i d l))) in
    subst (λ (us : List DecimalTriangle). IsMeshOf us mesh) is h

-- ---- the origins of the pieces of one triangle more
origins_more : (es : List PointEdge) (n m : ℕ) (ts : List DecimalTriangle) (t : DecimalTriangle) → n + length ts ≡ m →
    origins_from es n (ts ++ t ∷ []) ≡ origins_from es n ts ++ map (λ (piece : DecimalTriangle). m) (pieces es t)
origins_more es n m [] t is =
    let none : n + 0 ≡ m = is in
    let at : n ≡ m = omega (arith, none) in
    append-nil (map (λ (piece : DecimalTriangle). n) (pieces es t)) ∙ ap (λ (k : ℕ). map (λ (piece : DecimalTriangle). k) (pieces es t)) at
origins_more es n m (u ∷ us) t is =
    let one : n + suc (length us) ≡ m = is in
    let next : (n + 1) + length us ≡ m = omega (arith, one) in
    let here : List ℕ = map (λ (piece : DecimalTriangle). n) (pieces es u) in
    ap (λ (ns : List ℕ). here ++ ns) (origins_more es (n + 1) m us t next)
    ∙ sym (append_assoc here (origins_from es (n + 1) us) (map (λ (piece : DecimalTriangle). m) (pieces es t)))

pub origins_of_more : (es : List PointEdge) (ps : List DecimalPoint) (ts : List IndexedTriangle) (i : ℕ)
    (d : IndexedTriangle) (one : DecimalTriangle) (before after : List ℕ) → i < length ts → one ≡ over ps (get_or ts i d) →
    before ≡ origins_from es 0 (map (over ps) (take i ts)) → after ≡ before ++ map (λ (piece : DecimalTriangle). i) (pieces es one) →
    after ≡ origins_from es 0 (map (over ps) (take (i + 1) ts))
origins_of_more es ps ts i d one before after l at is e =
    let us = map (over ps) (take i ts) in
    let last = over ps (get_or ts i d) in
    let count : length us ≡ i = length-map (take i ts) (over ps) ∙ length-take-le i ts (omega (arith, l)) in
    let many : 0 + length us ≡ i = omega (arith, count) in
    e
    ∙ (λ k. is k ++ map (λ (piece : DecimalTriangle). i) (pieces es (at k)))
    ∙ sym (origins_more es 0 i us last many)
    ∙ ap (origins_from es 0) (sym (map-append (over ps) (take i ts) (get_or ts i d ∷ [])) ∙ ap (map (over ps)) (sym (take_more ts i d l)))

-- ---- the whole mesh
pub mesh_is_cut : (es : List PointEdge) (planes : List ℕ) (ts : List DecimalTriangle) (ps : List DecimalPoint)
    (shown : List IndexedTriangle) (mesh : CutMesh) → ps ≡ vertices_of ts → shown ≡ map (indexed (vertices_of ts)) ts →
    IsMeshOf (flat_map (pieces es) (map (over ps) shown)) mesh.mesh →
    mesh.origins.items ≡ origins_from es 0 (map (over ps) shown) →
    mesh.planes.items ≡ map (plane_of planes) mesh.origins.items → IsCutMesh planes ts mesh
mesh_is_cut es planes ts ps shown mesh at all h origins planes_are =
    let back : map (over ps) shown ≡ ts = (λ i. map (over (at i)) (all i)) ∙ corners_are_back ts in
    record {
      cut = flat_map (pieces es) ts;
      are_cut = record { edges = es; is = refl };
      is = subst (λ (us : List DecimalTriangle). IsMeshOf (flat_map (pieces es) us) mesh.mesh) back h;
      origins = origins ∙ ap (origins_from es 0) back;
      planes_are = planes_are;
    }

-- ---- triangles that aren't cut
-- without edges each triangle stays as it is
pub nothing_cut : (ts : List DecimalTriangle) → ts ≡ flat_map (pieces []) ts
nothing_cut [] = refl
nothing_cut (t ∷ ts) = ap (λ (us : List DecimalTriangle). t ∷ us) (nothing_cut ts)

unfoldable pub uncut : (ts : List DecimalTriangle) → AreCutOf ts ts
uncut ts = record { edges = []; is = nothing_cut ts }
