-- Meshes with one triangle more.
use Rattle.std.proofs.Common.{◌≡◌, ℕ, List, [], ◌∷◌, ◌++◌, map, refl, sym, ap, ◌∙◌}
use Rattle.std.specs.Prelude.{⊤, fold}
use Rattle.std.specs.List.{IsDistinct}
use Rattle.std.proofs.lemmas.List.{map-append}
use Rattle.mesh_write.specs.declared.vertices.point.DecimalPoint.{DecimalPoint}
use Rattle.mesh_write.specs.declared.vertices.point.DecimalTriangle.{DecimalTriangle}
use Rattle.mesh_write.specs.declared.vertices.point.IndexedTriangle.{IndexedTriangle}
use Rattle.mesh_write.specs.Vertices.Vertices.{same_point, with_point, corners_of, vertices_of, index_of, indexed, over}
use Rattle.mesh_write.proofs.VertexLists.{IsAmong, among_stays, new_is_among, index_stays, new_index, fold_more}
use Rattle.mesh_write.proofs.VertexLists.{among_stays_behind, points_distinct, index_leads_back}

-- ---- triangles whose corners are among the points
record AreAmong (ps : List DecimalPoint) (t : DecimalTriangle) : Type 0 where
  a : IsAmong ps t.a
  b : IsAmong ps t.b
  c : IsAmong ps t.c

abbrev AllAmong : List DecimalPoint → List DecimalTriangle → Type 0
AllAmong ps [] = ⊤
AllAmong ps (t ∷ ts) = AreAmong ps t × AllAmong ps ts

corners_stay : (ps : List DecimalPoint) (q : DecimalPoint) (t : DecimalTriangle) → AreAmong ps t → AreAmong (with_point ps q) t
corners_stay ps q t h =
    record { a = among_stays ps q t.a h.a; b = among_stays ps q t.b h.b; c = among_stays ps q t.c h.c }

all_stay : (ts : List DecimalTriangle) (ps : List DecimalPoint) (q : DecimalPoint) → AllAmong ps ts → AllAmong (with_point ps q) ts
all_stay [] ps q h = tt
all_stay (t ∷ ts) ps q h = (corners_stay ps q t h.0, all_stay ts ps q h.1)

-- all corners of triangles are among their vertices
all_among : (ts : List DecimalTriangle) (ps : List DecimalPoint) → AllAmong (fold with_point ps (corners_of ts)) ts
all_among [] ps = tt
all_among (t ∷ ts) ps =
    let pa = with_point ps t.a in
    let pb = with_point pa t.b in
    let pc = with_point pb t.c in
    let rest = corners_of ts in
    let corners : AreAmong (fold with_point pc rest) t = record {
      a = among_stays_behind rest pc t.a (among_stays pb t.c t.a (among_stays pa t.b t.a (new_is_among ps t.a)));
      b = among_stays_behind rest pc t.b (among_stays pb t.c t.b (new_is_among pa t.b));
      c = among_stays_behind rest pc t.c (new_is_among pb t.c);
    } in
    (corners, all_among ts pc)

-- ---- their indices
index_stays_in : (ps : List DecimalPoint) (q : DecimalPoint) (t : DecimalTriangle) → AreAmong ps t → indexed (with_point ps q) t ≡ indexed ps t
index_stays_in ps q t h =
    λ i. record { a = index_stays ps q t.a h.a i; b = index_stays ps q t.b h.b i; c = index_stays ps q t.c h.c i }

indices_stay : (ts : List DecimalTriangle) (ps : List DecimalPoint) (q : DecimalPoint) → AllAmong ps ts →
    map (indexed (with_point ps q)) ts ≡ map (indexed ps) ts
indices_stay [] ps q h = refl
indices_stay (t ∷ ts) ps q h = λ i. index_stays_in ps q t h.0 i ∷ indices_stay ts ps q h.1 i

-- indices lead to the corners
leads_back : (ps : List DecimalPoint) (t : DecimalTriangle) → AreAmong ps t → over ps (indexed ps t) ≡ t
leads_back ps t h =
    λ i. record { a = index_leads_back ps t.a h.a i; b = index_leads_back ps t.b h.b i; c = index_leads_back ps t.c h.c i }

all_lead_back : (ts : List DecimalTriangle) (ps : List DecimalPoint) → AllAmong ps ts → map (over ps) (map (indexed ps) ts) ≡ ts
all_lead_back [] ps h = refl
all_lead_back (t ∷ ts) ps h = λ i. leads_back ps t h.0 i ∷ all_lead_back ts ps h.1 i

pub corners_are_back : (ts : List DecimalTriangle) → map (over (vertices_of ts)) (map (indexed (vertices_of ts)) ts) ≡ ts
corners_are_back ts = all_lead_back ts (vertices_of ts) (all_among ts [])

pub vertices_distinct : (ts : List DecimalTriangle) → IsDistinct same_point (vertices_of ts)
vertices_distinct ts = points_distinct (corners_of ts)

-- ---- one triangle more
corners_more : (ts : List DecimalTriangle) (t : DecimalTriangle) → corners_of (ts ++ t ∷ []) ≡ corners_of ts ++ t.a ∷ t.b ∷ t.c ∷ []
corners_more [] t = refl
corners_more (u ∷ ts) t = ap (λ (ps : List DecimalPoint). u.a ∷ u.b ∷ u.c ∷ ps) (corners_more ts t)

module _ (ts : List DecimalTriangle) (t : DecimalTriangle) where
  abbrev pa : List DecimalPoint
  pa = with_point (vertices_of ts) t.a

  abbrev pb : List DecimalPoint
  pb = with_point pa t.b

  abbrev pc : List DecimalPoint
  pc = with_point pb t.c

  vertices_more : vertices_of (ts ++ t ∷ []) ≡ pc
  vertices_more = ap (fold with_point []) (corners_more ts t) ∙ fold_more (corners_of ts) (t.a ∷ t.b ∷ t.c ∷ []) []

  old_indices : map (indexed (vertices_of ts)) ts ≡ map (indexed pc) ts
  old_indices =
      let among = all_among ts [] in
      let among_a = all_stay ts (vertices_of ts) t.a among in
      let among_b = all_stay ts pa t.b among_a in
      sym (indices_stay ts pb t.c among_b ∙ indices_stay ts pa t.b among_a ∙ indices_stay ts (vertices_of ts) t.a among)

  index_a : index_of (vertices_of ts) t.a ≡ index_of pc t.a
  index_a =
      let among_a = new_is_among (vertices_of ts) t.a in
      let among_b = among_stays pa t.b t.a among_a in
      sym (index_stays pb t.c t.a among_b ∙ index_stays pa t.b t.a among_a ∙ new_index (vertices_of ts) t.a)

  index_b : index_of pa t.b ≡ index_of pc t.b
  index_b = sym (index_stays pb t.c t.b (new_is_among pa t.b) ∙ new_index pa t.b)

  index_c : index_of pb t.c ≡ index_of pc t.c
  index_c = sym (new_index pb t.c)

  -- the mesh after its steps
  module _ (k0 k1 k2 k3 : List DecimalPoint) (us vs : List IndexedTriangle) (a b c : ℕ) (h0 : k0 ≡ vertices_of ts)
      (hu : us ≡ map (indexed (vertices_of ts)) ts) (h1 : k1 ≡ with_point k0 t.a) (ha : a ≡ index_of k0 t.a)
      (h2 : k2 ≡ with_point k1 t.b) (hb : b ≡ index_of k1 t.b) (h3 : k3 ≡ with_point k2 t.c) (hc : c ≡ index_of k2 t.c)
      (hv : vs ≡ us ++ (record { a = a; b = b; c = c }) ∷ []) where
    after_a : k1 ≡ pa
    after_a = h1 ∙ ap (λ (ps : List DecimalPoint). with_point ps t.a) h0

    after_b : k2 ≡ pb
    after_b = h2 ∙ ap (λ (ps : List DecimalPoint). with_point ps t.b) after_a

    after_c : k3 ≡ pc
    after_c = h3 ∙ ap (λ (ps : List DecimalPoint). with_point ps t.c) after_b

    pub vertices_pushed : k3 ≡ vertices_of (ts ++ t ∷ [])
    vertices_pushed = after_c ∙ sym vertices_more

    at_a : a ≡ index_of pc t.a
    at_a = ha ∙ ap (λ (ps : List DecimalPoint). index_of ps t.a) h0 ∙ index_a

    at_b : b ≡ index_of pc t.b
    at_b = hb ∙ ap (λ (ps : List DecimalPoint). index_of ps t.b) after_a ∙ index_b

    at_c : c ≡ index_of pc t.c
    at_c = hc ∙ ap (λ (ps : List DecimalPoint). index_of ps t.c) after_b ∙ index_c

    pub triangles_pushed : vs ≡ map (indexed (vertices_of (ts ++ t ∷ []))) (ts ++ t ∷ [])
    triangles_pushed =
        hv
        ∙ (λ i. (hu ∙ old_indices) i ++ (record { a = at_a i; b = at_b i; c = at_c i }) ∷ [])
        ∙ sym (map-append (indexed pc) ts (t ∷ []))
        ∙ ap (λ (ps : List DecimalPoint). map (indexed ps) (ts ++ t ∷ [])) (sym vertices_more)
