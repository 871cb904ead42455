-- Rounded corners and triangles, one more at a time.
use Rattle.std.proofs.Common.{◌≡◌, ℕ, suc, ◌+◌, ◌<◌, Bool, true, false, cond, if◌then◌else◌, not, List, [], ◌∷◌, ◌++◌, map, length, take, get_or, sym, ap, subst, ◌∙◌, arith}
use Rattle.std.proofs.lemmas.List.{append-nil, map-append, take_more}
use Rattle.std.proofs.lemmas.List.Elements.{filter-append}
use Rattle.mesh_certificate.specs.declared.certificate.triangle.Triangle.{Triangle}
use Rattle.mesh_write.specs.declared.vertices.point.DecimalPoint.{DecimalPoint}
use Rattle.mesh_write.specs.declared.vertices.point.DecimalTriangle.{DecimalTriangle}
use Rattle.mesh_write.specs.Vertices.Vertices.{IsMeshOf}
use Rattle.mesh_written.specs.declared.decimal_triangles.DecimalMesh.{DecimalMesh}
use Rattle.mesh_written.specs.DecimalTriangles.{triangle_at, vanishes, kept, indices_from, plane_of, IsMeshOver}

-- one element more of a list that is made from another
pub points_more : {X Y : Type 0} (f : X → Y) (xs : List X) (i : ℕ) (x : X) (ys more : List Y) (y : Y) → i < length xs →
    x ≡ get_or xs i x → y ≡ f x → ys ≡ map f (take i xs) → more ≡ ys ++ y ∷ [] → more ≡ map f (take (i + 1) xs)
points_more f xs i x ys more y l at is before e =
    e
    ∙ (λ k. before k ++ (is ∙ ap f at) k ∷ [])
    ∙ sym (ap (map f) (take_more xs i x l) ∙ map-append f (take i xs) (get_or xs i x ∷ []))

-- ---- triangles
module _ (ps : List DecimalPoint) (before : List Triangle) (t : Triangle) where
  abbrev f : Triangle → DecimalTriangle
  f = triangle_at ps

  kept_more : (b : Bool) → vanishes (f t) ≡ b → kept ps (before ++ t ∷ []) ≡ kept ps before ++ cond (not b) (t ∷ []) []
  kept_more b e =
      filter-append (λ (u : Triangle). not (vanishes (f u))) before (t ∷ []) ∙ ap (λ (c : Bool). kept ps before ++ cond (not c) (t ∷ []) []) e

  -- the indices of those of a list and of one triangle more
  indices_more : (n m : ℕ) (us : List Triangle) (b : Bool) → vanishes (f t) ≡ b → n + length us ≡ m →
      indices_from n ps (us ++ t ∷ []) ≡ indices_from n ps us ++ (if b then [] else m ∷ [])
  indices_more n m [] b e is =
      let none : n + 0 ≡ m = is in
      let at : n ≡ m = omega (arith, none) in
      λ i. if e i then [] else at i ∷ []
  indices_more n m (u ∷ us) b e is =
      let one : n + suc (length us) ≡ m = is in
      let next : (n + 1) + length us ≡ m = omega (arith, one) in
      by (vanishes (f u)) (indices_more (n + 1) m us b e next)
    where
      by : (gone : Bool) → indices_from (n + 1) ps (us ++ t ∷ []) ≡ indices_from (n + 1) ps us ++ (if b then [] else m ∷ []) →
          (if gone then indices_from (n + 1) ps (us ++ t ∷ []) else n ∷ indices_from (n + 1) ps (us ++ t ∷ []))
          ≡ (if gone then indices_from (n + 1) ps us else n ∷ indices_from (n + 1) ps us) ++ (if b then [] else m ∷ [])
      by true rest = rest
      by false rest = ap (λ (ns : List ℕ). n ∷ ns) rest

  -- a triangle that vanishes isn't kept
  pub nothing_more : (written : DecimalMesh) → vanishes (f t) ≡ true → IsMeshOver ps before written → IsMeshOver ps (before ++ t ∷ []) written
  nothing_more written e h =
      let same : kept ps before ≡ kept ps (before ++ t ∷ []) = sym (kept_more true e ∙ append-nil (kept ps before)) in
      record {
        mesh = subst (λ (us : List Triangle). IsMeshOf (map f us) written.mesh) same h.mesh;
        planes = h.planes ∙ ap (map plane_of) same;
        origins = h.origins ∙ sym (indices_more 0 (length before) before true e (omega arith) ∙ append-nil (indices_from 0 ps before));
      }

  -- another one is, with its plane
  pub one_more : (written after : DecimalMesh) (d : DecimalTriangle) → vanishes (f t) ≡ false → d ≡ f t →
      IsMeshOver ps before written → IsMeshOf (map f (kept ps before) ++ d ∷ []) after.mesh →
      after.planes.items ≡ written.planes.items ++ t.first.plane ∷ [] →
      after.origins.items ≡ written.origins.items ++ length before ∷ [] → IsMeshOver ps (before ++ t ∷ []) after
  one_more written after d e is h mesh planes origins =
      let same : kept ps before ++ t ∷ [] ≡ kept ps (before ++ t ∷ []) = sym (kept_more false e) in
      let triangles : map f (kept ps before) ++ d ∷ [] ≡ map f (kept ps (before ++ t ∷ [])) =
      ap (λ (u : DecimalTriangle). map f (kept ps before) ++ u ∷ []) is ∙ sym (map-append f (kept ps before) (t ∷ []))
      ∙ ap (map f) same in
      record {
        mesh = subst (λ (us : List DecimalTriangle). IsMeshOf us after.mesh) triangles mesh;
        planes = planes ∙ ap (λ (ns : List ℕ). ns ++ t.first.plane ∷ []) h.planes
            ∙ sym (map-append plane_of (kept ps before) (t ∷ [])) ∙ ap (map plane_of) same;
        origins = origins ∙ ap (λ (ns : List ℕ). ns ++ length before ∷ []) h.origins
            ∙ sym (indices_more 0 (length before) before false e (omega arith));
      }

-- the mesh of one triangle more
pub mesh_more : (ps : List DecimalPoint) (ts : List Triangle) (i : ℕ) (t : Triangle) (written : DecimalMesh) →
    i < length ts → t ≡ get_or ts i t → IsMeshOver ps (take i ts ++ t ∷ []) written →
    IsMeshOver ps (take (i + 1) ts) written
mesh_more ps ts i t written l at h =
    let all : take i ts ++ t ∷ [] ≡ take (i + 1) ts = ap (λ (u : Triangle). take i ts ++ u ∷ []) at ∙ sym (take_more ts i t l) in
    subst (λ (us : List Triangle). IsMeshOver ps us written) all h
