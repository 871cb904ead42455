-- The crossings of a balanced mesh along two directions agree, at a point that is generic for both.
use Rattle.std.proofs.Common.{◌≡◌, ◌≢◌, ◌⊎◌, inl, inr, refl, ap, ◌∙◌, arith, List, [], ◌∷◌, ℤ, pos, ◌+ℤ◌, ◌-ℤ◌, neg_ℤ}
use Rattle.ember_algebra.specs.Vector.{Vector, dot, cross, det}
use Rattle.ember_algebra.specs.declared.Sign.{Sign}
use Rattle.ember_algebra.specs.Sign.{sgn, flip}
use Rattle.ember_algebra.specs.Sums.{total}
use Rattle.ember_algebra.proofs.Laws.{linear}
use Rattle.ember_algebra.proofs.Ring.{◌≈◌, neg, cancels}
use Rattle.ember_algebra.proofs.Vectors.{vector, identity, dotE, crossE}
use Rattle.ember_algebra.proofs.Signs.{signs, same_z, same_z_out, sgn-neg}
use Rattle.ember_algebra.proofs.Quadrant.{edge}
use Rattle.ember_algebra.proofs.QuadrantLaw.{GenericAll, quadrant, edge_term}
use Rattle.ember_algebra.proofs.Flat.{flat}
use Rattle.ember_model.specs.declared.tri.Tri.{Tri}
use Rattle.ember_model.specs.declared.point.Spot.{Spot}
use Rattle.ember_model.specs.Meshes.{Edge, reversed, edges_in, IsBalanced}
use Rattle.ember_model.proofs.PlaneValues.{seen}
use Rattle.ember_model.proofs.SeenCrossings.{seen_crossing}
use Rattle.ember_law.proofs.Balance.{balanced_zero}
use Rattle.ember_law.proofs.FlatTriangles.{IsFlat, flat_seen, flat_seen_crossing}

-- ---- the edge terms
abbrev seen_term : Vector → Vector → Spot → Edge → ℤ
seen_term f g p e = edge_term (cross f g) f g (seen p e.from) (seen p e.to)

-- a cross product the other way round
pub turned_dot : (f u v : Vector) → dot f (cross v u) ≡ neg_ℤ (dot f (cross u v))
turned_dot = identity (vector ∷ vector ∷ vector ∷ []) (λ f u v. dotE f (crossE v u) ≈ neg (dotE f (crossE u v))) cancels

turned_edge : (a b c d : Sign) → edge b a (flip c) (flip d) ≡ neg_ℤ (edge a b c d)
turned_edge a b c d =
    same_z_out _ _ (signs 4 (λ a b c d. same_z (edge b a (flip c) (flip d)) (neg_ℤ (edge a b c d))) tt a b c d)

term_odd : (f g : Vector) (p : Spot) (e : Edge) → seen_term f g p (reversed e) ≡ neg_ℤ (seen_term f g p e)
term_odd f g p e =
    let u = seen p e.from in let v = seen p e.to in
    let x : sgn (dot f (cross v u)) ≡ flip (sgn (dot f (cross u v))) = ap sgn (turned_dot f u v) ∙ sgn-neg (dot f (cross u v)) in
    let y : sgn (dot g (cross v u)) ≡ flip (sgn (dot g (cross u v))) = ap sgn (turned_dot g u v) ∙ sgn-neg (dot g (cross u v)) in
    let h : seen_term f g p (reversed e) ≡ edge (sgn (dot (cross f g) v)) (sgn (dot (cross f g) u))
    (flip (sgn (dot f (cross u v)))) (flip (sgn (dot g (cross u v)))) =
    λ i. edge (sgn (dot (cross f g) v)) (sgn (dot (cross f g) u)) (x i) (y i) in
    h ∙ turned_edge (sgn (dot (cross f g) u)) (sgn (dot (cross f g) v)) (sgn (dot f (cross u v))) (sgn (dot g (cross u v)))

-- ---- one triangle
-- p is off the triangle's plane, and only edges parallel to f meet the line through p along f
pub record IsGeneric (f : Vector) (p : Spot) (t : Tri) : Type 0 where
  pub off : det (seen p t.a) (seen p t.b) (seen p t.c) ≢ pos 0
  pub edges : GenericAll (seen p t.a) (seen p t.b) (seen p t.c) f

abbrev pub AreGeneric : Vector → Spot → List Tri → Type 0
AreGeneric f p [] = Unit {0}
AreGeneric f p (t ∷ ts) = (IsFlat t ⊎ IsGeneric f p t) × AreGeneric f p ts

abbrev pub IsAcross : Vector → Vector → Type 0
IsAcross f g = (cross f g).x ≡ pos 0 → (cross f g).y ≡ pos 0 → (cross f g).z ≡ pos 0 → ⊥

abbrev terms : Vector → Vector → Spot → Tri → ℤ
terms f g p t =
    seen_term f g p (record { from = t.a; to = t.b }) +ℤ seen_term f g p (record { from = t.b; to = t.c }) +ℤ seen_term f g p (record { from = t.c; to = t.a })

flat_terms : (f g : Vector) (p : Spot) (t : Tri) → IsFlat t → seen_crossing f p t -ℤ seen_crossing g p t ≡ terms f g p t
flat_terms f g p t a =
    let x = flat_seen_crossing f p t a in let y = flat_seen_crossing g p t a in let z =
    flat (seen p t.a) (seen p t.b) (seen p t.c) f g (cross f g) (flat_seen p t a) in
    omega (arith, linear, x, y, z)

tri_law : (f g : Vector) (p : Spot) (t : Tri) → IsAcross f g → IsFlat t ⊎ IsGeneric f p t → IsFlat t ⊎ IsGeneric g p t →
    seen_crossing f p t -ℤ seen_crossing g p t ≡ terms f g p t
tri_law f g p t h (inl a) b = flat_terms f g p t a
tri_law f g p t h (inr a) (inl b) = flat_terms f g p t b
tri_law f g p t h (inr a) (inr b) = quadrant (seen p t.a) (seen p t.b) (seen p t.c) f g a.off h a.edges b.edges

-- ---- a mesh
mesh_law : (f g : Vector) (p : Spot) (ts : List Tri) → IsAcross f g → AreGeneric f p ts → AreGeneric g p ts →
    total (seen_crossing f p) ts -ℤ total (seen_crossing g p) ts ≡ total (seen_term f g p) (edges_in ts)
mesh_law f g p [] h a b = refl
mesh_law f g p (t ∷ ts) h a b =
    let x = tri_law f g p t h a.0 b.0 in let y = mesh_law f g p ts h a.1 b.1 in omega (arith, linear, x, y)

-- balanced triangles wind the same along two directions that are generic at a point
pub directions_agree : (f g : Vector) (p : Spot) (ts : List Tri) → IsBalanced ts → IsAcross f g → AreGeneric f p ts →
    AreGeneric g p ts → total (seen_crossing f p) ts ≡ total (seen_crossing g p) ts
directions_agree f g p ts h c a b =
    let x = mesh_law f g p ts c a b in let y = balanced_zero (seen_term f g p) (term_odd f g p) ts h in omega (arith, linear, x, y)
