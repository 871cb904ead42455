-- The triangles that a reader finds in the bytes.
use Rattle.std.proofs.Common.{◌≡◌, ℕ, suc, ◌+◌, ◌*◌, ◌≤◌, true, List, [], ◌∷◌, ◌++◌, length, flat_map, Option, Some, Ok}
use Rattle.std.proofs.Common.{append_assoc, append-nil, length-append, refl, sym, ap, subst, ◌∙◌, arith}
use Rattle.std.specs.Prelude.{◌&&◌, ◌==◌, nat_le}
use Rattle.std.proofs.lemmas.Bool.Decides.{nat_tests}
use Rattle.mesh_read.specs.declared.surface.surface.Facet.{Facet}
use Rattle.mesh_read.specs.Surface.Surfaces.{Point, Content}
use Rattle.mesh_read.specs.Stl.Facets.{with_triangle}
use Rattle.mesh_read.specs.Stl.Binary.{number_at, point_at, with_points, with_facet_at, first_facets, binary_of}
use Rattle.mesh_read.specs.Stl.ReadStl.{is_binary, checked}
use Rattle.mesh_read.proofs.Triangles.{facet_added}
use Rattle.mesh_write.specs.declared.stl.triangle.FloatTriangle.{FloatTriangle}
use Rattle.mesh_write.specs.Stl.Written.{stl_header, number_bytes, triangle_bytes, stl_bytes_of}
use Rattle.mesh_write.specs.Stl.ReadBack.{IsPoint, AreCorners, facets_of, IsReadBack}
use Rattle.mesh_write.proofs.Positions.{number_behind, point_behind, corner_a, corner_b, corner_c, header_length}
use Rattle.mesh_write.proofs.Positions.{number_length, triangle_length, number_first}

abbrev content : List Point → ℕ → Content
content points k = record { points = points; facets = facets_of k }

-- ---- one triangle
read_corners : (place : ℕ) (before : Content) (oa ob oc : Option Point) (p q r : Point) → oa ≡ Some p → ob ≡ Some q →
    oc ≡ Some r → with_points place before oa ob oc ≡ Ok (with_triangle place p q r before)
read_corners place before oa ob oc p q r ea eb ec = rw (ea, eb, ec) refl

facets_more : (k m : ℕ) → m ≡ 3 * k → facets_of k ++ (record { corners = m ∷ (m + 1) ∷ (m + 2) ∷ []; place = k + 1 }) ∷ [] ≡ facets_of (k + 1)
facets_more k m e =
    let s : suc k ≡ k + 1 = omega arith in
    subst (λ (i : ℕ). facets_of k ++ (record { corners = m ∷ (m + 1) ∷ (m + 2) ∷ []; place = k + 1 }) ∷ [] ≡ facets_of i) s (rw e refl)

module _ (bytes front rest : List ℕ) (k : ℕ) (t : FloatTriangle) (p q r : Point)
    (is : bytes ≡ front ++ (triangle_bytes t ++ rest)) (size : length front ≡ 84 + 50 * k) (a : IsPoint t.a p)
    (b : IsPoint t.b q) (c : IsPoint t.c r) where
  corner : (at i : ℕ) (o : Point) → at ≡ length front + i → point_at (triangle_bytes t ++ rest) i ≡ Some o → point_at bytes at ≡ Some o
  corner at i o e here = ap (λ (xs : List ℕ). point_at xs at) is ∙ point_behind front (triangle_bytes t ++ rest) at i e ∙ here

  facet_read : (before : Content) → with_facet_at bytes k (Ok before) ≡ Ok (with_triangle (k + 1) p q r before)
  facet_read before =
      read_corners (k + 1) before (point_at bytes (50 * k + 96)) (point_at bytes (50 * k + 108)) (point_at bytes (50 * k + 120)) p q r
      (corner (50 * k + 96) 12 p (omega (arith, size)) (corner_a t rest p a))
      (corner (50 * k + 108) 24 q (omega (arith, size)) (corner_b t rest q b))
      (corner (50 * k + 120) 36 r (omega (arith, size)) (corner_c t rest r c))

  next_read : (points : List Point) → length points ≡ 3 * k → first_facets bytes k ≡ Ok (content points k) →
      first_facets bytes (k + 1) ≡ Ok (content (points ++ p ∷ q ∷ r ∷ []) (k + 1))
  next_read points e h =
      facet_added bytes k (content points k) (with_triangle (k + 1) p q r (content points k)) h (facet_read (content points k))
      ∙ ap (λ (fs : List Facet). Ok (record { points = points ++ p ∷ q ∷ r ∷ []; facets = fs })) (facets_more k (length points) e)

-- ---- all
triangles_read : (ts : List FloatTriangle) (qs : List Point) (bytes front : List ℕ) (ps : List Point) (k n : ℕ) →
    bytes ≡ front ++ flat_map triangle_bytes ts → length front ≡ 84 + 50 * k → length ps ≡ 3 * k → n ≡ k + length ts →
    AreCorners ts qs → first_facets bytes k ≡ Ok (content ps k) → first_facets bytes n ≡ Ok (content (ps ++ qs) n)
triangles_read [] [] bytes front ps k n is size count e corners h =
    let same : k ≡ n = omega (arith, e) in
    subst (λ (i : ℕ). first_facets bytes i ≡ Ok (content (ps ++ []) i)) same (h ∙ ap (λ (xs : List Point). Ok (content xs k)) (sym (append-nil ps)))
triangles_read [] (q ∷ qs) bytes front ps k n is size count e corners h = absurd corners
triangles_read (t ∷ ts) [] bytes front ps k n is size count e corners h = absurd corners
triangles_read (t ∷ ts) (p ∷ []) bytes front ps k n is size count e corners h = absurd corners
triangles_read (t ∷ ts) (p ∷ q ∷ []) bytes front ps k n is size count e corners h = absurd corners
triangles_read (t ∷ ts) (p ∷ q ∷ r ∷ more) bytes front ps k n is size count e corners h =
    let front_size : length (front ++ triangle_bytes t) ≡ 84 + 50 * (k + 1) = omega (arith, length-append front (triangle_bytes t), triangle_length t, size) in
    let points_size : length (ps ++ p ∷ q ∷ r ∷ []) ≡ 3 * (k + 1) = omega (arith, length-append ps (p ∷ q ∷ r ∷ []), count) in
    triangles_read ts more bytes (front ++ triangle_bytes t) (ps ++ p ∷ q ∷ r ∷ []) (k + 1) n
    (is ∙ sym (append_assoc front (triangle_bytes t) (flat_map triangle_bytes ts))) front_size points_size (omega (arith, e)) corners.3
    (next_read bytes front (flat_map triangle_bytes ts) k t p q r is size corners.0 corners.1 corners.2 ps count h)
    ∙ ap (λ (xs : List Point). Ok (content xs n)) (append_assoc ps (p ∷ q ∷ r ∷ []) more)

flat_length : (ts : List FloatTriangle) → length (flat_map triangle_bytes ts) ≡ 50 * length ts
flat_length [] = refl
flat_length (t ∷ ts) = omega (arith, length-append (triangle_bytes t) (flat_map triangle_bytes ts), triangle_length t, flat_length ts)

file_length : (ts : List FloatTriangle) → length (stl_bytes_of ts) ≡ 84 + 50 * length ts
file_length ts =
    omega (
      arith,
      length-append stl_header (number_bytes (length ts) ++ flat_map triangle_bytes ts),
      length-append (number_bytes (length ts)) (flat_map triangle_bytes ts),
      header_length,
      number_length (length ts),
      flat_length ts,
    )

count_read : (ts : List FloatTriangle) → number_at (stl_bytes_of ts) 80 ≡ length ts
count_read ts =
    number_behind stl_header (number_bytes (length ts) ++ flat_map triangle_bytes ts) 80 0
    (omega (arith, header_length)) ∙ number_first (length ts) (flat_map triangle_bytes ts)

tests_pass : (x y : ℕ) → 84 ≤ x → x ≡ y → (nat_le 84 x && x == y) ≡ true
tests_pass x y l e =
    let a : nat_le 84 x ≡ true = grind (arith, nat_tests) in
    let b : (x == y) ≡ true = grind (arith, nat_tests) in
    rw (a, b) refl

binary : (ts : List FloatTriangle) → is_binary (stl_bytes_of ts) ≡ true
binary ts =
    tests_pass (length (stl_bytes_of ts)) (84 + 50 * number_at (stl_bytes_of ts) 80) (omega (arith, file_length ts))
    (omega (arith, file_length ts, count_read ts))

start_length : (n : ℕ) → length (stl_header ++ number_bytes n) ≡ 84
start_length n = omega (arith, length-append stl_header (number_bytes n), header_length, number_length n)

-- a reader finds the triangles that were written
pub read_back : (ts : List FloatTriangle) (bytes : List ℕ) → bytes ≡ stl_bytes_of ts → IsReadBack ts bytes
read_back ts bytes e points corners = rw e (here points corners)
  where
    all : (points : List Point) → AreCorners ts points → binary_of (stl_bytes_of ts) ≡ Ok (content points (length ts))
    all points corners =
        ap (first_facets (stl_bytes_of ts)) (count_read ts)
        ∙ triangles_read ts points (stl_bytes_of ts) (stl_header ++ number_bytes (length ts)) [] 0 (length ts)
        (sym (append_assoc stl_header (number_bytes (length ts)) (flat_map triangle_bytes ts))) (start_length (length ts)) refl (omega arith) corners refl

    here : IsReadBack ts (stl_bytes_of ts)
    here points corners = rw (binary ts) (ap (checked true) (all points corners))
