-- Lines by their fields.
use Rattle.std.proofs.Common.{◌≡◌, refl, sym, ap, subst, ◌∙◌, arith, ℕ, ◌-◌, ◌^◌, ◌<◌, ◌≤◌, List, [], ◌∷◌, ◌++◌, ℤ, pos, codes, append_assoc}
use Rattle.std.specs.Fmt.{signed_decimal}
use Rattle.std.proofs.lemmas.List.Concat.{flat_map-cons}
use Rattle.std.proofs.lemmas.Int.{ints}
use Rattle.ember_algebra.specs.Size.{Small}
use Rattle.ember_model.specs.declared.plane.Plane.{Plane}
use Rattle.ember_model.specs.declared.point.Spot.{Spot}
use Rattle.ember_model.specs.Valid.{IsValidPlane}
use Rattle.ember_model.specs.Edges.{RingEdge}
use Rattle.ember_model.specs.FaceFiles.{fields, line_of, IsWrittenCorner}
use Rattle.ember_model.proofs.Tuples.{same_plane, same_spot}
use Rattle.ember_reread.specs.declared.fields.Four.{Four}
use Rattle.ember_reread.specs.Numbers.{IsEnd}
use Rattle.ember_reread.specs.Lines.{IsField, AreFields, IsPlane, IsCorner, IsEdgeLine, IsSupportLine}
use Rattle.ember_reread.proofs.NumberTexts.{tail_injective}
use Rattle.ember_reread.proofs.FieldTexts.{same_field, same_rest, same_fields}

-- ---- numbers with a space before each, and what follows
abbrev spaced : List ℤ → List ℕ → List ℕ
spaced [] r = r
spaced (z ∷ zs) r = 32 ∷ (signed_decimal z ++ spaced zs r)

fields_spaced : (zs : List ℤ) (r : List ℕ) → fields zs ++ r ≡ spaced zs r
fields_spaced [] r = refl
fields_spaced (z ∷ zs) r =
    let s = signed_decimal z in let f = fields zs in
    ap (λ q. q ++ r) (flat_map-cons (λ z. codes " " ++ signed_decimal z) z zs) ∙ ap (λ q. 32 ∷ q) (append_assoc s f r ∙ ap (λ q. s ++ q) (fields_spaced zs r))

line_spaced : (k : ℕ) (zs : List ℤ) (r : List ℕ) → line_of (k ∷ []) zs ++ r ≡ k ∷ spaced zs (10 ∷ r)
line_spaced k zs r =
    ap (λ q. k ∷ q) (append_assoc (fields zs) (10 ∷ []) r ∙ fields_spaced zs (10 ∷ r))

abbrev four_numbers : Four → List ℤ
four_numbers v = v.x ∷ v.y ∷ v.z ∷ v.w ∷ []

four_spaced : {m n : ℕ} {v : Four} {bytes rest : List ℕ} → AreFields m n v bytes rest → bytes ≡ spaced (four_numbers v) rest
four_spaced {v = v} h =
    h.x.is ∙ ap (λ l. 32 ∷ (signed_decimal v.x ++ l))
    (h.y.is ∙ ap (λ l. 32 ∷ (signed_decimal v.y ++ l)) (h.z.is ∙ ap (λ l. 32 ∷ (signed_decimal v.z ++ l)) h.w.is))

spaced_four : {m n : ℕ} (v : Four) (rest : List ℕ) → Small m v.x → Small m v.y → Small m v.z → Small n v.w →
    IsEnd rest → AreFields m n v (spaced (four_numbers v) rest) rest
spaced_four v rest sx sy sz sw e =
    record {
      after_x = spaced (v.y ∷ v.z ∷ v.w ∷ []) rest;
      after_y = spaced (v.z ∷ v.w ∷ []) rest;
      after_z = spaced (v.w ∷ []) rest;
      x = record { small = sx; ends = omega arith; is = refl };
      y = record { small = sy; ends = omega arith; is = refl };
      z = record { small = sz; ends = omega arith; is = refl };
      w = record { small = sw; ends = e; is = refl };
    }

-- ---- planes and corners
abbrev plane_numbers : Plane → List ℤ
plane_numbers p = p.a ∷ p.b ∷ p.c ∷ p.d ∷ []

abbrev corner_numbers : Spot → List ℤ
corner_numbers v = v.x ∷ v.y ∷ v.z ∷ v.w ∷ []

abbrev plane_four : Plane → Four
plane_four p = record { x = p.a; y = p.b; z = p.c; w = p.d }

-- a plane that is read is valid
pub plane_valid : {p : Plane} {bytes rest : List ℕ} → IsPlane p bytes rest → IsValidPlane p
plane_valid h = let f = h.fields in record { a = f.x.small; b = f.y.small; c = f.z.small; d = f.w.small }

plane_spaced : {p : Plane} {bytes rest : List ℕ} → IsPlane p bytes rest → bytes ≡ spaced (plane_numbers p) rest
plane_spaced h = four_spaced h.fields

spaced_plane : (p : Plane) (rest : List ℕ) → IsValidPlane p → IsEnd rest → IsPlane p (spaced (plane_numbers p) rest) rest
spaced_plane p rest v e = record { fields = spaced_four (plane_four p) rest v.a v.b v.c v.d e }

same_planes : {p q : Plane} {bytes r s : List ℕ} → IsPlane p bytes r → IsPlane q bytes s → (p ≡ q) × (r ≡ s)
same_planes h k =
    let t = same_fields (omega arith) (omega arith) h.fields k.fields in
    let e = t.0 in
    (same_plane (ap (λ (v : Four). v.x) e) (ap (λ (v : Four). v.y) e) (ap (λ (v : Four). v.z) e) (ap (λ (v : Four). v.w) e), t.1)

corner_spaced : {v : Spot} {bytes rest : List ℕ} → IsCorner v bytes rest → bytes ≡ spaced (corner_numbers v) rest
corner_spaced h = four_spaced h.fields

spaced_corner : (v : Spot) (rest : List ℕ) → IsWrittenCorner v → IsEnd rest → IsCorner v (spaced (corner_numbers v) rest) rest
spaced_corner v rest h e =
    record { fields = spaced_four (record { x = v.x; y = v.y; z = v.z; w = v.w }) rest h.valid.x h.valid.y h.valid.z h.valid.w e; written = h }

same_corners : {u v : Spot} {bytes r s : List ℕ} → IsCorner u bytes r → IsCorner v bytes s → (u ≡ v) × (r ≡ s)
same_corners h k =
    let t = same_fields (omega arith) (omega arith) h.fields k.fields in
    let e = t.0 in
    (same_spot (ap (λ (v : Four). v.x) e) (ap (λ (v : Four). v.y) e) (ap (λ (v : Four). v.z) e) (ap (λ (v : Four). v.w) e), t.1)

corner_rest : {u v : Spot} {bytes r s : List ℕ} → IsCorner u bytes r → IsCorner v bytes s → r ≡ s
corner_rest h k = (same_corners h k).1

-- ---- the line of an edge
-- the parts behind its first byte
record EdgeParts (e : RingEdge) (bytes rest : List ℕ) : Type 0 where
  after_name : List ℕ
  after_plane : List ℕ
  name : bytes ≡ 101 ∷ after_name
  plane : IsPlane e.plane after_name after_plane
  corner : IsCorner e.start after_plane (10 ∷ rest)

edge_parts : {e : RingEdge} {bytes rest : List ℕ} → IsEdgeLine e bytes rest → EdgeParts e bytes rest
edge_parts {e} {bytes} {rest} h =
    record {
      after_name = spaced (plane_numbers e.plane) (spaced (corner_numbers e.start) (10 ∷ rest));
      after_plane = spaced (corner_numbers e.start) (10 ∷ rest);
      name = h.is ∙ line_spaced 101 (e.plane.a ∷ e.plane.b ∷ e.plane.c ∷ e.plane.d ∷ corner_numbers e.start) rest;
      plane = spaced_plane e.plane (spaced (corner_numbers e.start) (10 ∷ rest)) h.written.plane (omega arith);
      corner = spaced_corner e.start (10 ∷ rest) h.written.start (omega arith);
    }

abbrev pub NoEdge : List ℕ → Type 0
NoEdge bytes = (e : RingEdge) (rest : List ℕ) → IsEdgeLine e bytes rest → ⊥

abbrev NoByte : ℕ → List ℕ → Type 0
NoByte b bytes = (rest : List ℕ) → bytes ≡ b ∷ rest → ⊥

module _ {bytes s : List ℕ} (name : bytes ≡ 101 ∷ s) where
  edge_plane : {e : RingEdge} {rest : List ℕ} (p : EdgeParts e bytes rest) → IsPlane e.plane s p.after_plane
  edge_plane {e} p = subst (λ l. IsPlane e.plane l p.after_plane) (tail_injective (sym p.name ∙ name)) p.plane

  pub no_edge_plane : ((p : Plane) (rest : List ℕ) → IsPlane p s rest → ⊥) → NoEdge bytes
  no_edge_plane f e rest h = f _ _ (edge_plane (edge_parts h))

  module _ {p : Plane} {t : List ℕ} (plane : IsPlane p s t) where
    edge_corner : {e : RingEdge} {rest : List ℕ} → EdgeParts e bytes rest → IsCorner e.start t (10 ∷ rest)
    edge_corner {e} {rest} q =
        subst (λ l. IsCorner e.start l (10 ∷ rest)) (same_planes (edge_plane q) plane).1 q.corner

    pub no_edge_corner : ((v : Spot) (rest : List ℕ) → IsCorner v t rest → ⊥) → NoEdge bytes
    no_edge_corner f e rest h = f _ _ (edge_corner (edge_parts h))

    module _ {v : Spot} {q : List ℕ} (corner : IsCorner v t q) where
      pub no_edge_end : NoByte 10 q → NoEdge bytes
      no_edge_end f e rest h = f rest (corner_rest corner (edge_corner (edge_parts h)))

      pub edge_found : {rest : List ℕ} → q ≡ 10 ∷ rest → IsEdgeLine (record { plane = p; start = v }) bytes rest
      edge_found {rest} end =
          record {
            written = record { plane = plane_valid plane; start = corner.written };
            is = name ∙ ap (λ l. 101 ∷ l) (plane_spaced plane
                ∙ ap (λ l. spaced (plane_numbers p) l) (corner_spaced corner ∙ ap (λ l. spaced (corner_numbers v) l) end))
                ∙ sym (line_spaced 101 (p.a ∷ p.b ∷ p.c ∷ p.d ∷ corner_numbers v) rest);
          }

-- a line is that of one edge
pub same_edge : {e d : RingEdge} {bytes r s : List ℕ} → IsEdgeLine e bytes r → IsEdgeLine d bytes s → (e ≡ d) × (r ≡ s)
same_edge h k =
    let p = edge_parts h in let q = edge_parts k in
    let t = same_planes (edge_plane q.name p) q.plane in let c = same_corners (edge_corner q.name q.plane p) q.corner in
    (λ i. record { plane = t.0 i; start = c.0 i }, tail_injective c.1)

-- it begins with its name and a space
pub edge_begins : {e : RingEdge} {bytes rest : List ℕ} → IsEdgeLine e bytes rest → (t : List ℕ) × (bytes ≡ 101 ∷ 32 ∷ t)
edge_begins h = let p = edge_parts h in (_, p.name ∙ ap (λ l. 101 ∷ l) (plane_spaced p.plane))

-- ---- the first line of a face
record SupportParts (n : Plane) (count : ℕ) (bytes rest : List ℕ) : Type 0 where
  after_name : List ℕ
  after_plane : List ℕ
  name : bytes ≡ 102 ∷ after_name
  plane : IsPlane n after_name after_plane
  number : IsField count (pos count) after_plane (10 ∷ rest)

support_parts : {n : Plane} {count : ℕ} {bytes rest : List ℕ} → IsSupportLine n count bytes rest → SupportParts n count bytes rest
support_parts {n} {count} {bytes} {rest} h =
    record {
      after_name = spaced (plane_numbers n) (spaced (pos count ∷ []) (10 ∷ rest));
      after_plane = spaced (pos count ∷ []) (10 ∷ rest);
      name = h.is ∙ line_spaced 102 (n.a ∷ n.b ∷ n.c ∷ n.d ∷ pos count ∷ []) rest;
      plane = spaced_plane n (spaced (pos count ∷ []) (10 ∷ rest)) h.plane (omega arith);
      number = record { small = record { small = omega arith }; ends = omega arith; is = refl };
    }

-- a support line begins with `f`
pub support_begins : {n : Plane} {count : ℕ} {bytes rest : List ℕ} → IsSupportLine n count bytes rest → (t : List ℕ) × (bytes ≡ 102 ∷ t)
support_begins h = let p = support_parts h in (p.after_name, p.name)

abbrev NoSupport : ℕ → List ℕ → Type 0
NoSupport most bytes = (n : Plane) (count : ℕ) (rest : List ℕ) → count ≤ most → IsSupportLine n count bytes rest → ⊥

larger : {m n : ℕ} {z : ℤ} {bytes rest : List ℕ} → m ≤ n → IsField m z bytes rest → IsField n z bytes rest
larger l h = record { small = record { small = omega (arith, l, h.small.small) }; ends = h.ends; is = h.is }

module _ {bytes s : List ℕ} (name : bytes ≡ 102 ∷ s) where
  support_plane : {n : Plane} {count : ℕ} {rest : List ℕ} (p : SupportParts n count bytes rest) → IsPlane n s p.after_plane
  support_plane {n} p = subst (λ l. IsPlane n l p.after_plane) (tail_injective (sym p.name ∙ name)) p.plane

  pub no_support_plane : {most : ℕ} → ((p : Plane) (rest : List ℕ) → IsPlane p s rest → ⊥) → NoSupport most bytes
  no_support_plane f n count rest l h = f _ _ (support_plane (support_parts h))

  module _ {p : Plane} {t : List ℕ} (plane : IsPlane p s t) where
    support_number : {most : ℕ} {n : Plane} {count : ℕ} {rest : List ℕ} → count ≤ most →
        SupportParts n count bytes rest → IsField most (pos count) t (10 ∷ rest)
    support_number {most} {n} {count} {rest} l q =
        larger l (subst (λ b. IsField count (pos count) b (10 ∷ rest)) (same_planes (support_plane q) plane).1 q.number)

    pub no_support_number : {most : ℕ} → ((z : ℤ) (rest : List ℕ) → IsField most z t rest → ⊥) → NoSupport most bytes
    no_support_number f n count rest l h = f _ _ (support_number l (support_parts h))

    module _ {most : ℕ} {z : ℤ} {q : List ℕ} (number : IsField most z t q) where
      pub support_count : {n : Plane} {count : ℕ} {rest : List ℕ} → most < 10 ^ 64 → count ≤ most → IsSupportLine n count bytes rest → z ≡ pos count
      support_count k l h = same_field k number (support_number l (support_parts h))

      pub no_support_end : NoByte 10 q → NoSupport most bytes
      no_support_end f n count rest l h = f rest (same_rest number (support_number l (support_parts h)))

      pub support_found : {count : ℕ} {rest : List ℕ} → z ≡ pos count → 3 ≤ count → q ≡ 10 ∷ rest → IsSupportLine p count bytes rest
      support_found {count} {rest} e l end =
          record {
            plane = plane_valid plane;
            enough = l;
            is = name ∙ ap (λ l. 102 ∷ l) (plane_spaced plane
                ∙ ap (λ l. spaced (plane_numbers p) l) (number.is ∙ (λ i. 32 ∷ (signed_decimal (e i) ++ end i))))
                ∙ sym (line_spaced 102 (p.a ∷ p.b ∷ p.c ∷ p.d ∷ pos count ∷ []) rest);
          }

-- two readings of it have one plane, and what follows is the same
pub support_line_once : {n m : Plane} {count many : ℕ} {bytes r s : List ℕ} → IsSupportLine n count bytes r → IsSupportLine m many bytes s → (n ≡ m) × (r ≡ s)
support_line_once {count = count} {r = r} h i =
    let p = support_parts h in let q = support_parts i in
    let t = same_planes (support_plane q.name p) q.plane in
    (t.0, tail_injective (same_rest (subst (λ b. IsField count (pos count) b (10 ∷ r)) t.1 p.number) q.number))

-- a support line has one reading
pub same_support : {n m : Plane} {count many : ℕ} {bytes r s : List ℕ} → count < 10 ^ 64 → many < 10 ^ 64 →
    IsSupportLine n count bytes r → IsSupportLine m many bytes s → (n ≡ m) × (count ≡ many) × (r ≡ s)
same_support {n} {m} {count} {many} {bytes} {r} {s} k l h i =
    let p = support_parts h in let q = support_parts i in
    let f = support_number q.name q.plane {most = 10 ^ 64 - 1} (omega arith) p in
    let g = support_number q.name q.plane {most = 10 ^ 64 - 1} (omega arith) q in
    ((same_planes (support_plane q.name p) q.plane).0, omega (arith, ints, same_field (omega arith) f g), tail_injective (same_rest f g))
