-- Triangles whose edges have lines
use Rattle.std.proofs.Common.{◌≡◌, ◌⊎◌, inl, inr, ℕ, ◌+◌, ◌<◌, ◌≤◌, min, max, Option, Some, None, List, [], ◌∷◌, ◌++◌}
use Rattle.std.proofs.Common.{length, get_or, take, refl, sym, ap, subst, ◌∙◌, arith, true}
use Rattle.std.specs.List.{All, Contains}
use Rattle.std.specs.Option.{IfSome, is_some}
use Rattle.std.proofs.lemmas.Bool.{cases_lt, eq-eqb}
use Rattle.std.proofs.lemmas.List.{take_more, map-append}
use Rattle.std.proofs.lemmas.List.Elements.{All-nil, All-cons, All-append, All-push, All-weaker, All-contains, All-same}
use Rattle.mesh_certificate.specs.declared.certificate.segment.Segment.{Segment}
use Rattle.mesh_certificate.specs.declared.certificate.triangle.Triangle.{Triangle}
use Rattle.mesh_certificate.specs.Certificate.Certificate.{is_round, edges_in}
use Rattle.mesh_certificate.proofs.Triangles.{edges_in-append}
use Rattle.mesh_triangulate.specs.declared.lines.Lines.{Lines}
use Rattle.mesh_triangulate.specs.Diagonals.{edge_key, pair_key, line_at}
use Rattle.mesh_triangulate.specs.Lines.{corners_of, HasEndsOf, IsOnBoundary, HasLine, HaveSamePair, HaveOwnLines}
use Rattle.mesh_triangulate.specs.Lines.{AreWithLines, boundary_line, IsLineIn, HasLineIn, AreRight, AreExtended}
use Rattle.mesh_triangulate.specs.Lines.{IsNamed, AreNamed}

-- ---- keys
-- a key has one start and one end
edge_key_is_own : (u v x y : ℕ) → v < 4294967296 → y < 4294967296 → edge_key u v ≡ edge_key x y → (u ≡ x) × (v ≡ y)
edge_key_is_own u v x y p q e = (omega arith, omega arith)

same_pair_from_key : (e f : Segment) → pair_key e.start e.end ≡ pair_key f.start f.end → HaveSamePair e f
same_pair_from_key e f k = by (cases_lt e.start e.end) (cases_lt f.start f.end)
  where
    bounds : (u v : ℕ) → u < 4294967296 → v < 4294967296 → max u v < 4294967296
    bounds u v p q = omega arith

    ends : (min e.start e.end ≡ min f.start f.end) × (max e.start e.end ≡ max f.start f.end)
    ends =
        edge_key_is_own (min e.start e.end) (max e.start e.end) (min f.start f.end) (max f.start f.end)
        (bounds e.start e.end e.sized.start_small e.sized.end_small)
        (bounds f.start f.end f.sized.start_small f.sized.end_small) k

    by : (e.start < e.end) ⊎ (e.end ≤ e.start) → (f.start < f.end) ⊎ (f.end ≤ f.start) → HaveSamePair e f
    by (inl p) (inl q) = let d = ends in inl (omega arith, omega arith)
    by (inl p) (inr q) = let d = ends in inr (omega arith, omega arith)
    by (inr p) (inl q) = let d = ends in inr (omega arith, omega arith)
    by (inr p) (inr q) = let d = ends in inl (omega arith, omega arith)

key_from_same_pair : (e f : Segment) → HaveSamePair e f → pair_key e.start e.end ≡ pair_key f.start f.end
key_from_same_pair e f (inl p) = λ i. pair_key (p.0 i) (p.1 i)
key_from_same_pair e f (inr p) = (λ i. pair_key (p.0 i) (p.1 i)) ∙ turned f.end f.start
  where
    turned : (u v : ℕ) → pair_key u v ≡ pair_key v u
    turned u v = omega arith

-- ---- extended tables

-- lines that extend lines that extend lines
pub extended_twice : {a b c : Lines} → AreExtended a b → AreExtended b c → AreExtended a c
extended_twice p q =
    record { kept = λ u v l h. q.kept u v l (p.kept u v l h); right = λ ss first h. q.right ss first (p.right ss first h) }

line_is_kept : {a b : Lines} → AreExtended a b → (e : Segment) → HasLineIn a e → HasLineIn b e
line_is_kept p e h = p.kept e.start e.end e.line h

-- ---- one triangle
-- a list of three corners by its items
pub three_corners : (cs : List ℕ) → length cs ≡ 3 → get_or cs 0 0 ∷ get_or cs 1 0 ∷ get_or cs 2 0 ∷ [] ≡ cs
three_corners [] e = absurd (omega (arith, e))
three_corners (a ∷ []) e = absurd (omega (arith, e))
three_corners (a ∷ b ∷ []) e = absurd (omega (arith, e))
three_corners (a ∷ b ∷ c ∷ []) e = refl
three_corners (a ∷ b ∷ c ∷ d ∷ ds) e = absurd (omega (arith, e))

edge_has_line : (ls : Lines) (e : Segment) (u v l : ℕ) → e.line ≡ l → e.start ≡ u → e.end ≡ v → IsLineIn ls u v l → HasLineIn ls e
edge_has_line ls e u v l p q r h =
    subst (λ (A : Type 0). A) (λ i. IsLineIn ls (sym q i) (sym r i) (sym p i)) h

-- the facts of a segment that runs between two corners
pub record RunsOn (p l u v : ℕ) (e : Segment) : Type 0 where
  pub plane : e.plane ≡ p
  pub line : e.line ≡ l
  pub start : e.start ≡ u
  pub end : e.end ≡ v

module _ (p a b c k l m : ℕ) (t : Triangle) (first : RunsOn p k a b t.first) (second : RunsOn p l b c t.second) (third : RunsOn p m c a t.third) where
  pub leads : is_round t ≡ true
  leads =
      let x = eq-eqb t.first.end t.second.start (first.end ∙ sym second.start) in
      let y = eq-eqb t.second.end t.third.start (second.end ∙ sym third.start) in
      let z = eq-eqb t.third.end t.first.start (third.end ∙ sym first.start) in
      let v = eq-eqb t.first.plane t.second.plane (first.plane ∙ sym second.plane) in
      let w = eq-eqb t.first.plane t.third.plane (first.plane ∙ sym third.plane) in
      rw (x, y, z, v, w) refl

  -- three edges with lines are a named triangle, in tables that were extended after the first and the second
  pub three_edges_are_named : (cs : List ℕ) → a ∷ b ∷ c ∷ [] ≡ cs → (x y z : Lines) → AreExtended x y →
      AreExtended y z → IsLineIn x a b k → IsLineIn y b c l → IsLineIn z c a m → IsNamed p cs z t
  three_edges_are_named cs told x y z xy yz f g h =
      record {
        corners = (λ i. first.start i ∷ second.start i ∷ third.start i ∷ []) ∙ told;
        round = leads;
        plane = first.plane;
        lines = All-cons (HasLineIn z) t.first (t.second ∷ t.third ∷ [])
            (edge_has_line z t.first a b k first.line first.start first.end (yz.kept a b k (xy.kept a b k f)))
            (All-cons (HasLineIn z) t.second (t.third ∷ [])
            (edge_has_line z t.second b c l second.line second.start second.end (yz.kept b c l g))
            (All-cons (HasLineIn z) t.third [] (edge_has_line z t.third c a m third.line third.start third.end h)
            (All-nil (HasLineIn z))));
      }

-- ---- lists of triangles

module _ (plane : ℕ) (cs : List (List ℕ)) (a b : Lines) (x : AreExtended a b) (ts : List Triangle) (c : List ℕ) (t : Triangle) where
  -- one more triangle
  one_more_is_named : AreNamed plane cs a ts → IsNamed plane c b t → AreNamed plane (cs ++ c ∷ []) b (ts ++ t ∷ [])
  one_more_is_named h n =
      record {
        corners = map-append corners_of ts (t ∷ []) ∙ (λ i. h.corners i ++ n.corners i ∷ []);
        round = All-push (λ (u : Triangle). is_round u ≡ true) ts t h.round n.round;
        plane = All-push (λ (u : Triangle). u.first.plane ≡ plane) ts t h.plane n.plane;
        lines = All-same (HasLineIn b) (edges_in (ts ++ t ∷ [])) (edges_in ts ++ edges_in (t ∷ []))
            (edges_in-append ts (t ∷ [])) (All-append (HasLineIn b) (edges_in ts) (edges_in (t ∷ []))
            (All-weaker (HasLineIn a) (HasLineIn b) (line_is_kept x) (edges_in ts) h.lines) n.lines);
      }

-- the same of the first corners of a list
pub next_is_named : (plane : ℕ) (cs : List (List ℕ)) (i : ℕ) (a b : Lines) → AreExtended a b →
    (ts us : List Triangle) (c d : List ℕ) (t : Triangle) → i < length cs → c ≡ get_or cs i d → us ≡ ts ++ t ∷ [] →
    AreNamed plane (take i cs) a ts → IsNamed plane c b t → AreNamed plane (take (i + 1) cs) b us
next_is_named plane cs i a b x ts us c d t l e p h n =
    let more : take (i + 1) cs ≡ take i cs ++ c ∷ [] = take_more cs i d l ∙ ap (λ (f : List ℕ). take i cs ++ f ∷ []) (sym e) in
    subst (λ (vs : List Triangle). AreNamed plane (take (i + 1) cs) b vs) (sym p)
    (subst (λ (ds : List (List ℕ)). AreNamed plane ds b (ts ++ t ∷ [])) (sym more)
    (one_more_is_named plane (take i cs) a b x ts c t h n))

-- a fact about what an option holds
pub of_the_value : {X : Type 0} (P : X → Type 0) (o : Option X) (x : X) → o ≡ Some x → IfSome o P → P x
of_the_value {X} P o x e h = subst (λ (q : Option X). IfSome q P) e h

-- ---- from tables to lines
module _ (ss : List Segment) (first : ℕ) (ls : Lines) (right : AreRight ss first ls) where
  -- a line in the boundary's table is that of a segment with the edge's ends
  on_boundary : (e : Segment) (l : ℕ) → boundary_line ls (edge_key e.start e.end) ≡ Some l → (s : Segment) × Contains ss s × HasEndsOf s e × (s.line ≡ l)
  on_boundary e l h =
      let w = right.boundary.sound (edge_key e.start e.end) l h in
      let k = edge_key_is_own w.0.start w.0.end e.start e.end w.0.sized.end_small e.sized.end_small w.2 in
      (w.0, w.1, k, w.3)

  -- an edge of the boundary has a line in its table
  has_boundary_line : (e : Segment) → IsOnBoundary ss e → boundary_line ls (edge_key e.start e.end) ≡ None → ⊥
  has_boundary_line e o none =
      let c = right.boundary.complete o.0 o.1 in
      let k : edge_key o.0.start o.0.end ≡ edge_key e.start e.end = (λ i. edge_key (o.2.0 i) (o.2.1 i)) in
      let n = ap (λ (q : ℕ). is_some (boundary_line ls q)) k in
      let m = ap is_some none in cc

  -- a diagonal has its line in the other table
  diagonal_line : (e : Segment) → HasLineIn ls e → (IsOnBoundary ss e → ⊥) → line_at ls.diagonals (pair_key e.start e.end) ≡ Some e.line
  diagonal_line e (inl b) off = let w = on_boundary e e.line b in absurd (off (w.0, w.1, w.2))
  diagonal_line e (inr d) off = d.1

  line_in_table : (e : Segment) → HasLineIn ls e → HasLine ss first e
  line_in_table e h =
      record { boundary = on h; diagonal = λ off. right.diagonals.from_first (pair_key e.start e.end) e.line (diagonal_line e h off) }
    where
      on : HasLineIn ls e → IsOnBoundary ss e → (s : Segment) × Contains ss s × HasEndsOf s e × (s.line ≡ e.line)
      on (inl b) o = on_boundary e e.line b
      on (inr d) o = absurd (has_boundary_line e o d.0)

  own_lines : (es : List Segment) → All (HasLineIn ls) es → HaveOwnLines ss es
  own_lines es h e f ce cf ne nf =
      let p = diagonal_line e (All-contains (HasLineIn ls) es e h ce) ne in
      let q = diagonal_line f (All-contains (HasLineIn ls) es f h cf) nf in (
        λ s. same_pair_from_key e f (right.diagonals.own (pair_key e.start e.end) (pair_key f.start f.end) e.line p
            (q ∙ ap Some (sym s))),
        λ s. let k = ap (line_at ls.diagonals) (key_from_same_pair e f s) in cc,
      )

  pub named_have_lines : (plane : ℕ) (cs : List (List ℕ)) (ts : List Triangle) → AreNamed plane cs ls ts → AreWithLines plane ss cs first ts
  named_have_lines plane cs ts h =
      record {
        corners = h.corners;
        round = h.round;
        plane = h.plane;
        lines = All-weaker (HasLineIn ls) (HasLine ss first) line_in_table (edges_in ts) h.lines;
        own = own_lines (edges_in ts) h.lines;
      }
