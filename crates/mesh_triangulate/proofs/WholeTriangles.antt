-- Triangles that are whole parts
use Rattle.std.proofs.Common.{◌≡◌, ℕ, ◌<◌, ◌≤◌, List, [], ◌∷◌, length, get_or, sym, subst, ◌∙◌, arith, true}
use Rattle.std.specs.List.{All, Contains}
use Rattle.std.proofs.lemmas.List.Elements.{All-nil, All-cons, All-weaker, All-contains}
use Rattle.mesh_certificate.specs.declared.certificate.segment.Segment.{Segment}
use Rattle.mesh_certificate.specs.declared.certificate.triangle.Triangle.{Triangle}
use Rattle.mesh_certificate.specs.Certificate.Certificate.{is_round, edges_in}
use Rattle.mesh_triangulate.specs.Lines.{corners_of, IsOnBoundary, HasLine, AreWithLines, IsLineOf, IsSide, IsWhole}
use Rattle.mesh_triangulate.proofs.NamedTriangles.{RunsOn, leads}

module _ (ss : List Segment) where
  side : (e : Segment) (u v l : ℕ) → e.line ≡ l → e.start ≡ u → e.end ≡ v → IsLineOf ss u v l → IsSide ss e
  side e u v l p q r h = subst (λ (A : Type 0). A) (λ i. IsLineOf ss (sym q i) (sym r i) (sym p i)) h

  -- three sides round three corners are a whole triangle
  pub three_sides_are_whole : (p a b c k l m : ℕ) (t : Triangle) → RunsOn p k a b t.first → RunsOn p l b c t.second →
      RunsOn p m c a t.third → (cs : List ℕ) → a ∷ b ∷ c ∷ [] ≡ cs → IsLineOf ss a b k → IsLineOf ss b c l →
      IsLineOf ss c a m → IsWhole p ss cs t
  three_sides_are_whole p a b c k l m t first second third cs told f g h =
      record {
        corners = (λ i. first.start i ∷ second.start i ∷ third.start i ∷ []) ∙ told;
        round = leads p a b c k l m t first second third;
        plane = first.plane;
        sides = All-cons (IsSide ss) t.first (t.second ∷ t.third ∷ [])
            (side t.first a b k first.line first.start first.end f)
            (All-cons (IsSide ss) t.second (t.third ∷ []) (side t.second b c l second.line second.start second.end g)
            (All-cons (IsSide ss) t.third [] (side t.third c a m third.line third.start third.end h)
            (All-nil (IsSide ss))));
      }

  on_boundary : (e : Segment) → IsSide ss e → IsOnBoundary ss e
  on_boundary e s = (s.0, s.1, (s.2, s.3))

  -- it has lines: none of its edges is a diagonal
  pub whole_has_lines : (p first : ℕ) (cs : List ℕ) (t : Triangle) → IsWhole p ss cs t → AreWithLines p ss (cs ∷ []) first (t ∷ [])
  whole_has_lines p first cs t h =
      record {
        corners = λ i. h.corners i ∷ [];
        round = All-cons (λ (u : Triangle). is_round u ≡ true) t [] h.round (All-nil (λ (u : Triangle). is_round u ≡ true));
        plane = All-cons (λ (u : Triangle). u.first.plane ≡ p) t [] h.plane (All-nil (λ (u : Triangle). u.first.plane ≡ p));
        lines = All-weaker (IsSide ss) (HasLine ss first)
            (λ e s. record {
              boundary = λ _. (s.0, s.1, (s.2, s.3), s.4);
              diagonal =
                  λ off. absurd (off (on_boundary e s));
            }) (edges_in (t ∷ [])) h.sides;
        own = λ e f ce cf ne nf. absurd (ne (on_boundary e (All-contains (IsSide ss) (edges_in (t ∷ [])) e h.sides ce)));
      }

  -- the same of the only corners of a list
  pub only_one_has_lines : (p first : ℕ) (css : List (List ℕ)) (ts : List Triangle) (t : Triangle) → 1 ≤ length css →
      length css < 2 → ts ≡ t ∷ [] → IsWhole p ss (get_or css 0 []) t → AreWithLines p ss css first ts
  only_one_has_lines p first [] ts t l m e h = absurd (omega (arith, l))
  only_one_has_lines p first (cs ∷ []) ts t l m e h =
      subst (λ (us : List Triangle). AreWithLines p ss (cs ∷ []) first us) (sym e) (whole_has_lines p first cs t h)
  only_one_has_lines p first (cs ∷ ds ∷ css) ts t l m e h = absurd (omega (arith, m))
